-- Events that come after others.
use Rattle.std.proofs.Common.{◌≡◌, refl, List, [], ◌∷◌, ◌++◌}
use Rattle.js_values.specs.declared.event.Event.{Event}
use Rattle.page_meaning.specs.Pages.{do_event, run_all}
use Rattle.page_meaning.specs.Store.{Store}

pub run_append : (s : Store) (es fs : List Event) → run_all s (es ++ fs) ≡ run_all (run_all s es) fs
run_append s [] fs = refl
run_append s (e ∷ es) fs = run_append (do_event e s) es fs
