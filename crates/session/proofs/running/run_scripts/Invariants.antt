use Rattle.std.proofs.Common.{◌≡◌}
use Rattle.std.specs.Vec.Iter.{into_iter_items}
use Rattle.page_meaning.specs.Pages.{after_scripts}
use Rattle.session.proofs.running.run_scripts.Given as goal

abbrev pub invariant-loop-script : goal.invariant-loop-script
invariant-loop-script l = after_scripts (into_iter_items l.script-iterator) l.state ≡ after_scripts l.fn.scripts.items l.fn.state
