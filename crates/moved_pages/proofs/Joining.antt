-- A page that is moved twice goes on as one that is moved once, after all events.
use Rattle.std.proofs.Common.{refl, subst, sym}
use Rattle.page_meaning.specs.Laws.{LinesGrow}
use Rattle.page_meaning.specs.Pages.{do_event, load_of, run_all, run_of}
use Rattle.page_meaning.specs.Store.{Store}
use Rattle.moved_pages.specs.Moved.{MovesJoin}
use Rattle.moved_pages.proofs.EventStores.{Events, Follows, joined, run_append}

-- pages, as stores to which each event appends lines
abbrev pages : LinesGrow → Events Store
pages grow = record {
  lines = λ s. s.lines;
  step = do_event;
  run = run_all;
  ends = λ s. refl;
  goes_on = λ s e es. refl;
  grows = grow;
}

pub moves_join : LinesGrow → MovesJoin
moves_join grow page moved again earlier between f g =
    let first : Follows (pages grow) (run_of page earlier) (load_of moved) = record { silent = f.silent; same = f.same } in
    let second : Follows (pages grow) (run_of moved between) (load_of again) = record { silent = g.silent; same = g.same } in
    let both = joined (pages grow) (run_of page earlier) (load_of moved) (load_of again) between first second in
    let whole = subst (λ s. Follows (pages grow) s (load_of again)) (sym (run_append (pages grow) (load_of page) earlier between)) both in
    record { silent = whole.silent; same = whole.same }
