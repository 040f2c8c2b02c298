-- That any number of moves gives the lines of none.
use Rattle.std.proofs.Common.{◌≡◌, List, [], ◌∷◌, ◌++◌, length, drop, refl, sym, ap, ◌∙◌, subst, append-nil, append_assoc}
use Rattle.js_values.specs.declared.event.Event.{Event}
use Rattle.js_values.specs.declared.line.Line.{Line}
use Rattle.moved_pages.specs.Moved.{FollowsFrom, MovesJoin}
use Rattle.page_meaning.specs.Laws.{LinesGrow}
use Rattle.page_meaning.specs.Pages.{Page, do_event, lines_after, lines_of_run, run_all, run_of}
use Rattle.page_meaning.specs.Store.{Store}
use Rattle.migrate.specs.Moves.{AnyMovesJoin, SavedPagesFollow, joined, more, once}

-- ---- a page that goes on

runs_on : (s : Store) (events later : List Event) → run_all s (events ++ later) ≡ run_all (run_all s events) later
runs_on s [] later = refl
runs_on s (e ∷ events) later = runs_on (do_event e s) events later

grows : LinesGrow → (s : Store) (events : List Event) → (added : List Line) × ((run_all s events).lines ≡ s.lines ++ added)
grows grow s [] = ([], sym (append-nil s.lines))
grows grow s (e ∷ events) =
    let first = grow s e in
    let rest = grows grow (do_event e s) events in
    (first.0 ++ rest.0, rest.1 ∙ ap (λ (ls : List Line). ls ++ rest.0) first.1 ∙ append_assoc s.lines first.0 rest.0)

drop_first : (ls ms : List Line) → drop (length ls) (ls ++ ms) ≡ ms
drop_first [] ms = refl
drop_first (l ∷ ls) ms = drop_first ls ms

-- what the later events add, after what the earlier ones did
pub lines_go_on : LinesGrow → (page : Page) (events later : List Event) → lines_of_run page events ++ lines_after page events later ≡ lines_of_run page (events ++ later)
lines_go_on grow page events later =
    let s : Store = run_of page events in
    let g = grows grow s later in
    let added : drop (length s.lines) (run_all s later).lines ≡ g.0 = ap (λ (ls : List Line). drop (length s.lines) ls) g.1 ∙ drop_first s.lines g.0 in
    ap (λ (ls : List Line). s.lines ++ ls) added ∙ sym g.1 ∙ ap (λ (t : Store). t.lines) (sym (runs_on _ events later))

-- a page that loads without a line
silent_lines : (moved : Page) (later : List Event) → lines_of_run moved [] ≡ [] → lines_of_run moved later ≡ lines_after moved [] later
silent_lines moved later silent = sym (ap (λ (ls : List Line). drop (length ls) (lines_of_run moved later)) silent)

-- ---- moves

pub any_moves_join : LinesGrow → MovesJoin → AnyMovesJoin
any_moves_join grow joins page last lists (once _ events _ follows) = record {
  follows = subst (λ (es : List Event). FollowsFrom page es last) (sym (append-nil events)) follows;
  lines = ap (λ (es : List Event). lines_of_run page es) (sym (append-nil events));
}
any_moves_join grow joins page last lists (more _ events moved rest _ follows moves) =
    let ih = any_moves_join grow joins moved last rest moves in
    record {
      follows = joins page moved last events (joined rest) follows ih.follows;
      lines =
          ap (λ (ls : List Line). lines_of_run page events ++ ls) (ih.lines ∙ silent_lines moved (joined rest) follows.silent ∙ follows.same (joined rest))
          ∙ lines_go_on grow page events (joined rest);
    }

pub saved_pages_follow : SavedPagesFollow
saved_pages_follow bytes saved events page moved moves from to =
    let on = moves.goes_on page moved from to in
    record { silent = on.silent; same = on.same }
