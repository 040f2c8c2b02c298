-- What other crates cite of the shapes of objects.
use Rattle.std.specs.Prelude.{◌≡◌, ℕ, ◌≤◌, true, List, ◌++◌}
use Rattle.js_values.specs.declared.line.Line.{Line}
use Rattle.page_meaning.specs.Store.{Store, with_lines}
use Rattle.object_shapes.specs.Links.{all_below}
use Rattle.object_shapes.specs.Laws.{FunctionsStay, PagesBeginShaped, PlainStays, ShapesStay}
use Rattle.object_shapes.specs.Shapes.{IsShaped}
use Rattle.object_shapes.proofs.Begin as begin
use Rattle.object_shapes.proofs.Bound as bound
use Rattle.object_shapes.proofs.Lists as lists
use Rattle.object_shapes.proofs.Made as made
use Rattle.object_shapes.proofs.Stays as stays
pub use Rattle.object_shapes.proofs.Steps.{built_in_closed}

pub pristine_shaped : PagesBeginShaped
pristine_shaped = begin.pristine_shaped

pub step_shaped : ShapesStay
step_shaped = stays.step_shaped

pub plain_stays : PlainStays
plain_stays = stays.plain_stays

pub function_shaped : FunctionsStay
function_shaped = made.function_shaped

-- other lines
pub lines_shaped : (s : Store) (lines : List Line) → IsShaped s → IsShaped (with_lines s lines)
lines_shaped = bound.lines_shaped

-- two lists of places below a bound
pub below_join : (n : ℕ) (xs ys : List ℕ) → all_below n xs ≡ true → all_below n ys ≡ true → all_below n (xs ++ ys) ≡ true
below_join = lists.all_join

pub below_parts : (n : ℕ) (xs ys : List ℕ) → all_below n (xs ++ ys) ≡ true → (all_below n xs ≡ true) × (all_below n ys ≡ true)
below_parts n xs ys h = (lists.all_front n xs ys h, lists.all_back n xs ys h)

pub below_more : (m n : ℕ) (ks : List ℕ) → m ≤ n → all_below m ks ≡ true → all_below n ks ≡ true
below_more = lists.all_more
