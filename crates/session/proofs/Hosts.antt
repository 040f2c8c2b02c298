-- What host events do, by what their parts do.
use Rattle.std.proofs.Common.{◌≡◌, ℕ, List, [], None, Result, Ok, Err, IfOk, OnOk}
use Rattle.js_core.specs.Text.{Text}
use Rattle.js_values.specs.declared.line.LineKind.{LineKind}
use Rattle.js_values.specs.declared.line.LineKind.TheVariants.{NoElement}
use Rattle.dom_tree.specs.Trees.{find_id}
use Rattle.page_meaning.specs.Primitives.{put_line}
use Rattle.page_meaning.specs.Store.{Store, with_line}
use Rattle.page_state.specs.Does.{Does}
use Rattle.page_machine.proofs.Callers.{line_put}
use Rattle.session.specs.Elements.{IsElement}

-- a line tells that there is no element
pub none_told : (x : Text) (words : List ℕ) (s t : Store) → find_id s.host.nodes x ≡ None → words ≡ [] → Does (λ _. put_line NoElement (λ _. words)) s tt t → IsElement x s None t
none_told x words s t none is d = (none, rw (← is) (line_put NoElement words s t d))

-- a line tells these words
pub line_told : {E : Type 0} (kind : LineKind) (words told : List ℕ) (s t : Store) (r : Result (Unit {0}) E) → words ≡ told → IfOk r (λ _. Does (λ _. put_line kind (λ _. words)) s tt t) → OnOk r (t ≡ with_line kind told s)
line_told kind words told s t (Err e) is h = tt
line_told kind words told s t (Ok o) is h = rw (← is) (line_put kind words s t h)
