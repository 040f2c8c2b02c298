-- What the store tells, and lines whose words it tells.
use Rattle.std.proofs.Common.{◌≡◌, refl, sym, ap, ◌∙◌, ℕ, suc, ◌+◌, ◌<◌, List, ◌∷◌, length, drop, get_or, add-one, Result, Ok, Err}
use Rattle.std.proofs.lemmas.List.{drop_more}
use Rattle.std.specs.Result.{IsErr, IsErrAnd}
use Rattle.js_values.specs.declared.line.LineKind.{LineKind}
use Rattle.js_values.specs.declared.value.Value.{Value}
use Rattle.page_meaning.specs.declared.signal.Signal.TheVariants.{Value as Val}
use Rattle.page_meaning.specs.Act.{Act, Calls, also, asking, bind, done, give, nothing, then_on}
use Rattle.page_meaning.specs.Primitives.{put_line}
use Rattle.page_meaning.specs.Store.{Store}
use Rattle.js_core.specs.declared.memory.Failure.{Failure}
use Rattle.page_state.specs.Does.{Does, Gives, Raises}
use Rattle.page_state.proofs.Callers.{also_gives, failed}

pub told : {A : Type 0} (h : Store → A) (k : A → Value) (a : A) (s : Store) → a ≡ h s → Does (λ _. asking h (λ x. give (k x))) s (Val (k a)) s
told h k a s e = record { is = λ c n. rw e refl }

-- a line whose words the store tells, and nothing more
pub line_put : (kind : LineKind) (words : Store → List ℕ) (text : List ℕ) (s t : Store) → text ≡ words s → Does (λ _. put_line kind (λ _. text)) s tt t → Does (λ _. bind (put_line kind words) (λ _. done)) s nothing t
line_put kind words text s t e d = record { is = λ c n. rw (← e) (ap (λ o. then_on o (λ _. done)) (d.is c n)) }
