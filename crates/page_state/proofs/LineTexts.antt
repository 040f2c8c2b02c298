-- Texts of values joined by spaces.
use Rattle.std.proofs.Common.{◌≡◌, ap, subst, sym, ◌∙◌, append_assoc, ℕ, List, [], ◌∷◌, ◌++◌, Result, Ok, Err, IfOk}
use Rattle.std.proofs.lemmas.List.{append-nil}
use Rattle.std.specs.List.{flat_map}
use Rattle.std.specs.Prelude.{OnOk, codes}
use Rattle.js_core.specs.declared.memory.OutOfMemory.{OutOfMemory}
use Rattle.js_values.specs.declared.line.LineKind.TheVariants.{Uncaught}
use Rattle.js_values.specs.declared.value.Value.{Value}
use Rattle.page_meaning.specs.declared.signal.Signal.TheVariants.{Thrown}
use Rattle.page_meaning.specs.Lines.{log_text, log_texts, put_uncaught, uncaught_text}
use Rattle.page_meaning.specs.Primitives.{put_line}
use Rattle.page_meaning.specs.Store.{Store}
use Rattle.page_state.specs.Does.{Does}
use Rattle.page_state.specs.LineTexts.{spaced}

pub joined : (s : Store) (v : Value) (vs : List Value) → log_text s v ++ flat_map (spaced s) vs ≡ log_texts (v ∷ vs) s
joined s v [] = append-nil (log_text s v)
joined s v (w ∷ vs) =
    ap (λ t. log_text s v ++ (codes " " ++ t)) (joined s w vs) ∙ sym (append_assoc (log_text s v) (codes " ") (log_texts (w ∷ vs) s))

-- the line of what was thrown is put out
pub uncaught_put : (v : Value) (text : List ℕ) (s t : Store) (r : Result (Unit {0}) OutOfMemory) → text ≡ uncaught_text s v
    → IfOk r (λ _. Does (λ _. put_line Uncaught (λ _. text)) s tt t) → OnOk r (Does (λ _. put_uncaught (Thrown v)) s tt t)
uncaught_put v text s t (Ok u) e d =
    let P : List ℕ → Type 0 = λ w. Does (λ _. put_line Uncaught (λ _. w)) s tt t in
    record { is = λ c n. (subst P e d).is c n }
uncaught_put v text s t (Err x) e d = tt
