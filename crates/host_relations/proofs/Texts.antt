-- Texts are the same either way round.
use Rattle.std.proofs.Common.{◌≡◌, refl, sym, Bool, true, false, bytes_eq}
use Rattle.std.proofs.lemmas.Slice.Eq.{bytes_eq-Decides}
use Rattle.js_core.specs.Text.{Text}

pub text_sym : (x y : Text) → bytes_eq x y ≡ bytes_eq y x
text_sym x y = by (bytes_eq x y) (bytes_eq y x) refl refl
  where
    by : (a b : Bool) → bytes_eq x y ≡ a → bytes_eq y x ≡ b → a ≡ b
    by true true e f = refl
    by false false e f = refl
    by true false e f = let same : bytes_eq y x ≡ true = (bytes_eq-Decides y x).1 (sym ((bytes_eq-Decides x y).0 e)) in absurd (cc)
    by false true e f = let same : bytes_eq x y ≡ true = (bytes_eq-Decides x y).1 (sym ((bytes_eq-Decides y x).0 f)) in absurd (cc)
