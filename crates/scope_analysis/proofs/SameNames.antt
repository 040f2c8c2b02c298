-- Whether two names are the same does not ask which stands first.
use Rattle.std.proofs.Common.{◌≡◌, ℕ, Bool, true, false, List, refl, sym, ◌∙◌, bytes_eq}
use Rattle.std.proofs.lemmas.Slice.Eq.{bytes_eq-Decides}

pub same_symmetric : (x y : List ℕ) → bytes_eq x y ≡ bytes_eq y x
same_symmetric x y = by_case (bytes_eq x y) (bytes_eq y x) refl refl
  where
    by_case : (b c : Bool) → bytes_eq x y ≡ b → bytes_eq y x ≡ c → bytes_eq x y ≡ bytes_eq y x
    by_case true true p q = p ∙ sym q
    by_case false false p q = p ∙ sym q
    by_case true false p q = let e = (bytes_eq-Decides x y).0 p in (let r : bytes_eq y x ≡ true = (bytes_eq-Decides y x).1 (sym e) in cc)
    by_case false true p q = let e = (bytes_eq-Decides y x).0 q in (let r : bytes_eq x y ≡ true = (bytes_eq-Decides x y).1 (sym e) in cc)
