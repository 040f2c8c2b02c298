-- Tests of each unit.
use Rattle.std.proofs.Common.{◌≡◌, ℕ, Bool, true, List, [], ◌∷◌, ◌++◌, reverse, refl, ap, ◌∙◌}
use Rattle.std.specs.List.{list_all}
use Rattle.std.proofs.lemmas.List.{reverse-append}
use Rattle.std.proofs.lemmas.List.Folds.{list_all-append}
use Rattle.std.proofs.lemmas.Bool.{and_from, and_parts}

pub all-append : (p : ℕ → Bool) (s t : List ℕ) → list_all p s ≡ true → list_all p t ≡ true → list_all p (s ++ t) ≡ true
all-append p s t h k = list_all-append p s t ∙ and_from (list_all p s) (list_all p t) h k

pub all-reverse : (p : ℕ → Bool) (t : List ℕ) → list_all p t ≡ true → list_all p (reverse t) ≡ true
all-reverse p [] h = refl
all-reverse p (u ∷ us) h =
    ap (list_all p) (reverse-append (u ∷ []) us)
    ∙ all-append p (reverse us) (u ∷ []) (all-reverse p us (and_parts (p u) (list_all p us) h).1) (and_from (p u) true (and_parts (p u) (list_all p us) h).0 refl)

-- what passes one test passes a weaker one
pub all-weaker : (p q : ℕ → Bool) → ((u : ℕ) → p u ≡ true → q u ≡ true) → (t : List ℕ) → list_all p t ≡ true → list_all q t ≡ true
all-weaker p q w [] h = refl
all-weaker p q w (u ∷ us) h =
    and_from (q u) (list_all q us) (w u (and_parts (p u) (list_all p us) h).0) (all-weaker p q w us (and_parts (p u) (list_all p us) h).1)
