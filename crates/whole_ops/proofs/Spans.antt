-- The units with which a text begins that pass a test, and what stands behind them.
use Rattle.std.proofs.Common.{◌≡◌, ℕ, suc, ◌+◌, Bool, true, false, not, List, [], ◌∷◌, ◌++◌, take, refl, sym, ap, ◌∙◌, arith}
use Rattle.std.specs.List.{list_all, prefix_len}
use Rattle.std.proofs.lemmas.List.{take-append-drop}
use Rattle.std.proofs.lemmas.Bool.{and_from, and_parts, not-true}
use Rattle.whole_ops.specs.WhiteSpace.{behind}

abbrev pub taken : (ℕ → Bool) → List ℕ → List ℕ
taken p t = take (prefix_len p t) t

pub taken-behind : (p : ℕ → Bool) (t : List ℕ) → t ≡ taken p t ++ behind p t
taken-behind p t = sym (take-append-drop (prefix_len p t) t)

one_more : (n : ℕ) → 1 + n ≡ suc n
one_more n = omega arith

pub behind_yes : (p : ℕ → Bool) (u : ℕ) (us : List ℕ) → p u ≡ true → behind p (u ∷ us) ≡ behind p us
behind_yes p u us h = rw (h, one_more (prefix_len p us))

pub behind_no : (p : ℕ → Bool) (u : ℕ) (us : List ℕ) → p u ≡ false → behind p (u ∷ us) ≡ u ∷ us
behind_no p u us h = rw h

pub taken_yes : (p : ℕ → Bool) (u : ℕ) (us : List ℕ) → p u ≡ true → taken p (u ∷ us) ≡ u ∷ taken p us
taken_yes p u us h = rw (h, one_more (prefix_len p us))

pub taken_no : (p : ℕ → Bool) (u : ℕ) (us : List ℕ) → p u ≡ false → taken p (u ∷ us) ≡ []
taken_no p u us h = rw h

pub taken_pass : (p : ℕ → Bool) (t : List ℕ) → list_all p (taken p t) ≡ true
taken_pass p [] = refl
taken_pass p (u ∷ us) = by_case (p u) refl (taken_pass p us) where
  by_case : (b : Bool) → p u ≡ b → list_all p (taken p us) ≡ true → list_all p (taken p (u ∷ us)) ≡ true
  by_case true e rest = ap (list_all p) (taken_yes p u us e) ∙ and_from (p u) (list_all p (taken p us)) e rest
  by_case false e rest = ap (list_all p) (taken_no p u us e)

pub behind-append : (p : ℕ → Bool) (s t : List ℕ) → list_all p s ≡ true → behind p (s ++ t) ≡ behind p t
behind-append p [] t h = refl
behind-append p (u ∷ us) t h =
    behind_yes p u (us ++ t) (and_parts (p u) (list_all p us) h).0 ∙ behind-append p us t (and_parts (p u) (list_all p us) h).1

pub behind_all : (p : ℕ → Bool) (t : List ℕ) → list_all p t ≡ true → behind p t ≡ []
behind_all p [] h = refl
behind_all p (u ∷ us) h = behind_yes p u us (and_parts (p u) (list_all p us) h).0 ∙ behind_all p us (and_parts (p u) (list_all p us) h).1

pub behind_apart : (p : ℕ → Bool) (t : List ℕ) → list_all (λ u. not (p u)) t ≡ true → behind p t ≡ t
behind_apart p [] h = refl
behind_apart p (u ∷ us) h = behind_no p u us (not-true (p u) (and_parts (not (p u)) (list_all (λ v. not (p v)) us) h).0)
