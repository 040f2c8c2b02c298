-- Texts with references, taken from the left.
use Rattle.std.proofs.Common.{◌≡◌, ◌∙◌, ◌<◌, ℕ, List, [], ◌∷◌, ◌++◌, length, refl, sym, ap, subst, Some, None, append_assoc, arith}
use Rattle.page_tokens.proofs.Pairs.{some_pair}
use Rattle.page_tokens.specs.References.{Decodes, piece_of}
use Rattle.page_tokens.specs.References.Decodes.{nothing, more}

nothing_is_none : piece_of [] ≡ None
unfolding piece_of
nothing_is_none = refl

pub append_none : {A : Type 0} (xs : List A) → xs ++ [] ≡ xs
append_none [] = refl
append_none (x ∷ xs) = ap (λ ys. x ∷ ys) (append_none xs)

pub is_empty : {A : Type 0} (xs : List A) → length xs ≡ 0 → xs ≡ []
is_empty [] e = refl
is_empty (x ∷ xs) e = absurd (omega arith)

-- behind a character or reference stands the rest of the text
record Rest (rest units value : List ℕ) : Type 0 where
  others : List ℕ
  decodes : Decodes rest others
  is : value ≡ units ++ others

behind_piece : (text rest units value : List ℕ) → piece_of text ≡ Some (units, rest) → Decodes text value → Rest rest units value
behind_piece text rest units value e nothing = absurd (let n = nothing_is_none in cc)
behind_piece text rest units value e (more t r u v f d) =
    let same = some_pair u units r rest (sym f ∙ e) in
    record { others = v; decodes = subst (λ x. Decodes x v) same.1 d; is = ap (λ x. x ++ v) same.0 }

nothing_alone : (text value : List ℕ) → text ≡ [] → Decodes text value → value ≡ []
nothing_alone text value e nothing = refl
nothing_alone text value e (more t r u v f d) = absurd (let n = nothing_is_none in let g : piece_of [] ≡ Some (u, r) = ap piece_of (sym e) ∙ f in cc)

-- a text stands for one thing
pub decodes_once : (text value value' : List ℕ) → Decodes text value → Decodes text value' → value ≡ value'
decodes_once text value value' nothing other = sym (nothing_alone [] value' refl other)
decodes_once text value value' (more t r u v f d) other =
    let o = behind_piece t r u value' f other in
    ap (λ x. u ++ x) (decodes_once r v o.others d o.decodes) ∙ sym o.is

-- the units before those of the rest of a text are these
pub record GoesOn (text rest units : List ℕ) : Type 0 where
  pub goes_on : (value : List ℕ) → Decodes rest value → Decodes text (units ++ value)
  pub only : (value : List ℕ) → Decodes text value → (others : List ℕ) × Decodes rest others

pub decoding_begins : (text : List ℕ) → GoesOn text text []
decoding_begins text = record { goes_on = λ value h. h; only = λ value h. (value, h) }

pub decoding_goes_on : (text rest behind units piece longer : List ℕ) → GoesOn text rest units → piece_of rest ≡ Some (piece, behind) → longer ≡ units ++ piece → GoesOn text behind longer
decoding_goes_on text rest behind units piece longer before e m = record {
  goes_on = λ value h. subst (Decodes text) (sym (append_assoc units piece value) ∙ ap (λ x. x ++ value) (sym m)) (before.goes_on (piece ++ value) (more rest behind piece value e h));
  only = λ value h. let o = before.only value h in let r = behind_piece rest behind piece o.0 e o.1 in (r.others, r.decodes);
}

pub decoding_ends : (text rest units value : List ℕ) → GoesOn text rest units → length rest ≡ 0 → value ≡ units → Decodes text value
decoding_ends text rest units value before e v =
    let h : Decodes rest [] = rw (is_empty rest e) nothing in
    subst (Decodes text) (append_none units ∙ sym v) (before.goes_on [] h)

no_piece : (rest value : List ℕ) → piece_of rest ≡ None → 0 < length rest → Decodes rest value → ⊥
no_piece rest value e some nothing = absurd (omega arith)
no_piece rest value e some (more t r u v f d) = absurd (cc)

pub decoding_refused : (text rest units : List ℕ) → GoesOn text rest units → piece_of rest ≡ None → 0 < length rest → (value : List ℕ) → Decodes text value → ⊥
decoding_refused text rest units before e some value h = let o = before.only value h in no_piece rest o.0 e some o.1
