-- String literals, taken from the left.
use Rattle.std.proofs.Common.{◌≡◌, ◌∙◌, true, ◌==◌, ℕ, List, [], ◌∷◌, ◌++◌, refl, sym, ap, subst, Option, Some, None, append_assoc, eq-eqb}
use Rattle.js_lexer.proofs.Pairs.{some_pair}
use Rattle.js_lexer.specs.Strings.{character_of, with_unit, Closes}
use Rattle.js_lexer.specs.Strings.Closes.{here, later}

-- the closing quote is no character of the literal
quote_is_none : (quote : ℕ) (rest : List ℕ) → character_of quote (quote ∷ rest) ≡ None
unfolding character_of
quote_is_none quote rest = let e : (quote == quote) ≡ true = eq-eqb quote quote refl in rw e

-- behind a character stands the rest of the literal
pub record Rest (quote : ℕ) (behind end : List ℕ) (unit : Option ℕ) (value : List ℕ) : Type 0 where
  pub others : List ℕ
  pub closes : Closes quote behind end others
  pub is : value ≡ with_unit unit others

pub behind_character : (quote : ℕ) (text behind end value : List ℕ) (unit : Option ℕ) → character_of quote text ≡ Some (unit, behind) → Closes quote text end value → Rest quote behind end unit value
behind_character quote text behind end value unit e (here rest) = absurd (let n = quote_is_none quote rest in cc)
behind_character quote text behind end value unit e (later t b r u v f more) =
    let same = some_pair u unit b behind (sym f ∙ e) in
    record { others = v; closes = subst (λ x. Closes quote x r v) same.1 more; is = ap (λ o. with_unit o v) same.0 }

-- where no character stands, the closing quote does
pub closed : (quote : ℕ) (text end value : List ℕ) → character_of quote text ≡ None → Closes quote text end value → (text ≡ quote ∷ end) × (value ≡ [])
closed quote text end value e (here rest) = (refl, refl)
closed quote text end value e (later t b r u v f more) = absurd (cc)

-- a literal closes in one way
pub closes_once : (quote : ℕ) (text end value end' value' : List ℕ) → Closes quote text end value → Closes quote text end' value' → (end ≡ end') × (value ≡ value')
closes_once quote text end value end' value' (here rest) other = let f = closed quote (quote ∷ rest) end' value' (quote_is_none quote rest) other in (cc, sym f.1)
closes_once quote text end value end' value' (later t behind r unit v e more) other =
    let o = behind_character quote t behind end' value' unit e other in
    let same = closes_once quote behind r v end' o.others more o.closes in
    (same.0, ap (with_unit unit) same.1 ∙ sym o.is)

-- the units before the rest of a literal are those so far
pub record GoesOn (quote : ℕ) (text rest units : List ℕ) : Type 0 where
  pub goes_on : (end value : List ℕ) → Closes quote rest end value → Closes quote text end (units ++ value)
  pub only : (end value : List ℕ) → Closes quote text end value → (others : List ℕ) × Closes quote rest end others

pub append_none : (units : List ℕ) → units ++ [] ≡ units
append_none [] = refl
append_none (u ∷ us) = ap (λ v. u ∷ v) (append_none us)

pub string_begins : (quote : ℕ) (text : List ℕ) → GoesOn quote text text []
string_begins quote text = record { goes_on = λ end value h. h; only = λ end value h. (value, h) }

pub string_goes_on : (quote : ℕ) (text rest behind units : List ℕ) (unit : Option ℕ) (more : List ℕ) → GoesOn quote text rest units → character_of quote rest ≡ Some (unit, behind) → more ≡ units ++ with_unit unit [] → GoesOn quote text behind more
string_goes_on quote text rest behind units unit more before e m = record {
  goes_on = λ end value h. subst (Closes quote text end) (joined units unit value ∙ ap (λ us. us ++ value) (sym m)) (before.goes_on end (with_unit unit value) (later rest behind end unit value e h));
  only = λ end value h. let o = before.only end value h in let r = behind_character quote rest behind end o.0 unit e o.1 in (r.others, r.closes);
}
  where
    joined : (units : List ℕ) (unit : Option ℕ) (value : List ℕ) → units ++ with_unit unit value ≡ (units ++ with_unit unit []) ++ value
    joined units None value = sym (append_assoc units [] value)
    joined units (Some u) value = sym (append_assoc units (u ∷ []) value)

pub string_ends : (quote : ℕ) (text rest end units value : List ℕ) → GoesOn quote text rest units → rest ≡ quote ∷ end → value ≡ units → Closes quote text end value
string_ends quote text rest end units value before e v =
    let h : Closes quote rest end [] = rw e (here end) in
    subst (Closes quote text end) (append_none units ∙ sym v) (before.goes_on end [] h)

pub string_refused : (quote : ℕ) (text rest units : List ℕ) → GoesOn quote text rest units → character_of quote rest ≡ None → ((end : List ℕ) → rest ≡ quote ∷ end → ⊥) → (end value : List ℕ) → Closes quote text end value → ⊥
string_refused quote text rest units before e differs end value h =
    let o = before.only end value h in differs end (closed quote rest end o.0 e o.1).0
