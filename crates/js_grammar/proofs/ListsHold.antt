-- What is read as a list is one in the grammar.
use Rattle.std.proofs.Common.{◌≡◌, ◌<◌, Bool, true, false, List, [], ◌∷◌, ◌++◌, length, sym, subst, ap, arith}
use Rattle.js_core.specs.declared.token.Punct.TheVariants as p
use Rattle.js_grammar.specs.declared.sign.Sign.TheVariants.{Mark}
use Rattle.js_grammar.specs.Symbols.{Lexeme}
use Rattle.js_grammar.specs.Parser.{Parser, tail, sees_comma, repeat, added, added_behind_comma, separated, listed, many}
use Rattle.js_grammar.specs.Phrases.{Phrase, Separated, only, further, Listed, nothing, something, Many, none, more}
use Rattle.js_grammar.proofs.Heights.{Each}
use Rattle.js_grammar.proofs.Holds.{Holds, ok, then_holds, held, seen, expect_holds, eat_holds, repeat_holds}

pub each_with : {A : Type 0} (P : A → Type 0) (found : List A) (a : A) → Each P found → P a → Each P (found ++ a ∷ [])
each_with P [] a h k = (k, tt)
each_with P (b ∷ bs) a h k = (h.0, each_with P bs a h.1 k)

-- Each item that is read is one of the grammar with some index, fits, and ends as its index says.
module _ {A I : Type 0} (Item : I → Phrase A) (item : Parser A) (Fit : A → Type 0) (End : I → List Lexeme → Type 0) (item_holds : (x : List Lexeme) → Holds (λ a z. (i : I) × Item i x z a × Fit a × End i z) (item x)) (item_shorter : (i : I) (x z : List Lexeme) (a : A) → Item i x z a → length z < length x) where
  -- what is read behind the first item
  pub separated_rest : (x y : List Lexeme) (a : A) → (i : I) × Item i x y a × Fit a × End i y → Holds (λ found z. (i : I) × Separated Item i x z found × Each Fit found × End i z) (repeat sees_comma (added_behind_comma item) (length y) (a ∷ []) y)
  separated_rest x y a h =
      held (λ found z k. k.0)
      (repeat_holds sees_comma (added_behind_comma item) (λ found z. (i : I) × Separated Item i x z found × Each Fit found × End i z) another (length y) (a ∷ []) y (omega arith) (h.0, only h.1, (h.2, tt), h.3))
    where
      another : (found : List A) (y : List Lexeme) → sees_comma y ≡ true → (i : I) × Separated Item i x y found × Each Fit found × End i y → Holds (λ more z. ((i : I) × Separated Item i x z more × Each Fit more × End i z) × (length z < length y)) (added_behind_comma item found y)
      another found y e h =
          let c = seen (Mark p.Comma) y e in
          let len = ap length c.1 in
          let h' = subst (λ v. Separated Item h.0 x v found) c.1 h.1 in
          then_holds _ (item_holds (tail y)) (λ a z k.
          let a1 = item_shorter k.0 (tail y) z a k.1 in
          let lt : length z < length y = omega arith in
          ok ((k.0, further h' k.1, each_with Fit found a h.2 k.2, k.3), lt))

  pub separated_holds : (x : List Lexeme) → Holds (λ found z. (i : I) × Separated Item i x z found × Each Fit found × End i z) (separated item x)
  unfolding separated
  separated_holds x = then_holds _ (item_holds x) (λ a y h. separated_rest x y a h)

  pub listed_holds : (x : List Lexeme) → Holds (λ found z. Listed Item x z found × Each Fit found) (listed item x)
  unfolding listed
  listed_holds x =
      eat_holds (Mark p.RightParenthesis) x _
      (λ l e. ok (subst (λ v. Listed Item v (tail x) []) (sym e) nothing, tt))
      (λ e. then_holds _ (separated_holds x) (λ found y h. then_holds _ (expect_holds (Mark p.RightParenthesis) y) (λ u z c. ok (something (subst (λ v. Separated Item h.0 x v found) c.1 h.1), h.2))))

module _ {A : Type 0} (Item : Phrase A) (item : Parser A) (go : List Lexeme → Bool) (Fit : A → Type 0) (item_holds : (x : List Lexeme) → go x ≡ true → Holds (λ a z. Item x z a × Fit a) (item x)) (item_shorter : (x z : List Lexeme) (a : A) → Item x z a → length z < length x) where
  pub many_holds : (x : List Lexeme) → Holds (λ found z. Many Item x z found × Each Fit found × (go [] ≡ false → go z ≡ false)) (many go item x)
  unfolding many
  many_holds x = held (λ found z h. (h.0.0, h.0.1, h.1)) (repeat_holds go (added item) (λ found z. Many Item x z found × Each Fit found) another (length x) [] x (omega arith) (none, tt))
    where
      another : (found : List A) (y : List Lexeme) → go y ≡ true → Many Item x y found × Each Fit found → Holds (λ further z. (Many Item x z further × Each Fit further) × (length z < length y)) (added item found y)
      another found y e h = then_holds _ (item_holds y e) (λ a z k. ok ((more h.0 k.0, each_with Fit found a h.1 k.1), item_shorter y z a k.0))
