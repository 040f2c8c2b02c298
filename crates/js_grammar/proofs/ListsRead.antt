-- Lists of phrases are read as the grammar has them.
use Rattle.std.proofs.Common.{◌≡◌, ℕ, zero, suc, ◌<◌, ◌≤◌, Bool, true, false, List, [], ◌∷◌, ◌++◌, length, Some, refl, arith}
use Rattle.js_core.specs.declared.token.Punct.TheVariants as p
use Rattle.js_grammar.specs.declared.sign.Sign.TheVariants.{Mark}
use Rattle.js_grammar.specs.Symbols.{Lexeme}
use Rattle.js_grammar.specs.Parser.{Parser, Outcome, sees, sees_comma, expect, eat, repeat, added, added_behind_comma, separated, listed, many}
use Rattle.js_grammar.specs.Phrases.{Phrase, mark, Separated, only, further, Listed, nothing, something, Many, none, more}
use Rattle.js_grammar.proofs.Heights.{Each, each_but_last}
use Rattle.js_grammar.proofs.ListShapes.{separated_shorter, many_shorter}
use Rattle.js_grammar.proofs.Steps.{then_reads, stays}

-- Items of fewer lexemes than the bound are read, where they are not too high (`Fit`) and what stands behind them ends
-- them (`Stop`), as a comma does.
module _ {A I : Type 0} (Item : I → Phrase A) (item : Parser A) (Fit : A → Type 0) (Stop : I → List Lexeme → Type 0) (bound : ℕ) (item_reads : (i : I) (x z : List Lexeme) (a : A) → Item i x z a → length x < bound → Fit a → Stop i z → item x ≡ Some (a, z)) (item_shorter : (i : I) (x z : List Lexeme) (a : A) → Item i x z a → length z < length x) (comma_stops : (i : I) (l : Bool) (y : List Lexeme) → Stop i (mark p.Comma l ∷ y)) where
  pub one_more : {j : I} (l : Bool) (y z : List Lexeme) (found : List A) (a : A) (r : Outcome (List A)) (m : ℕ) → Item j y z a → length y < bound → Fit a → Stop j z → suc (length y) ≤ m → ((n : ℕ) → length z ≤ n → repeat sees_comma (added_behind_comma item) n (found ++ a ∷ []) z ≡ r) → repeat sees_comma (added_behind_comma item) m found (mark p.Comma l ∷ y) ≡ r
  unfolding sees
  one_more l y z found a r zero h lt f s le k = absurd (omega arith)
  one_more {j} l y z found a r (suc m) h lt f s le k =
      let a1 = item_shorter j y z a h in
      then_reads _ (then_reads _ (item_reads j y z a h lt f s) refl) (k m (omega arith))

  separated_from : {i : I} {x y : List Lexeme} {found : List A} (r : Outcome (List A)) → Separated Item i x y found → length x < bound → Each Fit found → Stop i y → ((m : ℕ) → length y ≤ m → repeat sees_comma (added_behind_comma item) m found y ≡ r) → separated item x ≡ r
  unfolding separated
  separated_from r (only {i = i} {x = x} {z = z} {a = a} h) lt f s k = then_reads _ (item_reads i x z a h lt f.0 s) (k (length z) (omega arith))
  separated_from r (further {i = i} {j = j} {l = l} {y = y} {z = z} {found = found} {a = a} h e) lt f s k =
      let fits = each_but_last Fit found a f in
      let a1 = separated_shorter Item item_shorter h in
      separated_from r h lt fits.0 (comma_stops i l y) (λ m le. one_more l y z found a r m e (omega arith) fits.1 s le k)

  pub separated_reads : {i : I} {x z : List Lexeme} {found : List A} → Separated Item i x z found → length x < bound → Each Fit found → Stop i z → sees_comma z ≡ false → separated item x ≡ Some (found, z)
  separated_reads {z = z} {found = found} h lt f s c =
      separated_from (Some (found, z)) h lt f s (λ m le. stays sees_comma (added_behind_comma item) m found z c)

  -- no item begins with a closing parenthesis, which ends each
  module _ (begins : (i : I) (x z : List Lexeme) (a : A) → Item i x z a → sees (Mark p.RightParenthesis) x ≡ false) (close_stops : (i : I) (l : Bool) (y : List Lexeme) → Stop i (mark p.RightParenthesis l ∷ y)) where
    separated_begins : {i : I} {x z : List Lexeme} {found : List A} → Separated Item i x z found → sees (Mark p.RightParenthesis) x ≡ false
    separated_begins (only {i = i} {x = x} {z = z} {a = a} h) = begins i x z a h
    separated_begins (further h k) = separated_begins h

    pub listed_reads : {x z : List Lexeme} {found : List A} → Listed Item x z found → length x < bound → Each Fit found → listed item x ≡ Some (found, z)
    unfolding listed sees expect eat
    listed_reads nothing lt f = refl
    listed_reads (something {i = i} {l = l} {z = z} h) lt f =
        rw (separated_begins h) (then_reads _ (separated_reads h lt f (close_stops i l z) refl) refl)

-- items without commas between them, where what begins an item ends the one before it
module _ {A : Type 0} (Item : Phrase A) (item : Parser A) (go : List Lexeme → Bool) (Fit : A → Type 0) (Stop : List Lexeme → Type 0) (bound : ℕ) (item_reads : (x z : List Lexeme) (a : A) → Item x z a → length x < bound → Fit a → Stop z → item x ≡ Some (a, z)) (item_shorter : (x z : List Lexeme) (a : A) → Item x z a → length z < length x) (item_goes : (x z : List Lexeme) (a : A) → Item x z a → go x ≡ true) (item_stops : (x z : List Lexeme) (a : A) → Item x z a → Stop x) where
  another : (y z : List Lexeme) (found : List A) (a : A) (r : Outcome (List A)) (m : ℕ) → Item y z a → length y < bound → Fit a → Stop z → length y ≤ m → ((n : ℕ) → length z ≤ n → repeat go (added item) n (found ++ a ∷ []) z ≡ r) → repeat go (added item) m found y ≡ r
  another y z found a r zero h lt f s le k = let a1 = item_shorter y z a h in absurd (omega arith)
  another y z found a r (suc m) h lt f s le k =
      let a1 = item_shorter y z a h in
      rw (item_goes y z a h) (then_reads _ (then_reads _ (item_reads y z a h lt f s) refl) (k m (omega arith)))

  many_from : {x y : List Lexeme} {found : List A} (r : Outcome (List A)) → Many Item x y found → length x < bound → Each Fit found → Stop y → ((m : ℕ) → length y ≤ m → repeat go (added item) m found y ≡ r) → many go item x ≡ r
  unfolding many
  many_from r (none {z = z}) lt f s k = k (length z) (omega arith)
  many_from r (more {y = y} {z = z} {found = found} {a = a} h e) lt f s k =
      let fits = each_but_last Fit found a f in
      let a1 = many_shorter Item item_shorter h in
      many_from r h lt fits.0 (item_stops y z a e) (λ m le. another y z found a r m e (omega arith) fits.1 s le k)

  pub many_reads : {x z : List Lexeme} {found : List A} → Many Item x z found → length x < bound → Each Fit found → Stop z → go z ≡ false → many go item x ≡ Some (found, z)
  many_reads {z = z} {found = found} h lt f s e = many_from (Some (found, z)) h lt f s (λ m le. stays go (added item) m found z e)
