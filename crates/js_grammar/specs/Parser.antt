-- What a reader is made of: steps on a list of lexemes, from the left, with one of lookahead.
use Rattle.std.specs.Prelude.{ℕ, zero, suc, Bool, true, false, nat_le, if◌then◌else◌, List, [], ◌∷◌, ◌++◌, length, Option, Some, None}
use Rattle.js_core.specs.declared.token.Punct.TheVariants as p
use Rattle.js_grammar.specs.declared.sign.Sign.{Sign}
use Rattle.js_grammar.specs.declared.sign.Sign.TheVariants.{Mark}
use Rattle.js_grammar.specs.Symbols.{Symbol, Lexeme, sign_at, is_sign}

-- ---- the next lexeme

abbrev pub tail : List Lexeme → List Lexeme
tail [] = []
tail (t ∷ ts) = ts

-- whether this sign comes next
unfoldable pub sees : Sign → List Lexeme → Bool
sees s i = is_sign s (sign_at i)

-- ---- parsers

-- what was read and what stands behind it, or nothing
abbrev pub Outcome : Type 0 → Type 0
Outcome A = Option (A × List Lexeme)

abbrev pub Parser : Type 0 → Type 0
Parser A = List Lexeme → Outcome A

abbrev pub and_then : {A B : Type 0} → Outcome A → (A → Parser B) → Outcome B
and_then (Some p) f = f p.0 p.1
and_then None f = None

infixl 10 ◌>>=◌
abbrev pub ◌>>=◌ : {A B : Type 0} → Parser A → (A → Parser B) → Parser B
p >>= f = λ i. and_then (p i) f

infixl 10 ◌>>◌
abbrev pub ◌>>◌ : {A B : Type 0} → Parser A → Parser B → Parser B
p >> q = p >>= (λ _. q)

abbrev pub pure : {A : Type 0} → A → Parser A
pure a = λ i. Some (a, i)

abbrev pub refuse : {A : Type 0} → Parser A
refuse = λ i. None

abbrev pub peek : Parser (Option Sign)
peek = λ i. Some (sign_at i, i)

abbrev pub skip : Parser (Unit {0})
skip = λ i. Some (tt, tail i)

unfoldable pub expect : Sign → Parser (Unit {0})
expect s = λ i. if sees s i then Some (tt, tail i) else None

-- whether this sign came next, which is then behind
unfoldable pub eat : Sign → Parser Bool
eat s = λ i. if sees s i then Some (true, tail i) else Some (false, i)

abbrev pub taken_by : {A : Type 0} → Option A → List Lexeme → Outcome A
taken_by (Some a) rest = Some (a, rest)
taken_by None rest = None

-- the next symbol, where it stands for something
unfoldable pub taken : {A : Type 0} → (Symbol → Option A) → Parser A
taken f [] = None
taken f (t ∷ ts) = taken_by (f t.0) ts

-- a tree, unless it is too high
unfoldable pub within_limit : {A : Type 0} → ℕ → ℕ → A → Parser A
within_limit limit height a = λ i. if nat_le height limit then Some (a, i) else None

-- as many steps as the lexemes ask for, in at most n turns
abbrev pub repeat : {A : Type 0} → (List Lexeme → Bool) → (A → Parser A) → ℕ → A → Parser A
repeat goes_on step zero a = pure a
repeat goes_on step (suc n) a = λ i. if goes_on i then and_then (step a i) (repeat goes_on step n) else Some (a, i)

-- ---- lists

-- one more item, behind what was found
abbrev pub added : {A : Type 0} → Parser A → List A → Parser (List A)
added item found = do
  a ← item
  pure (found ++ a ∷ [])

-- one more item behind a comma
abbrev pub added_behind_comma : {A : Type 0} → Parser A → List A → Parser (List A)
added_behind_comma item found = do
  skip
  added item found

abbrev pub sees_comma : List Lexeme → Bool
sees_comma = sees (Mark p.Comma)

-- one item or more, with commas between them
unfoldable pub separated : {A : Type 0} → Parser A → Parser (List A)
separated item = do
  first ← item
  λ i. repeat sees_comma (added_behind_comma item) (length i) (first ∷ []) i

-- items with commas between them, and the closing parenthesis
unfoldable pub listed : {A : Type 0} → Parser A → Parser (List A)
listed item = do
  is_empty ← eat (Mark p.RightParenthesis)
  if is_empty then pure [] else (do
    found ← separated item
    expect (Mark p.RightParenthesis)
    pure found)

-- items, as long as the lexemes ask for more
unfoldable pub many : {A : Type 0} → (List Lexeme → Bool) → Parser A → Parser (List A)
many goes_on item = λ i. repeat goes_on (added item) (length i) [] i

-- a comma, or this sign, which is left
unfoldable pub divided : Sign → Parser (Unit {0})
divided close = λ i. if sees_comma i then Some (tt, tail i) else (if sees close i then Some (tt, i) else None)
