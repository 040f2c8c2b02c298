-- Printed lexemes that are read as a phrase, and lists of such.
use Rattle.std.proofs.Common.{◌≡◌, ℕ, zero, suc, ◌≤◌, ◌<◌, Bool, true, false, List, [], ◌∷◌, ◌++◌, subst, ⊎_elim, arith}
use Rattle.std.proofs.lemmas.Bool.{cases_lt}
use Rattle.js_core.specs.Tree as tree
use Rattle.js_core.specs.declared.token.Punct.{Punct}
use Rattle.js_core.specs.declared.token.Punct.TheVariants as punct
use Rattle.js_grammar.specs.Symbols as symbols
use Rattle.js_grammar.specs.declared.operators.Level.{Level}
use Rattle.js_grammar.specs.Phrases.{Phrase, mark, Separated, only, further, Many, none, more}
use Rattle.js_grammar.specs.Expressions.{Member, LeftHandSide, is_member, is_call, Unary, is_postfix, is_left, Binary, is_unary, tighter, Assignment, is_binary, Sequence, sequenced}
use Rattle.js_grammar.specs.Scripts.{Part, expression, statement, body, TreeOf, Nested}
use Rattle.js_print.specs.declared.lexeme.Lexeme.{Lexeme}
use Rattle.js_print.proofs.PrintedSymbols.{before}

-- what stands inside others, nested less deep than the number
abbrev pub Exp : ℕ → Bool → Level → Bool → Phrase tree.Expr
Exp d = λ inn level grows. Nested d (expression inn level grows)

abbrev pub Body : ℕ → Phrase (List tree.Stmt)
Body d = Nested d body

abbrev pub Stm : ℕ → Phrase tree.Stmt
Stm d = Nested d statement

-- phrases whose parts are nested less deep than the number

abbrev pub Members : Bool → ℕ → Phrase tree.Expr
Members c d = Member (Exp d) (Body d) c

abbrev pub Assignments : Bool → Bool → ℕ → Phrase tree.Expr
Assignments inn g d = Assignment (Exp d) (Body d) inn g

abbrev pub Sequences : Bool → Bool → ℕ → Phrase tree.Expr
Sequences inn g d = Sequence (Exp d) (Body d) inn g

-- These lexemes are read so, whatever stands behind them, as soon as there is room for what is nested in them.
pub record Reads {A : Type 0} (P : ℕ → Phrase A) (xs : List Lexeme) (a : A) : Type 0 where
  pub room : ℕ
  pub read : (d : ℕ) (z : List symbols.Lexeme) → room ≤ d → P d (before xs z) z a

pub read_as : {A : Type 0} {P : ℕ → Phrase A} (Q : ℕ → Phrase A) {xs : List Lexeme} {a : A} → ((d : ℕ) (x z : List symbols.Lexeme) → P d x z a → Q d x z a) → Reads P xs a → Reads Q xs a
read_as Q f r = record { room = r.room; read = λ d z le. f d _ z (r.read d z le) }

-- These lexemes are read so before this punctuator.
pub record ReadsUpTo {A : Type 0} (close : Punct) (P : ℕ → Phrase A) (xs : List Lexeme) (a : A) : Type 0 where
  pub room : ℕ
  pub read : (d : ℕ) (z : List symbols.Lexeme) → room ≤ d → P d (before xs (mark close false ∷ z)) (mark close false ∷ z) a

-- a phrase as a part of others
pub inside : (part : Part) {xs : List Lexeme} {a : TreeOf part} → Reads (λ d. Nested (suc d) part) xs a → Reads (λ d. Nested d part) xs a
inside part {xs} {a} r = record { room = suc r.room; read = by }
  where
    by : (d : ℕ) (z : List symbols.Lexeme) → suc r.room ≤ d → Nested d part (before xs z) z a
    by zero z le = absurd (omega arith)
    by (suc d) z le = r.read d z (omega arith)

-- ---- levels

module _ (E : Bool → Level → Bool → Phrase tree.Expr) (B : Phrase (List tree.Stmt)) where
  pub left_of_member : (c : Bool) {x z : List symbols.Lexeme} {a : tree.Expr} → Member E B c x z a → LeftHandSide E B true x z a
  left_of_member true h = is_call h
  left_of_member false h = is_member h

  pub lower : (inn : Bool) (n k : ℕ) {g : Bool} {x z : List symbols.Lexeme} {a : tree.Expr} → n ≤ k → Binary E B inn k g x z a → Binary E B inn n g x z a
  lower inn n zero {g} {x} {z} {a} le h = let same : 0 ≡ n = omega arith in subst (λ j. Binary E B inn j g x z a) same h
  lower inn n (suc k) {g} {x} {z} {a} le h =
      ⊎_elim
      (λ (lt : n < suc k). lower inn n k (omega arith) (tighter h))
      (λ (ge : suc k ≤ n). let same : suc k ≡ n = omega arith in subst (λ j. Binary E B inn j g x z a) same h)
      (cases_lt n (suc k))

  pub binary_of_unary : (inn : Bool) (n : ℕ) {g : Bool} {x z : List symbols.Lexeme} {a : tree.Expr} → n ≤ 11 → Unary E B g x z a → Binary E B inn n g x z a
  binary_of_unary inn n le h = lower inn n 11 le (is_unary h)

  pub binary_of_member : (inn : Bool) (n : ℕ) (c : Bool) {x z : List symbols.Lexeme} {a : tree.Expr} → n ≤ 11 → Member E B c x z a → Binary E B inn n true x z a
  binary_of_member inn n c le h = binary_of_unary inn n le (is_postfix (is_left (left_of_member c h)))

  pub assignment_of_member : (inn c : Bool) {x z : List symbols.Lexeme} {a : tree.Expr} → Member E B c x z a → Assignment E B inn true x z a
  assignment_of_member inn c h = is_binary (binary_of_member inn 1 c (omega arith) h)

  pub sequence_of_assignment : (inn : Bool) {g : Bool} {x z : List symbols.Lexeme} {a : tree.Expr} → Assignment E B inn g x z a → Sequence E B inn g x z a
  sequence_of_assignment inn h = sequenced (only h)

-- ---- lists, from their first item

abbrev pub Each : {A : Type 0} → (A → Type 0) → List A → Type 0
Each P [] = Unit {0}
Each P (a ∷ rest) = P a × Each P rest

pub each_with : {A : Type 0} (P : A → Type 0) (found : List A) (a : A) → Each P found → P a → Each P (found ++ a ∷ [])
each_with P [] a h k = (k, tt)
each_with P (b ∷ bs) a h k = (h.0, each_with P bs a h.1 k)

pub many_first : {A : Type 0} {Item : Phrase A} {x y z : List symbols.Lexeme} {a : A} {found : List A} → Item x y a → Many Item y z found → Many Item x z (a ∷ found)
many_first h none = more none h
many_first h (more r k) = more (many_first h r) k

pub separated_first : {A I : Type 0} (Item : I → Phrase A) {i j : I} {l : Bool} {x y z : List symbols.Lexeme} {a : A} {found : List A} → Item i x (mark punct.Comma l ∷ y) a → Separated Item j y z found → Separated Item j x z (a ∷ found)
separated_first Item h (only k) = further (only h) k
separated_first Item h (further r k) = further (separated_first Item h r) k
