-- What is read as a binary expression is one in the grammar.
use Rattle.std.proofs.Common.{◌≡◌, ℕ, zero, suc, ◌<◌, ◌≤◌, Bool, true, false, List, length, Option, Some, None, refl, subst, ap, arith, ⊎_elim}
use Rattle.std.specs.Prelude.{nat_le}
use Rattle.std.proofs.lemmas.Bool.{cases_lt}
use Rattle.std.proofs.lemmas.Bool.Decides.{nat_tests}
use Rattle.js_core.specs.Tree as tree
use Rattle.js_core.specs.Height.{expr_height}
use Rattle.js_grammar.specs.Symbols.{Lexeme, sign_at}
use Rattle.js_grammar.specs.Operators.{Level, binary, Infix, infix_of, level_of, combined, climbs_by, climbs}
use Rattle.js_grammar.specs.Parser.{Parser, tail}
use Rattle.js_grammar.specs.Phrases.{Phrase}
use Rattle.js_grammar.specs.Expressions.{Unary, Binary, is_unary, tighter, combines}
use Rattle.js_grammar.specs.ExpressionReader as reader
use Rattle.js_grammar.specs.ExpressionReader.{has_operator}
use Rattle.js_grammar.proofs.Heights.{Fits}
use Rattle.js_grammar.proofs.Holds.{Holds, err, then_holds, held, limit_holds, repeat_holds, signed_by_table}
use Rattle.js_grammar.proofs.Signs.{low, above_all, no_tighter, at_most}
use Rattle.js_grammar.proofs.Steps.{true_le}
use Rattle.js_grammar.proofs.Stops.{Quiet}
use Rattle.js_grammar.proofs.Sound.{Sound}
use Rattle.js_grammar.proofs.LeftSound.{unary_holds}

at_least : (least : ℕ) (o : Option Infix) (f : Infix) → o ≡ Some f → climbs_by least o ≡ true → least ≤ level_of f
at_least least o f e h = true_le least (level_of f) (subst (λ i. climbs_by least i ≡ true) e h)

below : (k : ℕ) (o : Option Infix) (f : Infix) → o ≡ Some f → climbs_by (suc k) o ≡ false → level_of f ≤ k
below k o f e h = at_most (level_of f) k (subst (λ i. climbs_by (suc k) i ≡ false) e h)

level_low : (f : Infix) → suc (level_of f) ≤ 11
level_low f = by (level_of f) (low f)
  where
    by : (n : ℕ) → nat_le 11 n ≡ false → suc n ≤ 11
    by n h = grind (arith, nat_tests)

module _ (limit : ℕ) (exp : Bool → Level → Parser tree.Expr) (body : Parser (List tree.Stmt)) (Exp : Bool → Level → Bool → Phrase tree.Expr) (Body : Phrase (List tree.Stmt)) (inner : Sound limit exp body Exp Body) where
  pub lower : {inn g : Bool} (n k : ℕ) {x z : List Lexeme} {a : tree.Expr} → n ≤ k → Binary Exp Body inn k g x z a → Binary Exp Body inn n g x z a
  lower {inn} {g} n zero {x} {z} {a} le h = let same : 0 ≡ n = omega arith in subst (λ j. Binary Exp Body inn j g x z a) same h
  lower {inn} {g} n (suc k) {x} {z} {a} le h =
      ⊎_elim
      (λ (lt : n < suc k). lower n k (omega arith) (tighter h))
      (λ (ge : suc k ≤ n). let same : suc k ≡ n = omega arith in subst (λ j. Binary Exp Body inn j g x z a) same h)
      (cases_lt n (suc k))

  -- a binary expression of some level, from least on, with nothing of a level above behind it
  abbrev pub Climbed : Bool → ℕ → List Lexeme → tree.Expr → List Lexeme → Type 0
  Climbed inn least start a x = (k : ℕ) × (g : Bool) × Binary Exp Body inn k g start x a × (least ≤ k) × Fits limit a × Quiet g x × (climbs inn (suc k) (sign_at x) ≡ false)

  operation_holds : (inn : Bool) (least : ℕ) (start : List Lexeme) (a : tree.Expr) (x : List Lexeme) → has_operator inn least x ≡ true → Climbed inn least start a x → Holds (λ b y. Climbed inn least start b y × (length y < length x)) (reader.operation limit exp body inn a x)
  unfolding reader.operation
  operation_holds inn least start a x go h = by_infix (infix_of inn (sign_at x)) refl
    where
      by_infix : (o : Option Infix) → infix_of inn (sign_at x) ≡ o → Holds (λ b y. Climbed inn least start b y × (length y < length x)) (reader.operation_by limit exp body inn a o x)
      by_infix None e = err
      by_infix (Some f) e =
          let c = signed_by_table (infix_of inn) x f refl e in
          let len = ap length c.2 in
          let left = subst (λ v. Binary Exp Body inn (level_of f) h.1 start v a) c.2 (lower (level_of f) h.0 (below h.0 (infix_of inn (sign_at x)) f e h.6) h.2) in
          then_holds _ (inner.binaries inn (suc (level_of f)) (tail x) (level_low f)) (λ b y k.
          let a1 = inner.shorter inn (binary (suc (level_of f))) k.0 (tail x) y b k.1 in
          limit_holds (λ b y. Climbed inn least start b y × (length y < length x)) limit (expr_height (combined f a b)) (combined f a b) y
          (λ le. let lt : length y < length x = omega arith in
          ((level_of f, k.0, combines c.3 left k.1, at_least least (infix_of inn (sign_at x)) f e go, le, k.3, k.4), lt)))

  pub operations_hold : (inn : Bool) (least : ℕ) (start x : List Lexeme) (g : Bool) (a : tree.Expr) → least ≤ 11 → Unary Exp Body g start x a → Fits limit a → Quiet g x → Holds (λ b y. Climbed inn least start b y × (climbs inn least (sign_at y) ≡ false)) (reader.operations limit exp body inn least a x)
  unfolding reader.operations
  operations_hold inn least start x g a le h f q =
      held (λ b y k. (k.0, k.1 refl))
      (repeat_holds (has_operator inn least) (reader.operation limit exp body inn) (Climbed inn least start) (operation_holds inn least start) (length x) a x (omega arith)
      (11, g, is_unary h, le, f, q, no_tighter inn 11 (sign_at x) (above_all inn (sign_at x))))

  pub climb_holds : (inn : Bool) (n : ℕ) (x : List Lexeme) → n ≤ 11 → Holds (λ a z. (g : Bool) × Binary Exp Body inn n g x z a × Fits limit a × Quiet g z × (climbs inn n (sign_at z) ≡ false)) (reader.climb limit exp body inn n x)
  unfolding reader.climb
  climb_holds inn n x le =
      then_holds _ (unary_holds limit exp body Exp Body inner x) (λ a y h.
      held (λ b z k. (k.0.1, lower n k.0.0 k.0.3 k.0.2, k.0.4, k.0.5, k.1)) (operations_hold inn n x y h.0 a le h.1 h.2 h.3))
