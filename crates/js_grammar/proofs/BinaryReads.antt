-- Unary and binary expressions are read as the grammar has them.
use Rattle.std.proofs.Common.{◌≡◌, ℕ, zero, suc, ◌<◌, ◌≤◌, Bool, true, false, List, ◌∷◌, length, Some, None, refl, ap, ◌∙◌, arith}
use Rattle.js_core.specs.Tree as tree
use Rattle.js_core.specs.Height.{expr_height}
use Rattle.js_grammar.specs.declared.sign.Sign.{Sign}
use Rattle.js_grammar.specs.Symbols.{sign, Lexeme, sign_at}
use Rattle.js_grammar.specs.Operators.{Level, binary, Infix, either, both, operation, infix_of, level_of, combined, climbs, Prefix, operator, step, prefix_of, prefixed, assignment_of}
use Rattle.js_grammar.specs.Parser.{Parser, Outcome, and_then, repeat}
use Rattle.js_grammar.specs.Phrases.{Phrase}
use Rattle.js_grammar.specs.Expressions.{Postfix, is_left, stepped, Unary, is_postfix, operated, Binary, is_unary, tighter, combines}
use Rattle.js_grammar.specs.ExpressionReader as reader
use Rattle.js_grammar.specs.ExpressionReader.{has_operator, in_line, step_at}
use Rattle.js_grammar.proofs.Heights.{Fits}
use Rattle.js_grammar.proofs.ExpressionShapes.{binary_shorter}
use Rattle.js_grammar.proofs.Steps.{then_reads, kept, le_true, stays}
use Rattle.js_grammar.proofs.Signs.{above_all, no_tighter, not_above, infix_no_suffix, infix_no_step, step_no_suffix, step_no_assignment}
use Rattle.js_grammar.proofs.Stops.{Quiet}
use Rattle.js_grammar.proofs.Inner.{Inner}
use Rattle.js_grammar.proofs.LeftReads.{left_reads, left_no_prefix}

prefixed_fits : (limit : ℕ) (f : Prefix) (a : tree.Expr) → Fits limit (prefixed f a) → Fits limit a
prefixed_fits limit (operator f) a h = omega arith
prefixed_fits limit (step up) a h = omega arith

pub combined_fits : (limit : ℕ) (f : Infix) (a b : tree.Expr) → Fits limit (combined f a b) → Fits limit a × Fits limit b
combined_fits limit either a b h = (omega arith, omega arith)
combined_fits limit both a b h = (omega arith, omega arith)
combined_fits limit (operation f) a b h = (omega arith, omega arith)

-- an operator is quiet, on a new line or not
pub operator_quiet : (inn : Bool) (s : Sign) (l g : Bool) (y : List Lexeme) {f : Infix} → infix_of inn (Some s) ≡ Some f → Quiet g ((sign s, l) ∷ y)
operator_quiet inn s l g y e t = (infix_no_suffix inn s e, rw (infix_no_step inn s e) refl)

module _ (limit : ℕ) (exp : Bool → Level → Parser tree.Expr) (body : Parser (List tree.Stmt)) (Exp : Bool → Level → Bool → Phrase tree.Expr) (Body : Phrase (List tree.Stmt)) (bound : ℕ) (inner : Inner limit exp body Exp Body bound) where
  postfix_reads : {g : Bool} {x z : List Lexeme} {a : tree.Expr} → Postfix Exp Body g x z a → length x < suc bound → Fits limit a → Quiet g z → and_then (reader.left limit exp body true x) (reader.postfix limit exp body) ≡ Some (a, z)
  unfolding reader.postfix
  postfix_reads (is_left h) lt f q = then_reads _ (left_reads limit exp body Exp Body bound inner true h lt f (q refl).0) (rw ((q refl).1) refl)
  postfix_reads (stepped {s = s} {up = up} {z = z} {a = a} h e) lt f q =
      then_reads _ (left_reads limit exp body Exp Body bound inner true h lt (omega arith) (step_no_suffix s e)) (rw e (kept limit (expr_height (tree.update up false a)) (tree.update up false a) z f))

  -- where an assignment may come, a postfix expression that is none begins a binary one
  pub postfix_begins : (inn : Bool) {g : Bool} {x z : List Lexeme} {a : tree.Expr} → Postfix Exp Body g x z a → length x < suc bound → Fits limit a → Quiet g z → assignment_of (sign_at z) ≡ None → and_then (reader.left limit exp body true x) (reader.assigned limit exp body inn) ≡ reader.rest limit exp body inn a z
  unfolding reader.postfix reader.assigned
  postfix_begins inn (is_left h) lt f q n = then_reads _ (left_reads limit exp body Exp Body bound inner true h lt f (q refl).0) (rw n (rw ((q refl).1) refl))
  postfix_begins inn (stepped {s = s} {up = up} {z = z} {a = a} h e) lt f q n =
      then_reads _ (left_reads limit exp body Exp Body bound inner true h lt (omega arith) (step_no_suffix s e))
      (rw (step_no_assignment s e) (rw e (then_reads _ (kept limit (expr_height (tree.update up false a)) (tree.update up false a) z f) refl)))

  no_prefix : {g : Bool} {x z : List Lexeme} {a : tree.Expr} → Postfix Exp Body g x z a → prefix_of (sign_at x) ≡ None
  no_prefix (is_left h) = left_no_prefix Exp Body h
  no_prefix (stepped h e) = left_no_prefix Exp Body h

  operand_reads : {g : Bool} {x z : List Lexeme} {a : tree.Expr} (f : Prefix) → Exp true (binary 11) g x z a → length x < bound → Fits limit (prefixed f a) → Quiet g z → reader.operated limit exp body f x ≡ Some (prefixed f a, z)
  unfolding reader.operated
  operand_reads {g} {x} {z} {a} f h lt t q =
      then_reads _ (inner.reads true (binary 11) g x z a h lt (prefixed_fits limit f a t) (q, above_all true (sign_at z))) (kept limit (expr_height (prefixed f a)) (prefixed f a) z t)

  pub unary_reads : {g : Bool} {x z : List Lexeme} {a : tree.Expr} → Unary Exp Body g x z a → length x < suc bound → Fits limit a → Quiet g z → reader.unary limit exp body x ≡ Some (a, z)
  unfolding reader.unary
  unary_reads (is_postfix h) lt f q = rw (no_prefix h) (postfix_reads h lt f q)
  unary_reads (operated {f = o} e h) lt f q = rw e (operand_reads o h (omega arith) f q)

  pub unary_begins : (inn : Bool) {g : Bool} {x z : List Lexeme} {a : tree.Expr} → Unary Exp Body g x z a → length x < suc bound → Fits limit a → Quiet g z → assignment_of (sign_at z) ≡ None → reader.one limit exp body inn x ≡ reader.rest limit exp body inn a z
  unfolding reader.one
  unary_begins inn (is_postfix h) lt f q n = rw (no_prefix h) (postfix_begins inn h lt f q n)
  unary_begins inn (operated {f = o} e h) lt f q n = rw e (then_reads _ (operand_reads o h (omega arith) f q) refl)

  -- ---- binary expressions

  pub operation_step : (inn : Bool) (least : ℕ) (s : Sign) (f : Infix) (h l : Bool) (y z : List Lexeme) (a b : tree.Expr) (r : Outcome tree.Expr) (m : ℕ) → infix_of inn (Some s) ≡ Some f → least ≤ level_of f → Exp inn (binary (suc (level_of f))) h y z b → length y < bound → Fits limit (combined f a b) → Quiet h z → climbs inn (suc (level_of f)) (sign_at z) ≡ false → suc (length y) ≤ m → ((k : ℕ) → length z ≤ k → repeat (has_operator inn least) (reader.operation limit exp body inn) k (combined f a b) z ≡ r) → repeat (has_operator inn least) (reader.operation limit exp body inn) m a ((sign s, l) ∷ y) ≡ r
  unfolding reader.operation
  operation_step inn least s f h l y z a b r zero e low i lt t q c le k = absurd (omega arith)
  operation_step inn least s f h l y z a b r (suc m) e low i lt t q c le k =
      let a1 = inner.shorter inn (binary (suc (level_of f))) h y z b i in
      rw (e, le_true least (level_of f) low)
      (then_reads _ (then_reads _ (inner.reads inn (binary (suc (level_of f))) h y z b i lt (combined_fits limit f a b t).1 (q, c)) (kept limit (expr_height (combined f a b)) (combined f a b) z t)) (k m (omega arith)))

  -- A reader that begins with a unary expression, where what stands behind it is `Good`, and goes on with operations.
  module _ (inn : Bool) (least : ℕ) (x : List Lexeme) (result : Outcome tree.Expr) (onward : Outcome tree.Expr → Outcome tree.Expr) (Good : List Lexeme → Type 0) (operators_good : (s : Sign) (l : Bool) (y : List Lexeme) (f : Infix) → infix_of inn (Some s) ≡ Some f → Good ((sign s, l) ∷ y)) (start : (g : Bool) (z : List Lexeme) (a : tree.Expr) → Unary Exp Body g x z a → Fits limit a → Quiet g z → Good z → result ≡ onward (reader.operations limit exp body inn least a z)) where
    pub binary_from : {n : ℕ} {g : Bool} {y : List Lexeme} {a : tree.Expr} (r : Outcome tree.Expr) → Binary Exp Body inn n g x y a → least ≤ n → length x < suc bound → Fits limit a → Quiet g y → climbs inn (suc n) (sign_at y) ≡ false → Good y → ((m : ℕ) → length y ≤ m → repeat (has_operator inn least) (reader.operation limit exp body inn) m a y ≡ r) → result ≡ onward r
    unfolding reader.operations
    binary_from r (is_unary {g = g} {z = z} {a = a} h) low lt t q c o k = start g z a h t q o ∙ ap onward (k (length z) (omega arith))
    binary_from r (tighter {n = n} {z = z} h) low lt t q c o k = binary_from r h (omega arith) lt t q (no_tighter inn (suc n) (sign_at z) c) o k
    binary_from r (combines {g = g} {h = j} {l = l} {s = s} {f = f} {y = y} {z = z} {a = a} {b = b} e h i) low lt t q c o k =
        let a1 = binary_shorter Exp Body inner.shorter inner.body_shorter h in
        binary_from r h low lt (combined_fits limit f a b t).0 (operator_quiet inn s l g y e) (rw e (not_above (level_of f))) (operators_good s l y f e)
        (λ m le. operation_step inn least s f j l y z a b r m e low i (omega arith) t q c le k)

  -- a binary expression and no more
  pub climb_reads : (inn : Bool) (n : ℕ) {g : Bool} {x z : List Lexeme} {a : tree.Expr} → Binary Exp Body inn n g x z a → length x < suc bound → Fits limit a → Quiet g z → climbs inn n (sign_at z) ≡ false → reader.climb limit exp body inn n x ≡ Some (a, z)
  unfolding reader.climb
  climb_reads inn n {x = x} {z = z} {a = a} h lt t q c =
      binary_from inn n x (reader.climb limit exp body inn n x) (λ r. r) (λ y. Unit {0}) (λ s l y f e. tt)
      (λ g y b u f k o. then_reads _ (unary_reads u lt f k) refl)
      (Some (a, z)) h (omega arith) lt t q (no_tighter inn n (sign_at z) c) tt
      (λ m le. stays (has_operator inn n) (reader.operation limit exp body inn) m a z c)
