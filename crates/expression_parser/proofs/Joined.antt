-- Expressions with commas between them.
use Rattle.std.proofs.Common.{◌≡◌, ◌≢◌, Bool, List, [], ◌∷◌, length, get_or, Some, Result, Ok, Err, refl, ap, arith}
use Rattle.js_core.specs.Tree as tree
use Rattle.js_core.specs.Tree.{exprs_of}
use Rattle.js_grammar.specs.declared.operators.Level.{Level}
use Rattle.js_grammar.specs.ExpressionReader.{joined}
use Rattle.js_grammar.specs.Parser.{Parser, within_limit}
use Rattle.js_grammar.specs.Symbols.{Lexeme}
use Rattle.js_core.specs.declared.memory.Failure.{Failure}
use Rattle.expression_parser.specs.declared.fault.NotScript.{NotScript}
use Rattle.expression_parser.specs.Inside.{limit, Builds, Joins}
use Rattle.expression_parser.specs.Reads.{Reads}

pub joins_only : (es : List tree.Expr) (a d : tree.Expr) → length es ≡ 1 → get_or es 0 d ≡ a → Joins es (Ok a)
joins_only [] a d long e = absurd (omega arith)
joins_only (b ∷ []) a d long e = ap Some e
joins_only (b ∷ c ∷ es) a d long e = absurd (omega arith)

pub joins_several : (es : List tree.Expr) (result : Result tree.Expr (Failure NotScript)) → length es ≢ 1 → Builds (tree.comma (exprs_of es)) result → Joins es result
joins_several [] result long h = h
joins_several (b ∷ []) result long h = absurd (long refl)
joins_several (b ∷ c ∷ es) result long h = h

pub joins_read : (exp : Bool → Level → Parser tree.Expr) (body : Parser (List tree.Stmt)) (es : List tree.Expr) (result : Result tree.Expr (Failure NotScript)) (i : List Lexeme) → Joins es result → Reads (joined limit exp body es i) result i
unfolding within_limit
joins_read exp body [] (Ok a) i h = rw (h.0, h.1) refl
joins_read exp body [] (Err e) i h = λ n. rw (h n) refl
joins_read exp body (b ∷ []) (Ok a) i h = let same : b ≡ a = cc in ap (λ x. Some (x, i)) same
joins_read exp body (b ∷ []) (Err e) i h = λ n. absurd (let f = h n in cc)
joins_read exp body (b ∷ c ∷ es) (Ok a) i h = rw (h.0, h.1) refl
joins_read exp body (b ∷ c ∷ es) (Err e) i h = λ n. rw (h n) refl
