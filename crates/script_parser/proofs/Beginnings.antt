-- A statement by the word with which it begins.
use Rattle.std.proofs.Common.{◌≡◌, ◌≢◌, ℕ, Bool, true, false, List, Some, refl}
use Rattle.js_core.specs.Tree as tree
use Rattle.js_core.specs.declared.keyword.Keyword.{Keyword}
use Rattle.js_core.specs.declared.keyword.Keyword.TheVariants as kw
use Rattle.js_grammar.specs.declared.operators.Level.{Level}
use Rattle.js_grammar.specs.declared.sign.Sign.TheVariants.{Word}
use Rattle.js_grammar.specs.Parser.{Parser, tail}
use Rattle.js_grammar.specs.StatementReader as reader
use Rattle.js_grammar.specs.Symbols.{Lexeme}
use Rattle.script_parser.specs.Beginnings.{begins, statement_behind}

module _ (limit : ℕ) (exp : Bool → Level → Parser tree.Expr) (body : Parser (List tree.Stmt)) (statement : Parser tree.Stmt) where
  pub begun : (w : Keyword) (i : List Lexeme) → true ≡ begins w → reader.statement_by limit exp body statement (Some (Word w)) i ≡ statement_behind limit exp body statement w (tail i)
  begun kw.Var i h = refl
  begun kw.If i h = refl
  begun kw.Do i h = refl
  begun kw.While i h = refl
  begun kw.For i h = refl
  begun kw.Continue i h = refl
  begun kw.Break i h = refl
  begun kw.Return i h = refl
  begun kw.Throw i h = refl
  begun kw.Try i h = refl
  begun kw.Switch i h = refl
  begun w i h = absurd (cc)

  pub not_begun : (w : Keyword) (i : List Lexeme) → false ≡ begins w → w ≢ kw.Function → reader.statement_by limit exp body statement (Some (Word w)) i ≡ reader.expressed limit exp body statement i
  not_begun kw.Var i h n = absurd (cc)
  not_begun kw.If i h n = absurd (cc)
  not_begun kw.Do i h n = absurd (cc)
  not_begun kw.While i h n = absurd (cc)
  not_begun kw.For i h n = absurd (cc)
  not_begun kw.Continue i h n = absurd (cc)
  not_begun kw.Break i h n = absurd (cc)
  not_begun kw.Return i h n = absurd (cc)
  not_begun kw.Throw i h n = absurd (cc)
  not_begun kw.Try i h n = absurd (cc)
  not_begun kw.Switch i h n = absurd (cc)
  not_begun kw.Function i h n = absurd (n refl)
  not_begun w i h n = refl
