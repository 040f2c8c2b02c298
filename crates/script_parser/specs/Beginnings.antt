-- What stands behind the word with which a statement begins.
use Rattle.std.specs.Prelude.{ℕ, Bool, true, false, List}
use Rattle.js_core.specs.Tree as tree
use Rattle.js_core.specs.declared.keyword.Keyword.{Keyword}
use Rattle.js_core.specs.declared.keyword.Keyword.TheVariants as kw
use Rattle.js_grammar.specs.declared.operators.Level.{Level}
use Rattle.js_grammar.specs.Parser.{Parser, refuse}
use Rattle.js_grammar.specs.StatementReader as reader

-- whether a statement that begins with this word is no expression statement
abbrev pub begins : Keyword → Bool
begins kw.Var = true
begins kw.If = true
begins kw.Do = true
begins kw.While = true
begins kw.For = true
begins kw.Continue = true
begins kw.Break = true
begins kw.Return = true
begins kw.Throw = true
begins kw.Try = true
begins kw.Switch = true
begins w = false

module _ (limit : ℕ) (exp : Bool → Level → Parser tree.Expr) (body : Parser (List tree.Stmt)) (statement : Parser tree.Stmt) where
  abbrev pub statement_behind : Keyword → Parser tree.Stmt
  statement_behind kw.Var = reader.variables limit exp body statement
  statement_behind kw.If = reader.conditional limit exp body statement
  statement_behind kw.Do = reader.do_while limit exp body statement
  statement_behind kw.While = reader.while limit exp body statement
  statement_behind kw.For = reader.for_statement limit exp body statement
  statement_behind kw.Continue = reader.ended_as limit exp body statement tree.continue
  statement_behind kw.Break = reader.ended_as limit exp body statement tree.break
  statement_behind kw.Return = reader.return limit exp body statement
  statement_behind kw.Throw = reader.throw limit exp body statement
  statement_behind kw.Try = reader.tried limit exp body statement
  statement_behind kw.Switch = reader.switch limit exp body statement
  statement_behind w = refuse
