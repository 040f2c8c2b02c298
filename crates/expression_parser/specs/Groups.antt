-- What stands behind the inside of a group with which an expression begins.
use Rattle.js_core.specs.Tree as tree
use Rattle.js_grammar.specs.ExpressionReader as reader
use Rattle.js_grammar.specs.Parser.{Parser}
use Rattle.expression_parser.specs.declared.nesting.Nesting.{Nesting}
use Rattle.expression_parser.specs.Inside.{limit, expression_in, body_in}

-- the closing parenthesis, and the rest of the expression that the group begins, where parts nest less deep than this
unfoldable pub closing : Nesting → tree.Expr → Parser tree.Expr
closing depth = reader.closing limit (expression_in depth) (body_in depth)
