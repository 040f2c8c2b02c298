use Rattle.std.proofs.Common.{rules}
use Rattle.js_grammar.specs.StatementReader.{return}
use Rattle.script_parser.proofs.inner.Statements.return_statement.Goals as goal

pub returns : goal.returns
unfolding return
returns g c = search rules
