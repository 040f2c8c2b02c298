use Rattle.std.proofs.Common.{rules}
use Rattle.js_grammar.specs.StatementReader.{while}
use Rattle.script_parser.proofs.inner.Statements.while_loop.Goals as goal

pub returns-in_err-test : goal.returns-in_err-test
unfolding while
returns-in_err-test g c = search rules

pub returns-in_err-repeated : goal.returns-in_err-repeated
unfolding while
returns-in_err-repeated g c = search rules

pub returns : goal.returns
unfolding while
returns g c = search rules
