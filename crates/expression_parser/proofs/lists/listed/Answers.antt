use Rattle.std.proofs.Common.{rules, arith}
use Rattle.std.proofs.lemmas.Grind.{common_steps}
use Rattle.js_grammar.specs.Parser.{listed}
use Rattle.expression_parser.proofs.lists.listed.Goals as goal

pub returns-then-eat : goal.returns-then-eat
unfolding listed
returns-then-eat g c = λ reader reads. first_of (search rules, grind (arith, common_steps))

pub returns-in_err-found : goal.returns-in_err-found
unfolding listed
returns-in_err-found g c = λ reader reads.
    let s = c.separated.ensures reader reads in
    first_of (search rules, grind (arith, common_steps))

pub returns-in_err-expect : goal.returns-in_err-expect
unfolding listed
returns-in_err-expect g c = λ reader reads.
    let s = c.separated.ensures reader reads in
    first_of (search rules, grind (arith, common_steps))

pub returns : goal.returns
unfolding listed
returns g c = λ reader reads.
    let s = c.separated.ensures reader reads in
    first_of (search rules, grind (arith, common_steps))
