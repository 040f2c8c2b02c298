use Rattle.std.proofs.Common.{rules, arith}
use Rattle.std.proofs.lemmas.Grind.{common_steps}
use Rattle.js_grammar.specs.Parser.{separated}
use Rattle.expression_parser.proofs.lists.separated.Goals as goal

pub returns-in_err-item : goal.returns-in_err-item
unfolding separated
returns-in_err-item g c = λ reader reads.
    let r = reads _ _ _ c.item.ensures in
    first_of (search rules, grind (arith, common_steps))

pub returns : goal.returns
unfolding separated
returns g c = λ reader reads.
    let r = reads _ _ _ c.item.ensures in
    let f = c.further.ensures reader reads in
    first_of (search rules, grind (arith, common_steps))
