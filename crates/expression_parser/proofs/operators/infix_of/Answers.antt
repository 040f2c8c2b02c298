use Rattle.std.proofs.Common.{rules, arith}
use Rattle.std.proofs.lemmas.Grind.{common_steps}
use Rattle.expression_parser.proofs.operators.infix_of.Goals as goal

pub returns-in-Some-Mark : goal.returns-in-Some-Mark
returns-in-Some-Mark c =
    let e = c.infix_of_mark.ensures c.args.inn in
    first_of (search rules, grind (arith, common_steps))
