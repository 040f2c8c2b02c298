use Rattle.std.proofs.Common.{sym, ◌∙◌}
use Rattle.step_assign.proofs.Naming.{other_gives}
use Rattle.step_assign.proofs.named.put_named.Goals as goal

pub returns-in-AssignName : goal.returns-in-AssignName
returns-in-AssignName c = rw (sym c.kind.ensures ∙ c.in-AssignName.is) c.put_assigned.ensures

pub returns-in-Declarator : goal.returns-in-Declarator
returns-in-Declarator c = rw (sym c.kind.ensures ∙ c.in-Declarator.is) c.write.ensures

pub returns-in_default : goal.returns-in_default
returns-in_default c =
    other_gives c.kind.result.now c.args.spot.now c.args.reference c.args.old.now c.args.value c.args.state.now c.kind.ensures c.in_default.not-AssignName c.in_default.not-Declarator
