use Rattle.std.proofs.Common.{sym, ◌∙◌}
use Rattle.step_assign.proofs.Naming.{declared_opens}
use Rattle.step_assign.proofs.named.begin_named.Goals as goal

pub begin_assigned-requires : goal.begin_assigned-requires
begin_assigned-requires c = rw c.in_ok-name-in-AssignName.ensures (sym c.kind.ensures ∙ c.in-AssignName.is)

pub returns-in-Declarator : goal.returns-in-Declarator
returns-in-Declarator c =
    declared_opens c.args.spot c.in-Declarator.name c.resolve-reference.result c.args.state.now c.run_right.new.state c.args.meter.now c.run_right.result c.env.result (sym c.kind.ensures ∙ c.in-Declarator.is) c.env.ensures c.resolve-reference.ensures
    c.run_right.ensures
