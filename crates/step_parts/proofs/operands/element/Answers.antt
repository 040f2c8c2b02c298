use Rattle.step_parts.proofs.Combining.{index_by_name}
use Rattle.step_parts.proofs.operands.element.Goals as goal

pub returns-in_ok-name-in_default : goal.returns-in_ok-name-in_default
returns-in_ok-name-in_default c =
    index_by_name c.member.result c.args.base.now c.args.key.now c.in_ok-name-in_default.name c.args.state.now c.in_default.not-Object c.in_ok-name-in_default.ensures c.member.ensures
