use Rattle.std.proofs.Common.{sym, ◌∙◌}
use Rattle.page_frames.specs.Where.{numbered}
use Rattle.step_parts.proofs.ByKind.{name_known}
use Rattle.step_parts.proofs.Combining.{reads_member}
use Rattle.step_parts.proofs.operands.+value_of.Goals as goal

pub returns-in-Name : goal.returns-in-Name
returns-in-Name t c =
    name_known c.known.result c.args.spot.now c.args.number c.in-Name.name c.env.result c.args.state.now (sym c.kind_at.ensures ∙ c.in-Name.is) c.env.ensures c.known.ensures

pub returns-in-Some : goal.returns-in-Some
returns-in-Some t c =
    reads_member c.member.result (numbered c.args.spot.now c.args.number) c.in-Member.name c.args.state.now c.in-Some.base (sym c.kind_at.ensures ∙ c.in-Member.is)
    (rw c.part_at.ensures at (rw c.in-Some.is at c.in_ok-value_of-in-Member.ensures)) c.member.ensures
