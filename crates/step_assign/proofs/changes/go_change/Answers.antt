use Rattle.std.proofs.Common.{length, suc, sym, ◌∙◌}
use Rattle.code_table.specs.declared.kind.Kind.TheVariants.{AssignIndex, AssignMember, UpdateIndex, UpdateMember}
use Rattle.page_frames.specs.RestProperties.{rest_update_member}
use Rattle.page_frames.specs.Weight.{weigh}
use Rattle.page_frames.specs.Where.{spot_node}
use Rattle.step_parts.proofs.Callers.{moves_as}
use Rattle.step_assign.proofs.changes.go_change.Goals as goal

pub returns-in-UpdateMember : goal.returns-in-UpdateMember
returns-in-UpdateMember c =
    moves_as c.args.spot (UpdateMember c.in-UpdateMember.up c.in-UpdateMember.prefix c.in-UpdateMember.name) c.args.turn c.args.got c.args.value c.args.state.now c.update_member.new.state c.args.meter.now c.give.result
    (sym c.kind.ensures ∙ c.in-UpdateMember.is)
    (c.give.ensures (λ calls. rest_update_member calls c.in-UpdateMember.up c.in-UpdateMember.prefix c.in-UpdateMember.name c.args.value) c.args.state.now c.update_member.new.state
    (weigh (spot_node c.args.spot) (suc (length c.args.got))) c.args.meter.now c.update_member.ensures)

pub go_update-requires : goal.go_update-requires
go_update-requires c = sym c.kind.ensures ∙ c.in-UpdateIndex.is

pub returns-in-UpdateIndex : goal.returns-in-UpdateIndex
returns-in-UpdateIndex c =
    moves_as c.args.spot (UpdateIndex c.in-UpdateIndex.up c.in-UpdateIndex.prefix) c.args.turn c.args.got c.args.value c.args.state.now c.go_update.new.state c.args.meter.now c.go_update.result
    (sym c.kind.ensures ∙ c.in-UpdateIndex.is) c.go_update.ensures

pub go_member-requires : goal.go_member-requires
go_member-requires c = rw c.in_ok-name-in-AssignMember.ensures (sym c.kind.ensures ∙ c.in-AssignMember.is)

pub returns-in_ok-name-in-AssignMember : goal.returns-in_ok-name-in-AssignMember
returns-in_ok-name-in-AssignMember c =
    moves_as c.args.spot (AssignMember c.in-AssignMember.op c.in_ok-name-in-AssignMember.name) c.args.turn c.args.got c.args.value c.args.state.now c.go_member.new.state c.args.meter.now c.go_member.result
    (rw c.in_ok-name-in-AssignMember.ensures (sym c.kind.ensures ∙ c.in-AssignMember.is)) c.go_member.ensures

pub go_index-requires : goal.go_index-requires
go_index-requires c = sym c.kind.ensures ∙ c.in-AssignIndex.is

pub returns-in-AssignIndex : goal.returns-in-AssignIndex
returns-in-AssignIndex c =
    moves_as c.args.spot (AssignIndex c.in-AssignIndex.op) c.args.turn c.args.got c.args.value c.args.state.now c.go_index.new.state c.args.meter.now c.go_index.result
    (sym c.kind.ensures ∙ c.in-AssignIndex.is) c.go_index.ensures
