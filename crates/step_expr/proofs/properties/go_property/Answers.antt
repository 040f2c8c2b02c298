use Rattle.std.proofs.Common.{sym, ap, ◌∙◌, suc, length}
use Rattle.code_table.specs.declared.kind.Kind.TheVariants as kind
use Rattle.page_meaning.specs.Properties.{get_member}
use Rattle.page_frames.specs.RestProperties.{rest_delete_member}
use Rattle.page_frames.specs.Weight.{weigh}
use Rattle.page_frames.specs.Where.{spot_node}
use Rattle.step_parts.specs.Families.{family_of}
use Rattle.step_parts.proofs.Callers.{moves_as}
use Rattle.step_expr.proofs.Moving.{no_property}
use Rattle.step_expr.proofs.properties.go_property.Goals as goal

pub go_index-requires : goal.go_index-requires
go_index-requires c = sym c.kind.ensures ∙ c.in-Index.is

pub go_delete_index-requires : goal.go_delete_index-requires
go_delete_index-requires c = sym c.kind.ensures ∙ c.in-DeleteIndex.is

pub returns-in-Member : goal.returns-in-Member
returns-in-Member c =
    moves_as c.args.spot (kind.Member c.in-Member.name) c.args.turn c.args.got c.args.value c.args.state.now c.get_member.new.self c.args.meter.now c.give.result (sym c.kind.ensures ∙ c.in-Member.is)
    (c.give.ensures (λ _. get_member c.args.value c.in-Member.name) c.args.state.now c.get_member.new.self (weigh (spot_node c.args.spot) (suc (length c.args.got))) c.args.meter.now c.get_member.ensures)

pub returns-in-Index : goal.returns-in-Index
returns-in-Index c =
    moves_as c.args.spot kind.Index c.args.turn c.args.got c.args.value c.args.state.now c.go_index.new.state c.args.meter.now c.go_index.result (sym c.kind.ensures ∙ c.in-Index.is) c.go_index.ensures

pub returns-in-DeleteMember : goal.returns-in-DeleteMember
returns-in-DeleteMember c =
    moves_as c.args.spot (kind.DeleteMember c.in-DeleteMember.name) c.args.turn c.args.got c.args.value c.args.state.now c.delete_named.new.state c.args.meter.now c.give-in-DeleteMember.result
    (sym c.kind.ensures ∙ c.in-DeleteMember.is)
    (c.give-in-DeleteMember.ensures (λ _. rest_delete_member c.in-DeleteMember.name c.args.value) c.args.state.now c.delete_named.new.state (weigh (spot_node c.args.spot) (suc (length c.args.got))) c.args.meter.now c.delete_named.ensures)

pub returns-in-DeleteIndex : goal.returns-in-DeleteIndex
returns-in-DeleteIndex c =
    moves_as c.args.spot kind.DeleteIndex c.args.turn c.args.got c.args.value c.args.state.now c.go_delete_index.new.state c.args.meter.now c.go_delete_index.result (sym c.kind.ensures ∙ c.in-DeleteIndex.is)
    c.go_delete_index.ensures

pub unreachable-requires : goal.unreachable-requires
unreachable-requires c =
    no_property _ (ap family_of c.kind.ensures ∙ c.requires) c.in_default.not-Member c.in_default.not-Index c.in_default.not-DeleteMember c.in_default.not-DeleteIndex
