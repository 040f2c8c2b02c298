use Rattle.std.proofs.Common.{sym, ◌∙◌}
use Rattle.page_frames.specs.RestProperties.{put_target, rest_target_member}
use Rattle.page_frames.specs.Weight.{weigh, weigh_target}
use Rattle.page_frames.specs.Where.{spot_node}
use Rattle.step_assign.proofs.Targeting.{index_target, key_waits, member_target, no_part}
use Rattle.step_assign.proofs.targets.go_part.Goals as goal

pub returns-in-Member : goal.returns-in-Member
returns-in-Member c =
    member_target c.args.frame.spot c.in-Member.name c.args.frame.value c.args.frame.base c.args.part c.args.state.now c.put_member.new.state c.args.meter.now c.give.result (sym c.kind.ensures ∙ c.in-Member.is)
    (c.give.ensures (λ calls. rest_target_member calls c.in-Member.name c.args.frame.value c.args.part) c.args.state.now c.put_member.new.state (weigh_target (spot_node c.args.frame.spot) c.args.frame.base) c.args.meter.now
    c.put_member.ensures)

pub returns-in-None : goal.returns-in-None
returns-in-None c =
    rw c.in-None.is (key_waits c.args.frame.spot c.args.frame.value c.args.part c.args.state.now c.args.meter.now c.run_target.result (sym c.kind.ensures ∙ c.in-Index.is) c.run_target.ensures)

pub returns-in-Some : goal.returns-in-Some
returns-in-Some c =
    rw c.in-Some.is
    (index_target c.args.frame.spot c.args.frame.value c.in-Some.base c.args.part c.args.state.now c.put_index.new.state c.args.meter.now c.give-in-Some.result (sym c.kind.ensures ∙ c.in-Index.is)
    (c.give-in-Some.ensures (λ calls. put_target calls c.args.frame.value c.in-Some.base c.args.part) c.args.state.now c.put_index.new.state (weigh (spot_node c.args.frame.spot) 2) c.args.meter.now c.put_index.ensures))

pub returns-in_default : goal.returns-in_default
returns-in_default c =
    no_part c.args.frame.spot c.kind.result.now c.args.frame.value c.args.frame.base c.args.part c.args.state.now c.args.meter.now (sym c.kind.ensures) c.in_default.not-Member c.in_default.not-Index
