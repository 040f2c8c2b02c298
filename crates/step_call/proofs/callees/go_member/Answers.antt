use Rattle.std.proofs.Common.{sym, ◌∙◌}
use Rattle.page_meaning.specs.Properties.{get_member}
use Rattle.step_call.proofs.Choosing.{member_begins}
use Rattle.step_call.proofs.callees.go_member.Goals as goal

pub returns-then-len-eq0 : goal.returns-then-len-eq0
returns-then-len-eq0 c =
    member_begins c.args.spot c.args.name.now c.args.turn c.args.got c.args.value c.args.state.now c.get_member-callee.new.self c.args.meter.now c.with_property.result c.requires
    (sym c.len.ensures ∙ c.if-len-eq0.true) (c.with_property.ensures (λ _. get_member c.args.value c.args.name.now) c.args.state.now c.get_member-callee.ensures)
