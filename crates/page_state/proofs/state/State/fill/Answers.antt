use Rattle.std.proofs.Common.{◌≡◌, ◌∙◌, ap, arith, length, nat_eq, sym}
use Rattle.page_host.specs.Host.{Host}
use Rattle.page_state.proofs.Putting.{filled, text_node_more}
use Rattle.page_state.proofs.state.State.fill.Goals as goal

pub insert_before-answer-requires-clause-parent : goal.insert_before-answer-requires-clause-parent
insert_before-answer-requires-clause-parent c =
    let more = text_node_more c.args.text.now c.in_ok-make_text.field-0 c.args.self.now c.make_text.new.self c.in_ok-make_text.ensures in omega (arith, more)

pub insert_before-answer-requires-clause-child : goal.insert_before-answer-requires-clause-child
insert_before-answer-requires-clause-child c =
    let more = text_node_more c.args.text.now c.in_ok-make_text.field-0 c.args.self.now c.make_text.new.self c.in_ok-make_text.ensures in
    let count : c.count.result ≡ length c.args.self.now.host.nodes = c.count.ensures.count ∙ ap length (c.dom.ensures ∙ ap (λ (h : Host). h.nodes) c.host.ensures) in
    omega (arith, more, count)

pub returns : goal.returns
returns c =
    filled c.args.node (record { 0 = c.count.result }) c.args.text.now c.in_ok-make_text.field-0 c.args.self.now c.make_text.new.self c.insert_before-answer.new.self
    (sym (c.is_empty.ensures ∙ ap (λ x. nat_eq (length x) 0) c.as_slice.ensures.value) ∙ c.if-is_empty.false)
    (c.count.ensures.count ∙ ap length (c.dom.ensures ∙ ap (λ (h : Host). h.nodes) c.host.ensures)) c.in_ok-make_text.ensures c.insert_before-answer.ensures.step
