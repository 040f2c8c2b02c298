use Rattle.std.proofs.Common.{sym, ap, ◌∙◌, length, arith}
use Rattle.page_meaning.specs.Properties.{get_index}
use Rattle.step_call.proofs.Choosing.{index_begins, index_waits, lone}
use Rattle.step_call.proofs.callees.go_index.Goals as goal

pub returns-in_ok-push-in-empty : goal.returns-in_ok-push-in-empty
returns-in_ok-push-in-empty c =
    index_waits c.args.spot c.args.turn c.args.got c.push.new.self c.args.value c.args.state.now c.args.meter.now c.run_part.result c.requires
    (omega (arith, ap length c.as_slice.ensures)) c.in_ok-push-in-empty.ensures.ok c.run_part.ensures

pub returns-in_ok-base-in-len1 : goal.returns-in_ok-base-in-len1
returns-in_ok-base-in-len1 c =
    let base = c.in_ok-base-in-len1.base in
    index_begins c.args.spot c.args.turn c.args.got base c.args.value c.args.state.now c.get_index-callee.new.self c.args.meter.now c.with_property.result c.requires
    (sym c.as_slice.ensures ∙ lone c.as_slice.result.now c.base-item.result base c.in-len1.len_at_least c.in-len1.len_below c.base-item.is c.in_ok-base-in-len1.ensures)
    (c.with_property.ensures (λ calls. get_index calls base c.args.value) c.args.state.now c.get_index-callee.ensures)
