use Rattle.std.proofs.Common.{subst}
use Rattle.page_writer.proofs.Pieces.{counts_no_memory, counts_none, counts_puts, judged_long, judged_many, judged_no_memory, judged_puts}
use Rattle.page_writer.specs.Page.{saved_page}
use Rattle.page_writer.specs.Sizes.{Judged}
use Rattle.js_core.specs.declared.memory.Failure.TheVariants.{Cause}
use Rattle.page_writer.specs.declared.save_fault.NotSaved.TheVariants.{TooMany, TooLong}
use Rattle.page_writer.proofs.writing.write_walked.Goals as goal

pub returns-in_err-weight-clause-judged : goal.returns-in_err-weight-clause-judged
returns-in_err-weight-clause-judged g c = judged_no_memory _ (g.O.Sink.seen c.args.out.now) _ c.from_residual.result c.from_residual.ensures

pub returns-then-weight-gt-SAVED_THINGS_LIMIT-clause-judged : goal.returns-then-weight-gt-SAVED_THINGS_LIMIT-clause-judged
returns-then-weight-gt-SAVED_THINGS_LIMIT-clause-judged g c = judged_many c.in_ok-weight.weight _ (g.O.Sink.seen c.args.out.now) _ c.in_ok-weight.ensures c.if-weight-gt-SAVED_THINGS_LIMIT.true

pub returns-then-weight-gt-SAVED_TEXT_LIMIT-clause-judged : goal.returns-then-weight-gt-SAVED_TEXT_LIMIT-clause-judged
returns-then-weight-gt-SAVED_TEXT_LIMIT-clause-judged g c = judged_long c.in_ok-weight.weight _ (g.O.Sink.seen c.args.out.now) _ c.in_ok-weight.ensures c.if-weight-gt-SAVED_THINGS_LIMIT.false c.if-weight-gt-SAVED_TEXT_LIMIT.true

pub returns-clause-judged : goal.returns-clause-judged
returns-clause-judged g c =
    let seen = g.O.Sink.seen in
    let page = saved_page c.args.state.now c.args.walked.now.things.keys in
    subst (λ w. Judged w (seen c.args.out.now) (seen c.write_plan.new.out) page c.write_plan.result) c.in_ok-weight.ensures
    (judged_puts c.in_ok-weight.weight (seen c.args.out.now) (seen c.write_plan.new.out) page c.write_plan.result c.if-weight-gt-SAVED_THINGS_LIMIT.false c.if-weight-gt-SAVED_TEXT_LIMIT.false c.write_plan.ensures.puts)

pub returns-in_err-weight-clause-counts : goal.returns-in_err-weight-clause-counts
returns-in_err-weight-clause-counts g c = counts_no_memory (g.O.Sink.seen c.args.out.now).faults c.from_residual.result c.from_residual.ensures

pub returns-then-weight-gt-SAVED_THINGS_LIMIT-clause-counts : goal.returns-then-weight-gt-SAVED_THINGS_LIMIT-clause-counts
returns-then-weight-gt-SAVED_THINGS_LIMIT-clause-counts g c = counts_none (g.O.Sink.seen c.args.out.now).faults (Cause (TooMany c.in_ok-weight.weight)) (λ e. cc e)

pub returns-then-weight-gt-SAVED_TEXT_LIMIT-clause-counts : goal.returns-then-weight-gt-SAVED_TEXT_LIMIT-clause-counts
returns-then-weight-gt-SAVED_TEXT_LIMIT-clause-counts g c = counts_none (g.O.Sink.seen c.args.out.now).faults (Cause (TooLong c.in_ok-weight.weight)) (λ e. cc e)

pub returns-clause-counts : goal.returns-clause-counts
returns-clause-counts g c =
    let seen = g.O.Sink.seen in
    counts_puts (seen c.args.out.now) (seen c.write_plan.new.out) (saved_page c.args.state.now c.args.walked.now.things.keys) c.write_plan.result c.write_plan.ensures.puts
