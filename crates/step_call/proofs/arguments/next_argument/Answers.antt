use Rattle.std.proofs.Common.{ap, ◌∙◌}
use Rattle.step_call.specs.Arguments.{is_new}
use Rattle.step_call.proofs.Passing.{arg_runs, call_begins}
use Rattle.step_call.proofs.arguments.next_argument.Goals as goal

pub returns-then-has_part : goal.returns-then-has_part
returns-then-has_part c =
    arg_runs c.args.spot c.args.turn c.args.got c.argument_part-part.result c.args.state.now c.args.meter.now c.run_part.result c.requires.family c.requires.got
    c.argument_part-part.ensures c.if-has_part.ensures c.run_part.ensures

pub returns-in_ok-call : goal.returns-in_ok-call
returns-in_ok-call c =
    rw (c.in_ok-call.ensures)
    (call_begins c.args.spot c.args.got c.argument_part-part.result c.call_of.result c.args.state.now c.args.meter.now c.requires.family c.argument_part-part.ensures
    c.if-has_part.ensures (c.call_of.ensures.construct ∙ c.is_new-construct.ensures ∙ ap is_new c.kind.ensures) c.call_of.ensures.got)
