use Rattle.step_call.proofs.Passing.{arg_pushed}
use Rattle.step_call.proofs.arguments.one_more.Goals as goal

pub returns : goal.returns
returns c =
    arg_pushed c.args.spot c.args.turn c.args.got c.push.new.self c.args.value c.args.state.now c.args.meter.now c.next_argument.result c.requires.family c.requires.got
    c.in_ok-push.ensures.ok c.next_argument.ensures
