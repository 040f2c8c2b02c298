use Rattle.page_meaning.specs.Calls.{calls_at}
use Rattle.page_machine.proofs.Scripts.{event_fired}
use Rattle.page_machine.proofs.tasks.fire.Goals as goal

pub returns : goal.returns
returns c =
    event_fired (calls_at c.args.meter.now.depth) c.args.kind c.args.bubbles c.args.cancelable c.args.node c.in_ok-event.event c.args.state.now c.make_event.new.self c.init_event.new.self
    c.run.new.state c.args.meter.now.steps c.run.new.meter.steps c.run.result c.in_ok-event.ensures c.in_ok-init_event.ensures c.run.ensures
