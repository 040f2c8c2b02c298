use Rattle.event_dispatch.proofs.Delivering.{gives_end}
use Rattle.event_dispatch.proofs.dispatch.end.Goals as goal

pub returns : goal.returns
returns c = gives_end c.args.event c.is_prevented-prevented.result c.args.state.now c.rest_event.new.self c.is_prevented-prevented.ensures c.rest_event.ensures
