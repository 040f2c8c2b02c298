use Rattle.event_dispatch.proofs.Delivering.{goes_on}
use Rattle.event_dispatch.proofs.dispatch.go_deliver.Goals as goal

pub returns : goal.returns
returns c =
    goes_on c.args.frame c.args.end c.args.state.now c.put_uncaught.new.self c.go_on.new.state c.args.meter.now c.go_on.result c.in_ok-put_uncaught.ensures c.go_on.ensures
