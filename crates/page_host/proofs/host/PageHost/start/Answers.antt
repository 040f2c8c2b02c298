use Rattle.page_host.proofs.Times.{small, small_period}
use Rattle.page_host.proofs.host.PageHost.start.Goals as goal

pub start-requires-clause-delay : goal.start-requires-clause-delay
start-requires-clause-delay c = small _ c.requires.delay

pub start-requires-clause-period : goal.start-requires-clause-period
start-requires-clause-period c = small_period c.args.period c.requires.period
