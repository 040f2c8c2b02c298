use Rattle.page_host.proofs.host_name.of_thirteen.Goals as goal

pub returns : goal.returns
returns c = rw (c.pick.ensures, c.pick-target.ensures)
