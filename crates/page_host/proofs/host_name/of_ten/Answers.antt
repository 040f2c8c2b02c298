use Rattle.page_host.proofs.host_name.of_ten.Goals as goal

pub returns : goal.returns
returns c = rw (c.pick.ensures, c.pick-first.ensures, c.pick-phase.ensures, c.pick-cancelable.ensures)
