use Rattle.page_host.proofs.host_name.of_eight.Goals as goal

pub returns : goal.returns
returns c = rw (c.pick.ensures, c.pick-name.ensures)
