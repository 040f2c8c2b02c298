use Rattle.page_host.proofs.host_name.of_seven.Goals as goal

pub returns : goal.returns
returns c = rw (c.pick.ensures, c.pick-bubbles.ensures)
