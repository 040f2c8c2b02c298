use Rattle.page_host.proofs.host_name.of_four.Goals as goal

pub returns : goal.returns
returns c = rw (c.pick.ensures, c.pick-body.ensures, c.pick-kind.ensures)
