use Rattle.page_host.proofs.host_name.of_nine.Goals as goal

pub returns : goal.returns
returns c = rw (c.pick.ensures, c.pick-last.ensures, c.pick-class.ensures, c.pick-stamp.ensures)
