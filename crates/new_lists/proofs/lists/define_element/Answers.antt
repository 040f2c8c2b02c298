use Rattle.new_lists.proofs.lists.define_element.Goals as goal

pub returns : goal.returns
returns c = rw (c.in_ok-name.ensures, c.in_ok-clone.ensures) at c.define_whole.ensures
