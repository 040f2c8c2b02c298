use Rattle.builtin_list.proofs.ends.push.Goals as goal

pub returns : goal.returns
returns c =
    rw (c.in_ok-longer.ensures) at c.put_all.ensures
