use Rattle.builtin_list.proofs.joining.append.Goals as goal

pub returns-then-not-are_short : goal.returns-then-not-are_short
returns-then-not-are_short c =
    let long = rw (c.as_slice.ensures.value) at c.if-not-are_short.ensures in rw (← long) c.raise.ensures
