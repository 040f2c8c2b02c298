use Rattle.builtin_text.proofs.texts.to_upper_case.Goals as goal

pub returns : goal.returns
returns c = rw (c.as_slice-2.ensures.value, c.in_ok-units.ensures, c.as_slice.ensures.value) at c.give_text.ensures
