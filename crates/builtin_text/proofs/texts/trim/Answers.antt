use Rattle.builtin_text.proofs.texts.trim.Goals as goal

pub returns : goal.returns
returns c = rw (c.trimmed.ensures, c.as_slice.ensures.value) at c.give_text.ensures
