use Rattle.builtin_text.proofs.parts.whole_text.Goals as goal

pub returns : goal.returns
returns c = rw (c.as_slice.ensures.value, c.in_ok-parts.ensures) at c.new_texts.ensures
