use Rattle.builtin_text.proofs.parts.split_at.Goals as goal

pub returns : goal.returns
returns c = rw (c.as_slice-3.ensures.value, c.in_ok-parts.ensures, c.as_slice.ensures.value, c.as_slice-2.ensures.value) at c.list_of_parts.ensures
