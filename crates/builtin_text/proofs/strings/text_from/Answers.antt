use Rattle.builtin_text.proofs.strings.text_from.Goals as goal

pub returns-then-construct : goal.returns-then-construct
returns-then-construct c = rw c.if-construct.true c.raise.ensures
