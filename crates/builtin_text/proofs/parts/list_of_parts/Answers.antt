use Rattle.std.proofs.Common.{sym, ◌∙◌}
use Rattle.builtin_text.proofs.parts.list_of_parts.Goals as goal

pub returns-then-are_short : goal.returns-then-are_short
returns-then-are_short c = rw (sym c.are_short.ensures ∙ c.if-are_short.true) c.new_texts.ensures

pub returns-else-are_short : goal.returns-else-are_short
returns-else-are_short c = rw (sym c.are_short.ensures ∙ c.if-are_short.false) c.raise.ensures
