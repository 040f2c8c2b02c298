use Rattle.std.proofs.Common.{sym, ◌∙◌}
use Rattle.builtin_text.proofs.strings.give_text.Goals as goal

pub returns-else-is_short : goal.returns-else-is_short
returns-else-is_short c = rw (sym c.is_short.ensures ∙ c.if-is_short.false) c.raise.ensures
