use Rattle.std.proofs.Common.{sym, ◌∙◌}
use Rattle.builtin_text.proofs.strings.append.Goals as goal

pub returns-else-are_short : goal.returns-else-are_short
returns-else-are_short c =
    let short = rw c.as_slice.ensures.value at c.are_short.ensures in
    rw (sym short ∙ c.if-are_short.false) c.raise.ensures
