use Rattle.std.proofs.Common.{sym}
use Rattle.new_lists.proofs.Lengths.{long, short}
use Rattle.new_lists.proofs.lists.list_of_length.Goals as goal

pub returns-then-is_a_length : goal.returns-then-is_a_length
returns-then-is_a_length c = rw (long c.args.length (sym c.if-is_a_length.ensures)) c.sized_list.ensures

pub returns-else-is_a_length : goal.returns-else-is_a_length
returns-else-is_a_length c = rw (short c.args.length (sym c.if-is_a_length.ensures)) c.raise.ensures
