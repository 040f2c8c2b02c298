use Rattle.std.proofs.Common.{sym, ◌∙◌}
use Rattle.new_lists.proofs.Lengths.{lone_is, many}
use Rattle.new_lists.proofs.lists.list_from.Goals as goal

pub returns-in-Some : goal.returns-in-Some
returns-in-Some c = rw (lone_is c.args.values.now c.in-Some.length (sym c.lone_number.ensures ∙ c.in-Some.is)) c.list_of_length.ensures

pub returns-in-None : goal.returns-in-None
returns-in-None c = rw (many c.args.values.now (sym c.lone_number.ensures ∙ c.in-None.is)) c.list_of.ensures
