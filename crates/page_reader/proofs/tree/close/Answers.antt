use Rattle.std.proofs.Common.{arith, sym}
use Rattle.page_reader.proofs.Steps.{none_left, other_name, popped, same_name}
use Rattle.page_reader.proofs.tree.close.Goals as goal

pub returns-then-not-is_same : goal.returns-then-not-is_same
returns-then-not-is_same c = other_name _ _ (sym c.if-not-is_same.ensures)

pub returns-in-Some : goal.returns-in-Some
returns-in-Some c = (same_name _ _ (sym c.if-not-is_same.ensures), popped _ _ _ c.in-Some.ensures.items)

pub returns-in-None : goal.returns-in-None
returns-in-None c = (same_name _ _ (sym c.if-not-is_same.ensures), none_left c.args.below.now.items (omega (arith, c.args.below.now.ok.0, c.in-None.ensures.cases.0)))
