use Rattle.std.proofs.Common.{rules}
use Rattle.stress.proofs.Faring.{moved_if, unmoved_if}
use Rattle.stress.proofs.measuring.moved.Goals as goal

pub returns-clause-ok : goal.returns-clause-ok
returns-clause-ok c =
    moved_if c.args.parts c.law_saved_pages_move.ensures
    c.in-Ok.made.0 c.in-Ok.made.1.items c.in-Ok.ensures.ok c.in-Ok.ensures.sound _ _ c.move_page.result (search rules) (search rules) c.move_page.ensures.ok

pub returns-clause-stops : goal.returns-clause-stops
returns-clause-stops c =
    unmoved_if c.args.parts c.law_saved_pages_move.ensures
    c.in-Ok.made.0 c.in-Ok.made.1.items c.in-Ok.ensures.ok c.in-Ok.ensures.sound c.law_one_answer.ensures.not_both _ c.move_page.result (search rules) c.move_page.ensures.stops
