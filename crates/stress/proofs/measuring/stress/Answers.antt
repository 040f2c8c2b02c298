use Rattle.stress.proofs.Faring.{stress_gives}
use Rattle.stress.proofs.measuring.stress.Goals as goal

pub returns-in-Ok-line_of : goal.returns-in-Ok-line_of
returns-in-Ok-line_of c = record {
  gives = stress_gives c.args.parts c.law_one_answer.ensures.accepted c.law_generated_pages_are_accepted.ensures c.law_generated_lists_are_read.ensures c.requires
      c.in-Ok.session.page c.in-Ok-moved.found.0 c.in-Ok-moved.found.1
      c.in-Ok-line_of.text c.in-Ok.ensures.ok c.in-Ok-moved.ensures.ok (rw c.lines.ensures at c.in-Ok-line_of.ensures);
}
