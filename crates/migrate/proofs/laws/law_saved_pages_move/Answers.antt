use Rattle.migrate.proofs.Moves.{saved_pages_move}
use Rattle.migrate.proofs.laws.law_saved_pages_move.Goals as goal

pub returns : goal.returns
returns c = saved_pages_move record {
  one = c.law_one_answer.ensures.accepted;
  plain = c.law_accepted_pages_are_plain.ensures;
  formed = c.law_accepted_scripts_are_in_form.ensures;
  moved = c.law_moved_pages_go_on.ensures;
  accepted = c.law_opened_pages_are_accepted.ensures;
  same = c.law_opened_pages_put_out_the_same.ensures;
}
