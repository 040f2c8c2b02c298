use Rattle.page_state.proofs.Joined.{sum_is}
use Rattle.page_state.proofs.state.State.sum.Goals as goal

pub returns-then-has_text : goal.returns-then-has_text
returns-then-has_text c = rw (sum_is c.args.p.now c.args.q.now, ← c.if-has_text.ensures) c.sum_of_texts.ensures

pub returns-else-has_text : goal.returns-else-has_text
returns-else-has_text c = rw (sum_is c.args.p.now c.args.q.now, ← c.if-has_text.ensures) c.as_numbers.ensures
