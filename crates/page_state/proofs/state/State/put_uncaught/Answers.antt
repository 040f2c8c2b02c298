use Rattle.page_state.proofs.LineTexts.{uncaught_put}
use Rattle.page_state.proofs.state.State.put_uncaught.Goals as goal

pub returns-in_ok-text-in-Thrown : goal.returns-in_ok-text-in-Thrown
returns-in_ok-text-in-Thrown c =
    rw c.in-Thrown.is
    (uncaught_put c.in-Thrown.value c.in_ok-text-in-Thrown.text c.args.self.now c.put_line.new.self c.put_line.result c.in_ok-text-in-Thrown.ensures c.put_line.ensures)
