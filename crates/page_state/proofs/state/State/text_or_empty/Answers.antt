use Rattle.page_state.proofs.Putting.{empty_gives}
use Rattle.page_state.proofs.state.State.text_or_empty.Goals as goal

pub returns-in_default : goal.returns-in_default
returns-in_default c = record {
  text = empty_gives c.args.value.now c.args.self.now c.text_put.new.self c.text_put.result c.in_default.not-Null c.text_put.ensures.text;
  same = c.text_put.ensures.same;
}
