use Rattle.page_state.proofs.Putting.{same_after_text}
use Rattle.page_state.proofs.state.State.text_put.Goals as goal

pub returns : goal.returns
returns c = record {
  text = c.to_text.ensures;
  same = same_after_text c.args.value.now c.args.self.now c.to_text.new.self c.to_text.result c.to_text.ensures;
}
