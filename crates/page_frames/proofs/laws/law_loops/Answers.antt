use Rattle.page_frames.proofs.Loops.{loop_turns}
use Rattle.page_frames.proofs.laws.law_loops.Goals as goal

pub returns : goal.returns
returns c = loop_turns
