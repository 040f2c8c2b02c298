use Rattle.page_state.proofs.Putting.{attribute_taken, text_taken}
use Rattle.page_state.proofs.puts.taking_of.Goals as goal

pub returns-in-Id : goal.returns-in-Id
returns-in-Id c calls k v = attribute_taken c.args.host c.args.kind.now calls k v c.in-Id.is

pub returns-in-Value : goal.returns-in-Value
returns-in-Value c calls k v = text_taken c.args.host c.args.kind.now calls k v c.in-Value.is
