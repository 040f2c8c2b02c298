use Rattle.step_parts.proofs.Callers.{awaits_node}
use Rattle.step_parts.proofs.parts.await_statement.Goals as goal

pub returns : goal.returns
returns c w m = rw (c.in_ok-boxed.ensures, c.in_ok-part.ensures) (awaits_node c.args.spot c.args.turn c.args.kept c.args.number w m)
