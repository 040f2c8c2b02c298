use Rattle.step_parts.proofs.Callers.{goes_then}
use Rattle.step_parts.proofs.parts.await_part.Goals as goal

pub returns : goal.returns
returns c k w m e = rw (c.in_ok-boxed.ensures, c.in_ok-part.ensures) (goes_then c.args.spot c.args.turn c.args.got k c.args.number w m e)
