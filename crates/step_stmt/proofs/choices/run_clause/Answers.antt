use Rattle.step_stmt.proofs.Choosing.{caught}
use Rattle.step_stmt.proofs.choices.run_clause.Goals as goal

pub returns : goal.returns
returns c = rw (c.in_ok-boxed.ensures, c.in_ok-clause.ensures) (caught c.args.spot c.args.name.now c.args.value c.in_ok-env.env c.part-number.result c.args.state.now c.make_environment.new.self c.args.meter.now c.requires c.part-number.ensures (rw (c.in_ok-push.ensures.items, c.new-names.ensures.items, c.in_ok-clone.ensures, c.env.ensures) at c.in_ok-env.ensures))
