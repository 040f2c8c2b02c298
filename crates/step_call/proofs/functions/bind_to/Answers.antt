use Rattle.std.proofs.Common.{drop}
use Rattle.page_meaning.specs.ObjectRows.{argument}
use Rattle.step_call.proofs.Running.{bound_made}
use Rattle.step_call.proofs.functions.bind_to.Goals as goal

pub returns : goal.returns
returns c =
    bound_made c.args.target (argument c.args.args.now 0) (drop 1 c.args.args.now) c.in_ok-formals.formals c.in_ok-make_bound.field-0 c.args.state.now c.make_bound.new.state
    c.in_ok-formals.ensures (rw (c.in_ok-this.ensures, c.in_ok-own.ensures, c.arguments_from.ensures) at c.in_ok-make_bound.ensures)
