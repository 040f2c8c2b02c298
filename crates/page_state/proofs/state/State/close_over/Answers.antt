use Rattle.page_state.proofs.NewFunctions.{closed_as, closed_unnamed}
use Rattle.page_state.proofs.state.State.close_over.Goals as goal

pub returns-in-None : goal.returns-in-None
returns-in-None c =
    closed_unnamed c.args.code c.args.env c.args.self.now c.make_function.new.self c.in_ok-own_name.field-0 c.make_function.result c.in_ok-own_name.ensures c.in-None.is c.make_function.ensures

pub returns-in-Some : goal.returns-in-Some
returns-in-Some c =
    closed_as c.args.code c.args.env c.args.self.now c.close_named.new.self c.in_ok-own_name.field-0 c.in-Some.name c.close_named.result c.in_ok-own_name.ensures c.in-Some.is c.close_named.ensures
