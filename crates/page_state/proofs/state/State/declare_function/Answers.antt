use Rattle.code_table.specs.Table.{declared_as}
use Rattle.page_state.proofs.Entering.{declared_named}
use Rattle.page_state.proofs.state.State.declare_function.Goals as goal

pub returns-in_ok-at-in-Some : goal.returns-in_ok-at-in-Some
returns-in_ok-at-in-Some c =
    declared_named c.args.env (declared_as c.args.declared.now) c.in-Some.name c.in_ok-clone-in-Some.field-0 c.in_ok-at-in-Some.at c.args.self.now c.make_function.new.self c.bind_name.new.self
    c.in-Some.is c.in_ok-clone-in-Some.ensures c.in_ok-at-in-Some.ensures c.bind_name.ensures
