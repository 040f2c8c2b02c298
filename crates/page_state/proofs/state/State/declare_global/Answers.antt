use Rattle.code_table.specs.Table.{declared_as}
use Rattle.page_state.proofs.TopNames.{global_named}
use Rattle.page_state.proofs.state.State.declare_global.Goals as goal

pub returns-in_ok-at-in-Some : goal.returns-in_ok-at-in-Some
returns-in_ok-at-in-Some c =
    global_named (declared_as c.args.declared.now) c.in-Some.name c.in_ok-clone-in-Some.field-0 c.in_ok-at-in-Some.at c.args.self.now c.make_function.new.self c.put_global.new.self c.put_global.result
    c.in-Some.is c.in_ok-clone-in-Some.ensures c.in_ok-at-in-Some.ensures c.put_global.ensures
