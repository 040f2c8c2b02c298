use Rattle.std.proofs.Common.{map}
use Rattle.code_table.specs.Table.{declared_as}
use Rattle.page_state.proofs.Entering.{entered_all}
use Rattle.page_state.proofs.state.State.enter.Goals as goal

pub returns : goal.returns
returns c =
    entered_all c.args.code.now c.args.env c.args.arguments.now c.in_ok-names.names.items (map declared_as c.functions.result.now) c.in_ok-at.at c.args.self.now c.make_environment.new.self c.declare_functions.new.self
    c.in_ok-names.ensures c.functions.ensures c.in_ok-at.ensures c.in_ok-declare_functions.ensures
