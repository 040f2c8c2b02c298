use Rattle.std.proofs.Common.{map}
use Rattle.code_table.specs.Declarations.{functions_of}
use Rattle.code_table.specs.Node.{body_of}
use Rattle.code_table.specs.Table.{declared_as}
use Rattle.page_state.proofs.TopNames.{globals_as}
use Rattle.page_state.proofs.state.State.declare_globals.Goals as goal

pub returns : goal.returns
returns c =
    globals_as (map declared_as c.functions.result.now) (functions_of (body_of c.args.code.now)) c.args.self.now c.declare_all.new.self c.declare_all.result
    c.functions.ensures c.declare_all.ensures
