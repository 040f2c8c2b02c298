use Rattle.code_table.specs.Declarations.{variables_of}
use Rattle.code_table.specs.Node.{body_of}
use Rattle.page_state.proofs.TopNames.{variables_as}
use Rattle.page_state.proofs.state.State.global_variables.Goals as goal

pub returns : goal.returns
returns c =
    variables_as c.variables.result.now (variables_of (body_of c.args.code.now)) c.args.self.now c.place_all.new.self c.place_all.result c.variables.ensures c.place_all.ensures
