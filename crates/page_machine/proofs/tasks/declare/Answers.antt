use Rattle.code_table.specs.Declarations.{functions_of, variables_of}
use Rattle.code_table.specs.Node.{body_of}
use Rattle.js_values.specs.declared.value.Value.TheVariants.{Undefined}
use Rattle.page_meaning.specs.Functions.{declare_globals, global_variables}
use Rattle.page_state.specs.Does.{no_value}
use Rattle.page_state.proofs.Callers.{also_gives, failed}
use Rattle.page_machine.proofs.tasks.declare.Goals as goal

pub returns-in_err-declare_globals : goal.returns-in_err-declare_globals
returns-in_err-declare_globals c =
    failed (λ _. declare_globals (functions_of (body_of c.args.code.now))) (λ _ _. global_variables (variables_of (body_of c.args.code.now))) no_value
    c.args.state.now c.declare_globals.new.self c.in_err-declare_globals.field-0.0 c.from_residual.result c.in_err-declare_globals.ensures c.from_residual.ensures

pub returns : goal.returns
returns c =
    also_gives (λ _. declare_globals (functions_of (body_of c.args.code.now))) (λ _ _. global_variables (variables_of (body_of c.args.code.now))) no_value
    Undefined c.args.state.now c.declare_globals.new.self c.global_variables.new.self c.global_variables.result c.in_ok-declare_globals.ensures c.global_variables.ensures
