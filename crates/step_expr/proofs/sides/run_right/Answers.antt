use Rattle.std.proofs.Common.{ap, ◌∙◌, subst, List, [], ◌∷◌, ◌++◌, IfOk}
use Rattle.code_table.specs.Kind.{kind_of}
use Rattle.js_values.specs.declared.value.Value.{Value}
use Rattle.page_frames.specs.Step.{Goes}
use Rattle.page_frames.specs.Where.{spot_node}
use Rattle.step_expr.proofs.sides.run_right.Goals as goal

pub returns : goal.returns
returns c =
    subst (λ (got : List Value). IfOk c.run_part.result (λ n. Goes c.args.spot (kind_of (spot_node c.args.spot)) 1 got 1 c.args.state.now c.args.meter.now n))
    (c.in_ok-push.ensures.ok ∙ ap (λ got. got ++ c.args.value ∷ []) c.new-got.ensures) c.run_part.ensures
