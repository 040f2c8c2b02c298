use Rattle.std.proofs.Common.{[], ◌∷◌}
use Rattle.code_table.specs.Kind.{kind_of}
use Rattle.js_values.specs.declared.value.Value.TheVariants.{Undefined}
use Rattle.page_meaning.specs.Act.{also}
use Rattle.page_frames.specs.RestCalls.{args_from}
use Rattle.page_frames.specs.Weight.{weigh}
use Rattle.page_frames.specs.Where.{here_of, spot_node}
use Rattle.page_state.proofs.Callers.{also_raises}
use Rattle.step_call.specs.Arguments.{arg_part}
use Rattle.step_call.proofs.callees.with_property.Goals as goal

pub returns-in-Err : goal.returns-in-Err
returns-in-Err c act s g =
    let at = spot_node c.args.spot in
    c.give.ensures (λ calls. also (act calls) (λ f. args_from calls (here_of c.args.spot) at (c.args.this ∷ f ∷ []))) s c.args.state.now
    (weigh at (arg_part (kind_of at) (c.args.this ∷ Undefined ∷ []))) c.args.meter.now
    (also_raises act (λ calls f. args_from calls (here_of c.args.spot) at (c.args.this ∷ f ∷ [])) s c.args.state.now c.in-Err.fault (rw c.in-Err.is at g))
