use Rattle.std.proofs.Common.{◌∙◌, refl, arith}
use Rattle.rebuild_plan.specs.Plan.{each, statements_of, thing_place}
use Rattle.rebuild_plan.proofs.Numbered.{next_thing, no_thing}
use Rattle.rebuild_plan.proofs.planning.push_each.Goals as goal

pub loop-number-preserved : goal.loop-number-preserved
loop-number-preserved c =
    let things = c.args.walked.now.things.keys in
    next_thing (each c.args.phase) (λ n t. statements_of c.args.phase (thing_place n) t) (λ n t ts. refl) c.args.state.now things c.as_slice.result.now c.loop-number.number _ c.loop-number.plan.items c.push_thing.new.plan.items c.as_slice.ensures.keys
    (omega (arith, c.len-number-end.ensures.len, c.loop-number-test.true)) c.in_ok-push_thing.ensures
    ∙ c.loop-number.invariant

pub returns : goal.returns
returns c =
    no_thing (each c.args.phase) (λ n. refl) c.args.state.now c.args.walked.now.things.keys c.loop-number.number c.loop-number.plan.items (omega (arith, c.len-number-end.ensures.len, c.loop-number-test.false)) ∙ c.loop-number.invariant
