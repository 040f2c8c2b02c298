use Rattle.std.proofs.Common.{◌∙◌, ◌++◌, ◌∷◌, [], refl, ap, arith}
use Rattle.rebuild_plan.specs.Plan.{makes}
use Rattle.rebuild_plan.specs.declared.statement.Rebuild.TheVariants.{Make}
use Rattle.rebuild_plan.proofs.Numbered.{next_thing, no_thing}
use Rattle.rebuild_plan.proofs.planning.push_makes.Goals as goal

pub loop-number-preserved : goal.loop-number-preserved
loop-number-preserved c =
    let things = c.args.walked.now.things.keys in
    next_thing makes (λ n t. Make n t.maker ∷ []) (λ n t ts. refl) c.args.state.now things c.as_slice.result.now c.loop-number.number _ c.loop-number.plan.items c.push.new.self.items c.as_slice.ensures.keys
    (omega (arith, c.len-number-end.ensures.len, c.loop-number-test.true)) (c.in_ok-push.ensures.items ∙ ap (λ m. c.loop-number.plan.items ++ Make c.loop-number.number m ∷ []) c.in_ok-maker_of.ensures)
    ∙ c.loop-number.invariant

pub returns : goal.returns
returns c =
    no_thing makes (λ n. refl) c.args.state.now c.args.walked.now.things.keys c.loop-number.number c.loop-number.plan.items (omega (arith, c.len-number-end.ensures.len, c.loop-number-test.false)) ∙ c.loop-number.invariant
