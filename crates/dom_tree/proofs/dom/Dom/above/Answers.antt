use Rattle.std.proofs.Common.{◌≡◌, ◌++◌, ◌-◌, ◌<◌, [], ap, append-nil, arith, length, sym, ◌∙◌, subst}
use Rattle.dom_tree.specs.Node.{AreThere, above_within}
use Rattle.dom_tree.proofs.Enough.{above_none, line_step, there_too}
use Rattle.dom_tree.proofs.dom.Dom.above.Goals as goal

pub returns-in_default-clause-above : goal.returns-in_default-clause-above
returns-in_default-clause-above c =
    let t = c.args.self.now in
    let gone : above_within t (length t - c.loop-step.step) c.loop-step.at ≡ [] = ap (above_within t (length t - c.loop-step.step)) c.in_default.is ∙ above_none t (length t - c.loop-step.step) in
    sym (append-nil c.loop-step.nodes.items) ∙ ap (λ l. c.loop-step.nodes.items ++ l) (sym gone) ∙ c.loop-step.invariant.same

pub loop-step-preserved : goal.loop-step-preserved
loop-step-preserved c =
    let t = c.args.self.now in
    let below : c.loop-step.step < length t = omega (arith, c.loop-step-test.true, c.count-count.ensures.count) in
    record {
      there = c.parent-at-in-loop-step.ensures.there;
      same = rw (c.in_ok-push.ensures.items, c.parent-at-in-loop-step.ensures.parent) (line_step t (length t) c.loop-step.step c.loop-step.nodes.items c.in-Some.parent below ∙ ap (λ o. c.loop-step.nodes.items ++ above_within t (length t - c.loop-step.step) o) (sym c.in-Some.is) ∙ c.loop-step.invariant.same);
      all = subst (AreThere t) (sym c.in_ok-push.ensures.items) (there_too t c.loop-step.nodes.items c.in-Some.parent c.loop-step.invariant.all (c.loop-step.invariant.there c.in-Some.parent c.in-Some.is));
    }
