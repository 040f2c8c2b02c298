use Rattle.std.proofs.Common.{◌≡◌, ◌∙◌, ◌<◌, ap, not, sym, true, false, length, nat_eq, refl, arith}
use Rattle.std.proofs.lemmas.Bool.{ne_eqb}
use Rattle.std.specs.Option.{is_none}
use Rattle.dom_tree.specs.Node.{children_at, first_of}
use Rattle.dom_tree.proofs.Moves.{above_itself, above_more, childless}
use Rattle.dom_tree.proofs.dom.Dom.is_above.Goals as goal

pub returns-then-is_none : goal.returns-then-is_none
returns-then-is_none c =
    let none : is_none (first_of (children_at c.args.self.now c.args.node.0)) ≡ true = ap is_none (sym c.first_child.ensures.first) ∙ ap not c.if-is_none.ensures in
    sym (above_itself c.args.self.now c.count-count.ensures.sound.trees c.args.node.0 c.args.at.0 (omega (arith, c.requires.at)) (childless (children_at c.args.self.now c.args.node.0) none))

pub loop-step-preserved : goal.loop-step-preserved
loop-step-preserved c =
    let ne : nat_eq c.args.node.0 c.loop-step.at.0 ≡ false = ne_eqb c.args.node.0 c.loop-step.at.0 c.if-node-at.false in
    let below : c.loop-step.step < length c.args.self.now = omega (arith, c.loop-step-test.true, c.count-count.ensures.count) in
    record {
      there = c.in-Some.ensures.there c.in-Some.parent refl;
      same = sym (above_more c.args.self.now (length c.args.self.now) c.loop-step.step c.args.node.0 c.loop-step.at.0 c.in-Some.parent below ne (sym c.in-Some.ensures.parent)) ∙ c.loop-step.invariant.same;
    }
