use Rattle.std.proofs.Common.{◌≡◌, ◌∷◌, ◌<◌, ◌∙◌, [], ap, arith, length, subst, sym}
use Rattle.dom_tree.specs.Change.{all_taken_out, taken_out}
use Rattle.dom_tree.specs.Node.{children_at, rest_after}
use Rattle.dom_tree.proofs.Emptying.{first_out}
use Rattle.dom_tree.proofs.Kids.{begins_with, is_empty}
use Rattle.dom_tree.proofs.Taken.{left}
use Rattle.dom_tree.proofs.dom.Dom.remove_children.Goals as goal

pub loop-child-smaller : goal.loop-child-smaller
loop-child-smaller c =
    let t = c.loop-child.self in
    let l = children_at t c.args.node.0 in
    let whole : l ≡ c.in-Some.child ∷ rest_after c.in-Some.child.0 l = begins_with l c.in-Some.child c.in-Some.ensures.first in
    let after : children_at c.take_out.new.self c.args.node.0 ≡ rest_after c.in-Some.child.0 l = ap (λ u. children_at u c.args.node.0) c.take_out.ensures ∙ first_out t c.args.node.0 c.in-Some.child (rest_after c.in-Some.child.0 l) c.recall_sound.ensures.trees whole in
    let less : length (children_at c.take_out.new.self c.args.node.0) < length l = omega (arith, ap length after, ap length whole) in
    less

pub loop-child-preserved : goal.loop-child-preserved
loop-child-preserved c =
    let t = c.loop-child.self in
    let l = children_at t c.args.node.0 in
    let whole : l ≡ c.in-Some.child ∷ rest_after c.in-Some.child.0 l = begins_with l c.in-Some.child c.in-Some.ensures.first in
    let after : children_at (taken_out t c.in-Some.child) c.args.node.0 ≡ rest_after c.in-Some.child.0 l = first_out t c.args.node.0 c.in-Some.child (rest_after c.in-Some.child.0 l) c.recall_sound.ensures.trees whole in
    let long : length c.take_out.new.self ≡ length t = ap length c.take_out.ensures ∙ (left t c.in-Some.child c.recall_sound.ensures.trees).long in
    record {
      there = subst (λ n. c.args.node.0 < n) (sym long) c.loop-child.invariant.there;
      same =
          ap (λ u. all_taken_out u (children_at u c.args.node.0)) c.take_out.ensures ∙ ap (all_taken_out (taken_out t c.in-Some.child)) after
          ∙ ap (all_taken_out t) (sym whole) ∙ c.loop-child.invariant.same;
    }

pub returns : goal.returns
returns c =
    let none : children_at c.loop-child.self c.args.node.0 ≡ [] = is_empty (children_at c.loop-child.self c.args.node.0) (sym c.first_child.ensures.first ∙ c.in_default.is) in
    sym (ap (all_taken_out c.loop-child.self) none) ∙ c.loop-child.invariant.same
