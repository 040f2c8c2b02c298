use Rattle.std.proofs.Common.{◌≡◌, ◌∷◌, ◌<◌, ◌∙◌, ap, arith, length, sym}
use Rattle.dom_tree.specs.Node.{children_at, rest_after}
use Rattle.dom_tree.specs.Trees.{first_named}
use Rattle.dom_tree.proofs.Kids.{first_among, from_first, from_next, from_on, named_past, next_among}
use Rattle.dom_tree.proofs.Trees.{child_in}
use Rattle.dom_tree.proofs.dom.Dom.child_named.Goals as goal

pub loop-at-init : goal.loop-at-init
loop-at-init c =
    let l = children_at c.args.self.now c.args.node.0 in
    record {
      among = λ x e. first_among l x (sym c.first_child-at.ensures.first ∙ e);
      same = ap (λ o. first_named c.args.self.now c.args.name.now (from_on o l)) c.first_child-at.ensures.first ∙ ap (first_named c.args.self.now c.args.name.now) (from_first l);
    }

pub is_named-requires : goal.is_named-requires
is_named-requires c = child_in c.args.self.now c.recall_sound.ensures.trees c.args.node.0 c.in-Some.child.0 (c.loop-at.invariant.among c.in-Some.child c.in-Some.is)

pub next-at-requires : goal.next-at-requires
next-at-requires c = child_in c.args.self.now c.recall_sound.ensures.trees c.args.node.0 c.in-Some.child.0 (c.loop-at.invariant.among c.in-Some.child c.in-Some.is)

pub loop-at-smaller : goal.loop-at-smaller
loop-at-smaller c =
    let l = children_at c.args.self.now c.args.node.0 in
    let i = c.loop-at.invariant.among c.in-Some.child c.in-Some.is in
    let after : from_on c.next-at.result l ≡ rest_after c.in-Some.child.0 l = ap (λ o. from_on o l) c.next-at.ensures.next ∙ from_next c.args.self.now c.recall_sound.ensures.trees c.args.node.0 c.in-Some.child i in
    let before : from_on c.loop-at.at l ≡ c.in-Some.child ∷ rest_after c.in-Some.child.0 l = ap (λ o. from_on o l) c.in-Some.is in
    let less : length (from_on c.next-at.result l) < length (from_on c.loop-at.at l) = omega (arith, ap length after, ap length before) in
    less

pub loop-at-preserved : goal.loop-at-preserved
loop-at-preserved c =
    let t = c.args.self.now in
    let l = children_at c.args.self.now c.args.node.0 in
    let i = c.loop-at.invariant.among c.in-Some.child c.in-Some.is in
    let after : from_on c.next-at.result l ≡ rest_after c.in-Some.child.0 l = ap (λ o. from_on o l) c.next-at.ensures.next ∙ from_next t c.recall_sound.ensures.trees c.args.node.0 c.in-Some.child i in
    let before : from_on c.loop-at.at l ≡ c.in-Some.child ∷ rest_after c.in-Some.child.0 l = ap (λ o. from_on o l) c.in-Some.is in
    record {
      among = λ x e. next_among t c.recall_sound.ensures.trees c.args.node.0 c.in-Some.child i x (sym c.next-at.ensures.next ∙ e);
      same =
          ap (first_named t c.args.name.now) after
          ∙ sym (named_past t c.args.name.now c.in-Some.child (rest_after c.in-Some.child.0 l) (sym c.is_named.ensures ∙ c.if-is_named.false))
          ∙ ap (first_named t c.args.name.now) (sym before) ∙ c.loop-at.invariant.same;
    }
