use Rattle.std.proofs.Common.{sym, subst}
use Rattle.dom_tree.specs.Node.{children_at}
use Rattle.heap_walker.proofs.Siblings.{IsSplit, split_begins, split_ends, split_goes_on, split_there}
use Rattle.heap_walker.proofs.nodes.push_children.Goals as goal

pub loop-at-init : goal.loop-at-init
loop-at-init c =
    let all = children_at c.args.dom.now c.args.node.0 in
    subst (λ l. IsSplit l c.first_child-at.result all) (sym c.requires.none) (split_begins all c.first_child-at.result c.first_child-at.ensures.first)

pub next-at-requires : goal.next-at-requires
next-at-requires c =
    split_there c.args.dom.now c.count-count.ensures.sound.trees c.args.node.0 c.loop-at.nodes.items c.in-Some.child
    (subst (λ o. IsSplit c.loop-at.nodes.items o (children_at c.args.dom.now c.args.node.0)) c.in-Some.is c.loop-at.invariant)

pub loop-at-preserved : goal.loop-at-preserved
loop-at-preserved c =
    let all = children_at c.args.dom.now c.args.node.0 in
    subst (λ l. IsSplit l c.next-at.result all) (sym c.in_ok-push.ensures.items)
    (split_goes_on c.args.dom.now c.count-count.ensures.sound.trees c.args.node.0 c.loop-at.nodes.items c.in-Some.child
    (subst (λ o. IsSplit c.loop-at.nodes.items o all) c.in-Some.is c.loop-at.invariant) c.next-at.result c.next-at.ensures.next)

pub returns : goal.returns
returns c =
    let all = children_at c.args.dom.now c.args.node.0 in
    split_ends c.loop-at.nodes.items all (subst (λ o. IsSplit c.loop-at.nodes.items o all) c.in_default.is c.loop-at.invariant)
