use Rattle.std.proofs.Common.{◌≡◌, ◌<◌, Some, length, subst, sym, ap, ◌∙◌, arith}
use Rattle.std.proofs.lemmas.List.{with_items_is}
use Rattle.std.specs.Vec.{with_items}
use Rattle.dom_tree.specs.Links.{AreLinked, linked_out, nodes_of}
use Rattle.dom_tree.specs.Node.{parent_at}
use Rattle.dom_tree.proofs.Calls.{after_there, before_there, took, within}
use Rattle.dom_tree.proofs.Neighbours.{parent_in_range, read_parent}
use Rattle.dom_tree.proofs.dom.Dom.take_out.Goals as goal

pub link_out-requires-clause-parent : goal.link_out-requires-clause-parent
link_out-requires-clause-parent c =
    let low : c.in-Some.parent.0 < length c.args.self.now = parent_in_range c.self.inside.nodes.items c.self.inside.top c.args.self.now c.self.invariant c.self.view_is c.args.child c.index.result.now c.requires c.index.ensures c.in-Some.parent c.in-Some.is in
    rw c.as_mut_slice.ensures.value (within c.self.inside.nodes.items c.self.inside.top c.args.self.now c.self.invariant c.self.view_is c.in-Some.parent.0 low)

pub link_out-requires-clause-before : goal.link_out-requires-clause-before
link_out-requires-clause-before c =
    let up : parent_at c.args.self.now c.args.child.0 ≡ Some c.in-Some.parent = sym (read_parent c.self.inside.nodes.items c.self.inside.top c.args.self.now c.self.invariant c.self.view_is c.args.child c.index.result.now c.requires c.index.ensures) ∙ c.in-Some.is in
    rw c.as_mut_slice.ensures.value (before_there c.self.inside.nodes.items c.self.inside.top c.args.self.now c.self.invariant c.self.view_is c.in-Some.parent c.args.child up)

pub link_out-requires-clause-after : goal.link_out-requires-clause-after
link_out-requires-clause-after c =
    let up : parent_at c.args.self.now c.args.child.0 ≡ Some c.in-Some.parent = sym (read_parent c.self.inside.nodes.items c.self.inside.top c.args.self.now c.self.invariant c.self.view_is c.args.child c.index.result.now c.requires c.index.ensures) ∙ c.in-Some.is in
    rw c.as_mut_slice.ensures.value (after_there c.self.inside.nodes.items c.self.inside.top c.args.self.now c.self.invariant c.self.view_is c.in-Some.parent c.args.child up)

pub invariant_of-self : goal.invariant_of-self
invariant_of-self c =
    let up : parent_at c.args.self.now c.args.child.0 ≡ Some c.in-Some.parent = sym (read_parent c.self.inside.nodes.items c.self.inside.top c.args.self.now c.self.invariant c.self.view_is c.args.child c.index.result.now c.requires c.index.ensures) ∙ c.in-Some.is in
    let items : (with_items c.self.inside.nodes c.link_out.new.nodes).items ≡ c.link_out.new.nodes = with_items_is c.self.inside.nodes c.link_out.new.nodes (omega (arith, c.link_out.auto.nodes, c.as_mut_slice.ensures.len)) in
    let whole : (with_items c.self.inside.nodes c.link_out.new.nodes).items ≡ linked_out c.self.inside.nodes.items c.in-Some.parent.0 c.args.child =
    items ∙ c.link_out.ensures ∙ ap (λ z. linked_out z c.in-Some.parent.0 c.args.child) c.as_mut_slice.ensures.value
    in
    subst (λ z. AreLinked z c.top_without-self-inside.result) (sym whole) (subst (AreLinked (linked_out c.self.inside.nodes.items c.in-Some.parent.0 c.args.child)) (sym c.top_without-self-inside.ensures) (took c.self.inside.nodes.items c.self.inside.top c.args.self.now c.self.invariant c.self.view_is c.in-Some.parent c.args.child up).1)

pub returns : goal.returns
returns c =
    let up : parent_at c.args.self.now c.args.child.0 ≡ Some c.in-Some.parent = sym (read_parent c.self.inside.nodes.items c.self.inside.top c.args.self.now c.self.invariant c.self.view_is c.args.child c.index.result.now c.requires c.index.ensures) ∙ c.in-Some.is in
    let items : (with_items c.self.inside.nodes c.link_out.new.nodes).items ≡ c.link_out.new.nodes = with_items_is c.self.inside.nodes c.link_out.new.nodes (omega (arith, c.link_out.auto.nodes, c.as_mut_slice.ensures.len)) in
    let whole : (with_items c.self.inside.nodes c.link_out.new.nodes).items ≡ linked_out c.self.inside.nodes.items c.in-Some.parent.0 c.args.child =
    items ∙ c.link_out.ensures ∙ ap (λ z. linked_out z c.in-Some.parent.0 c.args.child) c.as_mut_slice.ensures.value
    in
    ap nodes_of whole ∙ (took c.self.inside.nodes.items c.self.inside.top c.args.self.now c.self.invariant c.self.view_is c.in-Some.parent c.args.child up).0
