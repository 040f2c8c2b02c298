use Rattle.std.proofs.Common.{◌≡◌, ◌&&◌, length, subst, sym, ap, ◌∙◌, arith}
use Rattle.std.proofs.lemmas.List.{with_items_is}
use Rattle.std.specs.Vec.{with_items}
use Rattle.dom_tree.specs.declared.content.Content.{Content}
use Rattle.dom_tree.specs.Fits.{top_with}
use Rattle.dom_tree.specs.Links.{AreLinked, backward, linked_in, nodes_of, place_of}
use Rattle.dom_tree.specs.Node.{is_document, is_element, kind_at, node_at}
use Rattle.dom_tree.proofs.Calls.{behind_there, put}
use Rattle.dom_tree.proofs.Neighbours.{read_content}
use Rattle.dom_tree.proofs.dom.Dom.put_under.Goals as goal

pub link_in-requires-clause-before : goal.link_in-requires-clause-before
link_in-requires-clause-before c =
    let behind : c.backward-behind.result ≡ backward c.self.inside.nodes.items (place_of c.args.parent.0 c.args.before) =
    c.backward-behind.ensures ∙ ap (λ z. backward z (place_of c.args.parent.0 c.args.before)) c.as_slice.ensures.value
    in
    rw (c.as_mut_slice.ensures.value, behind) (behind_there c.self.inside.nodes.items c.self.inside.top c.args.self.now c.self.invariant c.self.view_is c.args.parent c.args.child c.args.before (length c.args.self.now) c.requires.ready)

pub invariant_of-self : goal.invariant_of-self
invariant_of-self c =
    let behind : c.backward-behind.result ≡ backward c.self.inside.nodes.items (place_of c.args.parent.0 c.args.before) =
    c.backward-behind.ensures ∙ ap (λ z. backward z (place_of c.args.parent.0 c.args.before)) c.as_slice.ensures.value
    in
    let items : (with_items c.self.inside.nodes c.link_in.new.nodes).items ≡ c.link_in.new.nodes = with_items_is c.self.inside.nodes c.link_in.new.nodes (omega (arith, c.link_in.auto.nodes, c.as_mut_slice.ensures.len)) in
    let whole : (with_items c.self.inside.nodes c.link_in.new.nodes).items ≡ linked_in c.self.inside.nodes.items c.args.parent.0 (backward c.self.inside.nodes.items (place_of c.args.parent.0 c.args.before)) c.args.child c.args.before =
    items ∙ c.link_in.ensures ∙ ap (λ z. linked_in z c.args.parent.0 c.backward-behind.result c.args.child c.args.before) c.as_mut_slice.ensures.value ∙ ap (λ z. linked_in c.self.inside.nodes.items c.args.parent.0 z c.args.child c.args.before) behind
    in
    let holder : c.index.result.now.content ≡ (node_at c.args.self.now c.args.parent.0).content = read_content c.self.inside.nodes.items c.self.inside.top c.args.self.now c.self.invariant c.self.view_is c.args.parent c.index.result.now c.requires.parent c.index.ensures in
    let child : c.index-2.result.now.content ≡ (node_at c.args.self.now c.args.child.0).content = read_content c.self.inside.nodes.items c.self.inside.top c.args.self.now c.self.invariant c.self.view_is c.args.child c.index-2.result.now c.requires.child c.index-2.ensures in
    let gets : c.gets_element-gets.result ≡ is_document (kind_at c.args.self.now c.args.parent.0) && is_element (kind_at c.args.self.now c.args.child.0) =
    c.gets_element-gets.ensures ∙ ap (λ (z : Content). is_document z.kind && is_element c.index-2.result.now.content.kind) holder
    ∙ ap (λ (z : Content). is_document (kind_at c.args.self.now c.args.parent.0) && is_element z.kind) child
    in
    let top : c.top_with-self-inside.result ≡ top_with c.args.child (is_document (kind_at c.args.self.now c.args.parent.0) && is_element (kind_at c.args.self.now c.args.child.0)) c.self.inside.top =
    c.top_with-self-inside.ensures ∙ ap (λ z. top_with c.args.child z c.self.inside.top) gets
    in
    subst (λ z. AreLinked z c.top_with-self-inside.result) (sym whole)
    (subst (AreLinked (linked_in c.self.inside.nodes.items c.args.parent.0 (backward c.self.inside.nodes.items (place_of c.args.parent.0 c.args.before)) c.args.child c.args.before)) (sym top) (put c.self.inside.nodes.items c.self.inside.top c.args.self.now c.self.invariant c.self.view_is c.args.parent c.args.child c.args.before (length c.args.self.now) c.requires.parent c.requires.child c.requires.ready).1)

pub returns : goal.returns
returns c =
    let behind : c.backward-behind.result ≡ backward c.self.inside.nodes.items (place_of c.args.parent.0 c.args.before) =
    c.backward-behind.ensures ∙ ap (λ z. backward z (place_of c.args.parent.0 c.args.before)) c.as_slice.ensures.value
    in
    let items : (with_items c.self.inside.nodes c.link_in.new.nodes).items ≡ c.link_in.new.nodes = with_items_is c.self.inside.nodes c.link_in.new.nodes (omega (arith, c.link_in.auto.nodes, c.as_mut_slice.ensures.len)) in
    let whole : (with_items c.self.inside.nodes c.link_in.new.nodes).items ≡ linked_in c.self.inside.nodes.items c.args.parent.0 (backward c.self.inside.nodes.items (place_of c.args.parent.0 c.args.before)) c.args.child c.args.before =
    items ∙ c.link_in.ensures ∙ ap (λ z. linked_in z c.args.parent.0 c.backward-behind.result c.args.child c.args.before) c.as_mut_slice.ensures.value ∙ ap (λ z. linked_in c.self.inside.nodes.items c.args.parent.0 z c.args.child c.args.before) behind
    in
    ap nodes_of whole ∙ (put c.self.inside.nodes.items c.self.inside.top c.args.self.now c.self.invariant c.self.view_is c.args.parent c.args.child c.args.before (length c.args.self.now) c.requires.parent c.requires.child c.requires.ready).0
