-- A node that was made fits, since the nodes are sound.
use Rattle.std.proofs.Common.{◌≡◌, true, false, None, not, ◌&&◌, ◌||◌, if◌then◌else◌, List, [], ◌∷◌, ◌++◌, length, nat_eq, sym, ap, subst, ◌∙◌}
use Rattle.std.specs.List.{list_all}
use Rattle.std.specs.Option.{is_none}
use Rattle.std.proofs.Math.Seq.{get_or-append_seam}
use Rattle.std.proofs.lemmas.Bool.{and_from, and_parts}
use Rattle.js_values.specs.declared.ids.ObjId.{ObjId}
use Rattle.dom_tree.specs.declared.content.Content.{Content}
use Rattle.dom_tree.specs.declared.content.Kind.{Kind}
use Rattle.dom_tree.specs.Attributes.{has_distinct_names}
use Rattle.dom_tree.specs.Content.{new_content}
use Rattle.dom_tree.specs.Name.{is_folded_name}
use Rattle.dom_tree.specs.Node.{Nodes, is_document, is_element, no_node, node_at, with_new}
use Rattle.dom_tree.specs.Sound.{IsSound, has_folded_name, is_proper, takes_value}
use Rattle.page_host.specs.Host.{Host, with_node}
use Rattle.page_host.specs.Kept.{host_of}
use Rattle.page_host.specs.Steps.{may_be_made, with_new_node}

-- the youngest
newest : (t : Nodes) (new : Content) → (node_at (with_new t new) (length t)).content ≡ new
newest t new = ap (λ n. n.content) (get_or-append_seam t (record { content = new; parent = None; children = [] }) [] no_node)

folded_kind : (c : Content) → is_proper c ≡ true → has_folded_name c.kind ≡ true
folded_kind c h =
    let e = and_parts (has_folded_name c.kind && list_all (λ a. is_folded_name a.0) c.attributes && has_distinct_names c.attributes && (is_element c.kind || nat_eq (length c.attributes) 0)) (takes_value c.kind || is_none c.value) h in
    let d = and_parts (has_folded_name c.kind && list_all (λ a. is_folded_name a.0) c.attributes && has_distinct_names c.attributes) (is_element c.kind || nat_eq (length c.attributes) 0) e.0 in
    let b = and_parts (has_folded_name c.kind && list_all (λ a. is_folded_name a.0) c.attributes) (has_distinct_names c.attributes) d.0 in
    (and_parts (has_folded_name c.kind) (list_all (λ a. is_folded_name a.0) c.attributes) b.0).0

fits_well : (t : Nodes) (k : Kind) → IsSound (with_new t (new_content k)) → is_document k ≡ false → may_be_made k ≡ true
fits_well t k sound h =
    let proper : is_proper (new_content k) ≡ true = ap is_proper (sym (newest t (new_content k))) ∙ sound.proper (length t) in
    and_from (has_folded_name k) (not (is_document k)) (folded_kind (new_content k) proper) (ap not h)

-- it joins the host
pub joins : (h : Host) (t : Nodes) (k : Kind) (at : ObjId) (objects : List ObjId)
    → t ≡ with_new h.nodes (new_content k) → objects ≡ h.objects ++ at ∷ [] → IsSound t → is_document k ≡ false
    → host_of t objects h.listeners h.timers h.clock ≡ with_new_node h k at
joins h t k at objects e f sound doc =
    let there : IsSound (with_new h.nodes (new_content k)) = subst IsSound e sound in
    ap (λ u. host_of u objects h.listeners h.timers h.clock) e
    ∙ ap (λ os. host_of (with_new h.nodes (new_content k)) os h.listeners h.timers h.clock) f
    ∙ ap (λ b. if b then with_node h (with_new h.nodes (new_content k)) at else h) (sym (fits_well h.nodes k there doc))
