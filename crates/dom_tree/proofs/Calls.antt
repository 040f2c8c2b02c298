-- What the calls of `Dom` make of the links, as its contracts see it.
use Rattle.std.proofs.Common.{◌≡◌, refl, sym, ap, subst, ◌∙◌, ℕ, ◌<◌, true, false, ◌&&◌, List, [], ◌∷◌, ◌++◌, Option, Some, None, length, slice_index_or, slice_set, arith}
use Rattle.std.proofs.lemmas.List.{get_or_default}
use Rattle.std.specs.Option.{ForSome}
use Rattle.js_core.specs.Text.{Text}
use Rattle.js_values.specs.declared.ids.NodeId.{NodeId}
use Rattle.dom_tree.specs.declared.content.Content.{Content}
use Rattle.dom_tree.specs.declared.links.Linked.{Linked}
use Rattle.dom_tree.specs.Change.{put_before, put_under, taken_from, taken_out, without}
use Rattle.dom_tree.specs.Content.{has_text, with_attribute, with_text, with_value, without_attribute}
use Rattle.dom_tree.specs.Fits.{IsReady, top_with, top_without}
use Rattle.dom_tree.specs.Links.{AreLinked, backward, beside, forward, linked_at, linked_in, linked_out, links_at, no_linked, no_links, nodes_of, place_of}
use Rattle.dom_tree.specs.Name.{is_name}
use Rattle.dom_tree.specs.Node.{Nodes, children_at, has, is_document, is_element, kind_at, node_at, parent_at, with_content, with_new}
use Rattle.dom_tree.specs.Sound.{is_proper, takes_value}
use Rattle.dom_tree.proofs.Kept.{StaysKind, with_content_linked, with_new_linked}
use Rattle.dom_tree.proofs.Moves.{put_it, took_out}
use Rattle.dom_tree.proofs.Neighbours.{read_content}
use Rattle.dom_tree.proofs.Proper.{attribute_proper, text_document, text_element, text_proper, text_text, value_proper, without_attribute_proper}
use Rattle.dom_tree.proofs.Shown.{back_in, forth_in, range_for}
use Rattle.dom_tree.proofs.Trees.{child_in, child_of_parent, moved, parent_in}

-- what the nodes are, and what the links must keep
abbrev pub Makes : List Linked → Option NodeId → Nodes → Type 0
Makes ms top u = (nodes_of ms ≡ u) × AreLinked ms top

module _ (ns : List Linked) (top : Option NodeId) (t : Nodes) (a : AreLinked ns top) (view : nodes_of ns ≡ t) where
  pub long : length t ≡ length ns
  long = subst (λ z. length z ≡ length ns) view a.shows.long

  pub within : (k : ℕ) → k < length t → k < length ns
  within k h = omega (arith, h, long)

  pub make : (new : Content) → is_proper new ≡ true → is_document new.kind ≡ false → Makes (ns ++ record { content = new; links = no_links } ∷ []) top (with_new t new)
  make new p d = subst (λ z. Makes (ns ++ record { content = new; links = no_links } ∷ []) top (with_new z new)) view (with_new_linked ns top new a p d)

  -- the content of the node that was read as x
  pub change : (k : NodeId) (x : Linked) (new : Content) → k.0 < length t → x ≡ slice_index_or ns k.0 x → StaysKind x.content new
      → Makes (slice_set ns k.0 (record { content = new; links = x.links })) top (with_content t k new)
  change k x new k_in is w =
      let k_here : k.0 < length ns = within k.0 k_in in
      let at : x ≡ linked_at ns k.0 = is ∙ get_or_default ns k.0 x no_linked k_here in
      subst (λ (z : Linked). Makes (slice_set ns k.0 (record { content = new; links = z.links })) top (with_content t k new)) (sym at)
      (subst (λ z. Makes (slice_set ns k.0 (record { content = new; links = links_at ns k.0 })) top (with_content z k new)) view
      (with_content_linked ns top k new a k_here (subst (λ (z : Linked). StaysKind z.content new) at w)))

  pub took : (p x : NodeId) → parent_at t x.0 ≡ Some p → Makes (linked_out ns p.0 x) (top_without x.0 top) (taken_out t x)
  took p x up = subst (λ z. parent_at z x.0 ≡ Some p → Makes (linked_out ns p.0 x) (top_without x.0 top) (taken_out z x)) view here up
    where
      here : parent_at (nodes_of ns) x.0 ≡ Some p → Makes (linked_out ns p.0 x) (top_without x.0 top) (taken_out (nodes_of ns) x)
      here e =
          let i : has x.0 (children_at (nodes_of ns) p.0) ≡ true = child_of_parent (nodes_of ns) a.sound.trees x.0 p e in
          let m = moved (nodes_of ns) p x (without x.0 (children_at (nodes_of ns) p.0)) None (parent_in (nodes_of ns) a.sound.trees x.0 p e) (child_in (nodes_of ns) a.sound.trees p.0 x.0 i) in
          subst (λ o. Makes (linked_out ns p.0 x) (top_without x.0 top) (taken_from (nodes_of ns) x o)) (sym e) (took_out ns (nodes_of ns) top p x a.shows a.sound a.element (taken_from (nodes_of ns) x (Some p)) m e)

  -- the neighbours of a child are in range
  pub before_there : (p x : NodeId) → parent_at t x.0 ≡ Some p → ForSome (backward ns (beside x)) (λ c. c.0 < length ns)
  before_there p x up =
      let e : parent_at (nodes_of ns) x.0 ≡ Some p = ap (λ z. parent_at z x.0) view ∙ up in
      let i : has x.0 (children_at (nodes_of ns) p.0) ≡ true = child_of_parent (nodes_of ns) a.sound.trees x.0 p e in
      range_for ns (nodes_of ns) p.0 (backward ns (beside x)) a.shows a.sound.trees (back_in ns p.0 (Some x) (children_at (nodes_of ns) p.0) (a.shows.rows p.0) i)

  pub after_there : (p x : NodeId) → parent_at t x.0 ≡ Some p → ForSome (forward ns (beside x)) (λ c. c.0 < length ns)
  after_there p x up =
      let e : parent_at (nodes_of ns) x.0 ≡ Some p = ap (λ z. parent_at z x.0) view ∙ up in
      let i : has x.0 (children_at (nodes_of ns) p.0) ≡ true = child_of_parent (nodes_of ns) a.sound.trees x.0 p e in
      range_for ns (nodes_of ns) p.0 (forward ns (beside x)) a.shows a.sound.trees (forth_in ns p.0 x (children_at (nodes_of ns) p.0) (a.shows.rows p.0) i)

  pub put : (p x : NodeId) (r : Option NodeId) (n : ℕ) → p.0 < length t → x.0 < length t → IsReady t p x r n
      → Makes (linked_in ns p.0 (backward ns (place_of p.0 r)) x r) (top_with x (is_document (kind_at t p.0) && is_element (kind_at t x.0)) top) (put_under t p x r)
  put p x r n p_in x_in ok =
      subst
      (λ z. p.0 < length z → x.0 < length z → IsReady z p x r n
      → Makes (linked_in ns p.0 (backward ns (place_of p.0 r)) x r) (top_with x (is_document (kind_at z p.0) && is_element (kind_at z x.0)) top) (put_under z p x r))
      view here p_in x_in ok
    where
      here : p.0 < length (nodes_of ns) → x.0 < length (nodes_of ns) → IsReady (nodes_of ns) p x r n
          → Makes (linked_in ns p.0 (backward ns (place_of p.0 r)) x r) (top_with x (is_document (kind_at (nodes_of ns) p.0) && is_element (kind_at (nodes_of ns) x.0)) top) (put_under (nodes_of ns) p x r)
      here p_here x_here ready =
          put_it ns (nodes_of ns) top p x a.shows a.sound a.element (put_under (nodes_of ns) p x r) r
          (moved (nodes_of ns) p x (put_before r x (children_at (nodes_of ns) p.0)) (Some p) p_here x_here) p_here x_here ready.alone ready.fits

  -- the places beside which a node is put are in range
  pub reference_there : (p x : NodeId) (r : Option NodeId) (n : ℕ) → IsReady t p x r n → ForSome r (λ c. c.0 < length ns)
  reference_there p x r n ok = range_for ns (nodes_of ns) p.0 r a.shows a.sound.trees (subst (λ z. IsReady z p x r n) (sym view) ok).fits.there

  pub behind_there : (p x : NodeId) (r : Option NodeId) (n : ℕ) → IsReady t p x r n → ForSome (backward ns (place_of p.0 r)) (λ c. c.0 < length ns)
  behind_there p x r n ok =
      range_for ns (nodes_of ns) p.0 (backward ns (place_of p.0 r)) a.shows a.sound.trees
      (back_in ns p.0 r (children_at (nodes_of ns) p.0) (a.shows.rows p.0) (subst (λ z. IsReady z p x r n) (sym view) ok).fits.there)

-- the content of a node that was read as x changes
module _ (ns : List Linked) (top : Option NodeId) (t : Nodes) (a : AreLinked ns top) (view : nodes_of ns ≡ t) (k : NodeId) (x : Linked) (k_in : k.0 < length t) (is : x ≡ slice_index_or ns k.0 x) where
  same : x.content ≡ (node_at t k.0).content
  same = read_content ns top t a view k x k_in is

  good : is_proper x.content ≡ true
  good = ap is_proper same ∙ subst (λ z. is_proper (node_at z k.0).content ≡ true) view (a.sound.proper k.0)

  changes : (f : Content → Content) → StaysKind x.content (f x.content) → Makes (slice_set ns k.0 (record { content = f x.content; links = x.links })) top (with_content t k (f (node_at t k.0).content))
  changes f w = subst (λ c. Makes (slice_set ns k.0 (record { content = f x.content; links = x.links })) top (with_content t k (f c))) same (change ns top t a view k x (f x.content) k_in is w)

  pub text_change : (text : Text) → has_text (kind_at t k.0) ≡ true → Makes (slice_set ns k.0 (record { content = with_text x.content text; links = x.links })) top (with_content t k (with_text (node_at t k.0).content text))
  text_change text h =
      changes (λ c. with_text c text)
      (record {
        document = text_document x.content.kind text;
        element = text_element x.content.kind text;
        text = text_text x.content.kind text;
        proper = text_proper x.content.kind x.content.attributes x.content.value text (ap (λ (c : Content). has_text c.kind) same ∙ h) good;
      })

  pub value_change : (text : Text) → takes_value (kind_at t k.0) ≡ true → Makes (slice_set ns k.0 (record { content = with_value x.content text; links = x.links })) top (with_content t k (with_value (node_at t k.0).content text))
  value_change text h =
      changes (λ c. with_value c text)
      (record { document = refl; element = refl; text = refl; proper = value_proper x.content text (ap (λ (c : Content). takes_value c.kind) same ∙ h) good })

  pub attribute_change : (name v : Text) → is_name name ≡ true → is_element (kind_at t k.0) ≡ true
      → Makes (slice_set ns k.0 (record { content = with_attribute x.content name v; links = x.links })) top (with_content t k (with_attribute (node_at t k.0).content name v))
  attribute_change name v n h =
      changes (λ c. with_attribute c name v)
      (record { document = refl; element = refl; text = refl; proper = attribute_proper x.content name v n (ap (λ (c : Content). is_element c.kind) same ∙ h) good })

  pub attribute_gone : (name : Text) → is_element (kind_at t k.0) ≡ true
      → Makes (slice_set ns k.0 (record { content = without_attribute x.content name; links = x.links })) top (with_content t k (without_attribute (node_at t k.0).content name))
  attribute_gone name h =
      changes (λ c. without_attribute c name)
      (record { document = refl; element = refl; text = refl; proper = without_attribute_proper x.content name (ap (λ (c : Content). is_element c.kind) same ∙ h) good })
