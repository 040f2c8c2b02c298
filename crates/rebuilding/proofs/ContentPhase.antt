-- The phase of contents: each node gets its attributes and its set value again.
use Rattle.std.proofs.Common.{◌≡◌, ◌⊎◌, inl, inr, refl, sym, ap, ap₂, subst, ◌∙◌, ℕ, ◌<◌, Bool, true, false, not, ◌&&◌, ◌||◌, nat_eq, cond, if◌then◌else◌, List, [], ◌∷◌, ◌++◌, append_assoc, Option, Some, None, codes, length, length-set, is_none, nat_lt, arith}
use Rattle.std.proofs.lemmas.Bool.{and_parts, eq-eqb, eqb-true, ltb-true, ne_eqb}
use Rattle.std.specs.List.{list_all}
use Rattle.dom_tree.proofs.Callers.{ProperParts, at_set, proper_parts}
use Rattle.dom_tree.specs.Attributes.{Pairs}
use Rattle.dom_tree.specs.Content.{new_content, with_attribute, with_value}
use Rattle.dom_tree.specs.Name.{folded, is_folded_name, is_name}
use Rattle.dom_tree.specs.Node.{Node, Nodes, children_at, is_element, kind_at, no_content, node_at, parent_at, with_content}
use Rattle.dom_tree.specs.Sound.{is_proper, takes_value}
use Rattle.dom_tree.specs.Steps.{sets_attribute, sets_value}
use Rattle.dom_tree.specs.declared.content.Content.{Content}
use Rattle.host_relations.proofs.Callers.{attributes_are_rebuilt, folded_is}
use Rattle.host_relations.specs.Attributed.{set_all}
use Rattle.js_values.specs.declared.ids.ObjId.{ObjId}
use Rattle.object_heap.specs.Chain.{object_at}
use Rattle.object_heap.specs.Heap.{Contents}
use Rattle.object_heap.specs.Object.{Object}
use Rattle.object_heap.specs.declared.object.Class.{Class}
use Rattle.object_heap.specs.declared.object.Class.TheVariants as class
use Rattle.page_host.specs.Host.{Host, object_of_node, with_nodes}
use Rattle.page_host.specs.HostNames.{is_handler}
use Rattle.page_host.specs.Sound.{is_plain}
use Rattle.page_host.specs.Steps.{in_nodes}
use Rattle.page_meaning.specs.Places.{document}
use Rattle.page_meaning.specs.Store.{Store}
use Rattle.page_writer.specs.Frame.{nth_node}
use Rattle.rebuild_plan.specs.Compact.{compact, thing_at}
use Rattle.rebuild_plan.specs.Nodes.{node_as}
use Rattle.rebuild_plan.specs.Plan as plan
use Rattle.rebuild_plan.specs.declared.phase.Phase.TheVariants as phase
use Rattle.rebuild_plan.specs.declared.statement.Rebuild.{Rebuild}
use Rattle.rebuild_plan.specs.declared.statement.Rebuild.TheVariants.{Attribute, SetValue}
use Rattle.rebuilding.specs.Rebuilt.{ClassIsRebuilt, Succeeds, nth}
use Rattle.rebuilding.specs.Running.{IsNodeHere, Lacks, node_here, object_here}
use Rattle.rebuilding.specs.Scene.{IsHosting, IsRunning, Scene}
use Rattle.rebuilding.proofs.HostPhase.{hosted_next}
use Rattle.rebuilding.proofs.ListenPhase.{bare_lacks}
use Rattle.rebuilding.proofs.NodePhase.{IsAt, NodesDone, at_node, at_other, whole_phase}
use Rattle.rebuilding.proofs.OwnObjects.{IsNodeOn, OwnObjects, own_kept}
use Rattle.rebuilding.proofs.NodesAt.{NodeOrOther, NodesStand, document_here, document_node, node_or_other, thing_here, thing_node}

-- ---- one node's content

-- of the nodes this one alone has another content
pub record HasContent (first g : Host) (k : ℕ) (new : Content) : Type 0 where
  pub host : g ≡ with_nodes first g.nodes
  pub long : length g.nodes ≡ length first.nodes
  pub content : (node_at g.nodes k).content ≡ new
  pub others : (i : ℕ) → (i ≡ k → ⊥) → (node_at g.nodes i).content ≡ (node_at first.nodes i).content
  pub parents : (i : ℕ) → parent_at g.nodes i ≡ parent_at first.nodes i
  pub children : (i : ℕ) → children_at g.nodes i ≡ children_at first.nodes i

content_begins : (g : Host) (k : ℕ) → HasContent g g k (node_at g.nodes k).content
content_begins g k = record { host = refl; long = refl; content = refl; others = λ i other. refl; parents = λ i. refl; children = λ i. refl }

content_next : (first g : Host) (k : ℕ) (old new : Content) → HasContent first g k old → k < length g.nodes
    → HasContent first (with_nodes g (with_content g.nodes (nth_node k) new)) k new
content_next first g k old new is low = record {
  host = ap (λ v. with_nodes v after) is.host;
  long = length-set t k node ∙ is.long;
  content = ap (λ (n : Node). n.content) (at k) ∙ ap (λ b. (cond b node (node_at t k)).content) (eq-eqb k k refl);
  others = λ i other. ap (λ (n : Node). n.content) (at i) ∙ ap (λ b. (cond b node (node_at t i)).content) (ne_eqb k i (λ e. other (sym e))) ∙ is.others i other;
  parents = λ i. ap (λ (n : Node). n.parent) (at i) ∙ parent_of i (nat_eq k i) refl ∙ is.parents i;
  children = λ i. ap (λ (n : Node). n.children) (at i) ∙ children_of i (nat_eq k i) refl ∙ is.children i;
}
  where
    t : Nodes
    t = g.nodes

    node : Node
    node = record { content = new; parent = parent_at t k; children = children_at t k }

    after : Nodes
    after = with_content t (nth_node k) new

    at : (i : ℕ) → node_at after i ≡ cond (nat_eq k i) node (node_at t i)
    at i = at_set t k i node low

    parent_of : (i : ℕ) (b : Bool) → nat_eq k i ≡ b → (cond b node (node_at t i)).parent ≡ parent_at t i
    parent_of i true e = ap (parent_at t) (eqb-true k i e)
    parent_of i false e = refl

    children_of : (i : ℕ) (b : Bool) → nat_eq k i ≡ b → (cond b node (node_at t i)).children ≡ children_at t i
    children_of i true e = ap (children_at t) (eqb-true k i e)
    children_of i false e = refl

-- an attribute of an element that can be set: its name is folded and begins not with `on`
abbrev CanBeSet : Pairs → Type 0
CanBeSet [] = Unit {0}
CanBeSet (a ∷ as') = ((is_name a.0 ≡ true) × (folded a.0 ≡ a.0) × (is_handler a.0 ≡ false)) × CanBeSet as'

can_be_set : (as' : Pairs) → list_all (λ a. is_folded_name a.0) as' ≡ true → list_all (λ a. not (is_handler a.0)) as' ≡ true → CanBeSet as'
can_be_set [] h p = tt
can_be_set (a ∷ as') h p =
    let named = and_parts (is_folded_name a.0) (list_all (λ b. is_folded_name b.0) as') h in
    let plain = and_parts (not (is_handler a.0)) (list_all (λ b. not (is_handler b.0)) as') p in
    (((and_parts (is_name a.0) _ named.0).0, folded_is a.0 named.0, negated (is_handler a.0) plain.0), can_be_set as' named.1 plain.1)
  where
    negated : (b : Bool) → not b ≡ true → b ≡ false
    negated true e = absurd (cc)
    negated false e = refl

-- attributes set one after another
abbrev with_all : Content → Pairs → Content
with_all c as' = record { kind = c.kind; attributes = set_all as' c.attributes; value = c.value }

module _ (c : Scene) (End : Contents → Host → List ℕ → Type 0) (h : Contents) (sites : List ℕ) where
  module _ (first : Host) (at : ObjId) (is : IsNodeHere h first sites at) where
    abbrev k : ℕ
    k = (node_here h sites at).0

    here : (g : Host) (cur : Content) → HasContent first g k cur → IsNodeHere h g sites at
    here g cur has = record {
      stands = is.stands;
      proto = is.proto;
      class = is.class;
      there = subst (λ n. is_there_of n ≡ true) (sym has.long) is.there;
      own = ap (λ (v : Host). object_of_node v.objects (node_here h sites at)) has.host ∙ is.own;
    }
      where
        is_there_of : ℕ → Bool
        is_there_of n = nat_lt k n

    low : (g : Host) (cur : Content) → HasContent first g k cur → k < length g.nodes
    low g cur has = ltb-true k (length g.nodes) (here g cur has).there

    attributes_go : (as' : Pairs) (g : Host) (cur : Content) (rs : List Rebuild) → Lacks (object_here h sites at) (codes "setAttribute") → CanBeSet as'
        → (is_element cur.kind ≡ true) ⊎ (as' ≡ []) → HasContent first g k cur → IsHosting h g
        → ((j : Host) → IsHosting h j → HasContent first j k (with_all cur as') → Succeeds c End h j sites rs)
        → Succeeds c End h g sites (plan.attributes at as' ++ rs)
    attributes_go [] g cur rs lacks can element has hosting later = later g hosting has
    attributes_go (a ∷ as') g cur rs lacks can (inr none) has hosting later = absurd (cc)
    attributes_go (a ∷ as') g cur rs lacks can (inl element) has hosting later =
        let next : Host = with_nodes g (with_content g.nodes (node_here h sites at) (with_attribute cur a.0 a.1)) in
        let kind_is : is_element (kind_at g.nodes k) ≡ true = ap (λ (q : Content). is_element q.kind) has.content ∙ element in
        let plain : is_handler (folded a.0) ≡ false = ap is_handler can.0.1 ∙ can.0.2 in
        hosted_next c End h sites g next (Attribute at a.0 a.1) (plan.attributes at as' ++ rs) (in_nodes (sets_attribute (node_here h sites at) a.0 a.1))
        (record { is = here g cur has; lacks = lacks; element = kind_is; plain = plain; named = can.0.0 })
        (λ i j after ran. ran)
        (ap (λ (b : Bool). if not b then after_set (is_element (kind_at g.nodes k) && is_name a.0) else g) plain
        ∙ ap (λ b. after_set (b && is_name a.0)) kind_is ∙ ap after_set can.0.0
        ∙ ap (λ q. with_nodes g (with_content g.nodes (node_here h sites at) (with_attribute q a.0 a.1))) has.content)
        (λ now. attributes_go as' next (with_attribute cur a.0 a.1) rs lacks can.1 (inl element)
        (content_next first g k cur (with_attribute cur a.0 a.1) has (low g cur has)) now later)
      where
        after_set : Bool → Host
        after_set b =
            with_nodes g (if b then with_content g.nodes (node_here h sites at) (with_attribute (node_at g.nodes k).content a.0 a.1) else g.nodes)

    value_goes : (v : Option (List ℕ)) (g : Host) (cur : Content) (rs : List Rebuild) → cur.value ≡ None → (takes_value cur.kind ≡ true) ⊎ (v ≡ None)
        → HasContent first g k cur → IsHosting h g
        → ((j : Host) → IsHosting h j → HasContent first j k (record { kind = cur.kind; attributes = cur.attributes; value = v }) → Succeeds c End h j sites rs)
        → Succeeds c End h g sites (plan.set_value at v ++ rs)
    value_goes None g cur rs none takes has hosting later =
        later g hosting (subst (λ v. HasContent first g k (record { kind = cur.kind; attributes = cur.attributes; value = v })) none has)
    value_goes (Some x) g cur rs none (inr other) has hosting later = absurd (cc)
    value_goes (Some x) g cur rs none (inl takes) has hosting later =
        let next : Host = with_nodes g (with_content g.nodes (node_here h sites at) (with_value cur x)) in
        let kind_is : takes_value (kind_at g.nodes k) ≡ true = ap (λ (q : Content). takes_value q.kind) has.content ∙ takes in
        hosted_next c End h sites g next (SetValue at x) rs (in_nodes (sets_value (node_here h sites at) x))
        (record { is = here g cur has; has = ap (λ b. b && takes_value (kind_at g.nodes k)) (here g cur has).there ∙ kind_is })
        (λ i j after ran. ran)
        (ap after_set kind_is ∙ ap (λ q. with_nodes g (with_content g.nodes (node_here h sites at) (with_value q x))) has.content)
        (λ now. later next now (content_next first g k cur (with_value cur x) has (low g cur has)))
      where
        after_set : Bool → Host
        after_set b = with_nodes g (if b then with_content g.nodes (node_here h sites at) (with_value (node_at g.nodes k).content x) else g.nodes)

-- ---- the whole content

-- of the node of this class
abbrev pub content_as : Store → Class → Content
content_as s (class.Node a) = (node_at s.host.nodes a.0).content
content_as s o = no_content

attributes_as : (s : Store) (things : List ℕ) (C : Class) → (node_as s.host things C).attributes ≡ (content_as s C).attributes
attributes_as s things (class.Node a) = refl
attributes_as s things (class.Event a) = refl
attributes_as s things class.Plain = refl
attributes_as s things class.List = refl
attributes_as s things class.Fault = refl
attributes_as s things (class.Page a b) = refl
attributes_as s things (class.Bound a b d) = refl
attributes_as s things (class.Native a) = refl
attributes_as s things class.Math = refl
attributes_as s things class.Window = refl

value_as : (s : Store) (things : List ℕ) (C : Class) → (node_as s.host things C).value ≡ (content_as s C).value
value_as s things (class.Node a) = refl
value_as s things (class.Event a) = refl
value_as s things class.Plain = refl
value_as s things class.List = refl
value_as s things class.Fault = refl
value_as s things (class.Page a b) = refl
value_as s things (class.Bound a b d) = refl
value_as s things (class.Native a) = refl
value_as s things class.Math = refl
value_as s things class.Window = refl

-- the statements for this content
abbrev content_statements : ObjId → Content → List Rebuild
content_statements at new = plan.attributes at new.attributes ++ plan.set_value at new.value

-- it may be had, and no attribute begins with `on`
pub record CanHave (new : Content) : Type 0 where
  pub proper : is_proper new ≡ true
  pub plain : is_plain new ≡ true

no_attributes : (as' : Pairs) → nat_eq (length as') 0 ≡ true → as' ≡ []
no_attributes [] e = refl
no_attributes (a ∷ as') e = absurd (omega (arith, eqb-true (length (a ∷ as')) 0 e))

no_value : (v : Option (List ℕ)) → is_none v ≡ true → v ≡ None
no_value None e = refl
no_value (Some x) e = absurd (cc)

either : (a b : Bool) → (a || b) ≡ true → (a ≡ true) ⊎ (b ≡ true)
either true b e = inl refl
either false b e = inr e

module _ (c : Scene) (End : Contents → Host → List ℕ → Type 0) (h : Contents) (sites : List ℕ) where
  content_goes : (first : Host) (at : ObjId) (is : IsNodeHere h first sites at) (new : Content) (rs : List Rebuild)
      → Lacks (object_here h sites at) (codes "setAttribute") → CanHave new
      → (node_at first.nodes (node_here h sites at).0).content ≡ new_content new.kind → IsHosting h first
      → ((j : Host) → IsHosting h j → HasContent first j (node_here h sites at).0 new → Succeeds c End h j sites rs)
      → Succeeds c End h first sites (content_statements at new ++ rs)
  content_goes first at is new rs lacks can begins hosting later =
      subst (Succeeds c End h first sites) (sym (append_assoc (plan.attributes at new.attributes) (plan.set_value at new.value) rs))
      (attributes_go c End h sites first at is new.attributes first (new_content new.kind) (plan.set_value at new.value ++ rs) lacks
      (can_be_set new.attributes parts.attributes can.plain) (attributed (either (is_element new.kind) (nat_eq (length new.attributes) 0) parts.only_elements))
      (subst (HasContent first first (node_here h sites at).0) begins (content_begins first (node_here h sites at).0)) hosting
      (λ j now has. value_goes c End h sites first at is new.value j (with_all (new_content new.kind) new.attributes) rs refl
      (valued (either (takes_value new.kind) (is_none new.value) parts.only_inputs)) has now
      (λ i then' done. later i then'
      (subst (λ as'. HasContent first i (node_here h sites at).0 (record { kind = new.kind; attributes = as'; value = new.value }))
      (attributes_are_rebuilt new.attributes parts.attributes parts.distinct) done))))
    where
      parts : ProperParts new
      parts = proper_parts new can.proper

      attributed : (is_element new.kind ≡ true) ⊎ (nat_eq (length new.attributes) 0 ≡ true) → (is_element new.kind ≡ true) ⊎ (new.attributes ≡ [])
      attributed (inl e) = inl e
      attributed (inr e) = inr (no_attributes new.attributes e)

      valued : (takes_value new.kind ≡ true) ⊎ (is_none new.value ≡ true) → (takes_value new.kind ≡ true) ⊎ (new.value ≡ None)
      valued (inl e) = inl e
      valued (inr e) = inr (no_value new.value e)

-- ---- all nodes

-- contents alone are others
pub record KeepsTrees (first g : Host) : Type 0 where
  pub host : g ≡ with_nodes first g.nodes
  pub long : length g.nodes ≡ length first.nodes
  pub parents : (i : ℕ) → parent_at g.nodes i ≡ parent_at first.nodes i
  pub children : (i : ℕ) → children_at g.nodes i ≡ children_at first.nodes i

keeps_on : (first g j : Host) (k : ℕ) (new : Content) → KeepsTrees first g → HasContent g j k new → KeepsTrees first j
keeps_on first g j k new a b = record {
  host = b.host ∙ ap (λ v. with_nodes v j.nodes) a.host;
  long = b.long ∙ a.long;
  parents = λ i. b.parents i ∙ a.parents i;
  children = λ i. b.children i ∙ a.children i;
}

module _ (c : Scene) (End : Contents → Host → List ℕ → Type 0) (h : Contents) (sites : List ℕ) (s : Store) (things : List ℕ) (first : Host)
    (running : IsRunning c h sites) (count : length sites ≡ length things) (nodes : NodesStand h sites) (own : OwnObjects h first sites) where
  abbrev saved_class : ℕ → Class
  saved_class n = (object_at s.heap.objects (nth things n)).class

  abbrev wanted : ℕ → Content
  wanted n = content_as s (saved_class n)

  abbrev document_class : Class
  document_class = (object_at s.heap.objects document.0).class

  abbrev look : Host → ℕ → Content
  look g k = (node_at g.nodes k).content

  -- once all contents are set
  abbrev pub ContentsDone : Host → Type 0
  ContentsDone =
      NodesDone c End h s things sites phase.Contents running count Content look first (KeepsTrees first) (content_as s document_class) wanted own (length things)

  node_contents : (at : ObjId) (k : ℕ) (C : Class) (g : Host) (rs : List Rebuild) → IsHosting h g → node_here h sites at ≡ nth_node k → IsNodeHere h g sites at
      → Lacks (object_here h sites at) (codes "setAttribute") → CanHave (content_as s C) → KeepsTrees first g
      → look g k ≡ new_content (content_as s C).kind
      → ((j : Host) → IsHosting h j → KeepsTrees first j → look j k ≡ content_as s C → ((i : ℕ) → (i ≡ k → ⊥) → look j i ≡ look g i) → Succeeds c End h j sites rs)
      → Succeeds c End h g sites ((plan.attributes at (node_as s.host things C).attributes ++ plan.set_value at (node_as s.host things C).value) ++ rs)
  node_contents at k C g rs hosting number is lacks can kept begins later =
      subst (λ qs. Succeeds c End h g sites (qs ++ rs)) (sym listed)
      (content_goes c End h sites g at is (content_as s C) rs lacks can (ap (λ m. look g m.0) number ∙ begins) hosting
      (λ j now has.
      let done : HasContent g j k (content_as s C) = subst (λ m. HasContent g j m.0 (content_as s C)) number has in
      later j now (keeps_on first g j k (content_as s C) kept done) done.content done.others))
    where
      listed : plan.attributes at (node_as s.host things C).attributes ++ plan.set_value at (node_as s.host things C).value ≡ content_statements at (content_as s C)
      listed = ap₂ (λ as' v. plan.attributes at as' ++ plan.set_value at v) (attributes_as s things C) (value_as s things C)

  kinds : ((n : ℕ) → n < length things
      → ClassIsRebuilt c h.environments s things sites (nth sites n) (saved_class n) (object_at h.objects (nth sites n)).class)
      → (n : ℕ) → n < length things → IsAt h phase.Contents s things sites n
  kinds classes n inside = by (node_or_other (classes n inside))
    where
      by : NodeOrOther (saved_class n) (object_at h.objects (nth sites n)).class → IsAt h phase.Contents s things sites n
      by (inl (k, e)) = at_node k e
      by (inr (none, nothing)) =
          at_other none (ap (λ m. plan.attributes (plan.thing_place n) m.attributes ++ plan.set_value (plan.thing_place n) m.value) (nothing s.host things))

  -- where each node has its kind alone before, it has the content of the thing afterwards
  pub contents_succeed : (rs : List Rebuild)
      → ((n : ℕ) → n < length things
      → ClassIsRebuilt c h.environments s things sites (nth sites n) (saved_class n) (object_at h.objects (nth sites n)).class)
      → ((n k : ℕ) → n < length things → IsNodeOn h (nth sites n) k → CanHave (wanted n))
      → ((n k : ℕ) → n < length things → IsNodeOn h (nth sites n) k → look first k ≡ new_content (wanted n).kind)
      → CanHave (content_as s document_class) → look first 0 ≡ new_content (content_as s document_class).kind
      → IsHosting h first → ((j : Host) → IsHosting h j → ContentsDone j → Succeeds c End h j sites rs)
      → Succeeds c End h first sites (plan.whole phase.Contents (compact s things) ++ rs)
  contents_succeed rs classes can made document_can document_made hosting later =
      whole_phase c End h s things sites phase.Contents running count Content look first (KeepsTrees first) (content_as s document_class) wanted own
      (kinds classes) one rs
      (λ g qs now kept before go.
      let d = document_node c h g sites running (own_here g kept) in
      node_contents document 0 document_class g qs now d.0 d.1
      (bare_lacks (object_here h sites document) (codes "setAttribute") (ap (λ (o : Object). o.props) (document_here h sites) ∙ nodes.document_props))
      document_can kept (before ∙ document_made) go)
      hosting (record { host = refl; long = refl; parents = λ i. refl; children = λ i. refl }) later
    where
      own_here : (g : Host) → KeepsTrees first g → OwnObjects h g sites
      own_here g kept = own_kept h first g sites (ap (λ (v : Host). v.objects) kept.host) kept.long own

      one : (n k : ℕ) → n < length things → IsNodeOn h (nth sites n) k → (g : Host) (qs : List Rebuild) → IsHosting h g → KeepsTrees first g
          → look g k ≡ look first k
          → ((j : Host) → IsHosting h j → KeepsTrees first j → look j k ≡ wanted n → ((i : ℕ) → (i ≡ k → ⊥) → look j i ≡ look g i) → Succeeds c End h j sites qs)
          → Succeeds c End h g sites (plan.statements_of phase.Contents (plan.thing_place n) (thing_at s things (nth things n)) ++ qs)
      one n k inside on g qs now kept before go =
          let within : n < length sites = subst (λ m. n < m) (sym count) inside in
          let d = thing_node c h g sites running (own_here g kept) nodes n k within on in
          node_contents (plan.thing_place n) k (saved_class n) g qs now d.0 d.1
          (bare_lacks (object_here h sites (plan.thing_place n)) (codes "setAttribute")
          (ap (λ (o : Object). o.props) (thing_here h sites n) ∙ nodes.props n k within on))
          (can n k inside on) kept (before ∙ made n k inside on) go
