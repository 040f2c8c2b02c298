-- What objects that are related have and read of host names.
use Rattle.std.proofs.Common.{◌≡◌, refl, ap, ◌||◌, Bool, true, false, Option, Some, None, length, if◌then◌else◌}
use Rattle.std.proofs.lemmas.Bool.{lt-ltb}
use Rattle.std.specs.Option.{option_map}
use Rattle.std.specs.Prelude.{bytes_eq}
use Rattle.js_core.specs.Text.{Text}
use Rattle.js_values.specs.declared.ids.NodeId.{NodeId}
use Rattle.js_values.specs.declared.ids.ObjId.{ObjId}
use Rattle.dom_tree.specs.Steps.{is_there}
use Rattle.object_heap.specs.Object.{Object}
use Rattle.object_heap.specs.Property.{own_property}
use Rattle.object_heap.specs.declared.object.Class.{Class}
use Rattle.object_heap.specs.declared.object.EventParts.{EventParts}
use Rattle.object_heap.specs.declared.property.Prop.{Prop}
use Rattle.page_host.specs.declared.host_name.HostName.{HostName}
use Rattle.page_host.specs.declared.host_name.HostName.TheVariants as name
use Rattle.page_host.specs.HostNames.{host_name, is_handler}
use Rattle.page_meaning.specs.Classes.{is_callable_class, is_node_class}
use Rattle.page_meaning.specs.HostNames.{Seen, event_reads, has_host_name, has_named_host, held, host_reads, hosted, is_kept, object_or_null, see}
use Rattle.page_meaning.specs.Reading.{seen_at, seen_value}
use Rattle.page_meaning.specs.Store.{Store}
use Rattle.heap_relations.proofs.Callers as heap
use Rattle.heap_relations.specs.Naming.{Named, named, World}
use Rattle.heap_relations.specs.Related.{ClassRel, EventRel, Maybe, ObjectIds, ObjectRel, PropRel, ValueRel, array, bound, event, fault, math, native, node, none, null, num, object, page, plain, some, text, truth, undefined, window}
use Rattle.host_relations.proofs.Callers as host
use Rattle.host_relations.specs.HostNames.{ReadRel, reads}
use Rattle.host_relations.specs.Linked.{Linked}
use Rattle.agreement.specs.Acts.{StoreRel}

-- a function is one on both sides
pub is_callable_class_same : {W : World} {c d : Class} → ClassRel (named W) c d → is_callable_class c ≡ is_callable_class d
is_callable_class_same plain = refl
is_callable_class_same array = refl
is_callable_class_same (page h) = refl
is_callable_class_same native = refl
is_callable_class_same (bound h v vs) = refl
is_callable_class_same fault = refl
is_callable_class_same math = refl
is_callable_class_same window = refl
is_callable_class_same (node h) = refl
is_callable_class_same (event h) = refl

-- what a chain of prototypes shows of a host name
pub data SeenRel (W : World) : Seen → Seen → Type 0 where
  held_rel : {p q : Prop} → PropRel (named W) p q → SeenRel W (held p) (held q)
  hosted_rel : {c d : Class} → ClassRel (named W) c d → SeenRel W (hosted c) (hosted d)

seen_prop_rel : {W : World} {o p : Option Prop} → Maybe (PropRel (named W)) o p → Maybe (SeenRel W) (option_map held o) (option_map held p)
seen_prop_rel none = none
seen_prop_rel (some h) = some (held_rel h)

id_value_rel : {W : World} {o p : Option ObjId} → Maybe (ObjectIds (named W)) o p → ValueRel (named W) (object_or_null o) (object_or_null p)
id_value_rel none = null
id_value_rel (some {a = a} {b = b} h) = object h.linked

event_reads_rel : {W : World} (e f : EventParts) (n : HostName) → EventRel (named W) e f → ValueRel (named W) (event_reads e n) (event_reads f n)
event_reads_rel e f name.EventType h = rw h.kind text
event_reads_rel e f name.Target h = id_value_rel h.target
event_reads_rel e f name.CurrentTarget h = id_value_rel h.current
event_reads_rel e f name.EventPhase h = rw h.phase num
event_reads_rel e f name.Bubbles h = rw h.bubbles truth
event_reads_rel e f name.Cancelable h = rw h.cancelable truth
event_reads_rel e f name.TimeStamp h = num
event_reads_rel e f n h = undefined

module _ {W : World} {s t : Store} (g : StoreRel W s t) where
  -- linked nodes are there
  pub both_there : (k l : NodeId) → Linked W k.0 l.0 → (is_there s.host.nodes k ≡ true) × (is_there t.host.nodes l ≡ true)
  both_there k l h =
      let inside = g.host.nodes.inside k.0 l.0 h in
      (lt-ltb k.0 (length s.host.nodes) inside.0, lt-ltb l.0 (length t.host.nodes) inside.1)

  pub is_node_class_same : {c d : Class} → ClassRel (named W) c d → is_node_class s.host.nodes c ≡ is_node_class t.host.nodes d
  is_node_class_same (node {m = k} {n = l} h) = let there = both_there k l h in rw (there.0, there.1) refl
  is_node_class_same plain = refl
  is_node_class_same array = refl
  is_node_class_same (page h) = refl
  is_node_class_same native = refl
  is_node_class_same (bound h v vs) = refl
  is_node_class_same fault = refl
  is_node_class_same math = refl
  is_node_class_same window = refl
  is_node_class_same (event h) = refl

  pub has_host_name_same : {c d : Class} (n : HostName) → ClassRel (named W) c d → has_host_name s.host.nodes c n ≡ has_host_name t.host.nodes d n
  has_host_name_same n (node {m = k} {n = l} h) = host.host_name_same g.host {k = k} {l = l} h n
  has_host_name_same n (event h) = refl
  has_host_name_same n plain = refl
  has_host_name_same n array = refl
  has_host_name_same n (page h) = refl
  has_host_name_same n native = refl
  has_host_name_same n (bound h v vs) = refl
  has_host_name_same n fault = refl
  has_host_name_same n math = refl
  has_host_name_same n window = refl

  pub has_named_host_same : {c d : Class} (o : Option HostName) → ClassRel (named W) c d → has_named_host s.host.nodes c o ≡ has_named_host t.host.nodes d o
  has_named_host_same None h = refl
  has_named_host_same (Some n) h = has_host_name_same n h

  -- what may not be put or defined
  pub is_kept_same : {c d : Class} (x : Text) → ClassRel (named W) c d → is_kept s.host.nodes c x ≡ is_kept t.host.nodes d x
  is_kept_same x (node {m = k} {n = l} h) = ap (λ b. is_handler x || b) (has_named_host_same (host_name x) (node {m = k} {n = l} h))
  is_kept_same x (event {p = e} {q = f} h) = has_named_host_same (host_name x) (event {p = e} {q = f} h)
  is_kept_same x plain = refl
  is_kept_same x array = refl
  is_kept_same x (page h) = refl
  is_kept_same x native = refl
  is_kept_same x (bound h v vs) = refl
  is_kept_same x fault = refl
  is_kept_same x math = refl
  is_kept_same x window = refl

  -- ---- what is seen up the chains, and read

  see_rel : (x : Text) (n : HostName) (o p : Object) → ObjectRel (named W) o p → Maybe (SeenRel W) (see s.host.nodes x n o) (see t.host.nodes x n p)
  see_rel x n o p h = by (has_host_name s.host.nodes o.class n) (has_host_name t.host.nodes p.class n) (has_host_name_same n h.class)
    where
      by : (a b : Bool) → a ≡ b
          → Maybe (SeenRel W) (if a then Some (hosted o.class) else option_map held (own_property o.props x)) (if b then Some (hosted p.class) else option_map held (own_property p.props x))
      by true true e = some (hosted_rel h.class)
      by false false e = seen_prop_rel (heap.entry_found (bytes_eq x) h.props)
      by true false e = absurd (cc e)
      by false true e = absurd (cc e)

  pub seen_at_rel : (a b : ObjId) → Named W a.0 b.0 → (x : Text) (n : HostName) → Maybe (SeenRel W) (seen_at s a x n) (seen_at t b x n)
  seen_at_rel a b i x n = heap.found_read g.heap i (see s.host.nodes x n) (see t.host.nodes x n) (see_rel x n)

  pub host_reads_rel : {c d : Class} (n : HostName) → ClassRel (named W) c d → ReadRel W (host_reads s.host c n) (host_reads t.host d n)
  host_reads_rel n (node {m = k} {n = l} h) = host.host_name_read g.host {k = k} {l = l} h n
  host_reads_rel n (event {p = e} {q = f} h) = reads (event_reads_rel e f n h)
  host_reads_rel n plain = reads undefined
  host_reads_rel n array = reads undefined
  host_reads_rel n (page h) = reads undefined
  host_reads_rel n native = reads undefined
  host_reads_rel n (bound h v vs) = reads undefined
  host_reads_rel n fault = reads undefined
  host_reads_rel n math = reads undefined
  host_reads_rel n window = reads undefined

  -- what was seen, as a value or the error of a text that is too long
  pub seen_value_rel : {o p : Option Seen} (n : HostName) → Maybe (SeenRel W) o p → ReadRel W (seen_value s n o) (seen_value t n p)
  seen_value_rel n none = reads undefined
  seen_value_rel n (some (held_rel h)) = reads h.value
  seen_value_rel n (some (hosted_rel h)) = host_reads_rel n h
