-- No own name of an object is kept from it, whatever is done to it.
use Rattle.std.proofs.Common.{◌≡◌, refl, ap, ◌∙◌, Bool, true, false, ◌||◌, not, ℕ, List, [], ◌∷◌, Option, Some, None, filter, bytes_eq, if◌then◌else◌}
use Rattle.std.proofs.lemmas.Bool.{and_from, and_parts}
use Rattle.std.specs.List.{list_all}
use Rattle.js_values.specs.declared.ids.NodeId.{NodeId}
use Rattle.dom_tree.specs.Node.{Nodes}
use Rattle.object_heap.specs.Attempt.{Attempt}
use Rattle.object_heap.specs.Define.{deleted_over, is_below, is_closed_at, length_name}
use Rattle.object_heap.specs.Index.{index_of}
use Rattle.object_heap.specs.Object.{is_list, Object}
use Rattle.object_heap.specs.Property.{Props, own_property}
use Rattle.object_heap.specs.declared.object.Class.{Class}
use Rattle.object_heap.specs.declared.object.Class.TheVariants as class
use Rattle.object_heap.specs.declared.object.EventParts.{EventParts}
use Rattle.object_heap.specs.declared.property.Prop.{Prop}
use Rattle.page_host.specs.declared.host_name.HostName.{HostName}
use Rattle.page_host.specs.HostNames.{has_at_node, host_name, is_handler}
use Rattle.page_meaning.specs.HostNames.{has_named_host, is_kept}
use Rattle.object_shapes.proofs.Called.{Call, IsSmall, after_call, call_stays, defining, deleting, putting}
use Rattle.object_shapes.proofs.Rules.{Rules}
use Rattle.object_shapes.proofs.Window.{all_added, all_removed, all_set}

abbrev pub have_no_kept : Nodes → Class → Props → Bool
have_no_kept t c ps = list_all (λ e. not (is_kept t c e.0)) ps

-- what may be put or defined; all may be tried to be deleted
abbrev pub IsFree : Nodes → Class → Call → Type 0
IsFree t c (putting can name v) = is_kept t c name ≡ false
IsFree t c (defining name change) = is_kept t c name ≡ false
IsFree t c (deleting name) = Unit {0}

all_left : (f : List ℕ → Bool) (g : List ℕ × Prop → Bool) (ps : Props) → list_all (λ e. f e.0) ps ≡ true → list_all (λ e. f e.0) (filter g ps) ≡ true
all_left f g [] h = refl
all_left f g (e ∷ es) h =
    let both = and_parts (f e.0) (list_all (λ x. f x.0) es) h in
    by_case (g e) both.0 (all_left f g es both.1)
  where
    by_case : (b : Bool) → f e.0 ≡ true → list_all (λ x. f x.0) (filter g es) ≡ true → list_all (λ x. f x.0) (if b then e ∷ filter g es else filter g es) ≡ true
    by_case true one more = and_from (f e.0) (list_all (λ x. f x.0) (filter g es)) one more
    by_case false one more = more

-- nothing is kept from an array
array_free : (t : Nodes) (c : Class) (name : List ℕ) → is_list c ≡ true → is_kept t c name ≡ false
array_free t class.List name h = refl
array_free t c name h = cc h

free_rules : (n : ℕ) (t : Nodes) (c : Class) (list : Bool) → is_list c ≡ list → Rules n list (λ name. is_kept t c name ≡ false) (λ ps. have_no_kept t c ps ≡ true)
free_rules n t c list e = record {
  length = λ array. array_free t c length_name (e ∙ array);
  adds = λ ps name p a none small h. all_added (λ x. not (is_kept t c x)) ps name p h (ap not a);
  sets = λ ps name p q a there fits small h. all_set (bytes_eq name) (λ x. not (is_kept t c x)) ps q h;
  removes = λ ps name p a there may h. all_removed (bytes_eq name) (λ x. not (is_kept t c x)) ps h;
  filters = λ end ps array h. all_left (λ x. not (is_kept t c x)) (λ e. is_below end (index_of e.0)) ps h;
}

one_of : (t : Nodes) (c : Class) (b : Bool) (x y : Attempt Object) → have_no_kept t c x.after.props ≡ true → have_no_kept t c y.after.props ≡ true
    → have_no_kept t c (if b then x else y).after.props ≡ true
one_of t c true x y h g = h
one_of t c false x y h g = g

deleted_free : (t : Nodes) (c : Class) (o : Object) (name : List ℕ) (own : Option Prop) → have_no_kept t c o.props ≡ true
    → have_no_kept t c (deleted_over o name own).after.props ≡ true
deleted_free t c o name None h = h
deleted_free t c o name (Some p) h = one_of t c p.configurable _ _ (all_removed (bytes_eq name) (λ x. not (is_kept t c x)) o.props h) h

pub free_stays : (n : ℕ) (t : Nodes) (o : Object) (call : Call) → IsSmall n call → IsFree t o.class call → have_no_kept t o.class o.props ≡ true
    → have_no_kept t o.class (after_call o call).props ≡ true
free_stays n t o (putting can name v) small may h =
    call_stays n _ (λ ps. have_no_kept t o.class ps ≡ true) (is_list o.class) (free_rules n t o.class (is_list o.class) refl) o (putting can name v) refl (λ free. may) small h
free_stays n t o (defining name change) small may h =
    call_stays n _ (λ ps. have_no_kept t o.class ps ≡ true) (is_list o.class) (free_rules n t o.class (is_list o.class) refl) o (defining name change) refl (λ free. may) small h
free_stays n t o (deleting name) small may h =
    one_of t o.class (is_closed_at o name) _ _ h (deleted_free t o.class o name (own_property o.props name) h)

-- ---- in another page

-- what is kept from an object is the same where it is of the same kind, and, if it is of a node, the node has the same
pub kept_same : (t u : Nodes) (c : Class) → ((k : NodeId) → c ≡ class.Node k → (n : HostName) → has_at_node u k n ≡ has_at_node t k n)
    → (x : List ℕ) → is_kept u c x ≡ is_kept t c x
kept_same t u (class.Node k) same x = by (host_name x)
  where
    by : (o : Option HostName) → (is_handler x || has_named_host u (class.Node k) o) ≡ (is_handler x || has_named_host t (class.Node k) o)
    by None = refl
    by (Some n) = ap (λ b. is_handler x || b) (same k refl n)
kept_same t u (class.Event e) same x = by (host_name x)
  where
    by : (o : Option HostName) → has_named_host u (class.Event e) o ≡ has_named_host t (class.Event e) o
    by None = refl
    by (Some n) = refl
kept_same t u c same x = refl

-- other parts of an event
pub event_kept : (t : Nodes) (d e : EventParts) (x : List ℕ) → is_kept t (class.Event d) x ≡ is_kept t (class.Event e) x
event_kept t d e x = by (host_name x)
  where
    by : (o : Option HostName) → has_named_host t (class.Event d) o ≡ has_named_host t (class.Event e) o
    by None = refl
    by (Some n) = refl

pub same_free : (t u : Nodes) (c d : Class) → ((x : List ℕ) → is_kept u d x ≡ is_kept t c x) → (ps : Props) → have_no_kept t c ps ≡ true → have_no_kept u d ps ≡ true
same_free t u c d same [] h = refl
same_free t u c d same (p ∷ ps) h =
    let both = and_parts (not (is_kept t c p.0)) (have_no_kept t c ps) h in
    and_from (not (is_kept u d p.0)) (have_no_kept u d ps) (ap not (same p.0) ∙ both.0) (same_free t u c d same ps both.1)
