-- Objects that are neither nodes nor events: nothing may be kept from them, and their names are their properties alone.
use Rattle.std.proofs.Common.{◌≡◌, inl, inr, refl, sym, ap, ◌∙◌, arith, ℕ, ◌<◌, Bool, true, false, is_none, List, [], ◌∷◌, Option, Some, None, bytes_eq}
use Rattle.std.proofs.lemmas.Bool.{and_parts, cond-false}
use Rattle.std.proofs.lemmas.Option.{none-some}
use Rattle.std.proofs.lemmas.Slice.Eq.{bytes_eq-Decides}
use Rattle.std.specs.Fmt.{decimal}
use Rattle.std.specs.List.{list_all}
use Rattle.js_values.specs.declared.ids.ObjId.{ObjId}
use Rattle.js_values.specs.declared.throw.Throw.TheVariants.{CannotDefine, CannotSet}
use Rattle.js_values.specs.declared.value.Value.{Value}
use Rattle.dom_tree.specs.Node.{Nodes}
use Rattle.object_heap.proofs.Callers.{kinds_steps}
use Rattle.object_heap.specs.Attempt.{throws}
use Rattle.object_heap.specs.Define as object
use Rattle.object_heap.specs.Heap.{Contents, define_own, prevent_extensions, put}
use Rattle.object_heap.specs.Index.{index_end, index_of}
use Rattle.object_heap.specs.Laws.{IsSameKind, defines, prevents}
use Rattle.object_heap.specs.Object.{Object}
use Rattle.object_heap.specs.Property.{Props, own_property}
use Rattle.object_heap.specs.declared.object.Class.{Class}
use Rattle.object_heap.specs.declared.object.Class.TheVariants as class
use Rattle.object_heap.specs.declared.property.Change.{Change}
use Rattle.object_heap.specs.declared.property.Prop.{Prop}
use Rattle.page_host.specs.HostNames.{Named, host_name, host_names, name_among}
use Rattle.page_meaning.specs.Classes.{class_at}
use Rattle.page_meaning.specs.HostNames.{is_kept}
use Rattle.page_meaning.specs.Pristine.{built_ins}
use Rattle.page_meaning.specs.Steps.{define_tried, put_tried}
use Rattle.page_meaning.specs.Store.{Store}
use Rattle.object_shapes.specs.Shapes.{built_in_at}
use Rattle.rebuilding.proofs.Indices.{decimal_apart}
use Rattle.rebuilding.proofs.Placed.{at_or}

-- it is neither a node nor an event
abbrev pub is_ordinary : Class → Bool
is_ordinary (class.Node k) = false
is_ordinary (class.Event parts) = false
is_ordinary c = true

-- ---- nothing is kept from them

pub free_at : (t : Nodes) (c : Class) (x : List ℕ) → is_ordinary c ≡ true → is_kept t c x ≡ false
free_at t (class.Node k) x e = cc e
free_at t (class.Event parts) x e = cc e
free_at t c x e = refl

pub put_free : (s : Store) (at : ObjId) (x : List ℕ) (v : Value) → is_ordinary (class_at s at) ≡ true → put_tried s at x v ≡ put s.heap at.0 x v
put_free s at x v free =
    cond-false (is_kept s.host.nodes (class_at s at) x) (throws s.heap CannotSet) (put s.heap at.0 x v) (free_at s.host.nodes (class_at s at) x free)

pub define_free : (s : Store) (at : ObjId) (x : List ℕ) (change : Change) → is_ordinary (class_at s at) ≡ true
    → define_tried s at x change ≡ define_own s.heap at.0 x change
define_free s at x change free =
    cond-false (is_kept s.host.nodes (class_at s at) x) (throws s.heap CannotDefine) (define_own s.heap at.0 x change)
    (free_at s.host.nodes (class_at s at) x free)

-- what is kept from no object of the class
pub define_unkept : (s : Store) (at : ObjId) (x : List ℕ) (change : Change) → is_kept s.host.nodes (class_at s at) x ≡ false
    → define_tried s at x change ≡ define_own s.heap at.0 x change
define_unkept s at x change free = cond-false (is_kept s.host.nodes (class_at s at) x) (throws s.heap CannotDefine) (define_own s.heap at.0 x change) free

-- ---- names that are none of the host's

-- no index is
apart_from : (ns : Named) (i : ℕ) → i < index_end → list_all (λ n. is_none (index_of n.0)) ns ≡ true → name_among ns (decimal i) ≡ None
apart_from [] i small h = refl
apart_from (n ∷ ns) i small h =
    let parts = and_parts (is_none (index_of n.0)) (list_all (λ m. is_none (index_of m.0)) ns) h in
    cond-false (bytes_eq (decimal i) n.0) (Some n.1) (name_among ns (decimal i)) (decimal_apart i n.0 small (no_index (index_of n.0) parts.0))
    ∙ apart_from ns i small parts.1
  where
    no_index : (o : Option ℕ) → is_none o ≡ true → o ≡ Some i → ⊥
    no_index None e is = none-some i is
    no_index (Some j) e is = cc e

pub index_unhosted : (i : ℕ) → i < index_end → host_name (decimal i) ≡ None
unfolding host_name
index_unhosted i small = apart_from host_names i small refl

-- and no name of a property of a built-in object
abbrev unhosted_props : Props → Bool
unhosted_props ps = list_all (λ e. is_none (host_name e.0)) ps

abbrev unhosted : Object → Bool
unhosted o = unhosted_props o.props

all_unhosted : list_all unhosted built_ins ≡ true
unfolding host_name
all_unhosted = refl

none_is : {A : Type 0} (o : Option A) → is_none o ≡ true → o ≡ None
none_is None h = refl
none_is (Some a) h = cc h

own_unhosted : (ps : Props) (x : List ℕ) (p : Prop) → unhosted_props ps ≡ true → own_property ps x ≡ Some p → host_name x ≡ None
own_unhosted [] x p all h = absurd (none-some p h)
own_unhosted (e ∷ es) x p all h = by (bytes_eq x e.0) refl (λ g. own_unhosted es x p parts.1 g)
  where
    parts : (is_none (host_name e.0) ≡ true) × (unhosted_props es ≡ true)
    parts = and_parts (is_none (host_name e.0)) (unhosted_props es) all

    by : (b : Bool) → bytes_eq x e.0 ≡ b → (own_property es x ≡ Some p → host_name x ≡ None) → host_name x ≡ None
    by true same later = ap host_name ((bytes_eq-Decides x e.0).0 same) ∙ none_is (host_name e.0) parts.0
    by false far later = later (sym (cond-false (bytes_eq x e.0) _ _ far) ∙ h)

pub built_in_unhosted : (k : ℕ) (x : List ℕ) (p : Prop) → own_property (built_in_at k).props x ≡ Some p → host_name x ≡ None
built_in_unhosted k x p h = own_unhosted (built_in_at k).props x p (at_or unhosted built_ins k all_unhosted refl) h

-- ---- what an object is, whatever is defined of it

same_kind : (c d : Class) → IsSameKind c d → is_ordinary d ≡ true → is_ordinary c ≡ true
same_kind c d (inl same) free = ap is_ordinary same ∙ free
same_kind c (class.Event parts) (inr both) free = cc free
same_kind c d (inr both) free = cc both.1

-- a heap of this object alone
abbrev alone : Object → Contents
alone o = record { objects = o ∷ []; environments = [] }

pub free_defined : (o : Object) (x : List ℕ) (change : Change) → is_ordinary o.class ≡ true → is_ordinary (object.define_own o x change).after.class ≡ true
unfolding define_own
free_defined o x change free =
    same_kind (object.define_own o x change).after.class o.class (kinds_steps (alone o) (defines 0 x change ∷ []) 0 (omega arith)).0 free

pub free_prevented : (o : Object) → is_ordinary o.class ≡ true → is_ordinary (object.prevented o).after.class ≡ true
unfolding prevent_extensions
free_prevented o free =
    same_kind (object.prevented o).after.class o.class (kinds_steps (alone o) (prevents 0 ∷ []) 0 (omega arith)).0 free

-- nor is it one of another kind
pub kind_defined : (o : Object) (x : List ℕ) (change : Change) → IsSameKind (object.define_own o x change).after.class o.class
unfolding define_own
kind_defined o x change = (kinds_steps (alone o) (defines 0 x change ∷ []) 0 (omega arith)).0

pub kind_prevented : (o : Object) → IsSameKind (object.prevented o).after.class o.class
unfolding prevent_extensions
kind_prevented o = (kinds_steps (alone o) (prevents 0 ∷ []) 0 (omega arith)).0
