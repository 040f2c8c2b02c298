-- No error that a heap throws tells a name. An array stays one, and its length may be put as any number.
use Rattle.std.proofs.Common.{ℕ, ◌+◌, ◌&&◌, ◌||◌, not, Bool, true, false, Option, Some, None, bytes_eq, nat_eq, nat_le, nat_lt, if◌then◌else◌, ◌≡◌, refl, ap, sym, subst, ◌∙◌, ◌<◌, ◌≤◌, inl, inr, length, IsSome, arith, List}
use Rattle.std.proofs.lemmas.Bool.{ltb-false, ltb-true}
use Rattle.js_core.specs.Whole.{largest}
use Rattle.js_core.specs.Text.{Text}
use Rattle.js_values.specs.declared.ids.ObjId.{ObjId}
use Rattle.js_values.specs.declared.throw.Throw.{Throw}
use Rattle.js_values.specs.declared.throw.Throw.TheVariants.{CannotDefine, CannotDelete, CannotSet, InvalidLength}
use Rattle.js_values.specs.declared.value.Value.{Value}
use Rattle.object_heap.specs.Attempt.{Attempt, done, throws}
use Rattle.object_heap.specs.Chain.{can_put, object_at}
use Rattle.object_heap.specs.Define.{array_length, define, define_indexed, define_length, define_length_as, define_ordinary, define_own, defined_over, delete_own, deleted_over, end_kept, grown, grown_over, has_writable_length, is_closed_at, length_name, prevented, put_change, put_own, shrunk, shrunk_to, valid_length, number}
use Rattle.object_heap.specs.declared.object.Class.{Class}
use Rattle.object_heap.specs.declared.object.Class.TheVariants.{Bound, Event, Fault, List as Array, Math, Native, Node, Page, Plain, Window}
use Rattle.object_heap.specs.Heap as heap
use Rattle.object_heap.specs.Laws as heap_laws
use Rattle.object_heap.specs.Laws.{IsSameKind}
use Rattle.object_heap.proofs.Callers.{kinds_steps, object_absent}
use Rattle.page_meaning.proofs.Callers.{heap_of_steps}
use Rattle.page_meaning.specs.Kept.{Keeps}
use Rattle.literal_values.proofs.Heap.{put_length}
use Rattle.literal_values.specs.Stores.{LiteralStore}
use Rattle.object_heap.specs.Heap.{Contents}
use Rattle.object_heap.specs.Index.{index_of}
use Rattle.object_heap.specs.Object.{Object, is_list, is_window}
use Rattle.object_heap.specs.Property.{may_update, own_property, updated}
use Rattle.object_heap.specs.declared.property.Change.{Change}
use Rattle.object_heap.specs.declared.property.Prop.{Prop}
use Rattle.page_meaning.specs.Classes.{class_at}
use Rattle.page_meaning.specs.HostNames.{is_kept}
use Rattle.page_meaning.specs.Steps.{after_step, define_tried, put_tried, puts, unless_kept}
use Rattle.page_meaning.specs.Store.{Store, with_heap}
use Rattle.literal_values.specs.Values.{LiteralThrow, MaybeThrow}

-- ---- errors

pub record Tells {A : Type 0} (attempt : Attempt A) : Type 0 where
  pub thrown : MaybeThrow attempt.thrown

none_told : {A : Type 0} (a : A) → Tells (done a)
none_told a = record { thrown = tt }

one_told : {A : Type 0} (a : A) (t : Throw) → LiteralThrow t → Tells (throws a t)
one_told a t h = record { thrown = h }

if_told : {A : Type 0} (b : Bool) {x y : Attempt A} → Tells x → Tells y → Tells (if b then x else y)
if_told true h k = h
if_told false h k = k

over_told : (t : Throw) (o : Object) (name : Text) (change : Change) (p : Option Prop) → LiteralThrow t → Tells (defined_over t o name change p)
over_told t o name change None h = if_told o.extensible (none_told _) (one_told o t h)
over_told t o name change (Some q) h = if_told (may_update q change) (none_told _) (one_told o t h)

ordinary_told : (t : Throw) (o : Object) (name : Text) (change : Change) → LiteralThrow t → Tells (define_ordinary t o name change)
ordinary_told t o name change h = over_told t o name change (own_property o.props name) h

grown_told : (n : ℕ) (x : Attempt Object) → Tells x → Tells (grown n x)
grown_told n x h = by_case x.thrown
  where
    by_case : (t : Option Throw) → Tells (grown_over n x t)
    by_case None = none_told _
    by_case (Some t) = h

indexed_told : (t : Throw) (o : Object) (name : Text) (change : Change) (index : Option ℕ) → LiteralThrow t → Tells (define_indexed t o name change index)
indexed_told t o name change None h = ordinary_told t o name change h
indexed_told t o name change (Some i) h =
    let one = ordinary_told t o name change h in
    if_told (nat_lt i (array_length o)) one (if_told (has_writable_length o) (grown_told (i + 1) _ one) (one_told o t h))

shrunk_to_told : (t : Throw) (o : Object) (p : Prop) (end kept : ℕ) → LiteralThrow t → Tells (shrunk_to t o p end kept)
shrunk_to_told t o p end kept h = record { thrown = by_case (nat_eq kept end) }
  where
    by_case : (b : Bool) → MaybeThrow (if b then None else Some t)
    by_case true = tt
    by_case false = h

shrunk_told : (t : Throw) (o : Object) (change : Change) (end : ℕ) (p : Option Prop) → LiteralThrow t → Tells (shrunk t o change end p)
shrunk_told t o change end None h = one_told o t h
shrunk_told t o change end (Some p) h =
    if_told (p.writable && may_update p change) (shrunk_to_told t o (updated p change) end (end_kept end o.props) h) (one_told o t h)

length_as_told : (t : Throw) (o : Object) (change : Change) (m : Option ℕ) → LiteralThrow t → Tells (define_length_as t o change m)
length_as_told t o change None h = one_told o InvalidLength tt
length_as_told t o change (Some n) h =
    if_told (nat_le (array_length o) n) (ordinary_told t o length_name change h) (shrunk_told t o change n (own_property o.props length_name) h)

length_told : (t : Throw) (o : Object) (change : Change) (v : Option Value) → LiteralThrow t → Tells (define_length t o change v)
length_told t o change None h = ordinary_told t o length_name change h
length_told t o change (Some v) h = length_as_told t o change (valid_length v) h

told : (t : Throw) (o : Object) (name : Text) (change : Change) → LiteralThrow t → Tells (define t o name change)
told t o name change h =
    if_told (is_list o.class)
    (if_told (bytes_eq name length_name) (length_told t o change change.value h) (indexed_told t o name change (index_of name) h))
    (ordinary_told t o name change h)

define_own_told : (o : Object) (name : Text) (change : Change) → Tells (define_own o name change)
define_own_told o name change = if_told (is_closed_at o name) (one_told o CannotDefine tt) (told CannotDefine o name change tt)

put_own_told : (can : Bool) (o : Object) (name : Text) (v : Value) → Tells (put_own can o name v)
put_own_told can o name v =
    if_told (not (is_closed_at o name) && can) (told CannotSet o name (put_change v (own_property o.props name)) tt) (one_told o CannotSet tt)

delete_own_told : (o : Object) (name : Text) → Tells (delete_own o name)
delete_own_told o name = if_told (is_closed_at o name) (one_told o CannotDelete tt) (by_case (own_property o.props name))
  where
    by_case : (p : Option Prop) → Tells (deleted_over o name p)
    by_case None = none_told o
    by_case (Some p) = if_told p.configurable (none_told _) (one_told o CannotDelete tt)

prevented_told : (o : Object) → Tells (prevented o)
prevented_told o = if_told (o.closed || is_window o.class) (one_told o CannotDefine tt) (none_told _)

-- ---- of the page

put_told : (h : Contents) (k : ℕ) (name : Text) (v : Value) → MaybeThrow (heap.put h k name v).thrown
unfolding heap.put
put_told h k name v = (put_own_told (can_put h.objects k name) (object_at h.objects k) name v).thrown

define_told : (h : Contents) (k : ℕ) (name : Text) (change : Change) → MaybeThrow (heap.define_own h k name change).thrown
unfolding heap.define_own
define_told h k name change = (define_own_told (object_at h.objects k) name change).thrown

unless_told : (s : Store) (at : ObjId) (x : Text) (t : Throw) (tried : Attempt Contents) → LiteralThrow t → MaybeThrow tried.thrown → MaybeThrow (unless_kept s at x t tried).thrown
unless_told s at x t tried h k = by_case (is_kept s.host.nodes (class_at s at) x)
  where
    by_case : (b : Bool) → MaybeThrow (if b then throws s.heap t else tried).thrown
    by_case true = h
    by_case false = k

pub put_thrown : (s : Store) (at : ObjId) (x : Text) (v : Value) → MaybeThrow (put_tried s at x v).thrown
put_thrown s at x v = unless_told s at x CannotSet (heap.put s.heap at.0 x v) tt (put_told s.heap at.0 x v)

pub define_thrown : (s : Store) (at : ObjId) (x : Text) (change : Change) → MaybeThrow (define_tried s at x change).thrown
define_thrown s at x change = unless_told s at x CannotDefine (heap.define_own s.heap at.0 x change) tt (define_told s.heap at.0 x change)

pub delete_thrown : (h : Contents) (k : ℕ) (name : Text) → MaybeThrow (heap.delete h k name).thrown
unfolding heap.delete
delete_thrown h k name = (delete_own_told (object_at h.objects k) name).thrown

pub prevent_thrown : (h : Contents) (k : ℕ) → MaybeThrow (heap.prevent_extensions h k).thrown
unfolding heap.prevent_extensions
prevent_thrown h k = (prevented_told (object_at h.objects k)).thrown

-- ---- arrays

there : (objects : List Object) (k : ℕ) → is_list (object_at objects k).class ≡ true → k < length objects
there objects k list = by_case (nat_lt k (length objects)) refl
  where
    by_case : (b : Bool) → nat_lt k (length objects) ≡ b → k < length objects
    by_case true e = ltb-true k (length objects) e
    by_case false e = absurd (cc (list, ap (λ (o : Object). is_list o.class) (object_absent objects k (ltb-false k (length objects) e))))

same_list : (c d : Class) → IsSameKind c d → is_list d ≡ true → is_list c ≡ true
same_list c d (inl e) list = rw e list
same_list c (Event parts) (inr e) list = absurd (cc list)
same_list c Plain (inr e) list = absurd (cc list)
same_list c Array (inr e) list = absurd (cc (e.1))
same_list c (Page f env) (inr e) list = absurd (cc list)
same_list c (Native which) (inr e) list = absurd (cc list)
same_list c (Bound target this args) (inr e) list = absurd (cc list)
same_list c Fault (inr e) list = absurd (cc list)
same_list c Math (inr e) list = absurd (cc list)
same_list c Window (inr e) list = absurd (cc list)
same_list c (Node n) (inr e) list = absurd (cc list)

-- whatever is done
pub list_stays : (s t : Store) → Keeps s t → (at : ObjId) → is_list (class_at s at) ≡ true → is_list (class_at t at) ≡ true
list_stays s t keeps at list =
    let steps = heap_of_steps s keeps.steps in
    let same : t.heap ≡ heap_laws.after_steps s.heap steps.0 = ap (λ u. u.heap) keeps.is ∙ steps.1 in
    let kinds = kinds_steps s.heap steps.0 at.0 (there s.heap.objects at.0 list) in
    subst (λ h. is_list (object_at h.objects at.0).class ≡ true) (sym same) (same_list _ _ kinds.0 list)

valid_small : (n : ℕ) → IsSome (valid_length (number n)) → n ≤ largest
valid_small n h = by_case (nat_lt n 4294967296) refl h
  where
    by_case : (b : Bool) → nat_lt n 4294967296 ≡ b → IsSome (if b then Some n else None) → n ≤ largest
    by_case true e i = omega (arith, ltb-true n 4294967296 e)
    by_case false e i = absurd (cc i)

-- what is no length is refused
pub length_put : (s : Store) (at : ObjId) (n : ℕ) → LiteralStore s → is_list (class_at s at) ≡ true
    → LiteralStore (after_step s (puts at length_name (number n))) × ((put_tried s at length_name (number n)).thrown ≡ None → n ≤ largest)
length_put s at n h list = by_case (is_kept s.host.nodes (class_at s at) length_name)
  where
    by_case : (b : Bool) → LiteralStore (with_heap s (if b then throws s.heap CannotSet else heap.put s.heap at.0 length_name (number n)).after)
        × ((if b then throws s.heap CannotSet else heap.put s.heap at.0 length_name (number n)).thrown ≡ None → n ≤ largest)
    by_case true = (h, λ e. absurd (cc e))
    by_case false =
        let put = put_length h.heap at.0 (number n) list in
        (record { heap = put.0; host = h.host }, λ e. valid_small n (put.1 e))
