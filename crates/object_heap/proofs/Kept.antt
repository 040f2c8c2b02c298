-- What no call changes: an object's class and prototype.
use Rattle.std.proofs.Common.{◌≡◌, refl, ℕ, ◌+◌, Bool, true, false, List, Option, Some, None, if◌then◌else◌, not, ◌&&◌, ◌||◌, nat_lt, nat_le, bytes_eq}
use Rattle.js_values.specs.declared.throw.Throw.{Throw}
use Rattle.js_values.specs.declared.throw.Throw.TheVariants.{CannotDefine, CannotSet}
use Rattle.js_values.specs.declared.value.Value.{Value}
use Rattle.object_heap.specs.Object.{is_list, is_window, Object}
use Rattle.object_heap.specs.declared.property.Change.{Change}
use Rattle.object_heap.specs.declared.property.Prop.{Prop}
use Rattle.object_heap.specs.Attempt.{Attempt}
use Rattle.object_heap.specs.Define.{define, define_indexed, define_length, define_length_as, define_ordinary, define_own, defined_over, delete_own, deleted_over, grown_over, is_closed_at, length_name, prevented, put_change, put_own, shrunk, valid_length, array_length, has_writable_length}
use Rattle.object_heap.specs.Index.{index_of}
use Rattle.object_heap.specs.Property.{own_property, may_update}

pub record Keeps (o p : Object) : Type 0 where
  pub class : p.class ≡ o.class
  pub proto : p.proto ≡ o.proto

pub keeps : (o p : Object) → p.class ≡ o.class → p.proto ≡ o.proto → Keeps o p
keeps o p c q = record { class = c; proto = q }

one_of : (o : Object) (b : Bool) (x y : Attempt Object) → Keeps o x.after → Keeps o y.after → Keeps o (if b then x else y).after
one_of o true x y h g = h
one_of o false x y h g = g

defined_over_keeps : (t : Throw) (o : Object) (name : List ℕ) (change : Change) (own : Option Prop) → Keeps o (defined_over t o name change own).after
defined_over_keeps t o name change None = one_of o o.extensible _ _ (keeps o _ refl refl) (keeps o _ refl refl)
defined_over_keeps t o name change (Some p) = one_of o (may_update p change) _ _ (keeps o _ refl refl) (keeps o _ refl refl)

define_ordinary_keeps : (t : Throw) (o : Object) (name : List ℕ) (change : Change) → Keeps o (define_ordinary t o name change).after
define_ordinary_keeps t o name change = defined_over_keeps t o name change (own_property o.props name)

grown_over_keeps : (o : Object) (n : ℕ) (attempt : Attempt Object) (thrown : Option Throw) → Keeps o attempt.after → Keeps o (grown_over n attempt thrown).after
grown_over_keeps o n attempt None h = keeps o _ h.class h.proto
grown_over_keeps o n attempt (Some t) h = h

define_indexed_keeps : (t : Throw) (o : Object) (name : List ℕ) (change : Change) (index : Option ℕ) → Keeps o (define_indexed t o name change index).after
define_indexed_keeps t o name change None = define_ordinary_keeps t o name change
define_indexed_keeps t o name change (Some i) =
    one_of o (nat_lt i (array_length o)) _ _ (define_ordinary_keeps t o name change)
    (one_of o (has_writable_length o) _ _ (grown_over_keeps o (i + 1) (define_ordinary t o name change) (define_ordinary t o name change).thrown (define_ordinary_keeps t o name change)) (keeps o _ refl refl))

shrunk_keeps : (t : Throw) (o : Object) (change : Change) (end : ℕ) (own : Option Prop) → Keeps o (shrunk t o change end own).after
shrunk_keeps t o change end None = keeps o _ refl refl
shrunk_keeps t o change end (Some p) = one_of o (p.writable && may_update p change) _ _ (keeps o _ refl refl) (keeps o _ refl refl)

define_length_as_keeps : (t : Throw) (o : Object) (change : Change) (end : Option ℕ) → Keeps o (define_length_as t o change end).after
define_length_as_keeps t o change None = keeps o _ refl refl
define_length_as_keeps t o change (Some n) =
    one_of o (nat_le (array_length o) n) _ _ (define_ordinary_keeps t o length_name change) (shrunk_keeps t o change n (own_property o.props length_name))

define_length_keeps : (t : Throw) (o : Object) (change : Change) (value : Option Value) → Keeps o (define_length t o change value).after
define_length_keeps t o change None = define_ordinary_keeps t o length_name change
define_length_keeps t o change (Some v) = define_length_as_keeps t o change (valid_length v)

pub define_keeps : (t : Throw) (o : Object) (name : List ℕ) (change : Change) → Keeps o (define t o name change).after
define_keeps t o name change =
    one_of o (is_list o.class) _ _
    (one_of o (bytes_eq name length_name) _ _ (define_length_keeps t o change change.value) (define_indexed_keeps t o name change (index_of name)))
    (define_ordinary_keeps t o name change)

pub define_own_keeps : (o : Object) (name : List ℕ) (change : Change) → Keeps o (define_own o name change).after
define_own_keeps o name change = one_of o (is_closed_at o name) _ _ (keeps o _ refl refl) (define_keeps CannotDefine o name change)

pub put_own_keeps : (can : Bool) (o : Object) (name : List ℕ) (v : Value) → Keeps o (put_own can o name v).after
put_own_keeps can o name v =
    one_of o (not (is_closed_at o name) && can) _ _ (define_keeps CannotSet o name (put_change v (own_property o.props name))) (keeps o _ refl refl)

deleted_over_keeps : (o : Object) (name : List ℕ) (own : Option Prop) → Keeps o (deleted_over o name own).after
deleted_over_keeps o name None = keeps o _ refl refl
deleted_over_keeps o name (Some p) = one_of o p.configurable _ _ (keeps o _ refl refl) (keeps o _ refl refl)

pub delete_own_keeps : (o : Object) (name : List ℕ) → Keeps o (delete_own o name).after
delete_own_keeps o name = one_of o (is_closed_at o name) _ _ (keeps o _ refl refl) (deleted_over_keeps o name (own_property o.props name))

pub prevented_keeps : (o : Object) → Keeps o (prevented o).after
prevented_keeps o = one_of o (o.closed || is_window o.class) _ _ (keeps o _ refl refl) (keeps o _ refl refl)
