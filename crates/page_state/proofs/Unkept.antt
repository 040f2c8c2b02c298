-- Where nothing is kept from scripts, what is put and defined is the heap's.
use Rattle.std.proofs.Common.{◌≡◌, refl, ap, List, ℕ, Bool, true, false, Option, Some, None, Result, Ok, Err, if◌then◌else◌}
use Rattle.std.specs.Prelude.{IfOk}
use Rattle.js_core.specs.declared.memory.Failure.{Failure}
use Rattle.js_core.specs.declared.memory.Failure.TheVariants as fault
use Rattle.js_core.specs.declared.memory.OutOfMemory.{OutOfMemory}
use Rattle.js_values.specs.declared.ids.ObjId.{ObjId}
use Rattle.js_values.specs.declared.throw.Throw.{Throw}
use Rattle.js_values.specs.declared.throw.Throw.TheVariants.{CannotDefine, CannotSet}
use Rattle.js_values.specs.declared.value.Value.{Value}
use Rattle.dom_tree.specs.Node.{Nodes}
use Rattle.object_heap.specs.declared.object.Class.{Class}
use Rattle.object_heap.specs.declared.object.Class.TheVariants.{Event, Node}
use Rattle.object_heap.specs.declared.property.Change.{Change}
use Rattle.object_heap.specs.Attempt.{Attempt, Follows, throws}
use Rattle.object_heap.specs.Heap.{Contents, define_own, put}
use Rattle.page_meaning.specs.Classes.{class_at, is_made}
use Rattle.page_meaning.specs.HostNames.{is_kept}
use Rattle.page_meaning.specs.Primitives.{define_at, put_at}
use Rattle.page_meaning.specs.Steps.{define_tried, put_tried, unless_kept}
use Rattle.page_meaning.specs.Store.{Store, with_heap}
use Rattle.page_state.specs.Does.{Does}
use Rattle.page_state.specs.Refusals.{Refuses}

-- ---- objects of the language

plain_class : (t : Nodes) (c : Class) (x : List ℕ) → is_made c ≡ true → is_kept t c x ≡ false
plain_class t (Node k) x h = cc h
plain_class t (Event parts) x h = cc h
plain_class t c x h = refl

-- a put at an object of the language is the heap's
pub put_plain : (s : Store) (at : ObjId) (x : List ℕ) (v : Value) → is_made (class_at s at) ≡ true → put_tried s at x v ≡ put s.heap at.0 x v
put_plain s at x v h =
    ap (λ (b : Bool). if b then throws s.heap CannotSet else put s.heap at.0 x v) (plain_class s.host.nodes (class_at s at) x h)

pub define_plain : (s : Store) (at : ObjId) (x : List ℕ) (c : Change) → is_made (class_at s at) ≡ true → define_tried s at x c ≡ define_own s.heap at.0 x c
define_plain s at x c h =
    ap (λ (b : Bool). if b then throws s.heap CannotDefine else define_own s.heap at.0 x c) (plain_class s.host.nodes (class_at s at) x h)

-- ---- the calls

pub put_kept : (s : Store) (at : ObjId) (x : List ℕ) (v : Value) → is_kept s.host.nodes (class_at s at) x ≡ true → Does (λ _. put_at at x v) s (Some CannotSet) s
put_kept s at x v h = record { is = λ c n. rw h refl }

pub define_kept : (s : Store) (at : ObjId) (x : List ℕ) (c : Change) → is_kept s.host.nodes (class_at s at) x ≡ true → Does (λ _. define_at at x c) s (Some CannotDefine) s
define_kept s at x c h = record { is = λ d n. rw h refl }

-- what a call of the heap tells
record Told (attempt : Attempt Contents) (t : Option Throw) (h : Contents) : Type 0 where
  thrown : attempt.thrown ≡ t
  after : attempt.after ≡ h

told : (attempt : Attempt Contents) (g h : Contents) (r : Result (Unit {0}) (Failure Throw)) (t : Option Throw) → Follows attempt g h r → Refuses r (Ok t) → Told attempt t h
told attempt g h (Ok u) t f e = record { thrown = rw e f.1; after = rw (f.0) refl }
told attempt g h (Err (fault.Cause w)) t f e = record { thrown = rw e f.1; after = rw (f.0) refl }
told attempt g h (Err fault.OutOfMemory) t f e = absurd e

pub put_free : (s : Store) (at : ObjId) (x : List ℕ) (v : Value) (h : Contents) (r : Result (Unit {0}) (Failure Throw)) (o : Result (Option Throw) OutOfMemory)
    → is_kept s.host.nodes (class_at s at) x ≡ false → Follows (put s.heap at.0 x v) s.heap h r → Refuses r o → IfOk o (λ t. Does (λ _. put_at at x v) s t (with_heap s h))
put_free s at x v h r (Err e) free f d = tt
put_free s at x v h r (Ok t) free f d =
    let tells = told (put s.heap at.0 x v) s.heap h r t f d in
    record { is = λ c n. rw (free, tells.thrown, tells.after) refl }

pub define_free : (s : Store) (at : ObjId) (x : List ℕ) (c : Change) (h : Contents) (r : Result (Unit {0}) (Failure Throw)) (o : Result (Option Throw) OutOfMemory)
    → is_kept s.host.nodes (class_at s at) x ≡ false → Follows (define_own s.heap at.0 x c) s.heap h r → Refuses r o → IfOk o (λ t. Does (λ _. define_at at x c) s t (with_heap s h))
define_free s at x c h r (Err e) free f d = tt
define_free s at x c h r (Ok t) free f d =
    let tells = told (define_own s.heap at.0 x c) s.heap h r t f d in
    record { is = λ e n. rw (free, tells.thrown, tells.after) refl }
