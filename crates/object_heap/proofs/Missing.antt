-- What the calls do at a place where there is nothing.
use Rattle.std.proofs.Common.{◌≡◌, refl, sym, ap, subst, ◌∙◌, ℕ, ◌≤◌, false, List, None, Err, length}
use Rattle.std.proofs.lemmas.List.{get_or_past, set_past}
use Rattle.js_values.specs.declared.throw.Throw.{Throw}
use Rattle.js_values.specs.declared.throw.Throw.TheVariants.{CannotDefine, CannotDelete, CannotSet}
use Rattle.js_values.specs.declared.value.Value.{Value}
use Rattle.object_heap.specs.declared.property.Change.{Change}
use Rattle.js_core.specs.declared.memory.Failure.TheVariants as fault
use Rattle.object_heap.specs.Attempt.{Attempt, Follows, throws}
use Rattle.object_heap.specs.Chain.{can_put, get_property, object_at}
use Rattle.object_heap.specs.Define as object
use Rattle.object_heap.specs.Environment.{Environment, environment_at, no_environment}
use Rattle.object_heap.specs.Heap.{Contents, at_object, define_own, delete, lookup, prevent_extensions, put, set, with_object}
use Rattle.object_heap.specs.Object.{no_object, Object}

pub object_absent : (objects : List Object) (k : ℕ) → length objects ≤ k → object_at objects k ≡ no_object
object_absent objects k past = get_or_past objects k no_object past

pub environment_absent : (environments : List Environment) (k : ℕ) → length environments ≤ k → environment_at environments k ≡ no_environment
environment_absent environments k past = get_or_past environments k no_environment past

-- nothing changes at a place where there is no object
pub object_past : (h : Contents) (k : ℕ) (o : Object) → length h.objects ≤ k → with_object h k o ≡ h
object_past h k o past = rw (set_past h.objects k o past) refl

refused : (h : Contents) (k : ℕ) (a : Attempt Object) → length h.objects ≤ k → at_object h k a ≡ record { after = h; thrown = a.thrown }
refused h k a past = ap (λ (x : Contents). record { after = x; thrown = a.thrown }) (object_past h k a.after past)

pub put_absent : (h : Contents) (k : ℕ) (name : List ℕ) (v : Value) → length h.objects ≤ k → put h k name v ≡ throws h CannotSet
unfolding put
put_absent h k name v past =
    ap (λ o. at_object h k (object.put_own (can_put h.objects k name) o name v)) (object_absent h.objects k past)
    ∙ refused h k (throws no_object CannotSet) past

pub define_absent : (h : Contents) (k : ℕ) (name : List ℕ) (change : Change) → length h.objects ≤ k → define_own h k name change ≡ throws h CannotDefine
unfolding define_own
define_absent h k name change past =
    ap (λ o. at_object h k (object.define_own o name change)) (object_absent h.objects k past) ∙ refused h k (throws no_object CannotDefine) past

pub delete_absent : (h : Contents) (k : ℕ) (name : List ℕ) → length h.objects ≤ k → delete h k name ≡ throws h CannotDelete
unfolding delete
delete_absent h k name past =
    ap (λ o. at_object h k (object.delete_own o name)) (object_absent h.objects k past) ∙ refused h k (throws no_object CannotDelete) past

pub prevent_absent : (h : Contents) (k : ℕ) → length h.objects ≤ k → prevent_extensions h k ≡ throws h CannotDefine
unfolding prevent_extensions
prevent_absent h k past =
    ap (λ o. at_object h k (object.prevented o)) (object_absent h.objects k past) ∙ refused h k (throws no_object CannotDefine) past

-- which is what a call answers that does nothing
pub follows : {A : Type 0} (a : Attempt A) (x : A) (t : Throw) → a ≡ throws x t → Follows a x x (Err (fault.Cause t))
follows a x t e = subst (λ b. Follows b x x (Err (fault.Cause t))) (sym e) (refl, refl)

-- nothing is found from there
pub get_absent : (objects : List Object) (k : ℕ) (name : List ℕ) → length objects ≤ k → get_property objects k name ≡ None
unfolding get_property
get_absent objects k name past = rw (object_absent objects k past) refl

pub can_put_absent : (objects : List Object) (k : ℕ) (name : List ℕ) → length objects ≤ k → can_put objects k name ≡ false
unfolding can_put
can_put_absent objects k name past = rw (object_absent objects k past) refl

pub lookup_absent : (environments : List Environment) (k : ℕ) (name : List ℕ) → length environments ≤ k → lookup environments k name ≡ None
unfolding lookup
lookup_absent environments k name past = rw (environment_absent environments k past) refl

pub set_absent : (h : Contents) (k : ℕ) (name : List ℕ) (v : Value) → length h.environments ≤ k → set h k name v ≡ h
unfolding set
set_absent h k name v past = rw (set_past h.environments k _ past) refl
