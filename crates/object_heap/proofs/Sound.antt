-- The heap stays sound.
use Rattle.std.proofs.Common.{◌≡◌, ◌⊎◌, inl, inr, refl, sym, subst, ◌∙◌, ℕ, ◌+◌, ◌<◌, ◌≤◌, Bool, true, false, is_some, nat_lt, List, [], ◌∷◌, ◌++◌, Option, Some, None, Result, Ok, Err, length, length-append, slice_index_or, slice_set, arith}
use Rattle.std.proofs.Math.ListN.{get_or-append}
use Rattle.std.proofs.Math.Seq.{get_or-append_seam}
use Rattle.std.proofs.lemmas.Bool.{cases_eq, cases_lt, cases_order, ltb-true}
use Rattle.std.proofs.lemmas.List.{get_or_default, get_or-set_same, get_or-set_other, get_or_past, set_past}
use Rattle.std.specs.List.{IsDistinct}
use Rattle.std.specs.Prelude.{IfSome, OnErr, OnOk}
use Rattle.std.specs.Option.{ForSome}
use Rattle.js_core.specs.declared.memory.OutOfMemory.{OutOfMemory}
use Rattle.js_values.specs.declared.ids.EnvId.{EnvId}
use Rattle.js_values.specs.declared.ids.ObjId.{ObjId}
use Rattle.js_values.specs.declared.value.Value.{Value}
use Rattle.js_core.specs.declared.memory.Failure.{Failure}
use Rattle.js_values.specs.declared.throw.Throw.{Throw}
use Rattle.js_core.specs.declared.memory.Failure.TheVariants as fault
use Rattle.object_heap.specs.declared.object.Class.{Class}
use Rattle.object_heap.specs.declared.object.Class.TheVariants.{Bound as BoundFunction, Event}
use Rattle.object_heap.specs.declared.object.EventParts.{EventParts}
use Rattle.object_heap.specs.declared.property.Change.{Change}
use Rattle.object_heap.specs.declared.property.Prop.{Prop}
use Rattle.object_heap.specs.Array.{IsProper}
use Rattle.object_heap.specs.Attempt.{Attempt, Follows}
use Rattle.object_heap.specs.Chain.{object_at}
use Rattle.object_heap.specs.Define.{define_own, delete_own, number, prevented, put_own}
use Rattle.object_heap.specs.Environment.{Bound, Environment, environment_at, inside, new_environment, no_environment, with_bound}
use Rattle.object_heap.specs.Heap.{Contents, IsFit, IsSound, made, new_object, opened, set, with_added, with_new_object, with_object}
use Rattle.object_heap.specs.Object.{changed_event, class_at, is_list, no_object, Object, older, settled, target_of, whole_object, with_class, with_closed, with_props}
use Rattle.object_heap.specs.Property.{HasDistinctNames, Props, own_property}
use Rattle.object_heap.proofs.Ages.{leads_push, leads_set}
use Rattle.object_heap.proofs.ArrayCalls.{define_own_proper, delete_own_proper, prevented_proper, put_own_proper}
use Rattle.object_heap.proofs.Distinct.{added_names, define_own_names, delete_own_names, prevented_names, put_own_names}
use Rattle.object_heap.proofs.Kept.{Keeps, define_own_keeps, delete_own_keeps, keeps, prevented_keeps, put_own_keeps}

-- ---- one object

-- what a sound heap says of an object at its place
pub record IsRight (k : ℕ) (o : Object) : Type 0 where
  pub prototype : ForSome o.proto (λ p. p.0 < k)
  pub target : ForSome (target_of o.class) (λ t. t.0 < k)
  pub array : IsProper o
  pub names : HasDistinctNames o.props

no_names : (o : Object) → o ≡ no_object → HasDistinctNames o.props
unfolding IsDistinct
no_names o e = subst (λ (x : Object). HasDistinctNames x.props) (sym e) tt

none_right : (k : ℕ) → IsRight k no_object
none_right k = record { prototype = λ p e. cc e; target = λ t e. cc e; array = λ list. cc list; names = no_names no_object refl }

-- an object that a call left: the same class and prototype, an array and distinct names where there were
pub record Stays (o p : Object) : Type 0 where
  pub kept : Keeps o p
  pub array : IsProper o → IsProper p
  pub names : HasDistinctNames o.props → HasDistinctNames p.props

pub stays_right : (k : ℕ) (o p : Object) → IsRight k o → Stays o p → IsRight k p
stays_right k o p right stays = record {
  prototype = subst (λ x. ForSome x (λ q. q.0 < k)) (sym stays.kept.proto) right.prototype;
  target = subst (λ x. ForSome (target_of x) (λ t. t.0 < k)) (sym stays.kept.class) right.target;
  array = stays.array right.array;
  names = stays.names right.names;
}

pub put_own_stays : (can : Bool) (o : Object) (name : List ℕ) (v : Value) → Stays o (put_own can o name v).after
put_own_stays can o name v = record { kept = put_own_keeps can o name v; array = put_own_proper can o name v; names = put_own_names can o name v }

pub define_own_stays : (o : Object) (name : List ℕ) (change : Change) → Stays o (define_own o name change).after
define_own_stays o name change = record { kept = define_own_keeps o name change; array = define_own_proper o name change; names = define_own_names o name change }

pub delete_own_stays : (o : Object) (name : List ℕ) → Stays o (delete_own o name).after
delete_own_stays o name = record { kept = delete_own_keeps o name; array = delete_own_proper o name; names = delete_own_names o name }

pub prevented_stays : (o : Object) → Stays o (prevented o).after
prevented_stays o = record { kept = prevented_keeps o; array = prevented_proper o; names = prevented_names o }

pub closed_stays : (o : Object) → Stays o (with_closed o)
closed_stays o = record { kept = keeps o (with_closed o) refl refl; array = λ a. a; names = λ n. n }

pub added_stays : (o : Object) (name : List ℕ) (p : Prop) → Stays o (with_added o name p)
added_stays o name p = by_case (is_list o.class) refl (is_some (own_property o.props name)) refl
  where
    by_case : (b : Bool) → is_list o.class ≡ b → (c : Bool) → is_some (own_property o.props name) ≡ c → Stays o (with_added o name p)
    by_case true e c g = rw e (record { kept = keeps o o refl refl; array = λ a. a; names = λ n. n })
    by_case false e true g = rw e (rw g (record { kept = keeps o o refl refl; array = λ a. a; names = λ n. n }))
    by_case false e false g =
        let whole = added_names o name p in
        let same : with_added o name p ≡ with_props o (o.props ++ (name, p) ∷ []) = rw e (rw g refl) in
        record {
          kept = rw same (keeps o _ refl refl);
          array = λ a. rw same (λ list. cc (list, e));
          names = whole;
        }

pub event_target : (f : EventParts → EventParts) (c : Class) → target_of (changed_event f c) ≡ target_of c
event_target f (Event parts) = refl
event_target f c = refl

pub event_list : (f : EventParts → EventParts) (c : Class) → is_list (changed_event f c) ≡ is_list c
event_list f (Event parts) = refl
event_list f c = refl

pub event_right : (k : ℕ) (o : Object) (f : EventParts → EventParts) → IsRight k o → IsRight k (with_class o (changed_event f o.class))
event_right k o f right = record {
  prototype = right.prototype;
  target = subst (λ x. ForSome x (λ t. t.0 < k)) (sym (event_target f o.class)) right.target;
  array = λ list. right.array (sym (event_list f o.class) ∙ list);
  names = right.names;
}

older_is : (k : ℕ) (proto : Option ObjId) → ForSome (older k proto) (λ p. p.0 < k)
older_is k None p e = cc e
older_is k (Some q) p e = by_case (nat_lt q.0 k) refl
  where
    by_case : (b : Bool) → nat_lt q.0 k ≡ b → p.0 < k
    by_case true h =
        let same : q ≡ p = cc (rw h at e) in
        rw (← same) (ltb-true q.0 k h)
    by_case false h = cc (rw h at e)

target_is : (k : ℕ) (c : Class) → ForSome (target_of (class_at k c)) (λ t. t.0 < k)
target_is k (BoundFunction target this args) t e = by_case (nat_lt target.0 k) refl
  where
    by_case : (b : Bool) → nat_lt target.0 k ≡ b → t.0 < k
    by_case true h =
        let same : target ≡ t = cc (rw h at e) in
        rw (← same) (ltb-true target.0 k h)
    by_case false h = cc (rw h at e)
target_is k c t e = cc e

list_at : (k : ℕ) (c : Class) → is_list (class_at k c) ≡ is_list c
list_at k (BoundFunction target this args) = by_case (nat_lt target.0 k) refl
  where
    by_case : (b : Bool) → nat_lt target.0 k ≡ b → is_list (class_at k (BoundFunction target this args)) ≡ false
    by_case true h = rw h refl
    by_case false h = rw h refl
list_at k c = refl

settled_right : (k : ℕ) (o : Object) → IsFit o → IsRight k (settled k o)
settled_right k o fit = record {
  prototype = older_is k o.proto;
  target = target_is k o.class;
  array = λ list. fit.array (sym (list_at k o.class) ∙ list);
  names = fit.names;
}

new_proper : (class : Class) (proto : Option ObjId) → IsProper (new_object class proto)
new_proper class proto list =
    rw list (record {
      length = record { value = number 0; writable = true; enumerable = false; configurable = false };
      there = refl;
      is_length = record { number = refl; small = omega arith; enumerable = refl; configurable = refl };
      above = refl;
    })

new_names : (class : Class) (proto : Option ObjId) → HasDistinctNames (new_object class proto).props
unfolding IsDistinct
new_names class proto = by_case (is_list class) refl
  where
    by_case : (b : Bool) → is_list class ≡ b → HasDistinctNames (new_object class proto).props
    by_case true e = rw e (tt, tt)
    by_case false e = rw e tt

-- an object with its first properties may be made
pub new_fit : (class : Class) (proto : Option ObjId) → IsFit (new_object class proto)
new_fit class proto = record { array = new_proper class proto; names = new_names class proto }

-- ---- all objects

pub right_at : (h : Contents) (k : ℕ) → IsSound h → IsRight k (object_at h.objects k)
right_at h k sound = record { prototype = sound.prototypes k; target = sound.targets k; array = sound.arrays k; names = sound.names k }

sound_of : (h : Contents) → ((k : ℕ) → IsRight k (object_at h.objects k)) → ((k : ℕ) → ForSome (environment_at h.environments k).outer (λ e. e.0 < k)) → IsSound h
sound_of h right within = record {
  prototypes = λ k. (right k).prototype;
  targets = λ k. (right k).target;
  environments = within;
  arrays = λ k. (right k).array;
  names = λ k. (right k).names;
}

-- an object becomes one that is right at its place
pub sound_at : (h : Contents) (k : ℕ) (o : Object) → IsSound h → IsRight k o → IsSound (with_object h k o)
sound_at h k o sound right = by (cases_lt k (length h.objects))
  where
    at : k < length h.objects → (j : ℕ) → (j ≡ k) ⊎ (j ≡ k → ⊥) → IsRight j (object_at (slice_set h.objects k o) j)
    at there j (inl here) = rw here (subst (IsRight k) (sym (get_or-set_same h.objects k o no_object there)) right)
    at there j (inr other) = subst (IsRight j) (sym (get_or-set_other h.objects k j o no_object other)) (right_at h j sound)

    by : (k < length h.objects) ⊎ (length h.objects ≤ k) → IsSound (with_object h k o)
    by (inl there) = sound_of (with_object h k o) (λ j. at there j (cases_eq j k)) sound.environments
    by (inr past) = rw (set_past h.objects k o past) sound

-- a call did what was tried on an object that is there
followed : (k : ℕ) (attempt : Attempt Object) (o p : Object) (result : Result (Unit {0}) (Failure Throw)) → Follows attempt o p result → IsRight k o → IsRight k attempt.after → IsRight k p
followed k attempt o p (Ok u) h before after = subst (IsRight k) (sym h.0) after
followed k attempt o p (Err (fault.Cause t)) h before after = subst (IsRight k) (sym h.0) after
followed k attempt o p (Err fault.OutOfMemory) h before after = subst (IsRight k) (sym h) before

pub right_there : (h : Contents) (k : ℕ) (o : Object) → k < length h.objects → IsSound h → o ≡ slice_index_or h.objects k o → IsRight k o
right_there h k o there sound is = subst (IsRight k) (sym (is ∙ get_or_default h.objects k o no_object there)) (right_at h k sound)

pub changed : (h : Contents) (k : ℕ) (o p : Object) (attempt : Attempt Object) (result : Result (Unit {0}) (Failure Throw))
    → k < length h.objects → IsSound h → o ≡ slice_index_or h.objects k o → Follows attempt o p result → Stays o attempt.after → IsSound (with_object h k p)
changed h k o p attempt result there sound is follows stays =
    let own = right_there h k o there sound is in
    sound_at h k p sound (followed k attempt o p result follows own (stays_right k o attempt.after own stays))

-- the same of a call that wants memory alone
pub added_right : (k : ℕ) (o p q : Object) (result : Result (Unit {0}) OutOfMemory) → OnOk result (p ≡ q) → OnErr result (p ≡ o) → IsRight k o → IsRight k q → IsRight k p
added_right k o p q (Ok u) ok err before after = subst (IsRight k) (sym ok) after
added_right k o p q (Err e) ok err before after = subst (IsRight k) (sym err) before

-- an empty heap is sound
pub sound_empty : IsSound (record { objects = []; environments = [] })
sound_empty = sound_of (record { objects = []; environments = [] }) (λ k. subst (IsRight k) (sym (get_or_past [] k no_object (omega arith))) (none_right k)) (λ k. subst (λ (x : Environment). ForSome x.outer (λ e. e.0 < k)) (sym (get_or_past [] k no_environment (omega arith))) (λ e h. cc h))

-- a fact of what there may be
pub if_some : {A : Type 0} (P : A → Type 0) (o : Option A) → ForSome o P → IfSome o P
if_some P None h = tt
if_some P (Some a) h = h a refl

-- ---- what is made

pub sound_with : (h : Contents) (o : Object) → IsSound h → IsRight (length h.objects) o → IsSound (record { objects = h.objects ++ o ∷ []; environments = h.environments })
sound_with h o sound right = sound_of (record { objects = h.objects ++ o ∷ []; environments = h.environments }) (λ k. by k (cases_order k (length h.objects))) sound.environments
  where
    by : (k : ℕ) → (k ≡ length h.objects) ⊎ ((k < length h.objects) ⊎ (length h.objects < k)) → IsRight k (object_at (h.objects ++ o ∷ []) k)
    by k (inl here) = rw here (subst (IsRight (length h.objects)) (sym (get_or-append_seam h.objects o [] no_object)) right)
    by k (inr (inl before)) = subst (IsRight k) (sym (get_or-append h.objects (o ∷ []) no_object k before)) (right_at h k sound)
    by k (inr (inr after)) =
        let long : length (h.objects ++ o ∷ []) ≤ k = omega (arith, length-append h.objects (o ∷ []), after) in
        subst (IsRight k) (sym (get_or_past (h.objects ++ o ∷ []) k no_object long)) (none_right k)

pub sound_made : (h : Contents) (o : Object) → IsSound h → IsFit o → IsSound (made h o)
sound_made h o sound fit = sound_with h (settled (length h.objects) o) sound (settled_right (length h.objects) o fit)

-- an object that is no array, with distinct names, may be made
pub ordinary_fit : (class : Class) (proto : Option ObjId) (props : Props) → is_list class ≡ false → HasDistinctNames props → IsFit (whole_object class proto props)
ordinary_fit class proto props e distinct = record { array = λ list. cc (list, e); names = distinct }

-- two objects are made, one after the other
pub sound_both : (h : Contents) (n : ℕ) (one two : Object) → length h.objects ≡ n → IsSound h → IsFit one → IsFit two
    → IsSound (record { objects = (h.objects ++ settled n one ∷ []) ++ settled (n + 1) two ∷ []; environments = h.environments })
sound_both h n one two at sound fit more =
    let g : Contents = with_new_object h (settled n one) in
    let first : IsSound g = subst (λ m. IsSound (with_new_object h (settled m one))) at (sound_made h one sound fit) in
    let next : length g.objects ≡ n + 1 = omega (arith, length-append h.objects (settled n one ∷ []), at) in
    subst (λ m. IsSound (with_new_object g (settled m two))) next (sound_made g two first more)

inside_is : (k : ℕ) (outer : Option EnvId) → ForSome (inside k outer) (λ e. e.0 < k)
inside_is k None e h = cc h
inside_is k (Some q) e h = by_case (nat_lt q.0 k) refl
  where
    by_case : (b : Bool) → nat_lt q.0 k ≡ b → e.0 < k
    by_case true g =
        let same : q ≡ e = cc (rw g at h) in
        rw (← same) (ltb-true q.0 k g)
    by_case false g = cc (rw g at h)

pub sound_opened : (h : Contents) (outer : Option EnvId) (names : Bound) → IsSound h → IsSound (opened h outer names)
sound_opened h outer names sound = record {
  prototypes = sound.prototypes;
  targets = sound.targets;
  environments = leads_push no_environment (λ (x : Environment). x.outer) (λ q. q.0) refl h.environments (new_environment (inside (length h.environments) outer) names) sound.environments (inside_is (length h.environments) outer);
  arrays = sound.arrays;
  names = sound.names;
}

pub sound_set : (h : Contents) (k : ℕ) (name : List ℕ) (v : Value) → IsSound h → IsSound (set h k name v)
unfolding set
sound_set h k name v sound = by (cases_lt k (length h.environments))
  where
    e : Environment
    e = with_bound (environment_at h.environments k) name v

    by : (k < length h.environments) ⊎ (length h.environments ≤ k) → IsSound (record { objects = h.objects; environments = slice_set h.environments k e })
    by (inl there) = record {
      prototypes = sound.prototypes;
      targets = sound.targets;
      environments = leads_set no_environment (λ (x : Environment). x.outer) (λ q. q.0) h.environments k e there sound.environments refl;
      arrays = sound.arrays;
      names = sound.names;
    }
    by (inr past) = rw (set_past h.environments k e past) sound
