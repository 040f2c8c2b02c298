-- What any steps keep.
use Rattle.std.proofs.Common.{◌≡◌, ◌⊎◌, inl, inr, refl, sym, ap, subst, ◌∙◌, ℕ, ◌<◌, ◌≤◌, Bool, true, false, IsTrue, List, [], ◌∷◌, Some, length, length-append, length-set, slice_set, bytes_eq, arith}
use Rattle.std.proofs.Math.ListN.{get_or-append}
use Rattle.std.proofs.lemmas.Bool.{and_parts, cases_eq, ltb-true}
use Rattle.std.proofs.lemmas.List.{get_or-set_other, get_or-set_same, set-get_or}
use Rattle.std.proofs.lemmas.Slice.Eq.{bytes_eq-Decides}
use Rattle.std.specs.List.{list_all}
use Rattle.std.specs.Map.{lookup}
use Rattle.std.specs.Option.{IsSome}
use Rattle.object_heap.specs.declared.object.Class.{Class}
use Rattle.object_heap.specs.declared.object.Class.TheVariants.{Event}
use Rattle.object_heap.specs.declared.object.EventParts.{EventParts}
use Rattle.object_heap.specs.declared.property.Prop.{Prop}
use Rattle.object_heap.specs.Array.{IsArray}
use Rattle.object_heap.specs.Chain as chain
use Rattle.object_heap.specs.Chain.{object_at}
use Rattle.object_heap.specs.Define.{array_length, is_below, length_in, number_in}
use Rattle.object_heap.specs.Environment.{environment_at, inside, new_environment, no_environment, with_bound}
use Rattle.object_heap.specs.Heap.{Contents, IsSound, add_property, define_own, delete, prevent_extensions, put, set, with_object}
use Rattle.object_heap.specs.Index.{index_of}
use Rattle.object_heap.specs.Laws.{FrozenStays, IsFrozen, IsSameKind, KeepsKinds, LengthIsAbove, NeverFewer, OnlyThere, StaysSound, Step, adds, after_step, after_steps, binds, closes, defines, deletes, environment_of, gives_parts, is_tried, makes, object_of, opens, prevents, puts}
use Rattle.object_heap.specs.Object.{changed_event, is_event, no_object, Object, settled}
use Rattle.object_heap.specs.Property.{own_property}
use Rattle.object_heap.proofs.Frozen.{frozen_define_own, frozen_delete_own, frozen_prevented, frozen_put_own}
use Rattle.object_heap.proofs.Kept.{Keeps, define_own_keeps, delete_own_keeps, prevented_keeps, put_own_keeps}
use Rattle.object_heap.proofs.Sound.{added_stays, closed_stays, define_own_stays, delete_own_stays, event_right, prevented_stays, put_own_stays, right_at, sound_at, sound_made, sound_opened, sound_set, stays_right}

sound_step : (h : Contents) (s : Step) → IsSound h → IsSound (after_step h s)
unfolding put define_own delete prevent_extensions add_property
sound_step h (puts k name v) sound =
    sound_at h k _ sound (stays_right k _ _ (right_at h k sound) (put_own_stays (chain.can_put h.objects k name) (object_at h.objects k) name v))
sound_step h (defines k name change) sound = sound_at h k _ sound (stays_right k _ _ (right_at h k sound) (define_own_stays (object_at h.objects k) name change))
sound_step h (deletes k name) sound = sound_at h k _ sound (stays_right k _ _ (right_at h k sound) (delete_own_stays (object_at h.objects k) name))
sound_step h (prevents k) sound = sound_at h k _ sound (stays_right k _ _ (right_at h k sound) (prevented_stays (object_at h.objects k)))
sound_step h (adds k name p) sound = sound_at h k _ sound (stays_right k _ _ (right_at h k sound) (added_stays (object_at h.objects k) name p))
sound_step h (closes k) sound = sound_at h k _ sound (stays_right k _ _ (right_at h k sound) (closed_stays (object_at h.objects k)))
sound_step h (gives_parts k f) sound = sound_at h k _ sound (event_right k (object_at h.objects k) f (right_at h k sound))
sound_step h (makes o fit) sound = sound_made h o sound fit
sound_step h (opens outer names) sound = sound_opened h outer names sound
sound_step h (binds k name v) sound = sound_set h k name v sound

pub stays_sound : StaysSound
stays_sound h [] sound = sound
stays_sound h (s ∷ ss) sound = stays_sound (after_step h s) ss (sound_step h s sound)

-- what holds of all names holds of one that is there
holds_at : (f : List ℕ → Bool) (es : List (List ℕ × Prop)) (name : List ℕ) → list_all (λ e. f e.0) es ≡ true → IsSome (lookup (bytes_eq name) es) → f name ≡ true
holds_at f [] name all there = cc there
holds_at f (e ∷ es) name all there = by_case (bytes_eq name e.0) refl (holds_at f es name (and_parts (f e.0) (list_all (λ x. f x.0) es) all).1)
  where
    by_case : (b : Bool) → bytes_eq name e.0 ≡ b → (IsSome (lookup (bytes_eq name) es) → f name ≡ true) → f name ≡ true
    by_case true p more = ap f ((bytes_eq-Decides name e.0).0 p) ∙ (and_parts (f e.0) (list_all (λ x. f x.0) es) all).0
    by_case false p more = more (rw p at there)

below_length : (o : Object) (name : List ℕ) (i : ℕ) → IsArray o.props → index_of name ≡ Some i → IsSome (own_property o.props name) → i < array_length o
below_length o name i a e there =
    let below : is_below (number_in a.length.value) (index_of name) ≡ true =
    holds_at (λ k. is_below (number_in a.length.value) (index_of k)) o.props name a.above there
    in
    let less : i < number_in a.length.value = ltb-true i (number_in a.length.value) (rw e at below) in
    subst (λ n. i < n) (sym (ap length_in a.there)) less

pub length_is_above : LengthIsAbove
length_is_above h steps k name i sound list e there =
    below_length (object_at (after_steps h steps).objects k) name i ((stays_sound h steps sound).arrays k list) e there

-- an object at a place where something becomes another one
at_place : (h : Contents) (i k : ℕ) (o : Object) (P : Object → Type 0) → k < length h.objects → (i ≡ k → P o) → (P (object_at h.objects k)) → P (object_at (with_object h i o).objects k)
at_place h i k o P there here before = by (cases_eq k i)
  where
    by : (k ≡ i) ⊎ (k ≡ i → ⊥) → P (object_at (with_object h i o).objects k)
    by (inl same) =
        let at : object_at (slice_set h.objects i o) k ≡ o = rw (← same) (get_or-set_same h.objects k o no_object there) in
        subst P (sym at) (here (sym same))
    by (inr other) = subst P (sym (get_or-set_other h.objects i k o no_object other)) before

-- the same prototype, and the same kind
record Alike (o p : Object) : Type 0 where
  kind : IsSameKind p.class o.class
  proto : p.proto ≡ o.proto

same_alike : (o : Object) → Alike o o
same_alike o = record { kind = inl refl; proto = refl }

kept_alike : (o p : Object) → Keeps o p → Alike o p
kept_alike o p kept = record { kind = inl kept.class; proto = kept.proto }

event_kind : (f : EventParts → EventParts) (c : Class) → IsSameKind (changed_event f c) c
event_kind f (Event parts) = inr (refl, refl)
event_kind f c = inl refl

kinds_follow : (c d e : Class) → IsSameKind d c → IsSameKind e d → IsSameKind e c
kinds_follow c d e (inl h) (inl g) = inl (g ∙ h)
kinds_follow c d e (inl h) (inr g) = inr (g.0, subst (λ x. IsTrue (is_event x)) h g.1)
kinds_follow c d e (inr h) (inl g) = inr (subst (λ x. IsTrue (is_event x)) (sym g) h.0, h.1)
kinds_follow c d e (inr h) (inr g) = inr (g.0, h.1)

alike_at : (h : Contents) (i k : ℕ) (o : Object) → k < length h.objects → Alike (object_at h.objects i) o → Alike (object_at h.objects k) (object_at (with_object h i o).objects k)
alike_at h i k o there alike =
    at_place h i k o (Alike (object_at h.objects k)) there (λ same. subst (λ j. Alike (object_at h.objects j) o) same alike) (same_alike (object_at h.objects k))

alike_step : (h : Contents) (s : Step) (k : ℕ) → k < length h.objects → Alike (object_at h.objects k) (object_at (after_step h s).objects k)
unfolding put define_own delete prevent_extensions add_property set
alike_step h (puts i name v) k there = alike_at h i k _ there (kept_alike _ _ (put_own_keeps (chain.can_put h.objects i name) (object_at h.objects i) name v))
alike_step h (defines i name change) k there = alike_at h i k _ there (kept_alike _ _ (define_own_keeps (object_at h.objects i) name change))
alike_step h (deletes i name) k there = alike_at h i k _ there (kept_alike _ _ (delete_own_keeps (object_at h.objects i) name))
alike_step h (prevents i) k there = alike_at h i k _ there (kept_alike _ _ (prevented_keeps (object_at h.objects i)))
alike_step h (adds i name p) k there = alike_at h i k _ there (kept_alike _ _ (added_stays (object_at h.objects i) name p).kept)
alike_step h (closes i) k there = alike_at h i k _ there (kept_alike _ _ (closed_stays (object_at h.objects i)).kept)
alike_step h (gives_parts i f) k there = alike_at h i k _ there (record { kind = event_kind f (object_at h.objects i).class; proto = refl })
alike_step h (makes o fit) k there =
    subst (Alike (object_at h.objects k)) (sym (get_or-append h.objects (settled (length h.objects) o ∷ []) no_object k there)) (same_alike (object_at h.objects k))
alike_step h (opens outer names) k there = same_alike (object_at h.objects k)
alike_step h (binds i name v) k there = same_alike (object_at h.objects k)

-- the objects and environments that there are
record Grows (h g : Contents) : Type 0 where
  objects : length h.objects ≤ length g.objects
  environments : length h.environments ≤ length g.environments

grows_at : (h : Contents) (i : ℕ) (o : Object) → Grows h (with_object h i o)
grows_at h i o = record { objects = omega (arith, length-set h.objects i o); environments = omega arith }

grows_step : (h : Contents) (s : Step) → Grows h (after_step h s)
unfolding put define_own delete prevent_extensions add_property set
grows_step h (puts i name v) = grows_at h i _
grows_step h (defines i name change) = grows_at h i _
grows_step h (deletes i name) = grows_at h i _
grows_step h (prevents i) = grows_at h i _
grows_step h (adds i name p) = grows_at h i _
grows_step h (closes i) = grows_at h i _
grows_step h (gives_parts i f) = grows_at h i _
grows_step h (makes o fit) = record { objects = omega (arith, length-append h.objects (settled (length h.objects) o ∷ [])); environments = omega arith }
grows_step h (opens outer names) = record {
  objects = omega arith;
  environments = omega (arith, length-append h.environments (new_environment (inside (length h.environments) outer) names ∷ []));
}
grows_step h (binds i name v) = record { objects = omega arith; environments = omega (arith, length-set h.environments i (with_bound (environment_at h.environments i) name v)) }

pub never_fewer : NeverFewer
never_fewer h [] = (omega arith, omega arith)
never_fewer h (s ∷ ss) =
    let one = grows_step h s in
    let more = never_fewer (after_step h s) ss in
    (omega (arith, one.objects, more.0), omega (arith, one.environments, more.1))

pub keeps_kinds : KeepsKinds
keeps_kinds h [] k there = (inl refl, refl)
keeps_kinds h (s ∷ ss) k there =
    let one = alike_step h s k there in
    let rest = keeps_kinds (after_step h s) ss k (omega (arith, (grows_step h s).objects, there)) in
    (kinds_follow _ _ _ one.kind rest.0, rest.1 ∙ one.proto)

other_at : (h : Contents) (i k : ℕ) (o : Object) → (Some i ≡ Some k → ⊥) → object_at (with_object h i o).objects k ≡ object_at h.objects k
other_at h i k o other = get_or-set_other h.objects i k o no_object (λ e. other (ap Some (sym e)))

other_object : (h : Contents) (s : Step) (k : ℕ) → k < length h.objects → (object_of s ≡ Some k → ⊥) → object_at (after_step h s).objects k ≡ object_at h.objects k
unfolding put define_own delete prevent_extensions add_property set
other_object h (puts i name v) k there other = other_at h i k _ other
other_object h (defines i name change) k there other = other_at h i k _ other
other_object h (deletes i name) k there other = other_at h i k _ other
other_object h (prevents i) k there other = other_at h i k _ other
other_object h (adds i name p) k there other = other_at h i k _ other
other_object h (closes i) k there other = other_at h i k _ other
other_object h (gives_parts i f) k there other = other_at h i k _ other
other_object h (makes o fit) k there other = get_or-append h.objects (settled (length h.objects) o ∷ []) no_object k there
other_object h (opens outer names) k there other = refl
other_object h (binds i name v) k there other = refl

other_environment : (h : Contents) (s : Step) (k : ℕ) → k < length h.environments → (environment_of s ≡ Some k → ⊥) → environment_at (after_step h s).environments k ≡ environment_at h.environments k
unfolding put define_own delete prevent_extensions add_property set
other_environment h (binds i name v) k there other =
    get_or-set_other h.environments i k (with_bound (environment_at h.environments i) name v) no_environment (λ e. other (ap Some (sym e)))
other_environment h (opens outer names) k there other =
    get_or-append h.environments (new_environment (inside (length h.environments) outer) names ∷ []) no_environment k there
other_environment h (puts i name v) k there other = refl
other_environment h (defines i name change) k there other = refl
other_environment h (deletes i name) k there other = refl
other_environment h (prevents i) k there other = refl
other_environment h (adds i name p) k there other = refl
other_environment h (closes i) k there other = refl
other_environment h (gives_parts i f) k there other = refl
other_environment h (makes o fit) k there other = refl

pub only_there : OnlyThere
only_there h s k = (other_object h s k, other_environment h s k)

-- ---- frozen objects

-- an object that a step finds as it leaves it
frozen_at : (h : Contents) (i k : ℕ) (o : Object) → (i ≡ k → o ≡ object_at h.objects i) → object_at (with_object h i o).objects k ≡ object_at h.objects k
frozen_at h i k o same = by (cases_eq k i)
  where
    by : (k ≡ i) ⊎ (k ≡ i → ⊥) → object_at (with_object h i o).objects k ≡ object_at h.objects k
    by (inl here) =
        ap (λ x. object_at (slice_set h.objects i x) k) (same (sym here)) ∙ ap (λ xs. object_at xs k) (set-get_or h.objects i no_object)
    by (inr other) = get_or-set_other h.objects i k o no_object other

frozen_step : (h : Contents) (s : Step) (k : ℕ) → k < length h.objects → is_tried s ≡ true → IsFrozen (object_at h.objects k) → object_at (after_step h s).objects k ≡ object_at h.objects k
unfolding put define_own delete prevent_extensions set
frozen_step h (puts i name v) k there tried f =
    frozen_at h i k _ (λ e. frozen_put_own (object_at h.objects i) (subst (λ j. IsFrozen (object_at h.objects j)) (sym e) f) (chain.can_put h.objects i name) name v)
frozen_step h (defines i name change) k there tried f =
    frozen_at h i k _ (λ e. frozen_define_own (object_at h.objects i) (subst (λ j. IsFrozen (object_at h.objects j)) (sym e) f) name change)
frozen_step h (deletes i name) k there tried f =
    frozen_at h i k _ (λ e. frozen_delete_own (object_at h.objects i) (subst (λ j. IsFrozen (object_at h.objects j)) (sym e) f) name)
frozen_step h (prevents i) k there tried f =
    frozen_at h i k _ (λ e. frozen_prevented (object_at h.objects i) (subst (λ j. IsFrozen (object_at h.objects j)) (sym e) f))
frozen_step h (adds i name p) k there tried f = cc tried
frozen_step h (closes i) k there tried f = cc tried
frozen_step h (gives_parts i g) k there tried f = cc tried
frozen_step h (makes o fit) k there tried f = other_object h (makes o fit) k there (λ e. cc e)
frozen_step h (opens outer names) k there tried f = refl
frozen_step h (binds i name v) k there tried f = refl

pub frozen_stays : FrozenStays
frozen_stays h [] k there tried f = refl
frozen_stays h (s ∷ ss) k there tried f =
    let same = frozen_step h s k there (and_parts (is_tried s) (list_all is_tried ss) tried).0 f in
    frozen_stays (after_step h s) ss k (omega (arith, (grows_step h s).objects, there)) (and_parts (is_tried s) (list_all is_tried ss) tried).1 (subst IsFrozen (sym same) f)
    ∙ same
