-- Each event that does not rest is on the list.
use Rattle.std.proofs.Common.{◌≡◌, ◌⊎◌, inl, inr, refl, sym, ap, subst, ◌∙◌, ℕ, zero, suc, ◌+◌, ◌<◌, ◌≤◌, Bool, true, false, ◌&&◌, ◌||◌, not, List, [], ◌∷◌, ◌++◌, Option, Some, None, Result, Ok, Err, drop, length, length-append, map, nat_eq, slice_index_or, slice_set, arith}
use Rattle.std.proofs.Math.ListN.{drop_of_length-le, get_or-append, get_or-map}
use Rattle.std.proofs.Math.Seq.{get_or-append_seam, map-set_same}
use Rattle.std.proofs.lemmas.Bool.{and_parts, cases_eq, cases_lt, cases_order, eq-eqb, eqb-true}
use Rattle.std.proofs.lemmas.List.{at_drop_more, get_or_default, get_or-set_same, get_or-set_other, get_or_past, set_past}
use Rattle.std.proofs.lemmas.List.Folds.{list_any-append}
use Rattle.std.proofs.lemmas.Map.Views.{any-filter_same}
use Rattle.std.specs.Option.{is_none}
use Rattle.std.specs.Prelude.{OnErr, OnOk}
use Rattle.js_core.specs.declared.memory.Failure.{Failure}
use Rattle.js_core.specs.declared.memory.Failure.TheVariants as fault
use Rattle.js_core.specs.declared.memory.OutOfMemory.{OutOfMemory}
use Rattle.js_values.specs.declared.ids.ObjId.{ObjId}
use Rattle.js_values.specs.declared.throw.Throw.{Throw}
use Rattle.object_heap.specs.declared.object.Class.{Class}
use Rattle.object_heap.specs.declared.object.Class.TheVariants.{Event}
use Rattle.object_heap.specs.declared.object.EventParts.{EventParts}
use Rattle.object_heap.specs.Attempt.{Attempt, Follows}
use Rattle.object_heap.specs.Chain.{object_at}
use Rattle.object_heap.specs.Heap.{Contents, IsSound, with_new_object, with_object, with_objects}
use Rattle.object_heap.specs.Object.{changed_event, no_object, Object, with_class}
use Rattle.object_heap.specs.Rest.{AreListed, IsKept, is_listed, is_resting, noted, rest_down, rested, rested_at, rested_parts, unlisted}
use Rattle.object_heap.proofs.Sound.{IsRight, Stays, added_right, changed, event_right, right_at, right_there, sound_at, sound_empty, stays_right}

-- ---- the list

or_true : (b : Bool) → (b || true) ≡ true
or_true true = refl
or_true false = refl

-- it grows
pub noted_keeps : (b : Bool) (at : ObjId) (k : ℕ) (l : List ObjId) → is_listed k l ≡ true → is_listed k (noted b at l) ≡ true
noted_keeps true at k l h = list_any-append (λ a. nat_eq a.0 k) l (at ∷ []) ∙ ap (λ b. b || (nat_eq at.0 k || false)) h
noted_keeps false at k l h = h

pub noted_has : (at : ObjId) (l : List ObjId) → is_listed at.0 (noted true at l) ≡ true
noted_has at l =
    list_any-append (λ a. nat_eq a.0 at.0) l (at ∷ []) ∙ ap (λ b. is_listed at.0 l || (b || false)) (eq-eqb at.0 at.0 refl) ∙ or_true (is_listed at.0 l)

pub more_listed : (b : Bool) (at : ObjId) (os : List Object) (l : List ObjId) → AreListed os l → AreListed os (noted b at l)
more_listed b at os l h k r = noted_keeps b at k l (h k r)

-- one that rests need not be listed
pub less_listed : (at : ObjId) (os : List Object) (l : List ObjId) → is_resting (object_at os at.0).class ≡ true → AreListed os l → AreListed os (unlisted at l)
less_listed at os l rests h k r =
    any-filter_same (λ a. nat_eq a.0 k) (λ a. not (nat_eq a.0 at.0)) true other l ∙ h k r
  where
    other : (a : ObjId) → nat_eq a.0 k ≡ true → not (nat_eq a.0 at.0) ≡ true
    other a e = by (nat_eq a.0 at.0) refl
      where
        by : (b : Bool) → nat_eq a.0 at.0 ≡ b → not b ≡ true
        by true f = absurd (cc (subst (λ j. is_resting (object_at os j).class ≡ true) (sym (eqb-true a.0 at.0 f) ∙ eqb-true a.0 k e) rests, r))
        by false f = refl

-- ---- one object becomes another, or is new

pub set_listed : (os : List Object) (l : List ObjId) (k : ℕ) (o : Object) → (is_resting o.class ≡ false → is_listed k l ≡ true) → AreListed os l → AreListed (slice_set os k o) l
set_listed os l k o here h j = by (cases_lt k (length os)) (cases_eq j k)
  where
    by : (k < length os) ⊎ (length os ≤ k) → (j ≡ k) ⊎ (j ≡ k → ⊥) → is_resting (object_at (slice_set os k o) j).class ≡ false → is_listed j l ≡ true
    by (inl there) (inl same) r =
        rw same (here (subst (λ (x : Object). is_resting x.class ≡ false) (ap (object_at (slice_set os k o)) same ∙ get_or-set_same os k o no_object there) r))
    by w (inr other) r = h j (subst (λ (x : Object). is_resting x.class ≡ false) (get_or-set_other os k j o no_object other) r)
    by (inr past) w r = h j (subst (λ xs. is_resting (object_at xs j).class ≡ false) (set_past os k o past) r)

pub push_listed : (os : List Object) (l : List ObjId) (o : Object) → (is_resting o.class ≡ false → is_listed (length os) l ≡ true) → AreListed os l → AreListed (os ++ o ∷ []) l
push_listed os l o here h j = by (cases_order j (length os))
  where
    by : (j ≡ length os) ⊎ ((j < length os) ⊎ (length os < j)) → is_resting (object_at (os ++ o ∷ []) j).class ≡ false → is_listed j l ≡ true
    by (inl same) r =
        rw same (here (subst (λ (x : Object). is_resting x.class ≡ false) (ap (object_at (os ++ o ∷ [])) same ∙ get_or-append_seam os o [] no_object) r))
    by (inr (inl before)) r = h j (subst (λ (x : Object). is_resting x.class ≡ false) (get_or-append os (o ∷ []) no_object j before) r)
    by (inr (inr after)) r =
        let long : length (os ++ o ∷ []) ≤ j = omega (arith, length-append os (o ∷ []), after) in
        absurd (cc (subst (λ (x : Object). is_resting x.class ≡ false) (get_or_past (os ++ o ∷ []) j no_object long) r))

-- an object of the same class
same_listed : (os : List Object) (l : List ObjId) (k : ℕ) (o p : Object) → k < length os → o ≡ slice_index_or os k o → p.class ≡ o.class → AreListed os l → AreListed (slice_set os k p) l
same_listed os l k o p there is same h =
    set_listed os l k p (λ r. h k (subst (λ c. is_resting c ≡ false) (same ∙ ap (λ (x : Object). x.class) (is ∙ get_or_default os k o no_object there)) r)) h

followed_class : (attempt : Attempt Object) (o p : Object) (result : Result (Unit {0}) (Failure Throw)) → Follows attempt o p result → attempt.after.class ≡ o.class → p.class ≡ o.class
followed_class attempt o p (Ok u) h same = ap (λ (x : Object). x.class) h.0 ∙ same
followed_class attempt o p (Err (fault.Cause t)) h same = ap (λ (x : Object). x.class) h.0 ∙ same
followed_class attempt o p (Err fault.OutOfMemory) h same = ap (λ (x : Object). x.class) h

-- what a call that can be refused leaves
pub changed_kept : (h : Contents) (l : List ObjId) (k : ℕ) (o p : Object) (attempt : Attempt Object) (result : Result (Unit {0}) (Failure Throw))
    → k < length h.objects → IsKept h l → o ≡ slice_index_or h.objects k o → Follows attempt o p result → Stays o attempt.after → IsKept (with_object h k p) l
changed_kept h l k o p attempt result there kept is follows stays = record {
  sound = changed h k o p attempt result there kept.sound is follows stays;
  listed = same_listed h.objects l k o p there is (followed_class attempt o p result follows stays.kept.class) kept.listed;
}

added_class : (o p q : Object) (result : Result (Unit {0}) OutOfMemory) → OnOk result (p ≡ q) → OnErr result (p ≡ o) → q.class ≡ o.class → p.class ≡ o.class
added_class o p q (Ok u) ok err same = ap (λ (x : Object). x.class) ok ∙ same
added_class o p q (Err e) ok err same = ap (λ (x : Object). x.class) err

-- and one that wants memory alone
pub added_kept : (h : Contents) (l : List ObjId) (k : ℕ) (o p q : Object) (result : Result (Unit {0}) OutOfMemory)
    → k < length h.objects → IsKept h l → o ≡ slice_index_or h.objects k o → OnOk result (p ≡ q) → OnErr result (p ≡ o) → Stays o q → IsKept (with_object h k p) l
added_kept h l k o p q result there kept is ok err stays =
    let right = right_there h k o there kept.sound is in
    record {
      sound = sound_at h k p kept.sound (added_right k o p q result ok err right (stays_right k o q right stays));
      listed = same_listed h.objects l k o p there is (added_class o p q result ok err stays.kept.class) kept.listed;
    }

-- ---- an event gets other parts

parts_rest : (f : EventParts → EventParts) (r : Bool) (c : Class) → ((e : EventParts) → is_resting (Event (f e)) ≡ r) → is_resting (changed_event f c) ≡ false → (is_resting c && not r) ≡ is_resting c
parts_rest f r (Event e) h g = rw (sym (h e) ∙ g) (and_true (is_resting (Event e)))
  where
    and_true : (b : Bool) → (b && true) ≡ b
    and_true true = refl
    and_true false = refl
parts_rest f r c h g = absurd (cc g)

pub parts_kept : (h : Contents) (l : List ObjId) (at : ObjId) (q o p : Object) (f : EventParts → EventParts) (r leaves : Bool)
    → at.0 < length h.objects → IsKept h l → q ≡ slice_index_or h.objects at.0 q → o ≡ slice_index_or h.objects at.0 o
    → ((e : EventParts) → is_resting (Event (f e)) ≡ r) → leaves ≡ (is_resting q.class && not r) → p ≡ with_class o (changed_event f o.class)
    → IsKept (with_object h at.0 p) (noted leaves at l)
parts_kept h l at q o p f r leaves there kept was is tells leave same =
    let right = right_there h at.0 o there kept.sound is in
    record {
      sound = sound_at h at.0 p kept.sound (subst (IsRight at.0) (sym same) (event_right at.0 o f right));
      listed = set_listed h.objects (noted leaves at l) at.0 p here (more_listed leaves at h.objects l kept.listed);
    }
  where
    one : q ≡ o
    one = was ∙ get_or_default h.objects at.0 q no_object there ∙ sym (is ∙ get_or_default h.objects at.0 o no_object there)

    by : (b : Bool) → is_resting o.class ≡ b → leaves ≡ b → is_listed at.0 (noted leaves at l) ≡ true
    by true e g = rw g (noted_has at l)
    by false e g =
        noted_keeps leaves at at.0 l (kept.listed at.0 (subst (λ (x : Object). is_resting x.class ≡ false) (is ∙ get_or_default h.objects at.0 o no_object there) e))

    here : is_resting p.class ≡ false → is_listed at.0 (noted leaves at l) ≡ true
    here g =
        let moved : is_resting (changed_event f o.class) ≡ false = subst (λ (x : Object). is_resting x.class ≡ false) same g in
        by (is_resting o.class) refl (leave ∙ ap (λ (x : Object). is_resting x.class && not r) one ∙ parts_rest f r o.class tells moved)

-- ---- an event comes to rest

rested_rests : (c : Class) → is_resting (changed_event rested_parts c) ≡ true
rested_rests (Event e) = refl
rested_rests c = refl

pub rest_kept : (h : Contents) (l : List ObjId) (at : ObjId) (o p : Object) → at.0 < length h.objects → IsKept h l → o ≡ slice_index_or h.objects at.0 o
    → p ≡ rested o → IsKept (with_object h at.0 p) (unlisted at l)
rest_kept h l at o p there kept is same =
    let right = right_there h at.0 o there kept.sound is in
    let rests : is_resting p.class ≡ true = ap (λ (x : Object). is_resting x.class) same ∙ rested_rests o.class in
    let now : is_resting (object_at (slice_set h.objects at.0 p) at.0).class ≡ true = ap (λ (x : Object). is_resting x.class) (get_or-set_same h.objects at.0 p no_object there) ∙ rests in
    record {
      sound = sound_at h at.0 p kept.sound (subst (IsRight at.0) (sym same) (event_right at.0 o rested_parts right));
      listed = less_listed at (slice_set h.objects at.0 p) l now (set_listed h.objects l at.0 p (λ r. absurd (cc (rests, r))) kept.listed);
    }

-- ---- all events come to rest

rested_twice : (o : Object) → rested (rested o) ≡ rested o
rested_twice o = ap (with_class o) (by o.class)
  where
    by : (c : Class) → changed_event rested_parts (changed_event rested_parts c) ≡ changed_event rested_parts c
    by (Event e) = refl
    by c = refl

parts_stay : (e : EventParts) → e.current ≡ None → e.phase ≡ 0 → rested_parts e ≡ e
parts_stay e p q = λ j. record {
  kind = e.kind;
  bubbles = e.bubbles;
  cancelable = e.cancelable;
  begun = e.begun;
  sent = e.sent;
  target = e.target;
  current = sym p j;
  phase = sym q j;
}

none_there : (o : Option ObjId) → is_none o ≡ true → o ≡ None
none_there None h = refl
none_there (Some at) h = cc h

class_stays : (c : Class) → is_resting c ≡ true → changed_event rested_parts c ≡ c
class_stays (Event e) h =
    let both = and_parts (is_none e.current) (nat_eq e.phase 0) h in
    ap Event (parts_stay e (none_there e.current both.0) (eqb-true e.phase 0 both.1))
class_stays c h = refl

none_moves : (os : List Object) → ((k : ℕ) → is_resting (object_at os k).class ≡ true) → map rested os ≡ os
none_moves [] h = refl
none_moves (o ∷ os) h =
    let first : rested o ≡ o = ap (with_class o) (class_stays o.class (h zero)) in
    let others = none_moves os (λ k. h (suc k)) in
    λ j. first j ∷ others j

not_false : (b : Bool) → (b ≡ false → ⊥) → b ≡ true
not_false true h = refl
not_false false h = absurd (h refl)

-- once those of the list rest, all do
step_listed : (a : ObjId) (ats : List ObjId) (os : List Object) → AreListed os (a ∷ ats) → AreListed (slice_set os a.0 (rested (object_at os a.0))) ats
step_listed a ats os h k = by (cases_lt a.0 (length os)) (cases_eq k a.0)
  where
    more : nat_eq a.0 k ≡ false → is_resting (object_at os k).class ≡ false → is_listed k ats ≡ true
    more e r = rw e at (h k r)

    other_number : (k ≡ a.0 → ⊥) → nat_eq a.0 k ≡ false
    other_number other = by_case (nat_eq a.0 k) refl
      where
        by_case : (b : Bool) → nat_eq a.0 k ≡ b → b ≡ false
        by_case true e = absurd (other (sym (eqb-true a.0 k e)))
        by_case false e = refl

    by : (a.0 < length os) ⊎ (length os ≤ a.0) → (k ≡ a.0) ⊎ (k ≡ a.0 → ⊥) → is_resting (object_at (slice_set os a.0 (rested (object_at os a.0))) k).class ≡ false → is_listed k ats ≡ true
    by w (inr other) r =
        more (other_number other) (subst (λ (x : Object). is_resting x.class ≡ false) (get_or-set_other os a.0 k (rested (object_at os a.0)) no_object other) r)
    by (inl there) (inl same) r =
        let now : is_resting (object_at (slice_set os a.0 (rested (object_at os a.0))) a.0).class ≡ false = subst (λ j. is_resting (object_at (slice_set os a.0 (rested (object_at os a.0))) j).class ≡ false) same r in
        let rests : is_resting (rested (object_at os a.0)).class ≡ false = subst (λ (x : Object). is_resting x.class ≡ false) (get_or-set_same os a.0 (rested (object_at os a.0)) no_object there) now in
        absurd (cc (rested_rests (object_at os a.0).class, rests))
    by (inr past) (inl same) r =
        let before : is_resting (object_at os k).class ≡ false = subst (λ xs. is_resting (object_at xs k).class ≡ false) (set_past os a.0 (rested (object_at os a.0)) past) r in
        let none : object_at os k ≡ no_object = get_or_past os k no_object (omega (arith, past, same)) in
        absurd (cc (subst (λ (x : Object). is_resting x.class ≡ false) none before))

pub all_rest : (ats : List ObjId) (os : List Object) → AreListed os ats → rested_at ats os ≡ map rested os
all_rest [] os h = sym (none_moves os (λ k. not_false (is_resting (object_at os k).class) (λ r. cc (h k r))))
all_rest (a ∷ ats) os h =
    all_rest ats (slice_set os a.0 (rested (object_at os a.0))) (step_listed a ats os h)
    ∙ map-set_same rested os a.0 (rested (object_at os a.0)) no_object (rested_twice (object_at os a.0))

-- one after another
pub one_rested : (ats : List ObjId) (i : ℕ) (at : ObjId) (os new all : List Object) → i < length ats → at ≡ slice_index_or ats i at → rested_at (drop i ats) os ≡ all
    → new ≡ slice_set os at.0 (rested (object_at os at.0)) → rested_at (drop (i + 1) ats) new ≡ all
one_rested ats i at os new all there is before same =
    rw same (sym (at_drop_more (λ xs. rested_at xs os) ats i at there ∙ ap (λ a. rested_at (a ∷ drop (i + 1) ats) os) (sym is)) ∙ before)

pub none_left_to_rest : (ats : List ObjId) (i : ℕ) (os all : List Object) → length ats ≤ i → rested_at (drop i ats) os ≡ all → os ≡ all
none_left_to_rest ats i os all past before = ap (λ xs. rested_at xs os) (sym (drop_of_length-le ats past)) ∙ before

rested_sound : (ats : List ObjId) (h : Contents) → IsSound h → IsSound (with_objects h (rested_at ats h.objects))
rested_sound [] h sound = sound
rested_sound (a ∷ ats) h sound =
    rested_sound ats (with_object h a.0 (rested (object_at h.objects a.0)))
    (sound_at h a.0 (rested (object_at h.objects a.0)) sound (event_right a.0 (object_at h.objects a.0) rested_parts (right_at h a.0 sound)))

all_resting : (os : List Object) → AreListed (map rested os) []
all_resting os k r =
    let at : object_at (map rested os) k ≡ rested (object_at os k) = get_or-map rested os k no_object in
    absurd (cc (rested_rests (object_at os k).class, subst (λ (x : Object). is_resting x.class ≡ false) at r))

pub all_kept : (h : Contents) (ats : List ObjId) (os : List Object) → IsKept h ats → os ≡ rested_at ats h.objects → IsKept (with_objects h os) []
all_kept h ats os kept same = record {
  sound = subst (λ xs. IsSound (with_objects h xs)) (sym same) (rested_sound ats h kept.sound);
  listed = subst (λ xs. AreListed xs []) (sym (same ∙ all_rest ats h.objects kept.listed)) (all_resting h.objects);
}

-- ---- the objects come to rest from the youngest down

rest_first : (n : ℕ) (o : Object) (os : List Object) → rest_down (suc n) (o ∷ os) ≡ rested o ∷ rest_down n os
rest_first zero o os = refl
rest_first (suc n) o os = rest_first n o (slice_set os n (rested (object_at os n)))

pub rested_down : (os : List Object) → rest_down (length os) os ≡ map rested os
rested_down [] = refl
rested_down (o ∷ os) = rest_first (length os) o os ∙ ap (λ xs. rested o ∷ xs) (rested_down os)

-- ---- new objects

pub made_kept : (h : Contents) (l : List ObjId) (o : Object) (b : Bool) → b ≡ not (is_resting o.class) → IsKept h l → IsSound (with_new_object h o)
    → IsKept (with_new_object h o) (noted b (record { 0 = length h.objects }) l)
made_kept h l o b tells kept sound = record {
  sound = sound;
  listed = push_listed h.objects (noted b (record { 0 = length h.objects }) l) o here (more_listed b (record { 0 = length h.objects }) h.objects l kept.listed);
}
  where
    here : is_resting o.class ≡ false → is_listed (length h.objects) (noted b (record { 0 = length h.objects }) l) ≡ true
    here r = rw (tells, r) (noted_has (record { 0 = length h.objects }) l)

-- a second one, which rests
pub both_kept : (h : Contents) (l : List ObjId) (o p : Object) (b : Bool) → b ≡ not (is_resting o.class) → is_resting p.class ≡ true → IsKept h l
    → IsSound (with_new_object h o) → IsSound (with_new_object (with_new_object h o) p)
    → IsKept (with_new_object (with_new_object h o) p) (noted b (record { 0 = length h.objects }) l)
both_kept h l o p b tells rests kept first sound =
    let one = made_kept h l o b tells kept first in
    record { sound = sound; listed = push_listed (h.objects ++ o ∷ []) (noted b (record { 0 = length h.objects }) l) p (λ r. absurd (cc (rests, r))) one.listed }

-- nothing but the list changes
pub noted_kept : (h : Contents) (l : List ObjId) (b : Bool) (at : ObjId) → IsKept h l → IsKept h (noted b at l)
noted_kept h l b at kept = record { sound = kept.sound; listed = more_listed b at h.objects l kept.listed }

pub kept_empty : IsKept (record { objects = []; environments = [] }) []
kept_empty = record { sound = sound_empty; listed = λ k r. absurd (cc (subst (λ (x : Object). is_resting x.class ≡ false) (get_or_past [] k no_object (omega arith)) r)) }
