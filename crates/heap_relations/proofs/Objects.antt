-- What is done to an object that is named, and a pair of new objects.
use Rattle.std.proofs.Common.{◌≡◌, ◌⊎◌, inl, inr, refl, sym, ap, ◌∙◌, ℕ, ◌<◌, Bool, true, false, cond, nat_eq, List, [], ◌∷◌, ◌++◌, Option, Some, length, length-append, length-set, slice_set, arith, if◌then◌else◌}
use Rattle.std.proofs.lemmas.List.{get_or_append_left}
use Rattle.std.proofs.lemmas.Bool.{eq-eqb, ne_eqb}
use Rattle.std.specs.Option.{ForSome}
use Rattle.js_values.specs.declared.ids.ObjId.{ObjId}
use Rattle.js_values.specs.declared.value.Value.{Value}
use Rattle.object_heap.specs.Environment.{Environment}
use Rattle.object_heap.specs.declared.object.Class.{Class}
use Rattle.object_heap.specs.declared.object.EventParts.{EventParts}
use Rattle.object_heap.specs.declared.property.Change.{Change}
use Rattle.object_heap.specs.Attempt.{Attempt, done}
use Rattle.object_heap.specs.Chain.{object_at}
use Rattle.object_heap.specs.Define.{length_name, number}
use Rattle.object_heap.specs.Heap.{Contents, IsFit, IsSound, add_property, at_object, close, define_own, delete, made, new_object, prevent_extensions, put, set_dispatch, set_event, with_object as with_object_at}
use Rattle.object_heap.specs.Laws.{after_step, gives_parts}
use Rattle.object_heap.specs.Object.{changed_event, dispatched, is_list, no_object, Object, target_of}
use Rattle.object_heap.specs.Property.{lasting}
use Rattle.object_heap.specs.declared.property.Prop.{Prop}
use Rattle.object_heap.proofs.Callers.{new_fit, object_last, settled_same, sound_added, sound_closed, sound_define_own, sound_delete, sound_prevent, sound_pushed, sound_put, sound_steps}
use Rattle.heap_relations.specs.Related.{Grows, IsOneToOne, Links, Maybe, none, some, Entries, no_entries, entry, AttemptRel, ObjectIds, ValueRel, num, PropRel, ChangeRel, ClassRel, EventRel, ObjectRel, ObjectsRel, plain, array, page, native, bound, fault, math, window, node, event}
use Rattle.heap_relations.specs.Naming.{Agree, In, Larger, there, Named, named, Pair, pair, Reaches, Slot, SlotsRel, with_object, World}
use Rattle.heap_relations.proofs.Chains.{can_put_same}
use Rattle.heap_relations.proofs.Define.{added_rel, define_own_rel, delete_own_rel, is_list_same, prevented_rel, put_own_rel}
use Rattle.heap_relations.proofs.Map.{class_up, ids_up, maybe_map, object_up}
use Rattle.heap_relations.proofs.Worlds.{base_up, both_new, eq_sym, get_set, grows, in_cases, slot_scope, slot_up}

-- ---- a write to related objects

object_cond : {L : Links} {o p u v : Object} (x y : Bool) → x ≡ y → ObjectRel L o p → ObjectRel L u v → ObjectRel L (cond x o u) (cond y p v)
object_cond true true e h k = h
object_cond true false e h k = absurd (cc)
object_cond false true e h k = absurd (cc)
object_cond false false e h k = k

pub set_objects : {L : Links} {os ps : List Object} (a b : ℕ) (o p : Object) → L.object a b → ObjectRel L o p → ObjectsRel L os ps → ObjectsRel L (slice_set os a o) (slice_set ps b p)
set_objects {os = os} {ps = ps} a b o p i k h =
    let n = h.inside a b i in
    record {
      at = λ c d j. rw (get_set os a c o no_object n.0, get_set ps b d p no_object n.1) (object_cond (nat_eq a c) (nat_eq b d) (h.one_to_one.same _ _ _ _ i j) k (h.at c d j));
      inside = λ c d j. let m = h.inside c d j in (omega (arith, length-set os a o, m.0), omega (arith, length-set ps b p, m.1));
      one_to_one = h.one_to_one;
    }

-- environments do not see it, since a scope object is nothing's counterpart
pub set_apart : {W : World} {es fs : List Environment} {ps : List Object} (a b : ℕ) (p : Object) → Named W a b → b < length ps → SlotsRel W es fs ps → SlotsRel W es fs (slice_set ps b p)
set_apart {ps = ps} a b p i n h = record {
  at = λ s j. slot_scope (λ e. get_set ps b s.place p no_object n ∙ ap (λ c. cond c p (object_at ps s.place)) (h.apart s j e (pair a b) i.named)) (h.at s j);
  inside = h.inside;
  scope_inside = λ s j e. omega (arith, length-set ps b p, h.scope_inside s j e);
  one_to_one = h.one_to_one;
  one_slot = h.one_slot;
  one_scope = h.one_scope;
  apart = h.apart;
  bases = h.bases;
}

module _ {W : World} {h g : Contents} (r : Agree W h g) {k l : ℕ} (i : Named W k l) where
  tried : (x y : Attempt Object) → AttemptRel (ObjectRel (named W)) x y → IsSound (at_object h k x).after → IsSound (at_object g l y).after → AttemptRel (Agree W) (at_object h k x) (at_object g l y)
  tried x y a left right = record {
    after = record {
      objects = set_objects k l _ _ i a.after r.objects;
      slots = set_apart k l _ i (r.objects.inside k l i).1 r.slots;
      left = left;
      right = right;
    };
    thrown = a.thrown;
  }

  pub put_agrees : (name : List ℕ) {v w : Value} → ValueRel (named W) v w → AttemptRel (Agree W) (put h k name v) (put g l name w)
  unfolding put
  put_agrees name {v = v} {w = w} q =
      tried _ _ (put_own_rel r.objects.one_to_one _ _ name (can_put_same r.objects r.left.prototypes r.right.prototypes k l name i) (r.objects.at k l i) q)
      (sound_put h r.left k name v) (sound_put g r.right l name w)

  pub define_own_agrees : (name : List ℕ) {c d : Change} → ChangeRel (named W) c d → AttemptRel (Agree W) (define_own h k name c) (define_own g l name d)
  unfolding define_own
  define_own_agrees name {c = c} {d = d} q =
      tried _ _ (define_own_rel r.objects.one_to_one name (r.objects.at k l i) q) (sound_define_own h r.left k name c) (sound_define_own g r.right l name d)

  pub delete_agrees : (name : List ℕ) → AttemptRel (Agree W) (delete h k name) (delete g l name)
  unfolding delete
  delete_agrees name = tried _ _ (delete_own_rel name (r.objects.at k l i)) (sound_delete h r.left k name) (sound_delete g r.right l name)

  pub prevent_agrees : AttemptRel (Agree W) (prevent_extensions h k) (prevent_extensions g l)
  unfolding prevent_extensions
  prevent_agrees = tried _ _ (prevented_rel (r.objects.at k l i)) (sound_prevent h r.left k) (sound_prevent g r.right l)

  changed_agrees : (o p : Object) → ObjectRel (named W) o p → IsSound (with_object_at h k o) → IsSound (with_object_at g l p) → Agree W (with_object_at h k o) (with_object_at g l p)
  changed_agrees o p m left right = (tried (done o) (done p) (record { after = m; thrown = refl }) left right).after

  pub add_agrees : (name : List ℕ) {p q : Prop} → PropRel (named W) p q → Agree W (add_property h k name p) (add_property g l name q)
  unfolding add_property
  add_agrees name {p = p} {q = q} m = changed_agrees _ _ (added_rel name (r.objects.at k l i) m) (sound_added h r.left k name p) (sound_added g r.right l name q)

  pub close_agrees : Agree W (close h k) (close g l)
  close_agrees =
      let o = r.objects.at k l i in
      changed_agrees _ _ (record { class = o.class; proto = o.proto; extensible = o.extensible; closed = refl; props = o.props }) (sound_closed h r.left k) (sound_closed g r.right l)

  -- an event's parts change on both sides
  pub parts_agree : (f e : EventParts → EventParts) → ((p q : EventParts) → EventRel (named W) p q → EventRel (named W) (f p) (e q))
      → Agree W (after_step h (gives_parts k f)) (after_step g (gives_parts l e))
  parts_agree f e m =
      let o = r.objects.at k l i in
      changed_agrees _ _ (record { class = changed o.class; proto = o.proto; extensible = o.extensible; closed = o.closed; props = o.props })
      (sound_steps h (gives_parts k f ∷ []) r.left) (sound_steps g (gives_parts l e ∷ []) r.right)
    where
      changed : {c d : Class} → ClassRel (named W) c d → ClassRel (named W) (changed_event f c) (changed_event e d)
      changed (event a) = event (m _ _ a)
      changed plain = plain
      changed array = array
      changed (page a) = page a
      changed native = native
      changed (bound a v vs) = bound a v vs
      changed fault = fault
      changed math = math
      changed window = window
      changed (node a) = node a

  pub event_agrees : {p q : EventParts} → EventRel (named W) p q → Agree W (set_event h k p) (set_event g l q)
  event_agrees {p = p} {q = q} e = parts_agree (λ old. p) (λ old. q) (λ a b m. e)

  pub dispatch_agrees : (sent : Bool) {t u c d : Option ObjId} (phase : ℕ) → Maybe (ObjectIds (named W)) t u → Maybe (ObjectIds (named W)) c d
      → Agree W (set_dispatch h k sent t c phase) (set_dispatch g l sent u d phase)
  dispatch_agrees sent {t = t} {u = u} {c = c} {d = d} phase x y =
      parts_agree (dispatched sent t c phase) (dispatched sent u d phase) (λ a b m. record {
        kind = m.kind;
        bubbles = m.bubbles;
        cancelable = m.cancelable;
        begun = m.begun;
        sent = refl;
        target = x;
        current = y;
        phase = refl;
      })

-- ---- a pair of new objects

pub reaches_same : {A : Type 0} {d : A} {xs : List A} → Reaches d xs xs
reaches_same = record { longer = omega arith; at = λ i h. refl }

pub reaches_more : {A : Type 0} {d : A} (xs : List A) (x : A) → Reaches d xs (xs ++ x ∷ [])
reaches_more {d = d} xs x = record { longer = omega (arith, length-append xs (x ∷ [])); at = λ i h. get_or_append_left xs (x ∷ []) d i h }

pub longer_objects : {L : Links} {os ps us vs : List Object} → Reaches no_object os us → Reaches no_object ps vs → ObjectsRel L os ps → ObjectsRel L us vs
longer_objects g k h = record {
  at = λ a b i. let n = h.inside a b i in rw (g.at a n.0, k.at b n.1) (h.at a b i);
  inside = λ a b i. let n = h.inside a b i in (omega (arith, g.longer, n.0), omega (arith, k.longer, n.1));
  one_to_one = h.one_to_one;
}

pub longer_scopes : {W : World} {es fs : List Environment} {ps vs : List Object} → Reaches no_object ps vs → SlotsRel W es fs ps → SlotsRel W es fs vs
longer_scopes k h = record {
  at = λ s j. slot_scope (λ e. k.at s.place (h.scope_inside s j e)) (h.at s j);
  inside = h.inside;
  scope_inside = λ s j e. omega (arith, k.longer, h.scope_inside s j e);
  one_to_one = h.one_to_one;
  one_slot = h.one_slot;
  one_scope = h.one_scope;
  apart = h.apart;
  bases = h.bases;
}

pub one_more : {W : World} (a b : ℕ) → Larger W (with_object W a b)
one_more a b = record { opens = refl; objects = λ p h. there h; nodes = λ p h. h; opened = refl; fits = refl; before = refl; slots = λ s h. h; done = λ k h. h; bases = refl }

-- objects that the one links name are related by the other
pub record Within (L M : Links) (os ps : List Object) : Type 0 where
  pub at : (a b : ℕ) → L.object a b → ObjectRel M (object_at os a) (object_at ps b)
  pub inside : (a b : ℕ) → L.object a b → (a < length os) × (b < length ps)
  pub one_to_one : IsOneToOne L

pub within_up : {L M : Links} {os ps : List Object} → Grows L M → ObjectsRel L os ps → Within L M os ps
within_up g h = record { at = λ a b i. object_up g _ _ (h.at a b i); inside = h.inside; one_to_one = h.one_to_one }

pub within_same : {L : Links} {os ps : List Object} → Within L L os ps → ObjectsRel L os ps
within_same h = record { at = h.at; inside = h.inside; one_to_one = h.one_to_one }

-- the objects at a and b are new: they lie beyond those that are named
pub add_objects : {W : World} {M : Links} {os ps : List Object} (a b : ℕ) → a < length os → b < length ps → ((c d : ℕ) → Named W c d → (c < a) × (d < b))
    → ObjectRel M (object_at os a) (object_at ps b) → Within (named W) M os ps → Within (named (with_object W a b)) M os ps
add_objects {W = W} {M = M} {os = os} {ps = ps} a b in_a in_b new o h = record {
  at = λ c d i. at c d (in_cases i.named);
  inside = λ c d i. inside c d (in_cases i.named);
  one_to_one = record { same = λ c d e f i j. one c d e f (in_cases i.named) (in_cases j.named) };
}
  where
    at : (c d : ℕ) → (pair c d ≡ pair a b) ⊎ In (pair c d) W.objects → ObjectRel M (object_at os c) (object_at ps d)
    at c d (inl e) = rw (ap (λ (p : Pair). p.one) e, ap (λ (p : Pair). p.two) e) o
    at c d (inr i) = h.at c d (record { named = i })

    inside : (c d : ℕ) → (pair c d ≡ pair a b) ⊎ In (pair c d) W.objects → (c < length os) × (d < length ps)
    inside c d (inl e) = rw (ap (λ (p : Pair). p.one) e, ap (λ (p : Pair). p.two) e) (in_a, in_b)
    inside c d (inr i) = h.inside c d (record { named = i })

    one : (c d e f : ℕ) → (pair c d ≡ pair a b) ⊎ In (pair c d) W.objects → (pair e f ≡ pair a b) ⊎ In (pair e f) W.objects → nat_eq c e ≡ nat_eq d f
    one c d e f (inl x) (inl y) =
        rw (ap (λ (p : Pair). p.one) x, ap (λ (p : Pair). p.two) x, ap (λ (p : Pair). p.one) y, ap (λ (p : Pair). p.two) y) (eq-eqb a a refl ∙ sym (eq-eqb b b refl))
    one c d e f (inl x) (inr j) =
        let n = new e f (record { named = j }) in
        rw (ap (λ (p : Pair). p.one) x, ap (λ (p : Pair). p.two) x) (eq_sym a e ∙ both_new e f a b n.0 n.1 ∙ eq_sym f b)
    one c d e f (inr i) (inl y) =
        let n = new c d (record { named = i }) in
        rw (ap (λ (p : Pair). p.one) y, ap (λ (p : Pair). p.two) y) (both_new c d a b n.0 n.1)
    one c d e f (inr i) (inr j) = h.one_to_one.same c d e f (record { named = i }) (record { named = j })

-- the new object on the right is no scope object
pub named_slots : {W : World} {es fs : List Environment} {ps : List Object} (a b : ℕ) → ((s : Slot) → In s W.slots → s.frame.scoped ≡ true → s.place < b)
    → SlotsRel W es fs ps → SlotsRel (with_object W a b) es fs ps
named_slots {W = W} a b new h = record {
  at = λ s i. slot_up (one_more a b) (h.at s i);
  inside = h.inside;
  scope_inside = h.scope_inside;
  one_to_one = h.one_to_one;
  one_slot = h.one_slot;
  one_scope = h.one_scope;
  apart = λ s i e p j. apart s i e p (in_cases j);
  bases = λ t i. let k = h.bases t i in base_up (one_more a b) k.one_apart k.two_apart k;
}
  where
    apart : (s : Slot) → In s W.slots → s.frame.scoped ≡ true → (p : Pair) → (p ≡ pair a b) ⊎ In p W.objects → nat_eq p.two s.place ≡ false
    apart s i e p (inl x) = let n = new s i e in rw x (ne_eqb b s.place (λ k. omega arith))
    apart s i e p (inr j) = h.apart s i e p j

module _ {L : Links} where
  length_rel : (b : Bool) → Entries (PropRel L) (if b then (length_name, lasting (number 0)) ∷ [] else []) (if b then (length_name, lasting (number 0)) ∷ [] else [])
  length_rel true = entry (record { value = num; writable = refl; enumerable = refl; configurable = refl }) no_entries
  length_rel false = no_entries

  new_rel : {c d : Class} {p q : Option ObjId} → ClassRel L c d → Maybe (ObjectIds L) p q → ObjectRel L (new_object c p) (new_object d q)
  new_rel {c = c} {d = d} h k = record { class = h; proto = k; extensible = refl; closed = refl; props = rw (is_list_same h) (length_rel (is_list d)) }

-- what is named is there
pub are_there : {L : Links} {os ps : List Object} {p q : Option ObjId} → ObjectsRel L os ps → Maybe (ObjectIds L) p q → (ForSome p (λ a. a.0 < length os)) × (ForSome q (λ a. a.0 < length ps))
are_there r none = (λ a e. absurd (cc e), λ a e. absurd (cc e))
are_there {os = os} {ps = ps} r (some {a = a} {b = b} i) = let n = r.inside _ _ i.linked in (λ c e. one c e n.0, λ c e. two c e n.1)
  where
    one : (c : ObjId) → Some a ≡ Some c → a.0 < length os → c.0 < length os
    one c e h = let s : a ≡ c = cc in rw (← s) h

    two : (c : ObjId) → Some b ≡ Some c → b.0 < length ps → c.0 < length ps
    two c e h = let s : b ≡ c = cc in rw (← s) h

pub made_agrees : {W : World} {h g : Contents} {o p : Object} → Agree W h g → IsFit o → IsFit p → ObjectRel (named (with_object W (length h.objects) (length g.objects))) o p
    → Maybe (ObjectIds (named W)) o.proto p.proto → Maybe (ObjectIds (named W)) (target_of o.class) (target_of p.class)
    → Agree (with_object W (length h.objects) (length g.objects)) (made h o) (made g p)
made_agrees {W = W} {h = h} {g = g} {o = o} {p = p} r fit fit' m x y =
    let a = length h.objects in
    let b = length g.objects in
    let n = are_there r.objects x in
    let t = are_there r.objects y in
    let long = longer_objects (reaches_more h.objects o) (reaches_more g.objects p) r.objects in
    let left = sound_pushed h r.left o fit n.0 t.0 in
    let right = sound_pushed g r.right p fit' n.1 t.1 in
    rw (settled_same a o n.0 t.0, settled_same b p n.1 t.1) (record {
      objects = within_same (add_objects a b (omega (arith, length-append h.objects (o ∷ []))) (omega (arith, length-append g.objects (p ∷ []))) (λ e f i. r.objects.inside e f i)
          (rw (object_last h.objects o, object_last g.objects p) m) (within_up (grows (one_more a b)) long));
      slots = named_slots a b r.slots.scope_inside (longer_scopes (reaches_more g.objects p) r.slots);
      left = left;
      right = right;
    })

pub targets_rel : {L : Links} {c d : Class} → ClassRel L c d → Maybe (ObjectIds L) (target_of c) (target_of d)
targets_rel (bound a v vs) = some (record { linked = a })
targets_rel (event a) = none
targets_rel plain = none
targets_rel array = none
targets_rel (page a) = none
targets_rel native = none
targets_rel fault = none
targets_rel math = none
targets_rel window = none
targets_rel (node a) = none

pub new_object_agrees : {W : World} {h g : Contents} {c d : Class} {p q : Option ObjId} → Agree W h g → ClassRel (named W) c d → Maybe (ObjectIds (named W)) p q
    → Agree (with_object W (length h.objects) (length g.objects)) (made h (new_object c p)) (made g (new_object d q))
new_object_agrees {W = W} {h = h} {g = g} {c = c} {d = d} {p = p} {q = q} r x y =
    let up = grows (one_more {W = W} (length h.objects) (length g.objects)) in
    made_agrees r (new_fit c p) (new_fit d q) (new_rel (class_up up _ _ x) (maybe_map (ids_up up) y)) y (targets_rel x)
