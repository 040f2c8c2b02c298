-- What settling leaves in both pages, which have different numbers of objects: each event as after a dispatch, and all else as it was.
use Rattle.std.proofs.Common.{◌≡◌, ◌⊎◌, inl, inr, refl, sym, ap, ◌∙◌, subst, ℕ, zero, suc, ◌<◌, ◌≤◌, List, [], ◌∷◌, length, length-set, arith}
use Rattle.std.proofs.lemmas.List.{get_or-set_other, get_or-set_same}
use Rattle.object_heap.proofs.Callers.{kinds_steps, sound_steps}
use Rattle.object_heap.specs.Chain.{object_at}
use Rattle.object_heap.specs.Environment.{Environment, environment_at}
use Rattle.object_heap.specs.Heap.{Contents, IsSound}
use Rattle.object_heap.specs.Laws.{after_step, after_steps, gives_parts}
use Rattle.object_heap.specs.Laws as heap_laws
use Rattle.object_heap.specs.Object.{Object, changed_event, no_object, with_class}
use Rattle.object_heap.specs.declared.object.Class.{Class}
use Rattle.object_heap.specs.declared.object.Class.TheVariants as class
use Rattle.page_meaning.specs.Events.{after_event, rests}
use Rattle.page_meaning.specs.Places.{at_place}
use Rattle.page_meaning.specs.Steps as page
use Rattle.page_meaning.specs.Store.{Store, with_heap}
use Rattle.page_meaning.specs.Tasks.{settled, settlings}
use Rattle.heap_relations.proofs.Callers as heap
use Rattle.heap_relations.specs.Naming.{Agree, In, Slot, SlotRel, World, named}
use Rattle.heap_relations.specs.Related.{ClassRel, ObjectRel, array, bound, event, fault, math, native, node, none, page as page_function, plain, window}
use Rattle.object_shapes.proofs.Callers as shapes
use Rattle.object_shapes.specs.Shapes.{IsShaped}
use Rattle.agreement.specs.Acts.{StoreRel}
use Rattle.agreement.proofs.Constants.{kept_same}

abbrev rested_object : Object → Object
rested_object o = with_class o (changed_event (after_event rests) o.class)

-- ---- the heap

record AreRested (h g : Contents) (n : ℕ) : Type 0 where
  long : length g.objects ≡ length h.objects
  environments : g.environments ≡ h.environments
  here : (k : ℕ) → k < n → object_at g.objects k ≡ rested_object (object_at h.objects k)
  others : (k : ℕ) → n ≤ k → object_at g.objects k ≡ object_at h.objects k

order : (a b : ℕ) → (a < b) ⊎ ((b < a) ⊎ (a ≡ b))
order zero zero = inr (inr refl)
order zero (suc b) = inl (omega arith)
order (suc a) zero = inr (inl (omega arith))
order (suc a) (suc b) = elim (order a b) [ inl x ↦ inl (omega (arith, x)) | inr (inl x) ↦ inr (inl (omega (arith, x))) | inr (inr x) ↦ inr (inr (ap suc x)) ]

-- the same steps on the heap alone
rest_steps : ℕ → List heap_laws.Step
rest_steps zero = []
rest_steps (suc k) = gives_parts k (after_event rests) ∷ rest_steps k

same_store : (n : ℕ) (s : Store) → page.after_steps s (settlings n) ≡ with_heap s (after_steps s.heap (rest_steps n))
unfolding rest_steps
same_store zero s = refl
same_store (suc n) s = same_store n (page.after_step s (page.in_event (at_place n) rests))

all_rested : (n : ℕ) (h : Contents) → n ≤ length h.objects → AreRested h (after_steps h (rest_steps n)) n
unfolding rest_steps
all_rested zero h low = record { long = refl; environments = refl; here = λ k small. absurd (omega (arith, small)); others = λ k high. refl }
all_rested (suc n) h low =
    let o : Object = object_at h.objects n in
    let g : Contents = after_step h (gives_parts n (after_event rests)) in
    let long : length g.objects ≡ length h.objects = length-set h.objects n (rested_object o) in
    let rest : AreRested g (after_steps g (rest_steps n)) n = all_rested n g (omega (arith, low, long)) in
    record {
      long = rest.long ∙ long;
      environments = rest.environments;
      here = λ k small. by k small (order k n) (rest.here k) (rest.others k);
      others = λ k high. rest.others k (omega (arith, high)) ∙ get_or-set_other h.objects n k (rested_object o) no_object (λ e. omega (arith, e, high));
    }
  where
    by : (k : ℕ) → k < suc n → (k < n) ⊎ ((n < k) ⊎ (k ≡ n))
        → (k < n → object_at (after_steps (after_step h (gives_parts n (after_event rests))) (rest_steps n)).objects k ≡ rested_object (object_at (after_step h (gives_parts n (after_event rests))).objects k))
        → (n ≤ k → object_at (after_steps (after_step h (gives_parts n (after_event rests))) (rest_steps n)).objects k ≡ object_at (after_step h (gives_parts n (after_event rests))).objects k)
        → object_at (after_steps (after_step h (gives_parts n (after_event rests))) (rest_steps n)).objects k ≡ rested_object (object_at h.objects k)
    by k small (inl x) here others = here x ∙ ap rested_object (get_or-set_other h.objects n k (rested_object (object_at h.objects n)) no_object (λ e. omega (arith, e, x)))
    by k small (inr (inl x)) here others = absurd (omega (arith, small, x))
    by k small (inr (inr e)) here others =
        others (omega (arith, e)) ∙ ap (object_at (after_step h (gives_parts n (after_event rests))).objects) e
        ∙ get_or-set_same h.objects n (rested_object (object_at h.objects n)) no_object (omega (arith, low)) ∙ ap (λ i. rested_object (object_at h.objects i)) (sym e)

abbrev rested_heap : Contents → Contents
rested_heap h = after_steps h (rest_steps (length h.objects))

heap_rested : (h : Contents) → AreRested h (rested_heap h) (length h.objects)
heap_rested h = all_rested (length h.objects) h (omega arith)

-- ---- two heaps

class_rested : {W : World} {c d : Class} → ClassRel (named W) c d → ClassRel (named W) (changed_event (after_event rests) c) (changed_event (after_event rests) d)
class_rested (event h) = event (record { kind = h.kind; bubbles = h.bubbles; cancelable = h.cancelable; begun = h.begun; sent = h.sent; target = h.target; current = none; phase = refl })
class_rested plain = plain
class_rested array = array
class_rested (page_function h) = page_function h
class_rested native = native
class_rested (bound h v vs) = bound h v vs
class_rested fault = fault
class_rested math = math
class_rested window = window
class_rested (node h) = node h

object_rested : {W : World} (o p : Object) → ObjectRel (named W) o p → ObjectRel (named W) (rested_object o) (rested_object p)
object_rested o p h = record { class = class_rested h.class; proto = h.proto; extensible = h.extensible; closed = h.closed; props = h.props }

plain_rested : (c : Class) → c ≡ class.Plain → changed_event (after_event rests) c ≡ class.Plain
plain_rested c e = ap (changed_event (after_event rests)) e

slot_rested : (W : World) (z : Slot) (e f : Environment) (o : Object) → SlotRel W z e f o → SlotRel W z e f (rested_object o)
slot_rested W z e f o r = record {
  outer = r.outer;
  names = r.names;
  scopes = r.scopes;
  numbers = r.numbers;
  own = r.own;
  plain = λ s. let p = r.plain s in (p.0, plain_rested o.class p.1, p.2);
}

heaps_agree : (W : World) (h g : Contents) → Agree W h g → Agree W (rested_heap h) (rested_heap g)
heaps_agree W h g r =
    let a = heap_rested h in
    let b = heap_rested g in
    record {
      objects = record {
        at = λ i j n. let in_range = r.objects.inside i j n in rw (a.here i in_range.0, b.here j in_range.1) (object_rested (object_at h.objects i) (object_at g.objects j) (r.objects.at i j n));
        inside = λ i j n. let in_range = r.objects.inside i j n in (omega (arith, a.long, in_range.0), omega (arith, b.long, in_range.1));
        one_to_one = r.objects.one_to_one;
      };
      slots = rw (a.environments, b.environments) (record {
        at = λ z i. at z i (order z.place (length g.objects));
        inside = r.slots.inside;
        scope_inside = λ z i e. let in_range = r.slots.scope_inside z i e in omega (arith, b.long, in_range);
        one_to_one = r.slots.one_to_one;
        one_slot = r.slots.one_slot;
        one_scope = r.slots.one_scope;
        apart = r.slots.apart;
        bases = r.slots.bases;
      });
      left = sound_steps h (rest_steps (length h.objects)) r.left;
      right = sound_steps g (rest_steps (length g.objects)) r.right;
    }
  where
    at : (z : Slot) → In z W.slots → (z.place < length g.objects) ⊎ ((length g.objects < z.place) ⊎ (z.place ≡ length g.objects))
        → SlotRel W z (environment_at h.environments z.one) (environment_at g.environments z.two) (object_at (rested_heap g).objects z.place)
    at z i (inl x) = rw ((heap_rested g).here z.place x) (slot_rested W z _ _ _ (r.slots.at z i))
    at z i (inr (inl x)) = rw ((heap_rested g).others z.place (omega (arith, x))) (r.slots.at z i)
    at z i (inr (inr x)) = rw ((heap_rested g).others z.place (omega (arith, x))) (r.slots.at z i)

-- ---- the left page keeps its shapes

steps_shaped : (n : ℕ) (s : Store) → IsSound s.heap → IsShaped s → IsShaped (page.after_steps s (settlings n))
steps_shaped zero s sound shaped = shaped
steps_shaped (suc n) s sound shaped =
    let step : heap_laws.Step = gives_parts n (after_event rests) in
    steps_shaped n (page.after_step s (page.in_event (at_place n) rests)) (sound_steps s.heap (step ∷ []) sound) (shapes.step_shaped s (page.in_event (at_place n) rests) sound shaped tt)

-- ---- both pages

-- where the ends are told by what was done to the heaps alone
rested_rel : {W : World} {s t : Store} → StoreRel W s t → IsShaped (with_heap s (rested_heap s.heap)) → StoreRel W (with_heap s (rested_heap s.heap)) (with_heap t (rested_heap t.heap))
rested_rel {W = W} {s = s} {t = t} g shaped =
    let a = heap_rested s.heap in
    record {
      heap = heaps_agree W s.heap t.heap g.heap;
      lines = g.lines;
      host = g.host;
      built_ins = g.built_ins;
      shaped = shaped;
      kept = kept_same g.kept a.environments (omega (arith, a.long)) (λ j m n. (kinds_steps s.heap (rest_steps (length s.heap.objects)) j (heap.there g.heap n).0).0);
    }

pub settled_rel : {W : World} {s t : Store} → StoreRel W s t → StoreRel W (settled s) (settled t)
settled_rel {W = W} {s = s} {t = t} g =
    let one = same_store (length s.heap.objects) s in
    let two = same_store (length t.heap.objects) t in
    let shaped : IsShaped (with_heap s (rested_heap s.heap)) = subst IsShaped one (steps_shaped (length s.heap.objects) s g.heap.left g.shaped) in
    subst (λ u. StoreRel W u (settled t)) (sym one) (subst (λ u. StoreRel W (with_heap s (rested_heap s.heap)) u) (sym two) (rested_rel g shaped))
