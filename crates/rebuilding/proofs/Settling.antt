-- What the end of a task leaves of a page: events are at rest, and all else is as it was. So a page that was rebuilt is still.
use Rattle.std.proofs.Common.{◌≡◌, ◌⊎◌, inl, inr, refl, sym, ap, subst, ◌∙◌, ℕ, zero, suc, ◌<◌, ◌≤◌, Bool, true, false, not, ◌&&◌, nat_eq, nat_le, nat_lt, List, length, slice_set, length-set, arith}
use Rattle.std.proofs.lemmas.Bool.{cases_eq, not-true}
use Rattle.std.specs.List.{list_all}
use Rattle.object_heap.proofs.Callers.{object_set_other, object_set_same}
use Rattle.object_heap.specs.Chain.{object_at}
use Rattle.object_heap.specs.Environment.{Environment, environment_at}
use Rattle.object_heap.specs.Heap.{Contents, IsSound, with_object}
use Rattle.object_heap.specs.Object.{Object, changed_event, is_event, with_class, dispatched}
use Rattle.object_heap.specs.declared.object.Class.{Class}
use Rattle.object_heap.specs.declared.object.Class.TheVariants as class
use Rattle.page_meaning.specs.Events.{after_event, rests}
use Rattle.page_meaning.specs.Places.{document, window}
use Rattle.page_meaning.specs.Pristine.{built_ins}
use Rattle.page_meaning.specs.Steps.{after_steps}
use Rattle.page_meaning.specs.Store.{Store, with_heap}
use Rattle.page_meaning.specs.Tasks.{settlings}
use Rattle.object_shapes.specs.Shapes.{IsWindow, built_in_at}
use Rattle.rebuilding.specs.Rebuilt.{DocumentIsRebuilt, HostIsRebuilt, IsRebuilt, IsRebuiltAs, IsRested, nth}
use Rattle.rebuilding.specs.Scene.{IsDocument, IsHosting, IsRunning, Scene, frame_count}
use Rattle.rebuilding.proofs.Placed.{at_or}
use Rattle.page_host.specs.Host.{Host, object_of_node}
use Rattle.page_writer.specs.Frame.{nth_node}

-- ---- events come to rest, one after another

abbrev rested : Object → Object
rested o = with_class o (changed_event (after_event rests) o.class)

abbrev pub settled_heap : ℕ → Contents → Contents
settled_heap zero h = h
settled_heap (suc k) h = settled_heap k (with_object h k (rested (object_at h.objects k)))

pub settled_is : (n : ℕ) (s : Store) → after_steps s (settlings n) ≡ with_heap s (settled_heap n s.heap)
settled_is zero s = refl
settled_is (suc k) s = settled_is k (with_heap s (with_object s.heap k (rested (object_at s.heap.objects k))))

-- what is at rest stays
pub record Quiet (h i : Contents) : Type 0 where
  pub long : length i.objects ≡ length h.objects
  pub environments : i.environments ≡ h.environments
  pub same : (k : ℕ) → rested (object_at h.objects k) ≡ object_at h.objects k → object_at i.objects k ≡ object_at h.objects k

same_object : (o : Object) → is_event o.class ≡ false → rested o ≡ o
same_object o none = ap (with_class o) (same_class o.class none)
  where
    same_class : (c : Class) → is_event c ≡ false → changed_event (after_event rests) c ≡ c
    same_class (class.Event parts) e = cc e
    same_class c e = refl

one_quiet : (h : Contents) (k : ℕ) → k < length h.objects → Quiet h (with_object h k (rested (object_at h.objects k)))
one_quiet h k there = record {
  long = length-set h.objects k (rested (object_at h.objects k));
  environments = refl;
  same = λ j none. by j none (cases_eq j k);
}
  where
    by : (j : ℕ) → rested (object_at h.objects j) ≡ object_at h.objects j → (j ≡ k) ⊎ (j ≡ k → ⊥)
        → object_at (slice_set h.objects k (rested (object_at h.objects k))) j ≡ object_at h.objects j
    by j none (inl is) =
        let still : rested (object_at h.objects k) ≡ object_at h.objects k = subst (λ m. rested (object_at h.objects m) ≡ object_at h.objects m) is none in
        ap (object_at (slice_set h.objects k (rested (object_at h.objects k)))) is
        ∙ object_set_same h.objects k (rested (object_at h.objects k)) there ∙ still ∙ ap (object_at h.objects) (sym is)
    by j none (inr other) = object_set_other h.objects k j (rested (object_at h.objects k)) other

pub settled_quiet : (n : ℕ) (h : Contents) → n ≤ length h.objects → Quiet h (settled_heap n h)
settled_quiet zero h few = record { long = refl; environments = refl; same = λ k none. refl }
settled_quiet (suc k) h few =
    let i : Contents = with_object h k (rested (object_at h.objects k)) in
    let one : Quiet h i = one_quiet h k (omega (arith, few)) in
    let rest : Quiet i (settled_heap k i) = settled_quiet k i (omega (arith, few, one.long)) in
    record {
      long = rest.long ∙ one.long;
      environments = rest.environments ∙ one.environments;
      same = λ j none. rest.same j (ap rested (one.same j none) ∙ none ∙ sym (one.same j none)) ∙ one.same j none;
    }

-- ---- the page that was rebuilt

abbrev not_event : Object → Bool
not_event o = not (is_event o.class)

none_built_in : list_all not_event built_ins ≡ true
none_built_in = refl

built_in_quiet : (k : ℕ) → is_event (built_in_at k).class ≡ false
built_in_quiet k = not-true (is_event (built_in_at k).class) (at_or not_event built_ins k none_built_in refl)

-- an event that is not under dispatch is so already
rested_event : (o : Object) → IsRested o.class → rested o ≡ o
rested_event o is = ap (with_class o) (by o.class is)
  where
    by : (a : Class) → IsRested a → changed_event (after_event rests) a ≡ a
    by (class.Event parts) (sent, current, phase) = (λ i. class.Event (dispatched parts.sent parts.target (sym current i) (sym phase i) parts))
    by class.Plain h = refl
    by class.List h = refl
    by class.Fault h = refl
    by (class.Native which) h = refl
    by (class.Page body env) h = refl
    by (class.Bound target this args) h = refl
    by class.Math h = refl
    by class.Window h = refl
    by (class.Node k) h = refl

module _ (c : Scene) (h i : Contents) (sites : List ℕ) (q : Quiet h i) where
  -- an object that is this one stays
  kept : (k : ℕ) (o : Object) → object_at h.objects k ≡ o → is_event o.class ≡ false → object_at i.objects k ≡ o
  kept k o is none = q.same k (ap rested is ∙ same_object o none ∙ sym is) ∙ is

  still_running : IsRunning c h sites → IsSound i → IsRunning c i sites
  still_running r sound =
      let first : object_at i.objects window.0 ≡ object_at h.objects window.0 = q.same window.0 (same_object _ (ap is_event r.own.window.class)) in
      record {
        place = record {
          sound = sound;
          list = kept c.list _ r.place.list refl;
          list_young = r.place.list_young;
          list_there = subst (λ n. c.list < n) (sym q.long) r.place.list_there;
          scope = ap (λ (es : List Environment). environment_at es c.env) q.environments ∙ r.place.scope;
          scope_there = subst (λ (es : List Environment). c.env < length es) (sym q.environments) r.place.scope_there;
          stand = subst (λ n. list_all (λ k. nat_le frame_count k && (nat_lt k n && not (nat_eq k c.list))) sites ≡ true) (sym q.long) r.place.stand;
          rising = r.place.rising;
          few = r.place.few;
        };
        own = record {
          objects = λ k some low. kept k (built_in_at k) (r.own.objects k some low) (built_in_quiet k);
          document = subst IsDocument (sym (q.same document.0 (same_object _ (ap is_event r.own.document.class)))) r.own.document;
          window = subst IsWindow (sym first) r.own.window;
        };
      }

  still_hosting : (g : Host) → IsHosting h g → IsHosting i g
  still_hosting g is = record {
    sound = is.sound;
    objects = λ k low. subst (λ (o : Object). o.class ≡ class.Node (nth_node k))
        (sym (q.same (object_of_node g.objects (nth_node k)).0 (same_object _ (ap is_event (is.objects k low))))) (is.objects k low);
    clock = is.clock;
  }

pub still_rebuilt : (c : Scene) (s : Store) (things : List ℕ) (h i : Contents) (g : Host) (sites : List ℕ) → IsRebuilt c s things h g sites → Quiet h i
    → IsSound i → IsRebuilt c s things i g sites
still_rebuilt c s things h i g sites is q sound =
    let same : (n : ℕ) → n < length things → object_at i.objects (nth sites n) ≡ object_at h.objects (nth sites n) =
    λ n below. q.same (nth sites n) (rested_event (object_at h.objects (nth sites n)) (is.hosted n below).rested)
    in
    let first : object_at i.objects document.0 ≡ object_at h.objects document.0 =
    q.same document.0 (same_object _ (ap is_event is.running.own.document.class))
    in
    record {
      running = still_running c h i sites q is.running sound;
      hosting = still_hosting c h i sites q g is.hosting;
      count = is.count;
      each = λ n below.
          let k : ℕ = nth sites n in
          let o : Object = object_at s.heap.objects (nth things n) in
          subst (λ (es : List Environment). IsRebuiltAs c es s things sites k o (object_at i.objects k)) (sym q.environments)
          (subst (IsRebuiltAs c h.environments s things sites k o) (sym (same n below)) (is.each n below));
      hosted = λ n below.
          subst (HostIsRebuilt s things g sites (nth sites n) (object_at s.heap.objects (nth things n))) (sym (same n below)) (is.hosted n below);
      parents = is.parents;
      document = subst (DocumentIsRebuilt s things g sites (object_at s.heap.objects document.0)) (sym first) is.document;
      globals = ap (λ (o : Object). o.props) (q.same window.0 (same_object _ (ap is_event is.running.own.window.class))) ∙ is.globals;
      timers = is.timers;
    }
