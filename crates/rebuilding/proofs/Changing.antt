-- What a statement changes of an object that stands: one that is built in and not the global object is closed and throws.
use Rattle.std.proofs.Common.{◌≡◌, ◌⊎◌, inl, inr, refl, sym, ap, subst, ◌∙◌, ℕ, ◌+◌, ◌<◌, ◌≤◌, Bool, true, false, ◌&&◌, ◌||◌, nat_eq, nat_lt, List, [], ◌∷◌, None, is_some, length, arith, if◌then◌else◌, not}
use Rattle.std.proofs.lemmas.Bool.{cases_eq, eq-eqb, or_parts}
use Rattle.std.specs.List.{list_all}
use Rattle.global_names.specs.Names.{names_global}
use Rattle.js_values.specs.declared.throw.Throw.{Throw}
use Rattle.js_values.specs.declared.throw.Throw.TheVariants.{CannotDefine}
use Rattle.object_heap.proofs.Callers.{object_set_same, sound_define_own, sound_prevent, sound_steps}
use Rattle.object_heap.specs.Attempt.{Attempt, throws}
use Rattle.object_heap.specs.Chain.{object_at}
use Rattle.object_heap.specs.Define as object
use Rattle.object_heap.specs.Define.{is_closed_at, prevented}
use Rattle.object_heap.specs.Heap.{Contents, IsSound, define_own, prevent_extensions, with_object}
use Rattle.object_heap.specs.Object.{Object, is_window, is_event}
use Rattle.object_heap.specs.Property.{own_property}
use Rattle.object_heap.specs.declared.object.Class.TheVariants as class
use Rattle.object_heap.specs.declared.property.Change.{Change}
use Rattle.page_host.specs.Host.{Host}
use Rattle.page_meaning.specs.Places.{document, window}
use Rattle.page_meaning.specs.Pristine.{built_ins}
use Rattle.rebuilding.specs.Running.{HasChanged, with_parts}
use Rattle.rebuilding.specs.Scene.{IsDocument, IsRunning, Scene, frame_count}
use Rattle.rebuilding.specs.Sites.{site}
use Rattle.rebuilding.proofs.DocumentStays.{document_defined, document_prevented}
use Rattle.rebuilding.proofs.Staying.{MayChange, Stands, place_other, place_there, running_changed, site_place, site_thing, stays_changed}
use Rattle.rebuilding.proofs.WindowStays.{is_built, window_defined}
use Rattle.object_shapes.proofs.Callers.{built_in_closed}
use Rattle.object_shapes.specs.Shapes.{IsWindow, built_in_at}
use Rattle.page_meaning.specs.Places.{built_in_count}
use Rattle.rebuild_plan.specs.Moved.{first_thing}
use Rattle.object_heap.specs.Laws.{gives_parts}
use Rattle.object_heap.specs.declared.object.EventParts.{EventParts}
use Rattle.rebuilding.proofs.Placed.{at_or}

-- ---- what is closed

thrown_none : {A : Type 0} (b : Bool) (x : A) (t : Throw) (y : Attempt A) → (if b then throws x t else y).thrown ≡ None → b ≡ false
thrown_none true x t y h = cc h
thrown_none false x t y h = refl

-- no built-in object is an event
abbrev plain_class : Object → Bool
plain_class o = not (is_event o.class)

all_plain : list_all plain_class built_ins ≡ true
all_plain = refl

not_both : (o : Object) (parts : EventParts) → plain_class o ≡ true → o.class ≡ class.Event parts → ⊥
not_both o parts plain e = cc (plain, e)

no_event : (k : ℕ) (parts : EventParts) → (built_in_at k).class ≡ class.Event parts → ⊥
no_event k parts e = not_both (built_in_at k) parts (at_or plain_class built_ins k all_plain refl) e

-- the object is a thing, or the global one, or the document's
data IsFree (k : ℕ) : Type 0 where
  of_page : frame_count ≤ k → IsFree k
  of_window : k ≡ window.0 → IsFree k
  of_document : k ≡ document.0 → IsFree k

may_change : (c : Scene) (h : Contents) (sites : List ℕ) (k : ℕ) → IsRunning c h sites → (k < first_thing) ⊎ Stands c h k
    → (object_at h.objects k).closed ≡ false → IsFree k
may_change c h sites k r (inr s) open_place = of_page s.young
may_change c h sites k r (inl low) open_place = by (cases_eq k 0) (cases_eq k document.0)
  where
    by : (k ≡ 0) ⊎ (k ≡ 0 → ⊥) → (k ≡ document.0) ⊎ (k ≡ document.0 → ⊥) → IsFree k
    by (inl e) here = of_window e
    by (inr far) (inl e) = of_document e
    by (inr far) (inr apart) =
        let positive : 0 < k = omega (arith, far) in
        let closed : (object_at h.objects k).closed ≡ true = ap (λ (o : Object). o.closed) (r.own.objects k positive (omega (arith, low, apart)))
        ∙ built_in_closed k positive in
        cc (closed, open_place)

no_thing : {c : Scene} {h : Contents} {k : ℕ} → Stands c h k → k ≡ window.0 → ⊥
unfolding built_in_count
no_thing s e = omega (arith, s.young, e)

-- ---- a change

-- the page, with the object at the site changed so, and nothing thrown
pub record IsChanged (c : Scene) (h : Contents) (sites : List ℕ) (k : ℕ) (attempt : Attempt Contents) (o : Object) : Type 0 where
  pub thrown : attempt.thrown ≡ None
  pub running : IsRunning c attempt.after sites
  pub changed : (g : Host) → HasChanged h g attempt.after g sites sites k o

module _ (c : Scene) (h : Contents) (sites : List ℕ) (r : IsRunning c h sites) (at : ℕ)
    (stands : nat_lt at (first_thing + length sites) ≡ true) where
  changed_so : (o : Object) → IsSound (with_object h (site sites at) o)
      → MayChange (site sites at) o
      → IsChanged c h sites (site sites at) (record { after = with_object h (site sites at) o; thrown = None }) o
  changed_so o sound who =
      let k = site sites at in
      let place = site_place c h sites r at stands in
      let there = place_there c h sites r k place in
      record {
        thrown = refl;
        running = running_changed c h sites k o r sound there (place_other c h sites r k place) who;
        changed = λ g. record { same = refl; host = refl; object = object_set_same h.objects k o there; stays = stays_changed h k o };
      }

  -- of what is named, the global object alone is the one at its place
  named_window : site sites at ≡ window.0 → at ≡ window.0
  named_window e = by (nat_lt at first_thing) refl
    where
      by : (b : Bool) → nat_lt at first_thing ≡ b → at ≡ window.0
      by true low = rw low at e
      by false high = absurd (no_thing (site_thing c h sites r at stands high) e)

  module _ (name : List ℕ) (change : Change) (own : nat_eq at window.0 && is_built name ≡ false)
      (done : (object.define_own (object_at h.objects (site sites at)) name change).thrown ≡ None) where
    defined_who : IsFree (site sites at) → MayChange (site sites at) (object.define_own (object_at h.objects (site sites at)) name change).after
    defined_who (of_page old) = inl old
    defined_who (of_window first) =
        let other : is_built name ≡ false = rw (eq-eqb at window.0 (named_window first)) at own in
        inr (inl (
          first,
          window_defined (object_at h.objects (site sites at)) name change
              (subst (λ k. IsWindow (object_at h.objects k)) (sym first) r.own.window) other,
        ))
    defined_who (of_document here) =
        let o = object_at h.objects (site sites at) in
        let is : IsDocument o = subst (λ k. IsDocument (object_at h.objects k)) (sym here) r.own.document in
        inr (inr (here, document_defined o is name change))

    pub defined_at : IsChanged c h sites (site sites at) (define_own h (site sites at) name change)
        (object.define_own (object_at h.objects (site sites at)) name change).after
    unfolding define_own
    defined_at =
        let o = object_at h.objects (site sites at) in
        let shut : is_closed_at o name ≡ false = thrown_none (is_closed_at o name) o CannotDefine (object.define CannotDefine o name change) done in
        let open_place : o.closed ≡ false = (or_parts o.closed
        (is_window o.class && (names_global name && is_some (own_property o.props name))) shut).0 in
        let who = may_change c h sites (site sites at) r (site_place c h sites r at stands) open_place in
        let result = changed_so (object.define_own o name change).after (sound_define_own h r.place.sound (site sites at) name change) (defined_who who) in
        record { thrown = done; running = result.running; changed = result.changed }

  -- an event with other parts
  pub parts_at : (parts : EventParts) (f : EventParts → EventParts) → (object_at h.objects (site sites at)).class ≡ class.Event parts
      → IsChanged c h sites (site sites at)
      (record { after = with_object h (site sites at) (with_parts (object_at h.objects (site sites at)) f); thrown = None })
      (with_parts (object_at h.objects (site sites at)) f)
  parts_at parts f is =
      changed_so (with_parts (object_at h.objects (site sites at)) f) (sound_steps h (gives_parts (site sites at) f ∷ []) r.place.sound) (who (site_place c h sites r at stands))
    where
      open_event : (k : ℕ) → 0 < k → k < built_in_count → object_at h.objects k ≡ built_in_at k → (object_at h.objects k).class ≡ class.Event parts → ⊥
      open_event k some low e own = no_event k parts (sym (ap (λ (o : Object). o.class) e) ∙ own)

      who : (site sites at < first_thing) ⊎ Stands c h (site sites at) → MayChange (site sites at) (with_parts (object_at h.objects (site sites at)) f)
      who (inr s) = inl s.young
      who (inl low) = by (cases_eq (site sites at) 0) (cases_eq (site sites at) document.0)
        where
          by : (site sites at ≡ 0) ⊎ (site sites at ≡ 0 → ⊥) → (site sites at ≡ document.0) ⊎ (site sites at ≡ document.0 → ⊥)
              → MayChange (site sites at) (with_parts (object_at h.objects (site sites at)) f)
          by (inl e) b = cc (sym (ap (λ k. (object_at h.objects k).class) e ∙ r.own.window.class) ∙ is)
          by (inr far) (inl e) = cc (sym (ap (λ k. (object_at h.objects k).class) e ∙ r.own.document.class) ∙ is)
          by (inr far) (inr apart) =
              let some : 0 < site sites at = omega (arith, far) in
              let below : site sites at < built_in_count = omega (arith, low, apart) in
              absurd (open_event (site sites at) some below (r.own.objects (site sites at) some below) is)

  module _ (done : (prevented (object_at h.objects (site sites at))).thrown ≡ None) where
    prevented_who : is_window (object_at h.objects (site sites at)).class ≡ false → IsFree (site sites at)
        → MayChange (site sites at) (prevented (object_at h.objects (site sites at))).after
    prevented_who ordinary (of_page old) = inl old
    prevented_who ordinary (of_document here) =
        let o = object_at h.objects (site sites at) in
        let is : IsDocument o = subst (λ k. IsDocument (object_at h.objects k)) (sym here) r.own.document in
        inr (inr (here, document_prevented o is))
    prevented_who ordinary (of_window first) =
        let global : is_window (object_at h.objects (site sites at)).class ≡ true = ap (λ k. is_window (object_at h.objects k).class) first
        ∙ ap is_window r.own.window.class in
        cc (global, ordinary)

    pub prevented_at : IsChanged c h sites (site sites at) (prevent_extensions h (site sites at))
        (prevented (object_at h.objects (site sites at))).after
    unfolding prevent_extensions
    prevented_at =
        let o = object_at h.objects (site sites at) in
        let parts = or_parts o.closed (is_window o.class) (thrown_none (o.closed || is_window o.class) o CannotDefine _ done) in
        let who = may_change c h sites (site sites at) r (site_place c h sites r at stands) parts.0 in
        let result = changed_so (prevented o).after (sound_prevent h r.place.sound (site sites at)) (prevented_who parts.1 who) in
        record { thrown = done; running = result.running; changed = result.changed }
