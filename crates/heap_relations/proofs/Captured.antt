-- A captured variable is read and assigned on the right as a property of the scope object.
use Rattle.std.proofs.Common.{◌≡◌, refl, ap, ◌∙◌, ℕ, ◌<◌, Bool, true, false, cond, nat_eq, List, Option, Some, length, length-set, slice_set, bytes_eq, arith}
use Rattle.std.proofs.lemmas.Bool.{eqb-false, eq-eqb, ne_eqb}
use Rattle.js_values.specs.declared.value.Value.{Value}
use Rattle.object_heap.specs.declared.object.Class.TheVariants as class
use Rattle.object_heap.specs.Object.{Object, no_object, with_props}
use Rattle.object_heap.specs.declared.property.Prop.{Prop}
use Rattle.object_heap.specs.Attempt.{done}
use Rattle.object_heap.specs.Chain.{can_put, get, get_property, object_at}
use Rattle.object_heap.specs.Define.{put_own, with_value}
use Rattle.object_heap.specs.Environment.{value_of, environment_at, no_environment, with_bound}
use Rattle.object_heap.specs.Heap.{Contents, IsSound, put, set}
use Rattle.object_heap.specs.Property.{Props, own_property, with_property}
use Rattle.object_heap.proofs.Callers.{property_set, property_set_other, sound_put, sound_set, value_set}
use Rattle.heap_relations.specs.Related.{Links, ObjectsRel, ValueRel}
use Rattle.heap_relations.specs.Naming as naming
use Rattle.heap_relations.specs.Naming.{constant, copied, absent, Agree, Assigned, captured, Captured, free, In, is_reserved, Kept, named, NameRel, pair, Slot, SlotRel, SlotsRel, World}
use Rattle.heap_relations.proofs.Scopes.{change_slot, only_same, only_set, same_or_not, set_other}
use Rattle.heap_relations.proofs.Worlds.{eq_sym, get_set}

-- ---- reading

-- an own property is what is read, whatever the chain has
pub get_own : (objects : List Object) (k : ℕ) (x : List ℕ) (p : Prop) → own_property (object_at objects k).props x ≡ Some p → get objects k x ≡ Some p.value
unfolding get_property
get_own objects k x p e = rw e refl

-- ---- assigning

put_held : (o : Object) (x : List ℕ) (v : Value) (p : Prop) (can : Bool) → o.class ≡ class.Plain → o.closed ≡ false → own_property o.props x ≡ Some p → p.configurable ≡ true → can ≡ true
    → put_own can o x v ≡ done (with_props o (with_property o.props x (with_value p v)))
put_held o x v p can plain unlocked own fixed may = rw (unlocked, plain, own, may, fixed) refl

-- objects that are named do not see a write to one that is not
pub set_unnamed : {L : Links} {os ps : List Object} (k : ℕ) (o : Object) → k < length ps → ((a b : ℕ) → L.object a b → nat_eq b k ≡ false) → ObjectsRel L os ps → ObjectsRel L os (slice_set ps k o)
set_unnamed {ps = ps} k o there far h = record {
  at = λ a b i. rw (get_set ps k b o no_object there, eq_sym k b, far a b i) (h.at a b i);
  inside = λ a b i. let n = h.inside a b i in (n.0, omega (arith, length-set ps k o, n.1));
  one_to_one = h.one_to_one;
}

set_prop : (props : Props) (x y : List ℕ) (p q : Prop) → bytes_eq y x ≡ false → own_property (with_property props x q) y ≡ own_property props y
set_prop props x y p q far = property_set_other props x y q far

pub set_captured_agrees : {W : World} {h g : Contents} {v w : Value} (s : Slot) (x : List ℕ) → In s W.slots → s.frame.keeps x ≡ Captured → is_reserved W.opens x ≡ false → ValueRel (named W) v w
    → Agree W h g → Assigned W (set h s.one x v) (put g s.place x w)
unfolding set put can_put
set_captured_agrees {W = W} {h = h} {g = g} {v = v} {w = w} s x i kept own k r = by_case kept refl refl ((r.slots.at s i).names x own)
  where
    by_case : {c : Kept} {a b : Option Value} {o : Option Prop} → c ≡ Captured → value_of (environment_at h.environments s.one).names x ≡ a → own_property (object_at g.objects s.place).props x ≡ o
        → NameRel (named W) s.frame.scoped (s.known x) c a b o → Assigned W (set h s.one x v) (put g s.place x w)
    by_case c d held absent = absurd (cc)
    by_case c d held (free m) = absurd (cc)
    by_case c d held (constant m) = absurd (cc)
    by_case c d held (naming.held m) = absurd (cc)
    by_case c d held (copied q m) = absurd (cc)
    by_case c d held (captured {v = u} {p = p} scoped m may shown fixed) =
        let e = environment_at h.environments s.one in
        let o = object_at g.objects s.place in
        let q = with_props o (with_property o.props x (with_value p w)) in
        let n = r.slots.inside s i in
        let there = r.slots.scope_inside s i scoped in
        let old = r.slots.at s i in
        let plain = old.plain scoped in
        let can : can_put g.objects s.place x ≡ true = rw held may in
        let did : put_own (can_put g.objects s.place x) o x w ≡ done q = put_held o x w p _ plain.1 plain.2 held fixed can in
        let sound : IsSound (put g s.place x w).after = sound_put g r.right s.place x w in
        let left : environment_at (slice_set h.environments s.one (with_bound e x v)) s.one ≡ with_bound e x v =
        get_set h.environments s.one s.one (with_bound e x v) no_environment n.0 ∙ ap (λ b. cond b (with_bound e x v) e) (eq-eqb s.one s.one refl)
        in
        let right : object_at (slice_set g.objects s.place q) s.place ≡ q =
        get_set g.objects s.place s.place q no_object there ∙ ap (λ b. cond b q o) (eq-eqb s.place s.place refl)
        in
        let new : SlotRel W s (with_bound e x v) (environment_at g.environments s.two) q = record {
          outer = old.outer;
          names = λ y b. same_or_not y x
              (λ z. rw z (rw (kept, value_set e.names x u v d, property_set o.props x p (with_value p w) held) (captured scoped k may shown fixed)))
              (λ z. rw (set_other e.names x y v z, set_prop o.props x y p (with_value p w) z) (old.names y b));
          scopes = old.scopes;
          numbers = old.numbers;
          own = old.own;
          plain = old.plain;
        }
        in
        let slots : SlotsRel W (slice_set h.environments s.one (with_bound e x v)) g.environments (slice_set g.objects s.place q) =
        change_slot s i (only_set s.one h.environments (with_bound e x v) n.0) only_same (omega (arith, length-set g.objects s.place q))
        (λ t j f a. get_set g.objects s.place t.place q no_object there ∙ ap (λ y. cond y q (object_at g.objects t.place)) (far scoped t j f a))
        (rw (left, right) new) r.slots
        in
        let objects : ObjectsRel (named W) h.objects (slice_set g.objects s.place q) =
        set_unnamed s.place q there (λ a b j. r.slots.apart s i scoped (pair a b) j.named) r.objects
        in
        rw did (record {
          after = record { objects = objects; slots = slots; left = sound_set h r.left s.one x v; right = rw did at sound };
          thrown = refl;
        })
      where
        far : s.frame.scoped ≡ true → (t : Slot) → In t W.slots → t.frame.scoped ≡ true → nat_eq s.one t.one ≡ false → nat_eq s.place t.place ≡ false
        far here t j f a = ne_eqb s.place t.place (λ y. eqb-false s.one t.one a (ap (λ (u : Slot). u.one) (r.slots.one_scope s t i j here f y)))
