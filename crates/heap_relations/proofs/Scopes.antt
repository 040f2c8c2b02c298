-- Names that are assigned, on the right some of them in a scope object.
use Rattle.std.proofs.Common.{◌≡◌, refl, sym, ap, subst, ◌∙◌, ℕ, ◌<◌, ◌≤◌, Bool, true, false, cond, nat_eq, List, Option, Some, length, length-set, slice_index_or, slice_set, bytes_eq, arith}
use Rattle.std.proofs.lemmas.Bool.{eqb-true, eq-eqb}
use Rattle.std.proofs.lemmas.Slice.Eq.{bytes_eq-Decides}
use Rattle.js_values.specs.declared.value.Value.{Value}
use Rattle.object_heap.specs.Environment.{Environment, Bound, value_of, with_value_of, environment_at, no_environment, with_bound}
use Rattle.object_heap.specs.Object.{Object}
use Rattle.object_heap.specs.declared.property.Prop.{Prop}
use Rattle.object_heap.specs.Chain.{object_at}
use Rattle.object_heap.specs.Heap.{Contents, set}
use Rattle.object_heap.proofs.Callers.{sound_set, value_set, value_set_other}
use Rattle.heap_relations.specs.Related.{Links, ValueRel}
use Rattle.heap_relations.proofs.Bases.{base_kept}
use Rattle.heap_relations.specs.Naming.{Constant, constant, copied, held, Base, BaseRel, Outward, absent, Agree, captured, Free, free, In, is_reserved, is_scope_name, Kept, named, NameRel, scope_name, Slot, SlotRel, SlotsRel, World}
use Rattle.heap_relations.proofs.Worlds.{get_set, reserved_as, slot_scope}

-- ---- one name of an environment takes a value

pub set_other : (names : Bound) (x y : List ℕ) (v : Value) → bytes_eq y x ≡ false → value_of (with_value_of names x v) y ≡ value_of names y
set_other names x y v far = value_set_other names x y v far

pub same_or_not : (y x : List ℕ) {P : Type 0} → (y ≡ x → P) → (bytes_eq y x ≡ false → P) → P
same_or_not y x {P = P} same other = by_case (bytes_eq y x) refl
  where
    by_case : (c : Bool) → bytes_eq y x ≡ c → P
    by_case true e = same ((bytes_eq-Decides y x).0 e)
    by_case false e = other e

-- a page's own name is no scope object's
pub no_scope_name : (x : List ℕ) (k : ℕ) → is_scope_name x ≡ false → bytes_eq (scope_name k) x ≡ false
no_scope_name x k own = by_case (bytes_eq (scope_name k) x) refl
  where
    by_case : (c : Bool) → bytes_eq (scope_name k) x ≡ c → bytes_eq (scope_name k) x ≡ false
    by_case false e = e
    by_case true e =
        let eq : scope_name k ≡ x = (bytes_eq-Decides (scope_name k) x).0 e in
        let wrong : true ≡ false = ap is_scope_name eq ∙ own in
        cc wrong

-- ---- one slot is changed

-- the lists differ at this place at most
pub record Only {A : Type 0} (d : A) (k : ℕ) (xs ys : List A) : Type 0 where
  pub longer : length xs ≤ length ys
  pub others : (j : ℕ) → nat_eq k j ≡ false → slice_index_or ys j d ≡ slice_index_or xs j d

pub only_same : {A : Type 0} {d : A} {k : ℕ} {xs : List A} → Only d k xs xs
only_same = record { longer = omega arith; others = λ j h. refl }

pub only_set : {A : Type 0} {d : A} (k : ℕ) (xs : List A) (x : A) → k < length xs → Only d k xs (slice_set xs k x)
only_set {d = d} k xs x h = record { longer = omega (arith, length-set xs k x); others = λ j e. get_set xs k j x d h ∙ ap (λ b. cond b x (slice_index_or xs j d)) e }

module _ {W : World} {es us fs vs : List Environment} {ps qs : List Object} (s : Slot) (i : In s W.slots) (one : Only no_environment s.one es us) (two : Only no_environment s.two fs vs) where
  pub change_slot : length ps ≤ length qs → ((t : Slot) → In t W.slots → t.frame.scoped ≡ true → nat_eq s.one t.one ≡ false → object_at qs t.place ≡ object_at ps t.place)
      → SlotRel W s (environment_at us s.one) (environment_at vs s.two) (object_at qs s.place)
      → SlotsRel W es fs ps → SlotsRel W us vs qs
  change_slot more same new h = record {
    at = λ t j. at t j (nat_eq s.one t.one) refl;
    inside = λ t j. let n = h.inside t j in (omega (arith, one.longer, n.0), omega (arith, two.longer, n.1));
    scope_inside = λ t j e. omega (arith, more, h.scope_inside t j e);
    one_to_one = h.one_to_one;
    one_slot = h.one_slot;
    one_scope = h.one_scope;
    apart = h.apart;
    bases = λ b j. let z = h.bases b j in base_kept (off_one b z) (off_two b z) one.longer two.longer z;
  }
    where
      off_one : (b : Base) → BaseRel W b es fs → (k : ℕ) → Outward es b.one k → environment_at us k ≡ environment_at es k
      off_one b z k w = by (nat_eq s.one k) refl
        where
          by : (c : Bool) → nat_eq s.one k ≡ c → environment_at us k ≡ environment_at es k
          by true e = absurd (z.one_apart s i (subst (Outward es b.one) (sym (eqb-true s.one k e)) w))
          by false e = one.others k e

      off_two : (b : Base) → BaseRel W b es fs → (k : ℕ) → Outward fs b.two k → environment_at vs k ≡ environment_at fs k
      off_two b z k w = by (nat_eq s.two k) refl
        where
          by : (c : Bool) → nat_eq s.two k ≡ c → environment_at vs k ≡ environment_at fs k
          by true e = absurd (z.two_apart s i (subst (Outward fs b.two) (sym (eqb-true s.two k e)) w))
          by false e = two.others k e

      at : (t : Slot) → In t W.slots → (b : Bool) → nat_eq s.one t.one ≡ b → SlotRel W t (environment_at us t.one) (environment_at vs t.two) (object_at qs t.place)
      at t j true e =
          subst (λ (z : Slot). SlotRel W z (environment_at us z.one) (environment_at vs z.two) (object_at qs z.place)) (h.one_slot s t i j (eqb-true s.one t.one e)) new
      at t j false e = slot_scope (λ d. same t j d e) (rw (one.others t.one e, two.others t.two (sym (h.one_to_one s t i j) ∙ e)) (h.at t j))

-- ---- a name that is not captured is assigned

-- a name that may be set is bound on both sides
abbrev pub is_set : Kept → Bool
is_set Free = true
is_set Constant = true
is_set k = false

set_name : {L : Links} {b : Bool} {known : Value} {v w : Value} {p : Option Prop} (k : Kept) → is_set k ≡ true → ValueRel L v w → NameRel L b known k (Some v) (Some w) p
set_name Free e r = free r
set_name Constant e r = held r
set_name Kept.Absent e r = absurd (cc e)
set_name Kept.Captured e r = absurd (cc e)
set_name Kept.Copied e r = absurd (cc e)
set_name Kept.Sealed e r = absurd (cc e)
set_name Kept.Unused e r = absurd (cc e)

bound_there : {W : World} {b : Bool} {known : Value} {k : Kept} {x y : Option Value} {p : Option Prop} (names : Bound) (n : List ℕ) (v : Value) → is_set k ≡ true → NameRel (named W) b known k x y p
    → value_of names n ≡ x → value_of (with_value_of names n v) n ≡ Some v
bound_there names n v e absent q = absurd (cc e)
bound_there names n v e (free {v = u} w) q = value_set names n u v q
bound_there names n v e (held {v = u} w) q = value_set names n u v q
bound_there names n v e (captured b w m c d) q = absurd (cc e)
bound_there names n v e (constant w) q = absurd (cc e)
bound_there names n v e (copied b w) q = absurd (cc e)

bound_too : {W : World} {b : Bool} {known : Value} {k : Kept} {x y : Option Value} {p : Option Prop} (names : Bound) (n : List ℕ) (v : Value) → is_set k ≡ true → NameRel (named W) b known k x y p
    → value_of names n ≡ y → value_of (with_value_of names n v) n ≡ Some v
bound_too names n v e absent q = absurd (cc e)
bound_too names n v e (free {w = u} w) q = value_set names n u v q
bound_too names n v e (held {w = u} w) q = value_set names n u v q
bound_too names n v e (captured b w m c d) q = absurd (cc e)
bound_too names n v e (constant w) q = absurd (cc e)
bound_too names n v e (copied b w) q = absurd (cc e)

pub set_agrees : {W : World} {h g : Contents} {v w : Value} (s : Slot) (x : List ℕ) → In s W.slots → is_set (s.frame.keeps x) ≡ true → is_reserved W.opens x ≡ false → ValueRel (named W) v w
    → Agree W h g → Agree W (set h s.one x v) (set g s.two x w)
unfolding set
set_agrees {W = W} {h = h} {g = g} {v = v} {w = w} s x i kept own k r =
    let n = r.slots.inside s i in
    let e = environment_at h.environments s.one in
    let f = environment_at g.environments s.two in
    let a = r.slots.at s i in
    let left : environment_at (slice_set h.environments s.one (with_bound e x v)) s.one ≡ with_bound e x v =
    get_set h.environments s.one s.one (with_bound e x v) no_environment n.0 ∙ ap (λ b. cond b (with_bound e x v) e) (eq-eqb s.one s.one refl)
    in
    let right : environment_at (slice_set g.environments s.two (with_bound f x w)) s.two ≡ with_bound f x w =
    get_set g.environments s.two s.two (with_bound f x w) no_environment n.1 ∙ ap (λ b. cond b (with_bound f x w) f) (eq-eqb s.two s.two refl)
    in
    let new : SlotRel W s (with_bound e x v) (with_bound f x w) (object_at g.objects s.place) = record {
      outer = a.outer;
      names = λ y b. same_or_not y x
          (λ m. rw m (rw (bound_there e.names x v kept (a.names x own) refl, bound_too f.names x w kept (a.names x own) refl) (set_name (s.frame.keeps x) kept k)))
          (λ m. rw (set_other e.names x y v m, set_other f.names x y w m) (a.names y b));
      scopes = λ o d m. set_other f.names x (scope_name d) w (no_scope_name x d (reserved_as x (sym o) own)) ∙ a.scopes o d m;
      numbers = a.numbers;
      own = a.own;
      plain = a.plain;
    }
    in
    record {
      objects = r.objects;
      slots = change_slot s i (only_set s.one h.environments (with_bound e x v) n.0) (only_set s.two g.environments (with_bound f x w) n.1) (omega arith) (λ t j d q. refl)
          (rw (left, right) new) r.slots;
      left = sound_set h r.left s.one x v;
      right = sound_set g r.right s.two x w;
    }
