-- Larger namings.
use Rattle.std.specs.Prelude.{IsTrue}
use Rattle.std.proofs.Common.{subst, ap, ◌≡◌, ◌⊎◌, inl, inr, refl, sym, ◌∙◌, ℕ, ◌<◌, Bool, true, false, cond, nat_eq, List, ◌∷◌, Option, length, slice_index_or, slice_set, arith}
use Rattle.std.proofs.lemmas.List.{get_or-set_same, get_or-set_other}
use Rattle.std.proofs.lemmas.Bool.{eqb-true, eqb-false, ne_eqb}
use Rattle.js_values.specs.declared.ids.EnvId.{EnvId}
use Rattle.js_values.specs.declared.value.Value.{Value}
use Rattle.object_heap.specs.Environment.{Environment}
use Rattle.object_heap.specs.Object.{Object}
use Rattle.object_heap.specs.declared.property.Prop.{Prop}
use Rattle.heap_relations.specs.Related.{Grows}
use Rattle.object_heap.specs.Property.{own_property}
use Rattle.heap_relations.specs.Naming.{copied, constant, held, Base, BaseRel, based, Outward, sealed, SealedRel, unbound, unused, absent, captured, Frame, free, here, In, inside, is_reserved, Kept, there, Larger, named, NameRel, outermost, Round, Slot, SlotRel, World}
use Rattle.heap_relations.proofs.Map.{value_up}

pub in_cases : {A : Type 0} {x y : A} {l : List A} → In x (y ∷ l) → (x ≡ y) ⊎ In x l
in_cases here = inl refl
in_cases (there h) = inr h

pub get_set : {A : Type 0} (xs : List A) (i j : ℕ) (y d : A) → i < length xs → slice_index_or (slice_set xs i y) j d ≡ cond (nat_eq i j) y (slice_index_or xs j d)
get_set xs i j y d h = go (nat_eq i j) refl
  where
    go : (b : Bool) → nat_eq i j ≡ b → slice_index_or (slice_set xs i y) j d ≡ cond b y (slice_index_or xs j d)
    go true e = let eq = eqb-true i j e in rw (← eq) (get_or-set_same xs i y d h)
    go false e = get_or-set_other xs i j y d (λ k. eqb-false i j e (sym k))

pub eq_sym : (a b : ℕ) → nat_eq a b ≡ nat_eq b a
eq_sym a b = go (nat_eq a b) refl (nat_eq b a) refl
  where
    go : (x : Bool) → nat_eq a b ≡ x → (y : Bool) → nat_eq b a ≡ y → x ≡ y
    go true e true f = refl
    go false e false f = refl
    go true e false f = absurd (eqb-false b a f (sym (eqb-true a b e)))
    go false e true f = absurd (eqb-false a b e (sym (eqb-true b a f)))

pub both_new : (a b c d : ℕ) → a < c → b < d → nat_eq a c ≡ nat_eq b d
both_new a b c d h k = ne_eqb a c (λ e. omega arith) ∙ sym (ne_eqb b d (λ e. omega arith))

pub reserved_as : {a b : Bool} (x : List ℕ) → a ≡ b → is_reserved b x ≡ false → is_reserved a x ≡ false
reserved_as x e h = ap (λ c. is_reserved c x) e ∙ h

pub larger_same : {W : World} → Larger W W
larger_same = record { opens = refl; objects = λ p h. h; nodes = λ p h. h; opened = refl; fits = refl; before = refl; slots = λ p h. h; done = λ k h. h; bases = refl }

pub larger_more : {U V W : World} → Larger U V → Larger V W → Larger U W
larger_more e f = record {
  opens = e.opens ∙ f.opens;
  objects = λ p h. f.objects p (e.objects p h);
  nodes = λ p h. f.nodes p (e.nodes p h);
  opened = e.opened ∙ f.opened;
  fits = e.fits ∙ f.fits;
  before = e.before ∙ f.before;
  slots = λ s h. f.slots s (e.slots s h);
  done = λ k h. f.done k (e.done k h);
  bases = e.bases ∙ f.bases;
}

module _ {V W : World} (l : Larger V W) where
  pub round_up : {fs : List Frame} {e f : Option EnvId} → Round V fs e f → Round W fs e f
  round_up outermost = outermost
  round_up (inside s i) = inside s (l.slots s i)
  round_up (based b i) = based b (subst (In b) l.bases i)

  -- by this one lemma all that `Related` relates stays so
  pub grows : Grows (named V) (named W)
  grows = record {
    object = λ a b h. record { named = l.objects _ h.named };
    node = λ a b h. record { named = l.nodes _ h.named };
    function = λ c e d f h. record {
      frames = h.frames;
      number = h.number;
      code = h.code ∙ ap (λ o. o h.number h.frames c) l.opened;
      fits = subst (λ b. IsTrue (b h.number h.frames c)) l.fits h.fits;
      round = round_up h.round;
    };
  }

  name_up : {b : Bool} {known : Value} {k : Kept} {x y : Option Value} {p : Option Prop} → NameRel (named V) b known k x y p → NameRel (named W) b known k x y p
  name_up absent = absent
  name_up (free v) = free (value_up grows _ _ v)
  name_up (captured s v a b c) = captured s (value_up grows _ _ v) a b c
  name_up (constant v) = constant (value_up grows _ _ v)
  name_up (held v) = held (value_up grows _ _ v)
  name_up (copied s v) = copied s (value_up grows _ _ v)

  pub slot_up : {s : Slot} {e f : Environment} {o : Object} → SlotRel V s e f o → SlotRel W s e f o
  slot_up h = record { outer = round_up h.outer; names = λ x a. name_up (h.names x (reserved_as x l.opens a)); scopes = λ o. h.scopes (l.opens ∙ o); numbers = h.numbers; own = λ x a. let o = h.own x a in record { slot = o.slot; named = l.slots _ o.named; there = o.there; kept = o.kept; same = o.same }; plain = λ b. let p = h.plain b in (sym l.opens ∙ p.0, p.1, p.2) }

  sealed_up : {k : Kept} {o p : Option (EnvId × Value)} → SealedRel (named V) k o p → SealedRel (named W) k o p
  sealed_up unbound = unbound
  sealed_up (sealed v) = sealed (value_up grows _ _ v)
  sealed_up unused = unused

  -- where no slot is new among the environments of the base
  pub base_up : {b : Base} {es fs : List Environment} → ((s : Slot) → In s W.slots → Outward es b.one s.one → ⊥) → ((s : Slot) → In s W.slots → Outward fs b.two s.two → ⊥) → BaseRel V b es fs → BaseRel W b es fs
  base_up one two h = record {
    names = λ x a. sealed_up (h.names x (reserved_as x l.opens a));
    one_inside = h.one_inside;
    two_inside = h.two_inside;
    one_apart = one;
    two_apart = two;
  }

-- a slot without a scope object does not see an object
pub slot_scope : {W : World} {s : Slot} {e f : Environment} {o p : Object} → (s.frame.scoped ≡ true → p ≡ o) → SlotRel W s e f o → SlotRel W s e f p
slot_scope {W = W} {s = s} {e = e} {f = f} {o = o} {p = p} same h = record {
  outer = h.outer;
  names = λ x a. name x (h.names x a);
  scopes = h.scopes;
  numbers = h.numbers;
  own = h.own;
  plain = λ b. rw (same b) (h.plain b);
}
  where
    name : (x : List ℕ) {k : Kept} {v w : Option Value} → NameRel (named W) s.frame.scoped (s.known x) k v w (own_property o.props x) → NameRel (named W) s.frame.scoped (s.known x) k v w (own_property p.props x)
    name x n = by_case _ refl n
      where
        by_case : {k : Kept} {v w : Option Value} (q : Option Prop) → own_property o.props x ≡ q → NameRel (named W) s.frame.scoped (s.known x) k v w q → NameRel (named W) s.frame.scoped (s.known x) k v w (own_property p.props x)
        by_case _ e absent = absent
        by_case _ e (free v) = free v
        by_case _ e (captured b v m n c) = rw (same b, e) (captured b v m n c)
        by_case _ e (constant v) = constant v
        by_case _ e (held v) = held v
        by_case _ e (copied b v) = rw (same b, e) (copied b v)
