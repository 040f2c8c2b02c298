-- Chains of prototypes that are related give the same. Each has a count of its own that bounds it, since the ages differ: each
-- count is above the age of the object at hand, and a prototype is older.
use Rattle.std.proofs.Common.{◌≡◌, refl, ℕ, zero, suc, ◌<◌, Bool, List, Option, Some, arith}
use Rattle.std.specs.Prelude.{option_map}
use Rattle.js_values.specs.declared.ids.ObjId.{ObjId}
use Rattle.object_heap.specs.Object.{Object}
use Rattle.object_heap.specs.declared.property.Prop.{Prop}
use Rattle.object_heap.specs.Chain.{AreOlder, can_put, first_found, get, get_property, inherited_by, may_put, object_at, found, found_within}
use Rattle.object_heap.specs.Property.{own_property}
use Rattle.heap_relations.specs.Related.{Links, Maybe, none, some, ObjectIds, ObjectRel, ValueRel, PropRel, ObjectsRel}
use Rattle.heap_relations.proofs.Define.{own_rel}

module _ {L : Links} where
  first_found_rel : {A : Type 0} {R : A → A → Type 0} {x y : Option A} (p q : Option ObjId) (f g : ℕ → Option A) → Maybe R x y → Maybe (ObjectIds L) p q
      → ((a b : ObjId) → p ≡ Some a → q ≡ Some b → L.object a.0 b.0 → Maybe R (f a.0) (g b.0))
      → Maybe R (first_found x p f) (first_found y q g)
  first_found_rel p q f g (some h) i k = some h
  first_found_rel _ _ f g none none k = none
  first_found_rel _ _ f g none (some i) k = k _ _ refl refl i.linked

  module _ {os ps : List Object} (r : ObjectsRel L os ps) (left : AreOlder os) (right : AreOlder ps) where
    within_rel : {A : Type 0} {R : A → A → Type 0} (see look : Object → Option A) → ((o p : Object) → ObjectRel L o p → Maybe R (see o) (look p)) → (n m k l : ℕ) → L.object k l → k < n → l < m
        → Maybe R (found_within see os n k) (found_within look ps m l)
    within_rel see look s zero m k l i h g = absurd (omega (arith, h))
    within_rel see look s (suc n) zero k l i h g = absurd (omega (arith, g))
    within_rel see look s (suc n) (suc m) k l i h g =
        let o = r.at k l i in
        first_found_rel (object_at os k).proto (object_at ps l).proto (λ q. found_within see os n q) (λ q. found_within look ps m q) (s _ _ o) o.proto
        (λ a b e f j. within_rel see look s n m a.0 b.0 j (omega (arith, left k a e, h)) (omega (arith, right l b f, g)))

    -- what is seen alike in related objects is found alike up their chains
    pub found_rel : {A : Type 0} {R : A → A → Type 0} (see look : Object → Option A) → ((o p : Object) → ObjectRel L o p → Maybe R (see o) (look p)) → (k l : ℕ) → L.object k l
        → Maybe R (found see os k) (found look ps l)
    found_rel see look s k l i = within_rel see look s (suc k) (suc l) k l i (omega arith) (omega arith)

    pub get_property_rel : (k l : ℕ) (name : List ℕ) → L.object k l → Maybe (PropRel L) (get_property os k name) (get_property ps l name)
    unfolding get_property
    get_property_rel k l name i = found_rel (λ o. own_property o.props name) (λ o. own_property o.props name) (λ o p m. own_rel name m.props) k l i

    value_of_rel : {x y : Option Prop} → Maybe (PropRel L) x y → Maybe (ValueRel L) (option_map (λ p. p.value) x) (option_map (λ p. p.value) y)
    value_of_rel none = none
    value_of_rel (some h) = some h.value

    pub get_rel : (k l : ℕ) (name : List ℕ) → L.object k l → Maybe (ValueRel L) (get os k name) (get ps l name)
    get_rel k l name i = value_of_rel (get_property_rel k l name i)

    inherited_rel : {p q : Option ObjId} (name : List ℕ) → Maybe (ObjectIds L) p q → Maybe (PropRel L) (inherited_by os p name) (inherited_by ps q name)
    inherited_rel name none = none
    inherited_rel name (some i) = get_property_rel _ _ name i.linked

    may_put_same : {x y z w : Option Prop} (a b : Bool) → a ≡ b → Maybe (PropRel L) x y → Maybe (PropRel L) z w → may_put a x z ≡ may_put b y w
    may_put_same a b e (some h) k = h.writable
    may_put_same a b e none (some k) = rw (e, k.writable) refl
    may_put_same a b e none none = e

    pub can_put_same : (k l : ℕ) (name : List ℕ) → L.object k l → can_put os k name ≡ can_put ps l name
    unfolding can_put
    can_put_same k l name i =
        let o = r.at k l i in
        may_put_same _ _ o.extensible (own_rel name o.props) (inherited_rel name o.proto)
