-- Chains of prototypes end.
use Rattle.std.proofs.Common.{◌≡◌, refl, sym, ap, ◌∙◌, length, slice_index_or, ℕ, zero, suc, ◌<◌, List, Option, Some, None, arith}
use Rattle.std.proofs.lemmas.List.{get_or_default}
use Rattle.std.specs.Option.{ForSome}
use Rattle.js_values.specs.declared.ids.ObjId.{ObjId}
use Rattle.object_heap.specs.Chain.{AreOlder, first_found, found, found_within, get_property, object_at}
use Rattle.object_heap.specs.Object.{no_object, Object}
use Rattle.object_heap.specs.Property.{own_property}

-- a fact of what is there
for_some : {A : Type 0} {P Q : A → Type 0} (o : Option A) → ForSome o P → ((a : A) → P a → Q a) → ForSome o Q
for_some o h f = λ a e. f a (h a e)

module _ {A : Type 0} where
  first_found_same : (own : Option A) (proto : Option ObjId) (f g : ℕ → Option A) → ForSome proto (λ q. f q.0 ≡ g q.0) → first_found own proto f ≡ first_found own proto g
  first_found_same (Some p) proto f g h = refl
  first_found_same None None f g h = refl
  first_found_same None (Some q) f g h = h q refl

  -- all bounds past the age give the same
  pub bound_free : (see : Object → Option A) (objects : List Object) (n m k : ℕ) → AreOlder objects → k < n → k < m → found_within see objects n k ≡ found_within see objects m k
  bound_free see objects zero m k ages h g = absurd (omega (arith, h))
  bound_free see objects (suc n) zero k ages h g = absurd (omega (arith, g))
  bound_free see objects (suc n) (suc m) k ages h g =
      first_found_same (see (object_at objects k)) (object_at objects k).proto (λ q. found_within see objects n q) (λ q. found_within see objects m q)
      (for_some (object_at objects k).proto (ages k) (λ q older. bound_free see objects n m q.0 ages (omega (arith, older, h)) (omega (arith, older, g))))

  -- what is seen up from an object is seen in it, or else up from its prototype
  pub found_on : (see : Object → Option A) (objects : List Object) (k : ℕ) → AreOlder objects → found see objects k ≡ first_found (see (object_at objects k)) (object_at objects k).proto (λ q. found see objects q)
  found_on see objects k ages =
      first_found_same (see (object_at objects k)) (object_at objects k).proto (λ q. found_within see objects k q) (λ q. found see objects q)
      (for_some (object_at objects k).proto (ages k) (λ q older. bound_free see objects k (suc q.0) q.0 ages older (omega arith)))

-- an object's property is its own, or else its prototype's
pub step : (objects : List Object) (k : ℕ) (name : List ℕ) → AreOlder objects → get_property objects k name ≡ first_found (own_property (object_at objects k).props name) (object_at objects k).proto (λ q. get_property objects q name)
unfolding get_property
step objects k name ages = found_on (λ o. own_property o.props name) objects k ages

-- a prototype is there
pub proto_there : (objects : List Object) (k : ℕ) (o : Object) (q : ObjId) → AreOlder objects → k < length objects → o ≡ slice_index_or objects k o → o.proto ≡ Some q → q.0 < length objects
proto_there objects k o q ages there is up =
    let same = get_or_default objects k o no_object there in
    let older : q.0 < k = ages k q (ap (λ (x : Object). x.proto) (sym same ∙ sym is) ∙ up) in
    omega (arith, older, there)
