-- Chains of prototypes and of bound functions end, whatever count stands for their length.
use Rattle.std.proofs.Common.{◌≡◌, refl, ap, ◌∙◌, ℕ, zero, suc, ◌<◌, Bool, true, nat_eq, List, Option, Some, None, arith, if◌then◌else◌}
use Rattle.std.proofs.lemmas.Bool.{ne_eqb}
use Rattle.std.specs.Option.{ForSome}
use Rattle.js_values.specs.declared.ids.ObjId.{ObjId}
use Rattle.object_heap.specs.declared.object.Class.{Class}
use Rattle.object_heap.specs.declared.object.Class.TheVariants.{Bound}
use Rattle.object_heap.specs.Chain.{AreOlder, HaveOlderTargets, object_at}
use Rattle.object_heap.specs.Object as heap
use Rattle.page_meaning.specs.Operators.{next_target, stands_above, target_of}

-- ---- prototypes

module _ (objects : List heap.Object) (p : ℕ) (ages : AreOlder objects) where
  -- all counts past the age give the same
  above_free : (n m : ℕ) (o : Option ObjId) → ForSome o (λ q. q.0 < n) → ForSome o (λ q. q.0 < m) → stands_above objects n p o ≡ stands_above objects m p o
  above_free zero zero o h g = refl
  above_free zero (suc m) None h g = refl
  above_free zero (suc m) (Some q) h g = absurd (omega (arith, h q refl))
  above_free (suc n) zero None h g = refl
  above_free (suc n) zero (Some q) h g = absurd (omega (arith, g q refl))
  above_free (suc n) (suc m) None h g = refl
  above_free (suc n) (suc m) (Some q) h g =
      ap (λ (b : Bool). if nat_eq p q.0 then true else b)
      (above_free n m (object_at objects q.0).proto (λ r e. let older : r.0 < q.0 = ages q.0 r e in omega (arith, older, h q refl)) (λ r e. let older : r.0 < q.0 = ages q.0 r e in omega (arith, older, g q refl)))

  pub above_next : (k : ℕ) (q : ObjId) → (object_at objects k).proto ≡ Some q → (p ≡ q.0 → ⊥)
      → stands_above objects (suc k) p (object_at objects k).proto ≡ stands_above objects (suc q.0) p (object_at objects q.0).proto
  above_next k q e h =
      rw (e, ne_eqb p q.0 h) (above_free k (suc q.0) (object_at objects q.0).proto (λ r up. let older : r.0 < q.0 = ages q.0 r up in let below : q.0 < k = ages k q e in omega arith) (λ r up. let older : r.0 < q.0 = ages q.0 r up in omega arith))

-- ---- bound functions

next_same : (c : Class) (f : ObjId) (g h : ObjId → ObjId) → ForSome (heap.target_of c) (λ t. g t ≡ h t) → next_target c f g ≡ next_target c f h
next_same (Bound t this args) f g h e = e t refl
next_same c f g h e = refl

next_none : (c : Class) (f : ObjId) (g : ObjId → ObjId) → heap.target_of c ≡ None → next_target c f g ≡ f
next_none (Bound t this args) f g e = cc
next_none c f g e = refl

next_some : (c : Class) (f t : ObjId) (g : ObjId → ObjId) → heap.target_of c ≡ Some t → next_target c f g ≡ g t
next_some (Bound u this args) f t g e = ap g cc
next_some c f t g e = cc

module _ (objects : List heap.Object) (ages : HaveOlderTargets objects) where
  target_free : (n m : ℕ) (f : ObjId) → f.0 < n → f.0 < m → target_of objects n f ≡ target_of objects m f
  target_free zero m f h g = absurd (omega (arith, h))
  target_free (suc n) zero f h g = absurd (omega (arith, g))
  target_free (suc n) (suc m) f h g =
      next_same (object_at objects f.0).class f (λ t. target_of objects n t) (λ t. target_of objects m t)
      (λ t e. let older : t.0 < f.0 = ages f.0 t e in target_free n m t (omega (arith, older, h)) (omega (arith, older, g)))

  pub target_end : (f : ObjId) → heap.target_of (object_at objects f.0).class ≡ None → target_of objects (suc f.0) f ≡ f
  target_end f e = next_none (object_at objects f.0).class f (λ t. target_of objects f.0 t) e

  pub target_next : (f t : ObjId) → heap.target_of (object_at objects f.0).class ≡ Some t → target_of objects (suc f.0) f ≡ target_of objects (suc t.0) t
  target_next f t e =
      next_some (object_at objects f.0).class f t (λ u. target_of objects f.0 u) e
      ∙ (let older : t.0 < f.0 = ages f.0 t e in target_free f.0 (suc t.0) t older (omega arith))
