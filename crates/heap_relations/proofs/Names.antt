-- Names in environments that are linked.
use Rattle.std.proofs.Common.{ap, ◌∙◌, ◌≡◌, refl, sym, subst, ℕ, zero, suc, ◌<◌, ◌^◌, Bool, true, false, not, ◌&&◌, ◌||◌, nat_eq, nat_lt, List, [], ◌∷◌, Option, Some, None, arith}
use Rattle.std.proofs.lemmas.Bool.{eq-eqb, ltb-true, ne_eqb}
use Rattle.js_values.specs.declared.ids.EnvId.{EnvId}
use Rattle.js_values.specs.declared.value.Value.{Value}
use Rattle.object_heap.specs.Environment.{Environment, value_of, AreInside, environment_at}
use Rattle.object_heap.specs.Object.{Object}
use Rattle.object_heap.specs.declared.property.Prop.{Prop}
use Rattle.object_heap.specs.Chain.{object_at}
use Rattle.object_heap.specs.Heap.{lookup, first_bound, look_in}
use Rattle.object_heap.specs.Property.{own_property}
use Rattle.js_values.specs.declared.value.Value.TheVariants as value
use Rattle.object_heap.proofs.Callers.{lookup_on}
use Rattle.heap_relations.specs.Related.{Links}
use Rattle.heap_relations.specs.Naming.{are_below, Base, scope_name, constant, copied, held, Copy, is_copied, based, Fixed, InScope, is_sealed, is_unused, Itself, Nowhere, Place, Sealed, sealed, SealedRel, unbound, unused, absent, captured, env_id, FoundRel, Frame, free, In, inside, is_captured, is_free, is_reserved, Kept, named, NameRel, nowhere, outermost, resolve, resolved, Round, Slot, SlotRel, SlotsRel, World}

-- one of these frames has the scope object of this number
data Has (n : ℕ) : List Frame → Type 0 where
  nearest : {f : Frame} {fs : List Frame} → f.scoped ≡ true → f.number ≡ n → n < 2 ^ 64 → Has n (f ∷ fs)
  farther : {f : Frame} {fs : List Frame} → Has n fs → Has n (f ∷ fs)

-- a scope object that is found is one of theirs
abbrev IsOf : List Frame → Place → Type 0
IsOf fs (InScope n) = Has n fs
IsOf fs (Copy n) = Has n fs
IsOf fs p = Unit {0}

of_more : (f : Frame) (fs : List Frame) (p : Place) → IsOf fs p → IsOf (f ∷ fs) p
of_more f fs (InScope n) h = farther h
of_more f fs (Copy n) h = farther h
of_more f fs Itself h = tt
of_more f fs Fixed h = tt
of_more f fs Nowhere h = tt

-- it has a smaller number than what is inside all of them
has_below : (most n : ℕ) (fs : List Frame) → are_below most fs ≡ true → Has n fs → n < most
has_below most n (f ∷ fs) e (nearest scoped is small) = here f.scoped (nat_lt f.number most) refl scoped e
  where
    here : (s b : Bool) → nat_lt f.number most ≡ b → s ≡ true → ((not s || b) && are_below most fs) ≡ true → n < most
    here true true q c d = omega (arith, ltb-true f.number most q, is)
    here false b q c d = absurd (cc c)
    here true false q c d = absurd (cc d)
has_below most n (f ∷ fs) e (farther h) = has_below most n fs (rest (not f.scoped || nat_lt f.number most) e) h
  where
    rest : (b : Bool) → (b && are_below most fs) ≡ true → are_below most fs ≡ true
    rest true d = d
    rest false d = absurd (cc d)
has_below most n [] e h = elim h [ ]

has_small : (n : ℕ) (fs : List Frame) → Has n fs → n < 2 ^ 64
has_small n (f ∷ fs) (nearest scoped is small) = small
has_small n (f ∷ fs) (farther h) = has_small n fs h
has_small n [] h = elim h [ ]

module _ {W : World} {es fs : List Environment} {ps : List Object} (r : SlotsRel W es fs ps) (left : AreInside es) (right : AreInside fs) where
  -- a slot does not have the scope objects that are found outwards
  not_here : {e f : Environment} {o : Object} (n : ℕ) (s : Slot) → SlotRel W s e f o → Has n s.round → (s.frame.scoped && nat_eq n s.frame.number) ≡ false
  not_here n s at h = by_case s.frame.scoped refl
    where
      by_case : (b : Bool) → s.frame.scoped ≡ b → (b && nat_eq n s.frame.number) ≡ false
      by_case true e = ne_eqb n s.frame.number (λ q. omega (arith, has_below s.frame.number n s.round (at.numbers e).1 h, q))
      by_case false e = refl

  scope_outwards : {v : Option (EnvId × Value)} (n k : ℕ) (s : Slot) → SlotRel W s (environment_at es s.one) (environment_at fs s.two) (object_at ps s.place) → W.opens ≡ true
      → (environment_at fs s.two).outer ≡ Some (env_id k) → Has n s.round → lookup fs k (scope_name n) ≡ v → lookup fs s.two (scope_name n) ≡ v
  scope_outwards n k s at opens out h look = rw (lookup_on fs s.two (scope_name n) right) (rw (at.scopes opens n (has_small n s.round h), not_here n s at h, out) look)

  -- what is found from the outer environments is found from here, where neither of these has the name
  outwards : {x : List ℕ} {q : Place} {o p : Option (EnvId × Value)} (k : ℕ) (s : Slot) → SlotRel W s (environment_at es s.one) (environment_at fs s.two) (object_at ps s.place)
      → (environment_at fs s.two).outer ≡ Some (env_id k) → IsOf s.round q
      → FoundRel W ps (λ y. lookup fs k y) x q o p → FoundRel W ps (λ y. lookup fs s.two y) x q o p
  outwards k s at out below nowhere = nowhere
  outwards k s at out below (is_sealed v) = is_sealed v
  outwards k s at out below (is_copied t opens plain look own v) = is_copied t opens plain (scope_outwards t.frame.number k s at opens out below look) own v
  outwards k s at out below is_unused = is_unused
  outwards k s at out below (is_free t i n v) = is_free t i n v
  outwards k s at out below (is_captured t i n opens plain look own v) = is_captured t i n opens plain (scope_outwards t.frame.number k s at opens out below look) own v

  up_is : (gs : List Environment) (k : ℕ) (o : Option EnvId) (x : List ℕ) → first_bound k None o (λ q. lookup gs q x) ≡ look_in gs o x
  up_is gs k None x = refl
  up_is gs k (Some q) x = refl

  found_sealed : {look : List ℕ → Option (EnvId × Value)} {x : List ℕ} {k : Kept} {o p : Option (EnvId × Value)} (d : ℕ) → SealedRel (named W) k o p → FoundRel W ps look x (resolved k d Itself) o p
  found_sealed d unbound = nowhere
  found_sealed d (sealed v) = is_sealed v
  found_sealed d unused = is_unused

  sealed_value : {L : Links} {b : Bool} {v : Value} {k : Kept} {x y : Option Value} {p : Option Prop} → k ≡ Sealed → NameRel L b v k x y p → x ≡ Some v
  sealed_value e absent = absurd (cc)
  sealed_value e (free v) = absurd (cc)
  sealed_value e (captured b v m n c) = absurd (cc)
  sealed_value e (constant v) = refl
  sealed_value e (held v) = absurd (cc)
  sealed_value e (copied b v) = absurd (cc)

  sealed_of : {k : Kept} {o p : Option (EnvId × Value)} (b : Base) → SealedRel (named W) k o p → IsOf (b.frame ∷ []) (resolved k b.frame.number Itself)
  sealed_of b unbound = tt
  sealed_of b (sealed v) = tt
  sealed_of b unused = tt

  -- what a slot's names resolve to
  of_at : (n : ℕ) (s : Slot) (x : List ℕ) → In s W.slots → is_reserved W.opens x ≡ false → s.one < n → IsOf (s.frame ∷ s.round) (resolve (s.frame ∷ s.round) x)
  of_at zero s x i own h = absurd (omega (arith, h))
  of_at (suc n) s x i own h = near (at.names x own) (out refl at.outer (λ t j c. of_at n t x j own (omega (arith, left s.one _ c, h))))
    where
      at : SlotRel W s (environment_at es s.one) (environment_at fs s.two) (object_at ps s.place)
      at = r.at s i

      out : {frames : List Frame} {e f : Option EnvId} → (environment_at es s.one).outer ≡ e → Round W frames e f
          → ((t : Slot) → In t W.slots → (environment_at es s.one).outer ≡ Some (env_id t.one) → IsOf (t.frame ∷ t.round) (resolve (t.frame ∷ t.round) x)) → IsOf frames (resolve frames x)
      out c outermost up = tt
      out c (based b j) up = sealed_of b ((r.bases b j).names x own)
      out c (inside t j) up = up t j c

      near : {k : Kept} {a b : Option Value} {p : Option Prop} → NameRel (named W) s.frame.scoped (s.known x) k a b p → IsOf s.round (resolve s.round x)
          → IsOf (s.frame ∷ s.round) (resolved k s.frame.number (resolve s.round x))
      near absent up = of_more s.frame s.round (resolve s.round x) up
      near (free v) up = tt
      near (constant v) up = tt
      near (held v) up = tt
      near (copied scoped v) up = nearest scoped refl (at.numbers scoped).0
      near (captured scoped v may shown fixed) up = nearest scoped refl (at.numbers scoped).0

  -- where the name is bound outwards
  abbrev Outer : Slot → List ℕ → Type 0
  Outer s x =
      (t : Slot) → In t W.slots → (environment_at es s.one).outer ≡ Some (env_id t.one) → (environment_at fs s.two).outer ≡ Some (env_id t.two)
      → FoundRel W ps (λ y. lookup fs t.two y) x (resolve (t.frame ∷ t.round) x) (lookup es t.one x) (lookup fs t.two x)

  found_at : (n : ℕ) (s : Slot) (x : List ℕ) → In s W.slots → is_reserved W.opens x ≡ false → s.one < n
      → FoundRel W ps (λ y. lookup fs s.two y) x (resolve (s.frame ∷ s.round) x) (lookup es s.one x) (lookup fs s.two x)
  found_at zero s x i own h = absurd (omega (arith, h))
  found_at (suc n) s x i own h =
      rw (lookup_on es s.one x left, lookup_on fs s.two x right)
      (near refl refl (at.names x own) (λ t j c d. found_at n t x j own (omega (arith, left s.one _ c, h))))
    where
      at : SlotRel W s (environment_at es s.one) (environment_at fs s.two) (object_at ps s.place)
      at = r.at s i

      out : {frames : List Frame} {e f : Option EnvId} → s.round ≡ frames → (environment_at es s.one).outer ≡ e → (environment_at fs s.two).outer ≡ f → Round W frames e f → Outer s x
          → FoundRel W ps (λ y. lookup fs s.two y) x (resolve frames x) (first_bound s.one None e (λ q. lookup es q x)) (first_bound s.two None f (λ q. lookup fs q x))
      out a c d outermost up = nowhere
      out a c d (based b j) up = rw (up_is es s.one b.one x, up_is fs s.two b.two x) (found_sealed b.frame.number ((r.bases b j).names x own))
      out a c d (inside t j) up = outwards t.two s at d (subst (λ z. IsOf z (resolve (t.frame ∷ t.round) x)) (sym a) (of_at (suc t.one) t x j own (omega arith))) (up t j c d)

      -- the right finds the scope object
      scope_here : s.frame.scoped ≡ true → W.opens ≡ true → lookup fs s.two (scope_name s.frame.number) ≡ Some (env_id s.two, value.Object (record { 0 = s.place }))
      scope_here scoped opens =
          rw (lookup_on fs s.two (scope_name s.frame.number) right)
          (rw (at.scopes opens s.frame.number (at.numbers scoped).0, scoped, eq-eqb s.frame.number s.frame.number refl) refl)

      near : {k : Kept} {a b : Option Value} {p : Option Prop} → s.frame.keeps x ≡ k → own_property (object_at ps s.place).props x ≡ p → NameRel (named W) s.frame.scoped (s.known x) k a b p → Outer s x
          → FoundRel W ps (λ y. lookup fs s.two y) x (resolved k s.frame.number (resolve s.round x))
          (first_bound s.one a (environment_at es s.one).outer (λ q. lookup es q x)) (first_bound s.two b (environment_at fs s.two).outer (λ q. lookup fs q x))
      near e f absent up = out refl refl refl at.outer up
      near e f (free v) up = is_free s i e v
      near e f (constant v) up = is_sealed v
      near e f (held v) up = is_sealed v
      near e f (copied scoped v) up =
          let o = at.own x e in
          let t = o.slot in
          let held : value_of (environment_at es t.one).names x ≡ Some (s.known x) = sealed_value o.kept ((r.at t o.named).names x own) ∙ ap Some o.same in
          let bound : lookup es t.one x ≡ Some (env_id t.one, s.known x) = lookup_on es t.one x left ∙ ap (λ z. first_bound t.one z (environment_at es t.one).outer (λ q. lookup es q x)) held in
          let found : first_bound s.one None (environment_at es s.one).outer (λ q. lookup es q x) ≡ Some (env_id t.one, s.known x) =
          up_is es s.one (environment_at es s.one).outer x ∙ ap (λ z. look_in es z x) o.there ∙ bound
          in
          rw found (is_copied s (at.plain scoped).0 (at.plain scoped).1 (scope_here scoped (at.plain scoped).0) f v)
      near e f (captured scoped v may shown fixed) up = is_captured s i e (at.plain scoped).0 (at.plain scoped).1 (scope_here scoped (at.plain scoped).0) f v

  pub found_rel : {frames : List Frame} {e f : Option EnvId} (x : List ℕ) → Round W frames e f → is_reserved W.opens x ≡ false → FoundRel W ps (look_in fs f) x (resolve frames x) (look_in es e x) (look_in fs f x)
  found_rel x outermost own = nowhere
  found_rel x (inside s i) own = found_at (suc s.one) s x i own (omega arith)
  found_rel x (based b i) own = found_sealed b.frame.number ((r.bases b i).names x own)

-- the right finds the scope object of an environment there
pub scope_found : {W : World} {es fs : List Environment} {ps : List Object} → SlotsRel W es fs ps → AreInside fs → (s : Slot) → In s W.slots → s.frame.scoped ≡ true → W.opens ≡ true
    → lookup fs s.two (scope_name s.frame.number) ≡ Some (env_id s.two, value.Object (record { 0 = s.place }))
scope_found {fs = fs} r right s i scoped opens =
    let at = r.at s i in
    rw (lookup_on fs s.two (scope_name s.frame.number) right)
    (rw (at.scopes opens s.frame.number (at.numbers scoped).0, scoped, eq-eqb s.frame.number s.frame.number refl) refl)

-- what is found outwards is found from where it is
pub found_there : (es : List Environment) (env : Option EnvId) (x : List ℕ) (e : EnvId) (v : Value) → AreInside es → look_in es env x ≡ Some (e, v) → lookup es e.0 x ≡ Some (e, v)
found_there es None x e v ages q = absurd (cc q)
found_there es (Some p) x e v ages q = from (suc p.0) p.0 (omega arith) q
  where
    from : (n k : ℕ) → k < n → lookup es k x ≡ Some (e, v) → lookup es e.0 x ≡ Some (e, v)
    from zero k h found = absurd (omega (arith, h))
    from (suc n) k h found =
        by_case (value_of (environment_at es k).names x) (environment_at es k).outer (λ p there. from n p.0 (omega (arith, ages k p there, h))) (sym (lookup_on es k x ages) ∙ found)
      where
        by_case : (own : Option Value) (outer : Option EnvId) → ((p : EnvId) → outer ≡ Some p → lookup es p.0 x ≡ Some (e, v) → lookup es e.0 x ≡ Some (e, v))
            → first_bound k own outer (λ p. lookup es p x) ≡ Some (e, v) → lookup es e.0 x ≡ Some (e, v)
        by_case (Some w) outer up is = let same : (env_id k, w) ≡ (e, v) = cc in subst (λ (z : EnvId × Value). lookup es z.0.0 x ≡ Some (e, v)) same found
        by_case None None up is = absurd (cc is)
        by_case None (Some p) up is = up p refl is
