-- What values and lists of properties refer to, where a property is added, set or removed.
use Rattle.std.proofs.Common.{◌≡◌, refl, subst, ℕ, ◌≤◌, Bool, true, false, IsTrue, filter, List, [], ◌∷◌, ◌++◌, Option, Some, None, nat_lt, unwrap_or, arith}
use Rattle.std.proofs.lemmas.Bool.{and_from, and_parts, lt-ltb, ltb-true}
use Rattle.std.specs.Map.{lookup, remove_entry, set_value}
use Rattle.std.specs.Prelude.{⊤}
use Rattle.js_values.specs.declared.value.Value.{Value}
use Rattle.object_heap.specs.Environment.{Bound}
use Rattle.object_heap.specs.Property.{Props}
use Rattle.object_heap.specs.declared.property.Prop.{Prop}
use Rattle.object_shapes.specs.Links.{all_below, bound_links, props_links, value_links}

-- ---- places below a bound

pub all_more : (m n : ℕ) (ks : List ℕ) → m ≤ n → all_below m ks ≡ true → all_below n ks ≡ true
all_more m n [] h a = refl
all_more m n (k ∷ ks) h a =
    let both = and_parts (nat_lt k m) (all_below m ks) a in
    and_from (nat_lt k n) (all_below n ks) (lt-ltb k n (omega (arith, ltb-true k m both.0))) (all_more m n ks h both.1)

module _ (n : ℕ) where
  pub all_join : (xs ys : List ℕ) → all_below n xs ≡ true → all_below n ys ≡ true → all_below n (xs ++ ys) ≡ true
  all_join [] ys a b = b
  all_join (x ∷ xs) ys a b =
      let both = and_parts (nat_lt x n) (all_below n xs) a in
      and_from (nat_lt x n) (all_below n (xs ++ ys)) both.0 (all_join xs ys both.1 b)

  pub all_front : (xs ys : List ℕ) → all_below n (xs ++ ys) ≡ true → all_below n xs ≡ true
  all_front [] ys a = refl
  all_front (x ∷ xs) ys a =
      let both = and_parts (nat_lt x n) (all_below n (xs ++ ys)) a in
      and_from (nat_lt x n) (all_below n xs) both.0 (all_front xs ys both.1)

  pub all_back : (xs ys : List ℕ) → all_below n (xs ++ ys) ≡ true → all_below n ys ≡ true
  all_back [] ys a = a
  all_back (x ∷ xs) ys a = all_back xs ys (and_parts (nat_lt x n) (all_below n (xs ++ ys)) a).1

-- ---- values and properties

-- what the value refers to is below the bound
abbrev pub Small : ℕ → Value → Type 0
Small n v = IsTrue (all_below n (value_links v))

abbrev pub SmallSome : ℕ → Option Value → Type 0
SmallSome n None = ⊤
SmallSome n (Some v) = Small n v

abbrev pub AreSmall : ℕ → Props → Type 0
AreSmall n ps = IsTrue (all_below n (props_links ps))

pub unwrap_small : (n : ℕ) (o : Option Value) (v : Value) → SmallSome n o → Small n v → Small n (unwrap_or o v)
unwrap_small n None v h k = k
unwrap_small n (Some w) v h k = h

module _ (n : ℕ) (test : List ℕ → Bool) where
  pub small_found : (ps : Props) (p : Prop) → AreSmall n ps → lookup test ps ≡ Some p → Small n p.value
  small_found [] p a h = absurd (cc h)
  small_found (e ∷ es) p a h = by_case (test e.0) refl (λ k. small_found es p (all_back n (value_links e.1.value) (props_links es) a) k)
    where
      by_case : (b : Bool) → test e.0 ≡ b → (lookup test es ≡ Some p → Small n p.value) → Small n p.value
      by_case true g more =
          let same : e.1 ≡ p = cc (rw g at h) in
          subst (λ (q : Prop). Small n q.value) same (all_front n (value_links e.1.value) (props_links es) a)
      by_case false g more = more (rw g at h)

  pub small_set : (ps : Props) (q : Prop) → AreSmall n ps → Small n q.value → AreSmall n (set_value test ps q)
  small_set [] q a h = refl
  small_set (e ∷ es) q a h = by_case (test e.0) refl (small_set es q (all_back n (value_links e.1.value) (props_links es) a) h)
    where
      by_case : (b : Bool) → test e.0 ≡ b → AreSmall n (set_value test es q) → AreSmall n (set_value test (e ∷ es) q)
      by_case true g more = rw g (all_join n (value_links q.value) (props_links es) h (all_back n (value_links e.1.value) (props_links es) a))
      by_case false g more = rw g (all_join n (value_links e.1.value) (props_links (set_value test es q))
          (all_front n (value_links e.1.value) (props_links es) a) more)

  pub small_removed : (ps : Props) → AreSmall n ps → AreSmall n (remove_entry test ps)
  small_removed [] a = refl
  small_removed (e ∷ es) a = by_case (test e.0) refl (small_removed es (all_back n (value_links e.1.value) (props_links es) a))
    where
      by_case : (b : Bool) → test e.0 ≡ b → AreSmall n (remove_entry test es) → AreSmall n (remove_entry test (e ∷ es))
      by_case true g more = rw g (all_back n (value_links e.1.value) (props_links es) a)
      by_case false g more = rw g (all_join n (value_links e.1.value) (props_links (remove_entry test es))
          (all_front n (value_links e.1.value) (props_links es) a) more)

  -- the names of an environment
  pub bound_set : (es : Bound) (v : Value) → all_below n (bound_links es) ≡ true → Small n v
      → all_below n (bound_links (set_value test es v)) ≡ true
  bound_set [] v a h = refl
  bound_set (e ∷ es) v a h = by_case (test e.0) refl (bound_set es v (all_back n (value_links e.1) (bound_links es) a) h)
    where
      by_case : (b : Bool) → test e.0 ≡ b → all_below n (bound_links (set_value test es v)) ≡ true
          → all_below n (bound_links (set_value test (e ∷ es) v)) ≡ true
      by_case true g more = rw g (all_join n (value_links v) (bound_links es) h (all_back n (value_links e.1) (bound_links es) a))
      by_case false g more = rw g (all_join n (value_links e.1) (bound_links (set_value test es v))
          (all_front n (value_links e.1) (bound_links es) a) more)

pub small_filtered : (n : ℕ) (f : List ℕ × Prop → Bool) (ps : Props) → AreSmall n ps → AreSmall n (filter f ps)
small_filtered n f [] a = refl
small_filtered n f (e ∷ es) a = by_case (f e) refl (small_filtered n f es (all_back n (value_links e.1.value) (props_links es) a))
  where
    by_case : (b : Bool) → f e ≡ b → AreSmall n (filter f es) → AreSmall n (filter f (e ∷ es))
    by_case true g more = rw g (all_join n (value_links e.1.value) (props_links (filter f es))
        (all_front n (value_links e.1.value) (props_links es) a) more)
    by_case false g more = rw g more

pub small_added : (n : ℕ) (ps : Props) (name : List ℕ) (p : Prop) → AreSmall n ps → Small n p.value → AreSmall n (ps ++ (name, p) ∷ [])
small_added n [] name p a h = all_join n (value_links p.value) [] h refl
small_added n (e ∷ es) name p a h =
    all_join n (value_links e.1.value) (props_links (es ++ (name, p) ∷ [])) (all_front n (value_links e.1.value) (props_links es) a)
    (small_added n es name p (all_back n (value_links e.1.value) (props_links es) a) h)
