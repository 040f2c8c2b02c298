-- Lists of keys with values, where one entry or some are changed.
use Rattle.std.proofs.Common.{◌≡◌, refl, sym, ap, ◌∙◌, ℕ, Bool, true, false, cond, filter, List, [], ◌∷◌, ◌++◌, Some, None, bytes_eq}
use Rattle.std.proofs.lemmas.Slice.Eq.{bytes_eq-Decides}
use Rattle.std.specs.List.{list_all}
use Rattle.std.specs.Map.{lookup, set_value, remove_entry}
use Rattle.std.proofs.lemmas.Bool.{and_from, and_parts}

-- a key that is not this one is another
pub apart : (q name : List ℕ) → bytes_eq q name ≡ false → (k : List ℕ) → bytes_eq name k ≡ true → bytes_eq q k ≡ false
apart q name other k same = ap (bytes_eq q) (sym ((bytes_eq-Decides name k).0 same)) ∙ other

pub same_key : (q : List ℕ) → bytes_eq q q ≡ true
same_key q = (bytes_eq-Decides q q).1 refl

module _ {K X : Type 0} where
  pub lookup_before : (a : K → Bool) (es : List (K × X)) (k : K) (v : X) → a k ≡ false → lookup a (es ++ (k, v) ∷ []) ≡ lookup a es
  lookup_before a [] k v h = rw h refl
  lookup_before a (e ∷ es) k v h = ap (λ r. cond (a e.0) (Some e.1) r) (lookup_before a es k v h)

  pub lookup_last : (a : K → Bool) (es : List (K × X)) (k : K) (v : X) → lookup a es ≡ None → a k ≡ true → lookup a (es ++ (k, v) ∷ []) ≡ Some v
  lookup_last a [] k v none h = rw h refl
  lookup_last a (e ∷ es) k v none h = by_case (a e.0) refl (λ g. lookup_last a es k v g h)
    where
      by_case : (b : Bool) → a e.0 ≡ b → (lookup a es ≡ None → lookup a (es ++ (k, v) ∷ []) ≡ Some v) → lookup a ((e ∷ es) ++ (k, v) ∷ []) ≡ Some v
      by_case true p more = cc (rw p at none)
      by_case false p more = rw p (more (rw p at none))

  pub lookup_set_other : (a b : K → Bool) (es : List (K × X)) (w : X) → ((k : K) → b k ≡ true → a k ≡ false) → lookup a (set_value b es w) ≡ lookup a es
  lookup_set_other a b [] w far = refl
  lookup_set_other a b (e ∷ es) w far = by_case (b e.0) refl (lookup_set_other a b es w far)
    where
      by_case : (c : Bool) → b e.0 ≡ c → lookup a (set_value b es w) ≡ lookup a es → lookup a (set_value b (e ∷ es) w) ≡ lookup a (e ∷ es)
      by_case true p more = rw p (rw (far e.0 p) refl)
      by_case false p more = rw p (ap (λ r. cond (a e.0) (Some e.1) r) more)

  pub lookup_set : (b : K → Bool) (es : List (K × X)) (w p : X) → lookup b es ≡ Some p → lookup b (set_value b es w) ≡ Some w
  lookup_set b [] w p h = cc h
  lookup_set b (e ∷ es) w p h = by_case (b e.0) refl (lookup_set b es w p)
    where
      by_case : (c : Bool) → b e.0 ≡ c → (lookup b es ≡ Some p → lookup b (set_value b es w) ≡ Some w) → lookup b (set_value b (e ∷ es) w) ≡ Some w
      by_case true q more = rw q (rw q refl)
      by_case false q more = rw q (rw q (more (rw q at h)))

  pub lookup_remove_other : (a b : K → Bool) (es : List (K × X)) → ((k : K) → b k ≡ true → a k ≡ false) → lookup a (remove_entry b es) ≡ lookup a es
  lookup_remove_other a b [] far = refl
  lookup_remove_other a b (e ∷ es) far = by_case (b e.0) refl (lookup_remove_other a b es far)
    where
      by_case : (c : Bool) → b e.0 ≡ c → lookup a (remove_entry b es) ≡ lookup a es → lookup a (remove_entry b (e ∷ es)) ≡ lookup a (e ∷ es)
      by_case true p more = rw p (rw (far e.0 p) refl)
      by_case false p more = rw p (ap (λ r. cond (a e.0) (Some e.1) r) more)

  pub lookup_filter : (a f : K → Bool) (es : List (K × X)) → ((k : K) → a k ≡ true → f k ≡ true) → lookup a (filter (λ e. f e.0) es) ≡ lookup a es
  lookup_filter a f [] kept = refl
  lookup_filter a f (e ∷ es) kept = by_case (a e.0) refl (f e.0) refl (lookup_filter a f es kept)
    where
      by_case : (c : Bool) → a e.0 ≡ c → (d : Bool) → f e.0 ≡ d → lookup a (filter (λ x. f x.0) es) ≡ lookup a es → lookup a (filter (λ x. f x.0) (e ∷ es)) ≡ lookup a (e ∷ es)
      by_case c p true q more = rw q (ap (λ r. cond (a e.0) (Some e.1) r) more)
      by_case true p false q more = cc (kept e.0 p, q)
      by_case false p false q more = rw q (rw p more)

  pub all_set : (f b : K → Bool) (es : List (K × X)) (w : X) → list_all (λ e. f e.0) es ≡ true → list_all (λ e. f e.0) (set_value b es w) ≡ true
  all_set f b [] w h = refl
  all_set f b (e ∷ es) w h = by_case (b e.0) refl (all_set f b es w (and_parts (f e.0) (list_all (λ x. f x.0) es) h).1)
    where
      by_case : (c : Bool) → b e.0 ≡ c → list_all (λ x. f x.0) (set_value b es w) ≡ true → list_all (λ x. f x.0) (set_value b (e ∷ es) w) ≡ true
      by_case true p more = rw p h
      by_case false p more = rw p (and_from (f e.0) _ (and_parts (f e.0) (list_all (λ x. f x.0) es) h).0 more)

  pub all_remove : (f b : K → Bool) (es : List (K × X)) → list_all (λ e. f e.0) es ≡ true → list_all (λ e. f e.0) (remove_entry b es) ≡ true
  all_remove f b [] h = refl
  all_remove f b (e ∷ es) h = by_case (b e.0) refl (all_remove f b es (and_parts (f e.0) (list_all (λ x. f x.0) es) h).1)
    where
      by_case : (c : Bool) → b e.0 ≡ c → list_all (λ x. f x.0) (remove_entry b es) ≡ true → list_all (λ x. f x.0) (remove_entry b (e ∷ es)) ≡ true
      by_case true p more = rw p (and_parts (f e.0) (list_all (λ x. f x.0) es) h).1
      by_case false p more = rw p (and_from (f e.0) _ (and_parts (f e.0) (list_all (λ x. f x.0) es) h).0 more)

module _ {X : Type 0} where
  pub all_last : (p : X → Bool) (xs : List X) (x : X) → list_all p xs ≡ true → p x ≡ true → list_all p (xs ++ x ∷ []) ≡ true
  all_last p [] x h g = and_from _ _ g refl
  all_last p (y ∷ ys) x h g = and_from (p y) _ (and_parts (p y) (list_all p ys) h).0 (all_last p ys x (and_parts (p y) (list_all p ys) h).1 g)

  pub all_filter : (p : X → Bool) (xs : List X) → list_all p (filter p xs) ≡ true
  all_filter p [] = refl
  all_filter p (x ∷ xs) = by_case (p x) refl (all_filter p xs)
    where
      by_case : (b : Bool) → p x ≡ b → list_all p (filter p xs) ≡ true → list_all p (filter p (x ∷ xs)) ≡ true
      by_case true h more = rw h (rw h more)
      by_case false h more = rw h more

  pub all_weaker : (p q : X → Bool) (xs : List X) → ((x : X) → p x ≡ true → q x ≡ true) → list_all p xs ≡ true → list_all q xs ≡ true
  all_weaker p q [] f h = refl
  all_weaker p q (x ∷ xs) f h = and_from (q x) _ (f x (and_parts (p x) (list_all p xs) h).0) (all_weaker p q xs f (and_parts (p x) (list_all p xs) h).1)
