-- What is done to lists of names with something keeps them related.
use Rattle.std.proofs.Common.{zero, suc, length, slice_index_or, drop, ◌≡◌, refl, ap, ℕ, Bool, true, false, cond, filter, List, ◌∷◌, ◌++◌, Option, Some, unwrap_or}
use Rattle.std.specs.Option.{is_some}
use Rattle.std.specs.Map.{lookup, set_value, remove_entry, keys_of}
use Rattle.heap_relations.specs.Related.{Each, no_more, each, Maybe, none, some, Entries, no_entries, entry}

pub is_some_same : {A : Type 0} {R : A → A → Type 0} {o p : Option A} → Maybe R o p → is_some o ≡ is_some p
is_some_same none = refl
is_some_same (some h) = refl

pub or_else : {A : Type 0} {R : A → A → Type 0} {o p : Option A} {a b : A} → Maybe R o p → R a b → R (unwrap_or o a) (unwrap_or p b)
or_else none k = k
or_else (some h) k = h

module _ {A : Type 0} {R : A → A → Type 0} where
  pub lookup_rel : {xs ys : List (List ℕ × A)} (test : List ℕ → Bool) → Entries R xs ys → Maybe R (lookup test xs) (lookup test ys)
  lookup_rel test no_entries = none
  lookup_rel test (entry {name = name} {a = a} {b = b} {xs = as1} {ys = bs1} h hs) = go (test name) (lookup_rel test hs)
    where
      go : (c : Bool) → Maybe R (lookup test as1) (lookup test bs1) → Maybe R (cond c (Some a) (lookup test as1)) (cond c (Some b) (lookup test bs1))
      go true k = some h
      go false k = k

  entries_cond : {xs ys us vs : List (List ℕ × A)} (c : Bool) → Entries R xs ys → Entries R us vs → Entries R (cond c xs us) (cond c ys vs)
  entries_cond true h k = h
  entries_cond false h k = k

  pub set_rel : {xs ys : List (List ℕ × A)} (test : List ℕ → Bool) (a b : A) → R a b → Entries R xs ys → Entries R (set_value test xs a) (set_value test ys b)
  set_rel test a b k no_entries = no_entries
  set_rel test a b k (entry {name = name} h hs) = entries_cond (test name) (entry k hs) (entry h (set_rel test a b k hs))

  pub remove_rel : {xs ys : List (List ℕ × A)} (test : List ℕ → Bool) → Entries R xs ys → Entries R (remove_entry test xs) (remove_entry test ys)
  remove_rel test no_entries = no_entries
  remove_rel test (entry {name = name} h hs) = entries_cond (test name) hs (entry h (remove_rel test hs))

  pub filter_rel : {xs ys : List (List ℕ × A)} (test : List ℕ → Bool) → Entries R xs ys → Entries R (filter (λ e. test e.0) xs) (filter (λ e. test e.0) ys)
  filter_rel test no_entries = no_entries
  filter_rel test (entry {name = name} h hs) = entries_cond (test name) (entry h (filter_rel test hs)) (filter_rel test hs)

  pub append_rel : {xs ys us vs : List (List ℕ × A)} → Entries R xs ys → Entries R us vs → Entries R (xs ++ us) (ys ++ vs)
  append_rel no_entries k = k
  append_rel (entry h hs) k = entry h (append_rel hs k)

  -- the own names of an object, in order
  pub keys_same : {xs ys : List (List ℕ × A)} → Entries R xs ys → keys_of xs ≡ keys_of ys
  keys_same no_entries = refl
  keys_same (entry {name = name} h hs) = ap (λ l. name ∷ l) (keys_same hs)

-- ---- lists of anything

module _ {A : Type 0} {R : A → A → Type 0} where
  pub each_append : {xs ys us vs : List A} → Each R xs ys → Each R us vs → Each R (xs ++ us) (ys ++ vs)
  each_append no_more k = k
  each_append (each h hs) k = each h (each_append hs k)

  pub each_length : {xs ys : List A} → Each R xs ys → length xs ≡ length ys
  each_length no_more = refl
  each_length (each h hs) = ap suc (each_length hs)

  -- past the end both are the default
  pub each_at : {xs ys : List A} (d e : A) (i : ℕ) → R d e → Each R xs ys → R (slice_index_or xs i d) (slice_index_or ys i e)
  each_at d e i k no_more = k
  each_at d e zero k (each h hs) = h
  each_at d e (suc i) k (each h hs) = each_at d e i k hs

  pub each_drop : (n : ℕ) {xs ys : List A} → Each R xs ys → Each R (drop n xs) (drop n ys)
  each_drop zero h = h
  each_drop (suc n) no_more = no_more
  each_drop (suc n) (each h hs) = each_drop n hs
