-- Lists of nodes, where one is put in or taken out.
use Rattle.std.proofs.Common.{◌≡◌, refl, sym, ap, ◌∙◌, ℕ, zero, suc, ◌<◌, ◌≤◌, Bool, true, false, cond, ◌&&◌, ◌||◌, not, nat_eq, List, [], ◌∷◌, Option, filter, length, arith}
use Rattle.std.proofs.lemmas.Bool.{eqb-true, eqb-false, eq-eqb, and_parts, or_parts, not-true, both_ways}
use Rattle.std.specs.List.{list_all, list_any}
use Rattle.std.proofs.Math.Bool.{or-true}
use Rattle.js_values.specs.declared.ids.NodeId.{NodeId}
use Rattle.dom_tree.specs.Change.{put_before, without}
use Rattle.dom_tree.specs.Node.{has, is_distinct, is_this}

abbrev pub id_of : ℕ → NodeId
id_of k = record { 0 = k }

pub eq_refl : (k : ℕ) → nat_eq k k ≡ true
eq_refl k = eq-eqb k k refl

pub eq_sym : (a b : ℕ) → nat_eq a b ≡ nat_eq b a
eq_sym a b = go (nat_eq a b) refl (nat_eq b a) refl
  where
    go : (x : Bool) → nat_eq a b ≡ x → (y : Bool) → nat_eq b a ≡ y → x ≡ y
    go true e true f = refl
    go false e false f = refl
    go true e false f = absurd (eqb-false b a f (sym (eqb-true a b e)))
    go false e true f = absurd (eqb-false a b e (sym (eqb-true b a f)))

pub same_id : (c d : NodeId) → nat_eq c.0 d.0 ≡ true → c ≡ d
same_id c d e = ap id_of (eqb-true c.0 d.0 e)

-- the first of distinct nodes is not among the others, which are distinct
pub head_fresh : (c : NodeId) (l : List NodeId) → is_distinct (c ∷ l) ≡ true → has c.0 l ≡ false
head_fresh c l d = not-true (has c.0 l) (and_parts (not (has c.0 l)) (is_distinct l) d).0

pub tail_distinct : (c : NodeId) (l : List NodeId) → is_distinct (c ∷ l) ≡ true → is_distinct l ≡ true
tail_distinct c l d = (and_parts (not (has c.0 l)) (is_distinct l) d).1

-- what has the node after one is taken out
pub has_without_other : (j k : ℕ) (l : List NodeId) → nat_eq j k ≡ false → has j (without k l) ≡ has j l
has_without_other j k [] ne = refl
has_without_other j k (c ∷ l) ne = go (nat_eq k c.0) refl (has_without_other j k l ne)
  where
    go : (b : Bool) → nat_eq k c.0 ≡ b → has j (without k l) ≡ has j l → has j (cond b l (c ∷ without k l)) ≡ (nat_eq j c.0 || has j l)
    go true e more =
        let far : nat_eq j c.0 ≡ false = ap (nat_eq j) (sym (eqb-true k c.0 e)) ∙ ne in
        rw far refl
    go false e more = ap (λ r. nat_eq j c.0 || r) more

pub has_without_same : (k : ℕ) (l : List NodeId) → is_distinct l ≡ true → has k (without k l) ≡ false
has_without_same k [] d = refl
has_without_same k (c ∷ l) d = go (nat_eq k c.0) refl (has_without_same k l (tail_distinct c l d))
  where
    go : (b : Bool) → nat_eq k c.0 ≡ b → has k (without k l) ≡ false → has k (cond b l (c ∷ without k l)) ≡ false
    go true e more = ap (λ j. has j l) (eqb-true k c.0 e) ∙ head_fresh c l d
    go false e more = rw e more

pub distinct_from : (c : NodeId) (l : List NodeId) → has c.0 l ≡ false → is_distinct l ≡ true → is_distinct (c ∷ l) ≡ true
distinct_from c l h d = rw (h, d) refl

-- without a node that is not there nothing is gone
pub has_of_without : (j k : ℕ) (l : List NodeId) → has j l ≡ false → has j (without k l) ≡ false
has_of_without j k [] h = refl
has_of_without j k (c ∷ l) h =
    let p = or_parts (nat_eq j c.0) (has j l) h in
    go (nat_eq k c.0) p (has_of_without j k l p.1)
  where
    go : (b : Bool) → (nat_eq j c.0 ≡ false) × (has j l ≡ false) → has j (without k l) ≡ false → has j (cond b l (c ∷ without k l)) ≡ false
    go true p more = p.1
    go false p more = rw p.0 more

pub distinct_without : (k : ℕ) (l : List NodeId) → is_distinct l ≡ true → is_distinct (without k l) ≡ true
distinct_without k [] d = refl
distinct_without k (c ∷ l) d = go (nat_eq k c.0) (distinct_without k l (tail_distinct c l d))
  where
    go : (b : Bool) → is_distinct (without k l) ≡ true → is_distinct (cond b l (c ∷ without k l)) ≡ true
    go true more = tail_distinct c l d
    go false more = distinct_from c (without k l) (has_of_without c.0 k l (head_fresh c l d)) more

-- what has the node after one is put in
pub has_put : (j : ℕ) (before : Option NodeId) (x : NodeId) (l : List NodeId) → has j (put_before before x l) ≡ nat_eq j x.0 || has j l
has_put j before x [] = refl
has_put j before x (c ∷ l) = go (is_this c.0 before) (has_put j before x l)
  where
    swap : (a b r : Bool) → b || (a || r) ≡ a || (b || r)
    swap true true r = refl
    swap true false r = refl
    swap false true r = refl
    swap false false r = refl

    go : (b : Bool) → has j (put_before before x l) ≡ nat_eq j x.0 || has j l → has j (cond b (x ∷ c ∷ l) (c ∷ put_before before x l)) ≡ nat_eq j x.0 || (nat_eq j c.0 || has j l)
    go true more = refl
    go false more = ap (λ r. nat_eq j c.0 || r) more ∙ swap (nat_eq j x.0) (nat_eq j c.0) (has j l)

pub distinct_put : (before : Option NodeId) (x : NodeId) (l : List NodeId) → has x.0 l ≡ false → is_distinct l ≡ true → is_distinct (put_before before x l) ≡ true
distinct_put before x [] h d = refl
distinct_put before x (c ∷ l) h d =
    let p = or_parts (nat_eq x.0 c.0) (has x.0 l) h in
    go (is_this c.0 before) (has_put c.0 before x l ∙ rw (eq_sym c.0 x.0 ∙ p.0, head_fresh c l d) refl) (distinct_put before x l p.1 (tail_distinct c l d))
  where
    go : (b : Bool) → has c.0 (put_before before x l) ≡ false → is_distinct (put_before before x l) ≡ true → is_distinct (cond b (x ∷ c ∷ l) (c ∷ put_before before x l)) ≡ true
    go true behind more = distinct_from x (c ∷ l) h d
    go false behind more = distinct_from c (put_before before x l) behind more

pub shorter_by_one : (k : ℕ) (l : List NodeId) → length l ≤ suc (length (without k l))
shorter_by_one k [] = omega arith
shorter_by_one k (c ∷ l) = go (nat_eq k c.0) (shorter_by_one k l)
  where
    go : (b : Bool) → length l ≤ suc (length (without k l)) → suc (length l) ≤ suc (length (cond b l (c ∷ without k l)))
    go true h = omega arith
    go false h = omega (arith, h)

-- as many nodes as there are numbers below n, at most, where none is twice
pub few : (n : ℕ) (l : List NodeId) → is_distinct l ≡ true → ((k : ℕ) → has k l ≡ true → k < n) → length l ≤ n
few zero [] d h = omega arith
few zero (c ∷ l) d h = absurd (let low : c.0 < 0 = h c.0 (rw (eq_refl c.0) refl) in omega (arith, low))
few (suc n) l d h =
    let rest : length (without n l) ≤ n = few n (without n l) (distinct_without n l d) below in
    omega (arith, rest, shorter_by_one n l)
  where
    at : (k : ℕ) → has k (without n l) ≡ true → (b : Bool) → nat_eq k n ≡ b → k < n
    at k g true e = absurd (both_ways (has k (without n l)) (ap (λ j. has j (without n l)) (eqb-true k n e) ∙ has_without_same n l d) g)
    at k g false e =
        let low : k < suc n = h k (sym (has_without_other k n l e) ∙ g) in
        let apart : k ≡ n → ⊥ = eqb-false k n e in
        omega (arith, low, apart)

    below : (k : ℕ) → has k (without n l) ≡ true → k < n
    below k g = at k g (nat_eq k n) refl

-- tests of all or of some nodes
pub all_without : (f : NodeId → Bool) (k : ℕ) (l : List NodeId) → list_all f l ≡ true → list_all f (without k l) ≡ true
all_without f k [] h = refl
all_without f k (c ∷ l) h =
    let p = and_parts (f c) (list_all f l) h in
    go (nat_eq k c.0) p (all_without f k l p.1)
  where
    go : (b : Bool) → (f c ≡ true) × (list_all f l ≡ true) → list_all f (without k l) ≡ true → list_all f (cond b l (c ∷ without k l)) ≡ true
    go true p more = p.1
    go false p more = rw p.0 more

pub all_put : (f : NodeId → Bool) (before : Option NodeId) (x : NodeId) (l : List NodeId) → f x ≡ true → list_all f l ≡ true → list_all f (put_before before x l) ≡ true
all_put f before x [] g h = rw g refl
all_put f before x (c ∷ l) g h =
    let p = and_parts (f c) (list_all f l) h in
    go (is_this c.0 before) p (all_put f before x l g p.1)
  where
    go : (b : Bool) → (f c ≡ true) × (list_all f l ≡ true) → list_all f (put_before before x l) ≡ true → list_all f (cond b (x ∷ c ∷ l) (c ∷ put_before before x l)) ≡ true
    go true p more = rw g h
    go false p more = rw p.0 more

pub any_without : (f : NodeId → Bool) (x : NodeId) (l : List NodeId) → f x ≡ false → list_any f (without x.0 l) ≡ list_any f l
any_without f x [] h = refl
any_without f x (c ∷ l) h = go (nat_eq x.0 c.0) refl (any_without f x l h)
  where
    go : (b : Bool) → nat_eq x.0 c.0 ≡ b → list_any f (without x.0 l) ≡ list_any f l → list_any f (cond b l (c ∷ without x.0 l)) ≡ (f c || list_any f l)
    go true e more =
        let no : f c ≡ false = ap f (sym (same_id x c e)) ∙ h in
        rw no refl
    go false e more = ap (λ r. f c || r) more

pub not_in_filter : (f : NodeId → Bool) (j : ℕ) (m : List NodeId) → has j m ≡ false → has j (filter f m) ≡ false
not_in_filter f j [] h = refl
not_in_filter f j (y ∷ m) h =
    let p = or_parts (nat_eq j y.0) (has j m) h in
    step (f y) p.0 (not_in_filter f j m p.1)
  where
    step : (t : Bool) → nat_eq j y.0 ≡ false → has j (filter f m) ≡ false → has j (cond t (y ∷ filter f m) (filter f m)) ≡ false
    step true p r = rw p r
    step false p r = r

pub gone : (j : ℕ) (m : List NodeId) → has j m ≡ false → without j m ≡ m
gone j [] h = refl
gone j (y ∷ m) h =
    let p = or_parts (nat_eq j y.0) (has j m) h in
    rw p.0 (ap (λ r. y ∷ r) (gone j m p.1))

pub filter_without : (f : NodeId → Bool) (k : ℕ) (l : List NodeId) → is_distinct l ≡ true → filter f (without k l) ≡ without k (filter f l)
filter_without f k [] d = refl
filter_without f k (c ∷ l) d = go (nat_eq k c.0) refl (f c) refl (filter_without f k l (tail_distinct c l d))
  where
    go : (b : Bool) → nat_eq k c.0 ≡ b → (t : Bool) → f c ≡ t → filter f (without k l) ≡ without k (filter f l) → filter f (cond b l (c ∷ without k l)) ≡ without k (cond t (c ∷ filter f l) (filter f l))
    go true e true g h = rw e refl
    go false e true g h = rw (g, e) (ap (λ r. c ∷ r) h)
    go false e false g h = rw g h
    go true e false g h = sym (gone k (filter f l) (not_in_filter f k l (ap (λ j. has j l) (eqb-true k c.0 e) ∙ head_fresh c l d)))

pub filter_put_skip : (f : NodeId → Bool) (before : Option NodeId) (x : NodeId) (l : List NodeId) → f x ≡ false → filter f (put_before before x l) ≡ filter f l
filter_put_skip f before x [] h = rw h refl
filter_put_skip f before x (c ∷ l) h = go (is_this c.0 before) (filter_put_skip f before x l h)
  where
    go : (b : Bool) → filter f (put_before before x l) ≡ filter f l → filter f (cond b (x ∷ c ∷ l) (c ∷ put_before before x l)) ≡ cond (f c) (c ∷ filter f l) (filter f l)
    go true more = rw h refl
    go false more = ap (λ r. cond (f c) (c ∷ r) r) more

pub filter_put_alone : (f : NodeId → Bool) (before : Option NodeId) (x : NodeId) (l : List NodeId) → f x ≡ true → filter f l ≡ [] → filter f (put_before before x l) ≡ x ∷ []
filter_put_alone f before x [] h e = rw h refl
filter_put_alone f before x (c ∷ l) h e = go (is_this c.0 before) (f c) refl e (λ g. filter_put_alone f before x l h g)
  where
    go : (b t : Bool) → f c ≡ t → cond t (c ∷ filter f l) (filter f l) ≡ [] → (filter f l ≡ [] → filter f (put_before before x l) ≡ x ∷ [])
        → filter f (cond b (x ∷ c ∷ l) (c ∷ put_before before x l)) ≡ x ∷ []
    go b true g e more = absurd (let bad : c ∷ filter f l ≡ [] = e in cc)
    go true false g e more = rw (h, g, e) refl
    go false false g e more = rw g (more e)

-- no element but x, and x is not there
pub none_left : (f : NodeId → Bool) (x : ℕ) (l : List NodeId) → list_any (λ e. f e && not (nat_eq x e.0)) l ≡ false → has x l ≡ false → filter f l ≡ []
none_left f x [] h g = refl
none_left f x (c ∷ l) h g =
    let p = or_parts (f c && not (nat_eq x c.0)) (list_any (λ e. f e && not (nat_eq x e.0)) l) h in
    let q = or_parts (nat_eq x c.0) (has x l) g in
    rw (no (f c) (nat_eq x c.0) p.0 q.0) (none_left f x l p.1 q.1)
  where
    no : (a b : Bool) → a && not b ≡ false → b ≡ false → a ≡ false
    no a true h e = absurd (let bad : true ≡ false = e in cc)
    no true false h e = h
    no false false h e = refl

pub has_head : (c : NodeId) (l : List NodeId) → has c.0 (c ∷ l) ≡ true
has_head c l = rw (eq_refl c.0) refl

pub has_tail : (c d : NodeId) (l : List NodeId) → has c.0 l ≡ true → has c.0 (d ∷ l) ≡ true
has_tail c d l h = rw h (or-true (nat_eq c.0 d.0))
