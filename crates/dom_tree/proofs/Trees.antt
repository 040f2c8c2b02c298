-- Trees stay trees where a node is put in or taken out, and no line up is longer than there are nodes.
use Rattle.std.proofs.Common.{◌≡◌, ◌⊎◌, inl, inr, refl, sym, ap, subst, ◌∙◌, ℕ, zero, suc, ◌<◌, ◌≤◌, Bool, true, false, cond, ◌||◌, nat_eq, List, [], ◌∷◌, Option, Some, None, length, length-set, slice_set, arith}
use Rattle.std.proofs.lemmas.Bool.{cases_lt, eqb-true, eqb-false, or_parts, both_ways}
use Rattle.std.proofs.lemmas.List.{get_or-set_same, get_or-set_other, get_or_past}
use Rattle.js_values.specs.declared.ids.NodeId.{NodeId}
use Rattle.dom_tree.specs.Change.{is_above_within, of_parent, put_before, without}
use Rattle.dom_tree.specs.Node.{Node, Nodes, children_at, has, is_distinct, is_this, no_node, node_at, parent_at, with_children, with_parent}
use Rattle.dom_tree.specs.Sound.{AreTrees, Rooted, root, under}
use Rattle.dom_tree.proofs.Lists.{distinct_put, distinct_without, eq_refl, eq_sym, few, has_put, has_without_other, has_without_same, id_of, same_id}

pub at_set : (t : Nodes) (i k : ℕ) (n : Node) → i < length t → node_at (slice_set t i n) k ≡ cond (nat_eq i k) n (node_at t k)
at_set t i k n h = go (nat_eq i k) refl
  where
    go : (b : Bool) → nat_eq i k ≡ b → node_at (slice_set t i n) k ≡ cond b n (node_at t k)
    go true e = ap (node_at (slice_set t i n)) (sym (eqb-true i k e)) ∙ get_or-set_same t i n no_node h
    go false e = get_or-set_other t i k n no_node (λ f. eqb-false i k e (sym f))

-- the nodes after one got other children and one another parent
pub record Moved (t u : Nodes) (p x : NodeId) (l : List NodeId) (o : Option NodeId) : Type 0 where
  pub long : length u ≡ length t
  pub content : (k : ℕ) → (node_at u k).content ≡ (node_at t k).content
  pub children_here : children_at u p.0 ≡ l
  pub children_other : (k : ℕ) → nat_eq p.0 k ≡ false → children_at u k ≡ children_at t k
  pub parent_here : parent_at u x.0 ≡ o
  pub parent_other : (k : ℕ) → nat_eq x.0 k ≡ false → parent_at u k ≡ parent_at t k

module _ (t : Nodes) (p x : NodeId) (l : List NodeId) (o : Option NodeId) (p_in : p.0 < length t) (x_in : x.0 < length t) where
  at_first : (k : ℕ) → node_at (with_children t p l) k ≡ cond (nat_eq p.0 k) (record { content = (node_at t p.0).content; parent = parent_at t p.0; children = l }) (node_at t k)
  at_first k = at_set t p.0 k (record { content = (node_at t p.0).content; parent = parent_at t p.0; children = l }) p_in

  x_in_first : x.0 < length (with_children t p l)
  x_in_first = omega (arith, x_in, length-set t p.0 (record { content = (node_at t p.0).content; parent = parent_at t p.0; children = l }))

  at_second : (k : ℕ) → let u = with_children t p l in
      node_at (with_parent u x o) k ≡ cond (nat_eq x.0 k) (record { content = (node_at u x.0).content; parent = o; children = children_at u x.0 }) (node_at u k)
  at_second k =
      let u = with_children t p l in
      at_set u x.0 k (record { content = (node_at u x.0).content; parent = o; children = children_at u x.0 }) x_in_first

  content_first : (k : ℕ) → (node_at (with_children t p l) k).content ≡ (node_at t k).content
  content_first k = ap (λ (n : Node). n.content) (at_first k) ∙ go (nat_eq p.0 k) refl
    where
      go : (b : Bool) → nat_eq p.0 k ≡ b → (cond b (record { content = (node_at t p.0).content; parent = parent_at t p.0; children = l }) (node_at t k)).content ≡ (node_at t k).content
      go true e = ap (λ z. (node_at t z).content) (eqb-true p.0 k e)
      go false e = refl

  parent_first : (k : ℕ) → parent_at (with_children t p l) k ≡ parent_at t k
  parent_first k = ap (λ (n : Node). n.parent) (at_first k) ∙ go (nat_eq p.0 k) refl
    where
      go : (b : Bool) → nat_eq p.0 k ≡ b → (cond b (record { content = (node_at t p.0).content; parent = parent_at t p.0; children = l }) (node_at t k)).parent ≡ parent_at t k
      go true e = ap (parent_at t) (eqb-true p.0 k e)
      go false e = refl

  children_first : (k : ℕ) → children_at (with_children t p l) k ≡ cond (nat_eq p.0 k) l (children_at t k)
  children_first k = ap (λ (n : Node). n.children) (at_first k) ∙ go (nat_eq p.0 k)
    where
      go : (b : Bool) → (cond b (record { content = (node_at t p.0).content; parent = parent_at t p.0; children = l }) (node_at t k)).children ≡ cond b l (children_at t k)
      go true = refl
      go false = refl

  children_second : (k : ℕ) → children_at (with_parent (with_children t p l) x o) k ≡ children_at (with_children t p l) k
  children_second k = ap (λ (n : Node). n.children) (at_second k) ∙ go (nat_eq x.0 k) refl
    where
      go : (b : Bool) → nat_eq x.0 k ≡ b → let u = with_children t p l in
          (cond b (record { content = (node_at u x.0).content; parent = o; children = children_at u x.0 }) (node_at u k)).children ≡ children_at u k
      go true e = ap (children_at (with_children t p l)) (eqb-true x.0 k e)
      go false e = refl

  content_second : (k : ℕ) → (node_at (with_parent (with_children t p l) x o) k).content ≡ (node_at (with_children t p l) k).content
  content_second k = ap (λ (n : Node). n.content) (at_second k) ∙ go (nat_eq x.0 k) refl
    where
      go : (b : Bool) → nat_eq x.0 k ≡ b → let u = with_children t p l in
          (cond b (record { content = (node_at u x.0).content; parent = o; children = children_at u x.0 }) (node_at u k)).content ≡ (node_at u k).content
      go true e = ap (λ z. (node_at (with_children t p l) z).content) (eqb-true x.0 k e)
      go false e = refl

  parent_second : (k : ℕ) → parent_at (with_parent (with_children t p l) x o) k ≡ cond (nat_eq x.0 k) o (parent_at (with_children t p l) k)
  parent_second k = ap (λ (n : Node). n.parent) (at_second k) ∙ go (nat_eq x.0 k)
    where
      go : (b : Bool) → let u = with_children t p l in
          (cond b (record { content = (node_at u x.0).content; parent = o; children = children_at u x.0 }) (node_at u k)).parent ≡ cond b o (parent_at u k)
      go true = refl
      go false = refl

  pub moved : Moved t (with_parent (with_children t p l) x o) p x l o
  moved = record {
    long =
        let u = with_children t p l in
        length-set u x.0 (record { content = (node_at u x.0).content; parent = o; children = children_at u x.0 })
        ∙ length-set t p.0 (record { content = (node_at t p.0).content; parent = parent_at t p.0; children = l });
    content = λ k. content_second k ∙ content_first k;
    children_here = children_second p.0 ∙ children_first p.0 ∙ ap (λ b. cond b l (children_at t p.0)) (eq_refl p.0);
    children_other = λ k ne. children_second k ∙ children_first k ∙ ap (λ b. cond b l (children_at t k)) ne;
    parent_here = parent_second x.0 ∙ ap (λ b. cond b o (parent_at (with_children t p l) x.0)) (eq_refl x.0);
    parent_other = λ k ne. parent_second k ∙ ap (λ b. cond b o (parent_at (with_children t p l) k)) ne ∙ parent_first k;
  }

-- what is past the end has neither children nor a parent
pub children_past : (t : Nodes) (k : ℕ) → length t ≤ k → children_at t k ≡ []
children_past t k h = ap (λ (n : Node). n.children) (get_or_past t k no_node h)

pub parent_past : (t : Nodes) (k : ℕ) → length t ≤ k → parent_at t k ≡ None
parent_past t k h = ap (λ (n : Node). n.parent) (get_or_past t k no_node h)

pub parent_of_child : (t : Nodes) → AreTrees t → (p : ℕ) (c : ℕ) → has c (children_at t p) ≡ true → parent_at t c ≡ Some (id_of p)
parent_of_child t a p c h = by (parent_at t c) refl
  where
    by : (o : Option NodeId) → parent_at t c ≡ o → o ≡ Some (id_of p)
    by None e = let bad : true ≡ false = sym h ∙ a.agree p c ∙ ap (is_this p) e in cc
    by (Some q) e = ap Some (sym (same_id (id_of p) q (sym (ap (is_this p) e) ∙ sym (a.agree p c) ∙ h)))

pub child_of_parent : (t : Nodes) → AreTrees t → (c : ℕ) (p : NodeId) → parent_at t c ≡ Some p → has c (children_at t p.0) ≡ true
child_of_parent t a c p e = a.agree p.0 c ∙ ap (is_this p.0) e ∙ eq_refl p.0

pub parent_in : (t : Nodes) → AreTrees t → (c : ℕ) (p : NodeId) → parent_at t c ≡ Some p → p.0 < length t
parent_in t a c p e = by (cases_lt p.0 (length t))
  where
    by : (p.0 < length t) ⊎ (length t ≤ p.0) → p.0 < length t
    by (inl h) = h
    by (inr h) = absurd (both_ways (has c (children_at t p.0)) (ap (has c) (children_past t p.0 h)) (child_of_parent t a c p e))

pub child_in : (t : Nodes) → AreTrees t → (p c : ℕ) → has c (children_at t p) ≡ true → c < length t
child_in t a p c i = by (cases_lt c (length t))
  where
    by : (c < length t) ⊎ (length t ≤ c) → c < length t
    by (inl h) = h
    by (inr h) = let bad : None ≡ Some (id_of p) = sym (parent_past t c h) ∙ parent_of_child t a p c i in cc

pub few_children : (t : Nodes) → AreTrees t → (p : ℕ) → length (children_at t p) ≤ length t
few_children t a p = few (length t) (children_at t p) (a.distinct p) (child_in t a p)

-- how many nodes stand above, and the line of the node and those
abbrev pub depth : {t : Nodes} {k : ℕ} → Rooted t k → ℕ
depth (root e) = 0
depth (under e r) = suc (depth r)

abbrev line : {t : Nodes} (k : ℕ) → Rooted t k → List NodeId
line k (root e) = id_of k ∷ []
line k (under {p = p} e r) = id_of k ∷ line p.0 r

pub same_depth : {t : Nodes} {j k : ℕ} (r : Rooted t j) (s : Rooted t k) → j ≡ k → depth r ≡ depth s
same_depth (root e) (root f) g = refl
same_depth {t} (root e) (under f s) g = let bad : None ≡ Some _ = sym e ∙ ap (parent_at t) g ∙ f in cc
same_depth {t} (under e r) (root f) g = let bad : Some _ ≡ None = sym e ∙ ap (parent_at t) g ∙ f in cc
same_depth {t} (under {p = p} e r) (under {p = q} f s) g =
    let same : Some p ≡ Some q = sym e ∙ ap (parent_at t) g ∙ f in
    let places : p.0 ≡ q.0 = cc in
    ap suc (same_depth r s places)

line_length : {t : Nodes} {k : ℕ} (r : Rooted t k) → length (line k r) ≡ suc (depth r)
line_length (root e) = refl
line_length (under e r) = ap suc (line_length r)

in_line : {t : Nodes} {k : ℕ} (r : Rooted t k) (j : ℕ) → has j (line k r) ≡ true → (s : Rooted t j) → depth s ≤ depth r
in_line {t} {k} (root e) j h s = by (nat_eq j k) refl h
  where
    by : (b : Bool) → nat_eq j k ≡ b → b || false ≡ true → depth s ≤ 0
    by true f g = let same : depth s ≡ 0 = same_depth s (root e) (eqb-true j k f) in omega (arith, same)
    by false f g = cc
in_line {t} {k} (under {p = p} e r) j h s = by (nat_eq j k) refl h (λ g. in_line r j g s)
  where
    by : (b : Bool) → nat_eq j k ≡ b → b || has j (line p.0 r) ≡ true → (has j (line p.0 r) ≡ true → depth s ≤ depth r) → depth s ≤ suc (depth r)
    by true f g more = let same : depth s ≡ suc (depth r) = same_depth s (under e r) (eqb-true j k f) in omega (arith, same)
    by false f g more = let below : depth s ≤ depth r = more g in omega (arith, below)

line_distinct : {t : Nodes} {k : ℕ} (r : Rooted t k) → is_distinct (line k r) ≡ true
line_distinct (root e) = refl
line_distinct {t} {k} (under {p = p} e r) = by (has k (line p.0 r)) refl (line_distinct r)
  where
    by : (b : Bool) → has k (line p.0 r) ≡ b → is_distinct (line p.0 r) ≡ true → is_distinct (id_of k ∷ line p.0 r) ≡ true
    by true h more = absurd (let low : suc (depth r) ≤ depth r = in_line r k h (under e r) in omega (arith, low))
    by false h more = rw (h, more) refl

line_below : (t : Nodes) → AreTrees t → (k : ℕ) (r : Rooted t k) → k < length t → (j : ℕ) → has j (line k r) ≡ true → j < length t
line_below t a k (root e) l j h = by (nat_eq j k) refl h
  where
    by : (b : Bool) → nat_eq j k ≡ b → b || false ≡ true → j < length t
    by true f g = subst (λ z. z < length t) (sym (eqb-true j k f)) l
    by false f g = cc
line_below t a k (under {p = p} e r) l j h = by (nat_eq j k) refl h (λ g. line_below t a p.0 r (parent_in t a k p e) j g)
  where
    by : (b : Bool) → nat_eq j k ≡ b → b || has j (line p.0 r) ≡ true → (has j (line p.0 r) ≡ true → j < length t) → j < length t
    by true f g more = subst (λ z. z < length t) (sym (eqb-true j k f)) l
    by false f g more = more g

-- fewer nodes stand above a node than there are
pub depth_below : (t : Nodes) → AreTrees t → (k : ℕ) (r : Rooted t k) → k < length t → depth r < length t
depth_below t a k r l = omega (arith, few (length t) (line k r) (line_distinct r) (line_below t a k r l), line_length r)

module _ (t u : Nodes) (p x : NodeId) (l : List NodeId) (o : Option NodeId) (m : Moved t u p x l o) where
  -- all lines up end where that of x does
  rooted_from : ((k : ℕ) → nat_eq x.0 k ≡ true → Rooted u k) → (k : ℕ) → Rooted t k → Rooted u k
  rooted_from end k (root f) = by (nat_eq x.0 k) refl
    where
      by : (b : Bool) → nat_eq x.0 k ≡ b → Rooted u k
      by true g = end k g
      by false g = root (m.parent_other k g ∙ f)
  rooted_from end k (under {p = q} f r) = by (nat_eq x.0 k) refl (rooted_from end q.0 r)
    where
      by : (b : Bool) → nat_eq x.0 k ≡ b → Rooted u q.0 → Rooted u k
      by true g s = end k g
      by false g s = under (m.parent_other k g ∙ f) s

  -- a line up that does not come to x stays
  kept_line : (n k : ℕ) (r : Rooted t k) → depth r < n → is_above_within t n x.0 k ≡ false → Rooted u k
  kept_line zero k r l h = absurd (omega (arith, l))
  kept_line (suc n) k (root f) l h = root (m.parent_other k (or_parts (nat_eq x.0 k) (of_parent (parent_at t k) (λ z. is_above_within t n x.0 z)) h).0 ∙ f)
  kept_line (suc n) k (under {p = q} f r) l h =
      let parts = or_parts (nat_eq x.0 k) (of_parent (parent_at t k) (λ z. is_above_within t n x.0 z)) h in
      let more : is_above_within t n x.0 q.0 ≡ false = ap (λ o. of_parent o (λ z. is_above_within t n x.0 z)) (sym f) ∙ parts.1 in
      under (m.parent_other k parts.0 ∙ f) (kept_line n q.0 r (omega (arith, l)) more)

-- where a node is taken out
pub take_trees : (t u : Nodes) (p x : NodeId) → Moved t u p x (without x.0 (children_at t p.0)) None → parent_at t x.0 ≡ Some p → AreTrees t → AreTrees u
take_trees t u p x m e a = record { agree = λ q c. agree q c (nat_eq p.0 q) refl (nat_eq x.0 c) refl; distinct = λ q. distinct q (nat_eq p.0 q) refl; rooted = λ k. rooted_from t u p x (without x.0 (children_at t p.0)) None m end k (a.rooted k) }
  where
    here : (q : ℕ) → nat_eq p.0 q ≡ true → children_at u q ≡ without x.0 (children_at t p.0)
    here q f = ap (children_at u) (sym (eqb-true p.0 q f)) ∙ m.children_here

    gone : (c : ℕ) → nat_eq x.0 c ≡ true → parent_at u c ≡ None
    gone c g = ap (parent_at u) (sym (eqb-true x.0 c g)) ∙ m.parent_here

    agree : (q c : ℕ) (b : Bool) → nat_eq p.0 q ≡ b → (d : Bool) → nat_eq x.0 c ≡ d → has c (children_at u q) ≡ is_this q (parent_at u c)
    agree q c true f true g =
        ap (has c) (here q f) ∙ ap (λ z. has z (without x.0 (children_at t p.0))) (sym (eqb-true x.0 c g)) ∙ has_without_same x.0 (children_at t p.0) (a.distinct p.0) ∙ sym (ap (is_this q) (gone c g))
    agree q c true f false g =
        ap (has c) (here q f) ∙ has_without_other c x.0 (children_at t p.0) (eq_sym c x.0 ∙ g) ∙ a.agree p.0 c ∙ ap (λ z. is_this z (parent_at t c)) (eqb-true p.0 q f) ∙ ap (is_this q) (sym (m.parent_other c g))
    agree q c false f true g =
        ap (has c) (m.children_other q f) ∙ a.agree q c ∙ ap (λ z. is_this q (parent_at t z)) (sym (eqb-true x.0 c g)) ∙ ap (is_this q) e ∙ eq_sym q p.0 ∙ f ∙ sym (ap (is_this q) (gone c g))
    agree q c false f false g = ap (has c) (m.children_other q f) ∙ a.agree q c ∙ ap (is_this q) (sym (m.parent_other c g))

    distinct : (q : ℕ) (b : Bool) → nat_eq p.0 q ≡ b → is_distinct (children_at u q) ≡ true
    distinct q true f = ap is_distinct (here q f) ∙ distinct_without x.0 (children_at t p.0) (a.distinct p.0)
    distinct q false f = ap is_distinct (m.children_other q f) ∙ a.distinct q

    -- x has no parent any more
    end : (k : ℕ) → nat_eq x.0 k ≡ true → Rooted u k
    end k g = root (gone k g)

-- where a node is put in
pub put_trees : (t u : Nodes) (p x : NodeId) (before : Option NodeId) → Moved t u p x (put_before before x (children_at t p.0)) (Some p) → parent_at t x.0 ≡ None
    → p.0 < length t → is_above_within t (length t) x.0 p.0 ≡ false → AreTrees t → AreTrees u
put_trees t u p x before m e p_in above a = record { agree = λ q c. agree q c (nat_eq p.0 q) refl (nat_eq x.0 c) refl; distinct = λ q. distinct q (nat_eq p.0 q) refl; rooted = λ k. rooted_from t u p x (put_before before x (children_at t p.0)) (Some p) m end k (a.rooted k) }
  where
    here : (q : ℕ) → nat_eq p.0 q ≡ true → children_at u q ≡ put_before before x (children_at t p.0)
    here q f = ap (children_at u) (sym (eqb-true p.0 q f)) ∙ m.children_here

    up : (c : ℕ) → nat_eq x.0 c ≡ true → parent_at u c ≡ Some p
    up c g = ap (parent_at u) (sym (eqb-true x.0 c g)) ∙ m.parent_here

    alone : (q : ℕ) → has x.0 (children_at t q) ≡ false
    alone q = a.agree q x.0 ∙ ap (is_this q) e

    agree : (q c : ℕ) (b : Bool) → nat_eq p.0 q ≡ b → (d : Bool) → nat_eq x.0 c ≡ d → has c (children_at u q) ≡ is_this q (parent_at u c)
    agree q c true f true g =
        ap (has c) (here q f) ∙ has_put c before x (children_at t p.0) ∙ ap (λ b. b || has c (children_at t p.0)) (eq_sym c x.0 ∙ g) ∙ sym (ap (is_this q) (up c g) ∙ eq_sym q p.0 ∙ f)
    agree q c true f false g =
        ap (has c) (here q f) ∙ has_put c before x (children_at t p.0) ∙ ap (λ b. b || has c (children_at t p.0)) (eq_sym c x.0 ∙ g) ∙ a.agree p.0 c ∙ ap (λ z. is_this z (parent_at t c)) (eqb-true p.0 q f)
        ∙ ap (is_this q) (sym (m.parent_other c g))
    agree q c false f true g =
        ap (has c) (m.children_other q f) ∙ ap (λ z. has z (children_at t q)) (sym (eqb-true x.0 c g)) ∙ alone q ∙ sym (ap (is_this q) (up c g) ∙ eq_sym q p.0 ∙ f)
    agree q c false f false g = ap (has c) (m.children_other q f) ∙ a.agree q c ∙ ap (is_this q) (sym (m.parent_other c g))

    distinct : (q : ℕ) (b : Bool) → nat_eq p.0 q ≡ b → is_distinct (children_at u q) ≡ true
    distinct q true f = ap is_distinct (here q f) ∙ distinct_put before x (children_at t p.0) (alone p.0) (a.distinct p.0)
    distinct q false f = ap is_distinct (m.children_other q f) ∙ a.distinct q

    parent_line : Rooted u p.0
    parent_line = kept_line t u p x (put_before before x (children_at t p.0)) (Some p) m (length t) p.0 (a.rooted p.0) (depth_below t a p.0 (a.rooted p.0) p_in) above

    -- x comes to p, and so upwards
    end : (k : ℕ) → nat_eq x.0 k ≡ true → Rooted u k
    end k g = under (up k g) parent_line
