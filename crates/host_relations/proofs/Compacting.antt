-- Nodes that are the same by places.
use Rattle.std.proofs.Common.{◌≡◌, refl, sym, ap, subst, ◌∙◌, ℕ, suc, Bool, true, false, ◌||◌, not, nat_eq, map, if◌then◌else◌, List, [], ◌∷◌, Option, Some, None}
use Rattle.std.proofs.lemmas.Bool.{and_parts, eqb-true}
use Rattle.std.specs.Option.{option_map}
use Rattle.js_values.specs.declared.ids.NodeId.{NodeId}
use Rattle.dom_tree.proofs.Callers.{eq_refl, eq_sym, has_head, has_tail}
use Rattle.dom_tree.specs.Node.{children_at, has, is_distinct, parent_at}
use Rattle.heap_relations.specs.Related.{Each, Maybe, each, no_more, none, some}
use Rattle.host_relations.specs.Compacts.{EqualNodesAgree, Zip, compact_node, first, next, place, place_in}
use Rattle.host_relations.specs.Nodes.{NodeIds}

behind : (c x : NodeId) (k : ℕ) (l : List NodeId) → has k l ≡ true → has k (x ∷ l) ≡ true
behind c x k l h = by (nat_eq k x.0)
  where
    by : (b : Bool) → (b || has k l) ≡ true
    by true = refl
    by false = h

left : {ks js : List NodeId} {x y : ℕ} → Zip ks js x y → has x ks ≡ true
left (first {a = a} {ks = ks}) = has_head a ks
left (next {a = a} {ks = ks} {x = x} z) = behind a a x ks (left z)

right : {ks js : List NodeId} {x y : ℕ} → Zip ks js x y → has y js ≡ true
right (first {b = b} {js = js}) = has_head b js
right (next {b = b} {js = js} {y = y} z) = behind b b y js (right z)

-- what is the same of all is the same of each pair
at_pair : {A : Type 0} (f g : NodeId → A) {ks js : List NodeId} {x y : ℕ} → Zip ks js x y → map f ks ≡ map g js → f (record { 0 = x }) ≡ g (record { 0 = y })
at_pair f g first e = cc e
at_pair f g (next z) e = at_pair f g z (cc e)

-- the same place, from which the node is in the list
same_place : (p q : ℕ) (ks js : List NodeId) → has p ks ≡ true → place p ks ≡ place q js → Zip ks js p q
same_place p q [] js h e = absurd (cc h)
same_place p q (a ∷ ks) [] h e = by (nat_eq p a.0) refl (place p ks) refl
  where
    by : (b : Bool) → nat_eq p a.0 ≡ b → (o : Option ℕ) → place p ks ≡ o → Zip (a ∷ ks) [] p q
    by true f o g = let bad : Some 0 ≡ None = sym (ap (λ b. if b then Some 0 else option_map suc (place p ks)) f) ∙ e in absurd (cc bad)
    by false f (Some n) g = let bad : Some (suc n) ≡ None = sym (ap (λ b. if b then Some 0 else option_map suc (place p ks)) f ∙ ap (option_map suc) g) ∙ e in absurd (cc bad)
    by false f None g = absurd (none_there p ks (sym (ap (λ b. b || has p ks) f) ∙ h) g)
      where
        none_there : (p : ℕ) (ks : List NodeId) → has p ks ≡ true → place p ks ≡ None → ⊥
        none_there p [] h e = absurd (cc h)
        none_there p (c ∷ ks) h e = go (nat_eq p c.0) refl (place p ks) refl h (none_there p ks)
          where
            go : (b : Bool) → nat_eq p c.0 ≡ b → (o : Option ℕ) → place p ks ≡ o → (b || has p ks) ≡ true → (has p ks ≡ true → place p ks ≡ None → ⊥) → ⊥
            go true f o g h later = let bad : Some 0 ≡ None = sym (ap (λ b. if b then Some 0 else option_map suc (place p ks)) f) ∙ e in absurd (cc bad)
            go false f None g h later = later h g
            go false f (Some n) g h later = let bad : Some (suc n) ≡ None = sym (ap (λ b. if b then Some 0 else option_map suc (place p ks)) f ∙ ap (option_map suc) g) ∙ e in absurd (cc bad)
same_place p q (a ∷ ks) (b ∷ js) h e = by (nat_eq p a.0) (nat_eq q b.0) refl refl h e (λ i j. same_place p q ks js i j)
  where
    peeled : (o r : Option ℕ) → option_map suc o ≡ option_map suc r → o ≡ r
    peeled None None f = refl
    peeled None (Some n) f = absurd (cc f)
    peeled (Some m) None f = absurd (cc f)
    peeled (Some m) (Some n) f = cc f

    never : (o : Option ℕ) → Some 0 ≡ option_map suc o → ⊥
    never None f = absurd (cc f)
    never (Some n) f = absurd (cc f)

    by : (c d : Bool) → nat_eq p a.0 ≡ c → nat_eq q b.0 ≡ d → (c || has p ks) ≡ true → (if c then Some 0 else option_map suc (place p ks)) ≡ (if d then Some 0 else option_map suc (place q js))
        → (has p ks ≡ true → place p ks ≡ place q js → Zip ks js p q) → Zip (a ∷ ks) (b ∷ js) p q
    by true true f g h e later =
        subst (λ x. Zip (a ∷ ks) (b ∷ js) x q) (sym (eqb-true p a.0 f)) (subst (λ y. Zip (a ∷ ks) (b ∷ js) a.0 y) (sym (eqb-true q b.0 g)) first)
    by false false f g h e later = next (later h (peeled (place p ks) (place q js) e))
    by true false f g h e later = absurd (never (place q js) e)
    by false true f g h e later = absurd (never (place p ks) (sym e))

-- ---- one to one

fresh : (a : NodeId) (ks : List NodeId) (c : ℕ) → is_distinct (a ∷ ks) ≡ true → has c ks ≡ true → nat_eq a.0 c ≡ false
fresh a ks c distinct h = by (nat_eq a.0 c) refl
  where
    by : (b : Bool) → nat_eq a.0 c ≡ b → b ≡ false
    by false e = refl
    by true e =
        let parts = and_parts (not (has a.0 ks)) (is_distinct ks) distinct in
        let front = parts.0 in
        let bad : has a.0 ks ≡ true = subst (λ i. has i ks ≡ true) (sym (eqb-true a.0 c e)) h in
        absurd (cc)

one_to_one : {ks js : List NodeId} {a b c d : ℕ} → is_distinct ks ≡ true → is_distinct js ≡ true → Zip ks js a b → Zip ks js c d → nat_eq a c ≡ nat_eq b d
one_to_one p q (first {a = a} {b = b}) first = eq_refl a.0 ∙ sym (eq_refl b.0)
one_to_one p q (first {a = a} {b = b} {ks = ks} {js = js}) (next {x = x} {y = y} z) = fresh a ks x p (left z) ∙ sym (fresh b js y q (right z))
one_to_one p q (next {a = a} {b = b} {ks = ks} {js = js} {x = x} {y = y} z) first = eq_sym x a.0 ∙ fresh a ks x p (left z) ∙ sym (eq_sym y b.0 ∙ fresh b js y q (right z))
one_to_one p q (next {a = a} {b = b} {ks = ks} {js = js} z) (next w) =
    one_to_one (and_parts (not (has a.0 ks)) (is_distinct ks) p).1 (and_parts (not (has b.0 js)) (is_distinct js) q).1 z w

-- ---- the nodes

module _ (ks js : List NodeId) where
  maybe_pair : (o p : Option NodeId) → ((c : NodeId) → o ≡ Some c → has c.0 ks ≡ true) → option_map (place_in ks) o ≡ option_map (place_in js) p → Maybe (NodeIds (Zip ks js)) o p
  maybe_pair None None all e = none
  maybe_pair (Some a) (Some b) all e = some (record { linked = same_place a.0 b.0 ks js (all a refl) (cc e) })
  maybe_pair None (Some b) all e = absurd (cc e)
  maybe_pair (Some a) None all e = absurd (cc e)

  each_pair : (cs ds : List NodeId) → ((c : NodeId) → has c.0 cs ≡ true → has c.0 ks ≡ true) → map (place_in ks) cs ≡ map (place_in js) ds → Each (NodeIds (Zip ks js)) cs ds
  each_pair [] [] all e = no_more
  each_pair (c ∷ cs) (d ∷ ds) all e = each (record { linked = same_place c.0 d.0 ks js (all c (has_head c cs)) (cc e) }) (each_pair cs ds (λ x h. all x (has_tail x c cs h)) (cc e))
  each_pair [] (d ∷ ds) all e = absurd (cc e)
  each_pair (c ∷ cs) [] all e = absurd (cc e)

pub equal_nodes_agree : EqualNodesAgree
equal_nodes_agree t u ks js a b root e = record {
  at = λ x y z.
      let same : compact_node t ks (record { 0 = x }) ≡ compact_node u js (record { 0 = y }) = at_pair (compact_node t ks) (compact_node u js) z e in
      record {
        content = ap (λ c. c.content) same;
        parent = maybe_pair ks js (parent_at t x) (parent_at u y) (λ p up. a.parents x p (left z) up) (ap (λ c. c.parent) same);
        children = each_pair ks js (children_at t x) (children_at u y) (λ c i. a.children x c.0 (left z) i) (ap (λ c. c.children) same);
      };
  inside = λ x y z. (a.there x (left z), b.there y (right z));
  same = λ x y v w z k. one_to_one a.once b.once z k;
  document = root;
}
