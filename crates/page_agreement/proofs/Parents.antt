-- Parents correspond where children do, and where what is the parent of a node that corresponds to one does so, too.
use Rattle.std.proofs.Common.{◌≡◌, ◌⊎◌, inl, inr, refl, sym, subst, ◌∙◌, ℕ, true, nat_eq, List, ◌∷◌, Option, Some, None}
use Rattle.std.proofs.lemmas.Bool.{eq-eqb, eqb-true, or_cases}
use Rattle.dom_tree.proofs.Callers.{child_of_parent, has_head, has_tail, parent_of_child}
use Rattle.dom_tree.specs.Node.{Nodes, children_at, has, parent_at}
use Rattle.dom_tree.specs.Sound.{AreTrees}
use Rattle.heap_relations.specs.Related.{Each, Maybe, each, no_more, none, some}
use Rattle.host_relations.specs.Nodes.{NodeIds}
use Rattle.js_values.specs.declared.ids.NodeId.{NodeId}

none_is_some : (p : NodeId) → None ≡ Some p → ⊥
none_is_some p e = cc e

module _ (N : ℕ → ℕ → Type 0) where
  pub record HasRight (p : ℕ) : Type 0 where
    pub other : ℕ
    pub linked : N p other

  pub record HasLeft (q : ℕ) : Type 0 where
    pub other : ℕ
    pub linked : N other q

  record RightAmong (a : ℕ) (ds : List NodeId) : Type 0 where
    node : NodeId
    linked : N a node.0
    there : has node.0 ds ≡ true

  record LeftAmong (b : ℕ) (cs : List NodeId) : Type 0 where
    node : NodeId
    linked : N node.0 b
    there : has node.0 cs ≡ true

  right_among : (a : ℕ) {cs ds : List NodeId} → Each (NodeIds N) cs ds → has a cs ≡ true → RightAmong a ds
  right_among a no_more i = absurd (cc i)
  right_among a (each {a = k} {b = d} {xs = cs} {ys = ds} x xs) i = by (or_cases (nat_eq a k.0) (has a cs) i) (λ j. right_among a xs j)
    where
      by : (nat_eq a k.0 ≡ true) ⊎ (has a cs ≡ true) → (has a cs ≡ true → RightAmong a ds) → RightAmong a (d ∷ ds)
      by (inl e) later = record { node = d; linked = subst (λ n. N n d.0) (sym (eqb-true a k.0 e)) x.linked; there = has_head d ds }
      by (inr j) later = let f = later j in record { node = f.node; linked = f.linked; there = has_tail f.node d ds f.there }

  left_among : (b : ℕ) {cs ds : List NodeId} → Each (NodeIds N) cs ds → has b ds ≡ true → LeftAmong b cs
  left_among b no_more i = absurd (cc i)
  left_among b (each {a = k} {b = d} {xs = cs} {ys = ds} x xs) i = by (or_cases (nat_eq b d.0) (has b ds) i) (λ j. left_among b xs j)
    where
      by : (nat_eq b d.0 ≡ true) ⊎ (has b ds ≡ true) → (has b ds ≡ true → LeftAmong b cs) → LeftAmong b (k ∷ cs)
      by (inl e) later = record { node = k; linked = subst (λ n. N k.0 n) (sym (eqb-true b d.0 e)) x.linked; there = has_head k cs }
      by (inr j) later = let f = later j in record { node = f.node; linked = f.linked; there = has_tail f.node k cs f.there }

  module _ (t u : Nodes) (left : AreTrees t) (right : AreTrees u)
      (children : (a b : ℕ) → N a b → Each (NodeIds N) (children_at t a) (children_at u b))
      (apart : (a b c d : ℕ) → N a b → N c d → nat_eq a c ≡ nat_eq b d)
      (rights : (a b : ℕ) → N a b → (p : NodeId) → parent_at t a ≡ Some p → HasRight p.0)
      (lefts : (a b : ℕ) → N a b → (q : NodeId) → parent_at u b ≡ Some q → HasLeft q.0) where
    parent_right : (a b : ℕ) → N a b → (p : NodeId) → parent_at t a ≡ Some p → Maybe (NodeIds N) (Some p) (parent_at u b)
    parent_right a b l p up =
        let q = rights a b l p up in
        let f = right_among a (children p.0 q.other q.linked) (child_of_parent t left a p up) in
        let same : b ≡ f.node.0 = eqb-true b f.node.0 (sym (apart a b a f.node.0 l f.linked) ∙ eq-eqb a a refl) in
        let there : has b (children_at u q.other) ≡ true = subst (λ n. has n (children_at u q.other) ≡ true) (sym same) f.there in
        let parent : parent_at u b ≡ Some (record { 0 = q.other }) = parent_of_child u right q.other b there in
        subst (λ o. Maybe (NodeIds N) (Some p) o) (sym parent) (some (record { linked = q.linked }))

    no_parent : (a b : ℕ) → N a b → parent_at t a ≡ None → (q : NodeId) → parent_at u b ≡ Some q → ⊥
    no_parent a b l none_up q up =
        let p = lefts a b l q up in
        let f = left_among b (children p.other q.0 p.linked) (child_of_parent u right b q up) in
        let same : a ≡ f.node.0 = eqb-true a f.node.0 (apart a b f.node.0 b l f.linked ∙ eq-eqb b b refl) in
        let there : has a (children_at t p.other) ≡ true = subst (λ n. has n (children_at t p.other) ≡ true) (sym same) f.there in
        let parent : parent_at t a ≡ Some (record { 0 = p.other }) = parent_of_child t left p.other a there in
        none_is_some (record { 0 = p.other }) (sym none_up ∙ parent)

    pub parents_rel : (a b : ℕ) → N a b → Maybe (NodeIds N) (parent_at t a) (parent_at u b)
    parents_rel a b l = by (parent_at t a) refl (parent_at u b) refl
      where
        by : (o : Option NodeId) → parent_at t a ≡ o → (p : Option NodeId) → parent_at u b ≡ p → Maybe (NodeIds N) o p
        by (Some p) up r e = subst (λ q. Maybe (NodeIds N) (Some p) q) e (parent_right a b l p up)
        by None up None e = none
        by None up (Some q) e = absurd (no_parent a b l up q e)
