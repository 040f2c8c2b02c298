-- The children of a node, one after another.
use Rattle.std.proofs.Common.{◌≡◌, refl, sym, ap, ◌∙◌, ℕ, true, false, cond, List, [], ◌∷◌, Option, Some, None}
use Rattle.std.specs.Option.{ForSome}
use Rattle.js_core.specs.Text.{Text}
use Rattle.js_values.specs.declared.ids.NodeId.{NodeId}
use Rattle.dom_tree.specs.Content.{is_named}
use Rattle.dom_tree.specs.Node.{Nodes, children_at, first_of, has, kind_at, next_of, next_under, rest_after}
use Rattle.dom_tree.specs.Sound.{AreTrees}
use Rattle.dom_tree.specs.Trees.{first_named}
use Rattle.dom_tree.proofs.Generations.{rest_rest}
use Rattle.dom_tree.proofs.Lists.{eq_refl}
use Rattle.dom_tree.proofs.Neighbours.{first_has, rest_has}
use Rattle.dom_tree.proofs.Trees.{parent_of_child}

-- the nodes of a list from one on
abbrev pub from_on : Option NodeId → List NodeId → List NodeId
from_on None l = []
from_on (Some c) l = c ∷ rest_after c.0 l

pub from_first : (l : List NodeId) → from_on (first_of l) l ≡ l
from_first [] = refl
from_first (c ∷ l) = ap (λ b. c ∷ cond b l (rest_after c.0 l)) (eq_refl c.0)

-- a list whose first node is known, or that has none
pub begins_with : (l : List NodeId) (c : NodeId) → Some c ≡ first_of l → l ≡ c ∷ rest_after c.0 l
begins_with l c e = sym (from_first l) ∙ ap (λ o. from_on o l) (sym e)

pub is_empty : (l : List NodeId) → first_of l ≡ None → l ≡ []
is_empty [] e = refl
is_empty (c ∷ l) e = cc

next_kid : (t : Nodes) → AreTrees t → (p : ℕ) (c : NodeId) → has c.0 (children_at t p) ≡ true → next_of t c.0 ≡ first_of (rest_after c.0 (children_at t p))
next_kid t a p c i = ap (next_under t c.0) (parent_of_child t a p c.0 i)

pub from_next : (t : Nodes) → AreTrees t → (p : ℕ) (c : NodeId) → has c.0 (children_at t p) ≡ true → from_on (next_of t c.0) (children_at t p) ≡ rest_after c.0 (children_at t p)
from_next t a p c i = ap (λ o. from_on o (children_at t p)) (next_kid t a p c i) ∙ by (rest_after c.0 (children_at t p)) refl
  where
    by : (m : List NodeId) → rest_after c.0 (children_at t p) ≡ m → from_on (first_of m) (children_at t p) ≡ m
    by [] e = refl
    by (d ∷ m) e = ap (λ l. d ∷ l) (rest_rest c.0 (children_at t p) d m (a.distinct p) e)

pub first_among : (l : List NodeId) → ForSome (first_of l) (λ c. has c.0 l ≡ true)
first_among l c e = first_has l c e

pub next_among : (t : Nodes) → AreTrees t → (p : ℕ) (c : NodeId) → has c.0 (children_at t p) ≡ true → ForSome (next_of t c.0) (λ d. has d.0 (children_at t p) ≡ true)
next_among t a p c i d e = rest_has c.0 (children_at t p) d (first_has (rest_after c.0 (children_at t p)) d (sym (next_kid t a p c i) ∙ e))

pub named_here : (t : Nodes) (name : Text) (c : NodeId) (l : List NodeId) → is_named name (kind_at t c.0) ≡ true → first_named t name (c ∷ l) ≡ Some c
named_here t name c l e = rw e refl

pub named_past : (t : Nodes) (name : Text) (c : NodeId) (l : List NodeId) → is_named name (kind_at t c.0) ≡ false → first_named t name (c ∷ l) ≡ first_named t name l
named_past t name c l e = rw e refl
