-- What calls on nodes keep, in the words of the subject.
use Rattle.std.specs.Prelude.{◌≡◌, ℕ, ◌<◌, ◌≤◌, true, false, List, [], ◌∷◌, ◌++◌, Option, Some, None, length, nat_eq, codes}
use Rattle.std.specs.List.{flat_map}
use Rattle.js_core.specs.Text.{Text}
use Rattle.js_values.specs.declared.ids.NodeId.{NodeId}
use Rattle.dom_tree.specs.declared.content.Kind.TheVariants as kind
use Rattle.dom_tree.specs.declared.content.Kind.{Kind}
use Rattle.dom_tree.specs.Change.{all_taken_out, inserted, insertion_error, is_above, is_above_within, replaced, replacement_error, taken_out, without}
use Rattle.dom_tree.specs.Content.{new_content}
use Rattle.dom_tree.specs.DomText.{closing_of, dom_text, opening_of, own_text, text_content, text_unit}
use Rattle.dom_tree.specs.Node.{Nodes, above_within, children_at, has, is_document, is_this, kind_at, next_of, node_at, nodes_above, parent_at, with_new}
use Rattle.dom_tree.specs.Sound.{AreTrees, IsSound, has_folded_name}
use Rattle.dom_tree.specs.Steps.{NodeStep, after_node}
use Rattle.dom_tree.specs.Trees.{trees_of, trees_within}

-- an insertion that is not refused, of a node that is not itself the reference
pub record Inserts (t : Nodes) (p c : NodeId) (before : Option NodeId) : Type 0 where
  pub sound : IsSound t
  pub parent : p.0 < length t
  pub child : c.0 < length t
  pub accepted : insertion_error t p c before ≡ None
  pub apart : is_this c.0 before ≡ false

-- the child stands under the parent, directly before the reference or as the last one, and nowhere else
abbrev pub StandsBefore : Type 0
StandsBefore =
    (t : Nodes) (p c : NodeId) (before : Option NodeId) → Inserts t p c before
    → let u = inserted t p c before in
    (parent_at u c.0 ≡ Some p) × (next_of u c.0 ≡ before) × ((q : ℕ) → has c.0 (children_at u q) ≡ nat_eq q p.0)

-- and nothing else moves: but for the child each node has its content, its parent and its children in their order
abbrev pub OthersStay : Type 0
OthersStay =
    (t : Nodes) (p c : NodeId) (before : Option NodeId) → Inserts t p c before
    → let u = inserted t p c before in
    ((k : ℕ) → (node_at u k).content ≡ (node_at t k).content) × ((k : ℕ) → nat_eq c.0 k ≡ false → parent_at u k ≡ parent_at t k)
    × ((q : ℕ) → without c.0 (children_at u q) ≡ without c.0 (children_at t q))

-- a replacement that is not refused, by another node
pub record Replaces (t : Nodes) (p c old : NodeId) : Type 0 where
  pub sound : IsSound t
  pub child : c.0 < length t
  pub accepted : replacement_error t p c old ≡ None
  pub apart : nat_eq c.0 old.0 ≡ false

-- the child stands where the old one stood, before what stands there after the old one once the child is taken out, and
-- the old one stands nowhere
abbrev pub StandsInPlace : Type 0
StandsInPlace =
    (t : Nodes) (p c old : NodeId) → Replaces t p c old
    → let u = replaced t p c old in
    (parent_at u c.0 ≡ Some p) × (next_of u c.0 ≡ next_of (taken_out t c) old.0)
    × ((q : ℕ) → has c.0 (children_at u q) ≡ nat_eq q p.0) × (parent_at u old.0 ≡ None) × ((q : ℕ) → has old.0 (children_at u q) ≡ false)

-- all children of a node are out, and nothing else moves
abbrev pub AllStandAlone : Type 0
AllStandAlone =
    (t : Nodes) (k : NodeId) → IsSound t
    → let u = all_taken_out t (children_at t k.0) in
    (children_at u k.0 ≡ []) × ((c : ℕ) → has c (children_at t k.0) ≡ true → parent_at u c ≡ None)
    × ((c : ℕ) → has c (children_at t k.0) ≡ false → parent_at u c ≡ parent_at t c)
    × ((q : ℕ) → nat_eq k.0 q ≡ false → children_at u q ≡ children_at t q)

-- whatever is done to nodes, they stay trees, and sound, and as many
pub record Stays (t : Nodes) (g : NodeStep) : Type 0 where
  pub trees : AreTrees t → AreTrees (after_node t g)
  pub sound : IsSound t → IsSound (after_node t g)
  pub long : length (after_node t g) ≡ length t

abbrev pub StepsStaySound : Type 0
StepsStaySound = (t : Nodes) (g : NodeStep) → Stays t g

-- so they do where a node is made; they stay sound where its name is folded and it is no document
pub record MakesSound (t : Nodes) (k : Kind) : Type 0 where
  pub trees : AreTrees t → AreTrees (with_new t (new_content k))
  pub sound : IsSound t → has_folded_name k ≡ true → is_document k ≡ false → IsSound (with_new t (new_content k))

abbrev pub NewNodesStaySound : Type 0
NewNodesStaySound = (t : Nodes) (k : Kind) → MakesSound t k

-- more generations than there are nodes change nothing: of trees, of what stands above a node, and of the nodes above it
pub record NoMoreGenerations (t : Nodes) (n : ℕ) : Type 0 where
  pub trees : (l : List NodeId) → ((c : NodeId) → has c.0 l ≡ true → c.0 < length t) → trees_within t n l ≡ trees_of t l
  pub is_above : (x k : ℕ) → k < length t → is_above_within t n x k ≡ is_above t x k
  pub above : (k : NodeId) → k.0 < length t → above_within t n (parent_at t k.0) ≡ nodes_above t k

abbrev pub GenerationsAreEnough : Type 0
GenerationsAreEnough = (t : Nodes) (n : ℕ) → AreTrees t → length t ≤ n → NoMoreGenerations t n

-- no node stands above its parent
abbrev pub NoOwnAncestor : Type 0
NoOwnAncestor = (t : Nodes) (k : ℕ) (p : NodeId) → IsSound t → parent_at t k ≡ Some p → is_above t k p.0 ≡ false

-- the text of a node stands round the texts of its children, and what it has of text nodes is theirs
abbrev pub TextsOfChildren : Type 0
TextsOfChildren =
    (t : Nodes) (k : NodeId) → IsSound t
    → (dom_text t k ≡ opening_of (node_at t k.0) ++ flat_map (dom_text t) (children_at t k.0) ++ closing_of (node_at t k.0))
    × (text_content t k ≡ flat_map (λ c. own_text (kind_at t c.0) ++ text_content t c) (children_at t k.0))

-- in a text node exactly `&`, `<` and `>` are escaped
abbrev pub TextIsEscaped : Type 0
TextIsEscaped =
    (t : Nodes) (k : NodeId) (text : Text) → IsSound t → kind_at t k.0 ≡ kind.Text text
    → (dom_text t k ≡ flat_map text_unit text) × (text_unit 38 ≡ codes "&amp;") × (text_unit 60 ≡ codes "&lt;") × (text_unit 62 ≡ codes "&gt;")
    × ((u : ℕ) → (u ≡ 38 → ⊥) → (u ≡ 60 → ⊥) → (u ≡ 62 → ⊥) → text_unit u ≡ u ∷ [])
