-- The texts of trees are what is written on a walk of them.
use Rattle.std.proofs.Common.{◌≡◌, refl, sym, ap, ◌∙◌, ℕ, zero, suc, ◌<◌, Bool, true, false, cond, List, [], ◌∷◌, ◌++◌, Option, Some, None, length, append_assoc, append-nil}
use Rattle.std.specs.List.{find, flat_map}
use Rattle.js_core.specs.Text.{Text}
use Rattle.js_values.specs.declared.ids.NodeId.{NodeId}
use Rattle.dom_tree.specs.declared.walk.Visit.{Visit}
use Rattle.dom_tree.specs.declared.walk.Visit.TheVariants.{Enter, Leave}
use Rattle.dom_tree.specs.DomText.{closing_of, dom_text, dom_texts, joined_texts, opening_of, own_text, text_content}
use Rattle.dom_tree.specs.Node.{Nodes, children_at, node_at}
use Rattle.dom_tree.specs.Pieces.{dom_piece, own_piece}
use Rattle.dom_tree.specs.Sound.{AreTrees}
use Rattle.dom_tree.specs.Trees.{Trees, find_id, has_id, in_order, no_trees, tree, trees_of, trees_over, trees_within}
use Rattle.dom_tree.specs.Visits.{entered_with_id, visits, visits_on}
use Rattle.dom_tree.proofs.Generations.{root_step, trees_are}
use Rattle.dom_tree.proofs.Lists.{eq_refl}

flat_append : {X : Type 0} (f : X → Text) (xs ys : List X) → flat_map f (xs ++ ys) ≡ flat_map f xs ++ flat_map f ys
flat_append f [] ys = refl
flat_append f (x ∷ xs) ys = ap (λ r. f x ++ r) (flat_append f xs ys) ∙ sym (append_assoc (f x) (flat_map f xs) (flat_map f ys))

module _ (t : Nodes) where
  dom_over : (under : NodeId → Trees) → ((c : NodeId) → dom_texts (under c) ≡ flat_map (dom_piece t) (visits (under c))) → (l : List NodeId)
      → dom_texts (trees_over t under l) ≡ flat_map (dom_piece t) (visits (trees_over t under l))
  dom_over under each [] = refl
  dom_over under each (c ∷ l) =
      let open_ : Text = opening_of (node_at t c.0) in
      let close : Text = closing_of (node_at t c.0) in
      let inner : Text = flat_map (dom_piece t) (visits (under c)) in
      let others : Text = flat_map (dom_piece t) (visits (trees_over t under l)) in
      ap (λ z. ((open_ ++ z) ++ close) ++ dom_texts (trees_over t under l)) (each c)
      ∙ ap (λ z. ((open_ ++ inner) ++ close) ++ z) (dom_over under each l)
      ∙ append_assoc (open_ ++ inner) close others
      ∙ append_assoc open_ inner (close ++ others)
      ∙ ap (λ z. open_ ++ z) (sym (flat_append (dom_piece t) (visits (under c)) (Leave c ∷ visits (trees_over t under l))))

  dom_within : (n : ℕ) (l : List NodeId) → dom_texts (trees_within t n l) ≡ flat_map (dom_piece t) (visits (trees_within t n l))
  dom_within zero l = refl
  dom_within (suc n) l = dom_over (λ c. trees_within t n (children_at t c.0)) (λ c. dom_within n (children_at t c.0)) l

  own_over : (under : NodeId → Trees) → ((c : NodeId) → joined_texts (under c) ≡ flat_map (own_piece t) (visits (under c))) → (l : List NodeId)
      → joined_texts (trees_over t under l) ≡ flat_map (own_piece t) (visits (trees_over t under l))
  own_over under each [] = refl
  own_over under each (c ∷ l) =
      let own : Text = own_text (node_at t c.0).content.kind in
      let inner : Text = flat_map (own_piece t) (visits (under c)) in
      let others : Text = flat_map (own_piece t) (visits (trees_over t under l)) in
      ap (λ z. (own ++ z) ++ joined_texts (trees_over t under l)) (each c)
      ∙ ap (λ z. (own ++ inner) ++ z) (own_over under each l)
      ∙ append_assoc own inner others
      ∙ ap (λ z. own ++ z) (sym (flat_append (own_piece t) (visits (under c)) (Leave c ∷ visits (trees_over t under l))))

  own_within : (n : ℕ) (l : List NodeId) → joined_texts (trees_within t n l) ≡ flat_map (own_piece t) (visits (trees_within t n l))
  own_within zero l = refl
  own_within (suc n) l = own_over (λ c. trees_within t n (children_at t c.0)) (λ c. own_within n (children_at t c.0)) l

-- the nodes that are entered
abbrev pub entered : List Visit → List NodeId
entered [] = []
entered (Enter k ∷ vs) = k ∷ entered vs
entered (Leave k ∷ vs) = entered vs

entered_append : (xs ys : List Visit) → entered (xs ++ ys) ≡ entered xs ++ entered ys
entered_append [] ys = refl
entered_append (Enter k ∷ xs) ys = ap (λ r. k ∷ r) (entered_append xs ys)
entered_append (Leave k ∷ xs) ys = entered_append xs ys

entered_are : (ts : Trees) → entered (visits ts) ≡ in_order ts
entered_are no_trees = refl
entered_are (tree k n under others) =
    ap (λ r. k ∷ r) (entered_append (visits under) (Leave k ∷ visits others) ∙ ap (λ z. z ++ entered (visits others)) (entered_are under) ∙ ap (λ z. in_order under ++ z) (entered_are others))

module _ (t : Nodes) (a : AreTrees t) (some : 0 < length t) (root : NodeId) (root_in : root.0 < length t) where
  abbrev kids : List Visit
  kids = visits (trees_of t (children_at t root.0))

  -- a walk is that of the tree under its root
  whole : visits_on t root.0 (Some (Enter root)) ≡ Enter root ∷ (kids ++ Leave root ∷ [])
  whole = ap (λ z. Enter root ∷ (kids ++ Leave root ∷ z)) (root_step t a some root.0 root.0 root_in (eq_refl root.0))

  one_tree : visits (trees_of t (root ∷ [])) ≡ Enter root ∷ (kids ++ Leave root ∷ [])
  one_tree = ap visits (trees_are t a some (root ∷ []))

  pub walk_is : visits_on t root.0 (Some (Enter root)) ≡ visits (trees_of t (root ∷ []))
  walk_is = whole ∙ sym one_tree

  pub dom_text_is : dom_text t root ≡ flat_map (dom_piece t) (visits_on t root.0 (Some (Enter root)))
  dom_text_is = dom_within t (length t) (root ∷ []) ∙ ap (flat_map (dom_piece t)) (sym walk_is)

  -- after the root is entered
  pub text_content_is : (at : Option Visit) → visits_on t root.0 (Some (Enter root)) ≡ Enter root ∷ visits_on t root.0 at → flat_map (own_piece t) (visits_on t root.0 at) ≡ text_content t root
  text_content_is at e =
      let rest : visits_on t root.0 at ≡ kids ++ Leave root ∷ [] = let both : Enter root ∷ visits_on t root.0 at ≡ Enter root ∷ (kids ++ Leave root ∷ []) = sym e ∙ whole in cc in
      ap (flat_map (own_piece t)) rest ∙ flat_append (own_piece t) kids (Leave root ∷ []) ∙ append-nil (flat_map (own_piece t) kids) ∙ sym (own_within t (length t) (children_at t root.0))

pub find_id_is : (t : Nodes) → AreTrees t → 0 < length t → (id : Text) → find_id t id ≡ find (has_id t id) (entered (visits_on t 0 (Some (Enter (record { 0 = 0 })))))
find_id_is t a some id =
    ap (find (has_id t id)) (sym (ap entered (walk_is t a some (record { 0 = 0 }) some) ∙ entered_are (trees_of t (record { 0 = 0 } ∷ []))))

-- one visit more
pub find_step : (t : Nodes) (id : Text) (v : Visit) (vs : List Visit) → entered_with_id t id v ≡ None → find (has_id t id) (entered (v ∷ vs)) ≡ find (has_id t id) (entered vs)
find_step t id (Enter k) vs e = by (has_id t id k) e
  where
    by : (b : Bool) → cond b (Some k) None ≡ None → cond b (Some k) (find (has_id t id) (entered vs)) ≡ find (has_id t id) (entered vs)
    by true f = cc
    by false f = refl
find_step t id (Leave k) vs e = refl

pub find_here : (t : Nodes) (id : Text) (v : Visit) (vs : List Visit) (k : NodeId) → entered_with_id t id v ≡ Some k → find (has_id t id) (entered (v ∷ vs)) ≡ Some k
find_here t id (Enter j) vs k e = by (has_id t id j) e
  where
    by : (b : Bool) → cond b (Some j) None ≡ Some k → cond b (Some j) (find (has_id t id) (entered vs)) ≡ Some k
    by true f = f
    by false f = cc
find_here t id (Leave j) vs k e = cc
