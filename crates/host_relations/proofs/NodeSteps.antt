-- What is done to nodes of two pages that mean the same.
use Rattle.std.proofs.Common.{◌≡◌, refl, ap, ℕ, ◌<◌, ◌&&◌, Bool, true, false, nat_lt, length, arith, if◌then◌else◌}
use Rattle.std.proofs.lemmas.Bool.Decides.{nat_tests}
use Rattle.js_values.specs.declared.ids.NodeId.{NodeId}
use Rattle.dom_tree.specs.Content.{has_text, with_attribute, with_text, with_value, without_attribute}
use Rattle.dom_tree.specs.Name.{is_name}
use Rattle.dom_tree.specs.Node.{Nodes, children_at, is_element}
use Rattle.dom_tree.specs.Sound.{AreTrees, takes_value}
use Rattle.dom_tree.specs.Steps.{NodeStep, after_fit, after_node, fits, is_there}
use Rattle.heap_relations.specs.Naming.{World}
use Rattle.host_relations.proofs.Changes.{all_taken_rel, changed_so, inserted_rel, replaced_rel, taken_rel}
use Rattle.host_relations.proofs.NodeReads.{errors, same_kind}
use Rattle.host_relations.specs.Linked.{Linked}
use Rattle.host_relations.specs.NodeLaws.{NodeStepsKeep}
use Rattle.host_relations.specs.NodeSteps.{NodeStepRel, drops_attribute_rel, empties_rel, inserts_rel, replaces_rel, sets_attribute_rel, sets_text_rel, sets_value_rel, takes_out_rel}
use Rattle.host_relations.specs.Nodes.{NodesRel}

is_below : (k n : ℕ) → k < n → nat_lt k n ≡ true
is_below k n h = grind (arith, nat_tests)

-- linked nodes are there
pub both_there : (N : ℕ → ℕ → Type 0) (t u : Nodes) (c d : NodeId) → NodesRel N t u → N c.0 d.0 → (is_there t c ≡ true) × (is_there u d ≡ true)
both_there N t u c d g h = let inside = g.inside c.0 d.0 h in (is_below c.0 (length t) inside.0, is_below d.0 (length u) inside.1)

module _ (W : World) (t u : Nodes) (g : NodesRel (Linked W) t u) (a : AreTrees t) (b : AreTrees u) where
  there_same : (c d : NodeId) → Linked W c.0 d.0 → is_there t c ≡ is_there u d
  there_same c d h = let there = both_there (Linked W) t u c d g h in rw (there.0, there.1) refl

  pub fits_same : (s r : NodeStep) → NodeStepRel W s r → fits t s ≡ fits u r
  fits_same _ _ (inserts_rel {p = p} {c = c} {q = q} {d = d} {before = before} {after = after} h k m) =
      rw (there_same c d k, (errors (Linked W) t u g a b p c q d h k).inserts before after m) refl
  fits_same _ _ (replaces_rel {p = p} {c = c} {o = o} {q = q} {d = d} {r = r} h k m) =
      rw (there_same c d k, (errors (Linked W) t u g a b p c q d h k).replaces o r m) refl
  fits_same _ _ (takes_out_rel h) = refl
  fits_same _ _ (empties_rel h) = refl
  fits_same _ _ (sets_text_rel {c = c} {d = d} h) = rw (there_same c d h) (ap (λ k. is_there u d && has_text k) (same_kind (Linked W) t u g a b c.0 d.0 h))
  fits_same _ _ (sets_value_rel {c = c} {d = d} h) = ap takes_value (same_kind (Linked W) t u g a b c.0 d.0 h)
  fits_same _ _ (sets_attribute_rel {c = c} {d = d} {name = name} h) = ap (λ k. is_element k && is_name name) (same_kind (Linked W) t u g a b c.0 d.0 h)
  fits_same _ _ (drops_attribute_rel {c = c} {d = d} h) = ap is_element (same_kind (Linked W) t u g a b c.0 d.0 h)

  fitted : (s r : NodeStep) → NodeStepRel W s r → NodesRel (Linked W) (after_fit t s) (after_fit u r)
  fitted _ _ (inserts_rel {p = p} {c = c} {q = q} {d = d} {before = before} {after = after} h k m) = inserted_rel (Linked W) t u p c q d before after g h k m
  fitted _ _ (replaces_rel {p = p} {c = c} {o = o} {q = q} {d = d} {r = r} h k m) = replaced_rel (Linked W) t u p c o q d r g h k m
  fitted _ _ (takes_out_rel {c = c} {d = d} h) = taken_rel (Linked W) t u c d g h
  fitted _ _ (empties_rel {c = c} {d = d} h) = all_taken_rel (Linked W) t u (children_at t c.0) (children_at u d.0) g (g.at c.0 d.0 h).children
  fitted _ _ (sets_text_rel {c = c} {d = d} {x = x} h) = changed_so (Linked W) t u c d (λ k. with_text k x) g h
  fitted _ _ (sets_value_rel {c = c} {d = d} {x = x} h) = changed_so (Linked W) t u c d (λ k. with_value k x) g h
  fitted _ _ (sets_attribute_rel {c = c} {d = d} {name = name} {x = x} h) = changed_so (Linked W) t u c d (λ k. with_attribute k name x) g h
  fitted _ _ (drops_attribute_rel {c = c} {d = d} {name = name} h) = changed_so (Linked W) t u c d (λ k. without_attribute k name) g h

  pub node_step_rel : (s r : NodeStep) → NodeStepRel W s r → NodesRel (Linked W) (after_node t s) (after_node u r)
  node_step_rel s r h = by (fits t s) (fits u r) (fits_same s r h)
    where
      by : (x y : Bool) → x ≡ y → NodesRel (Linked W) (if x then after_fit t s else t) (if y then after_fit u r else u)
      by true true e = fitted s r h
      by false false e = g
      by true false e = absurd (cc)
      by false true e = absurd (cc)

pub node_steps_keep : NodeStepsKeep
node_steps_keep W t u s r g a b h = (fits_same W t u g a b s r h, node_step_rel W t u g a b s r h)
