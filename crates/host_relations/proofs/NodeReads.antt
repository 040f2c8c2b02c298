-- What is read of linked nodes, and what is refused at them.
use Rattle.std.proofs.Common.{◌≡◌, refl, ap, ℕ, ◌&&◌, not, nat_eq, [], ◌∷◌, Option, None, codes}
use Rattle.js_core.specs.Text.{Text}
use Rattle.js_values.specs.declared.ids.NodeId.{NodeId}
use Rattle.dom_tree.specs.Attributes.{value_of}
use Rattle.dom_tree.specs.Change.{breaks_hierarchy, has_other_element, has_third_element, is_missing}
use Rattle.dom_tree.specs.Node.{Nodes, children_at, is_element, kind_at, parent_at, previous_under}
use Rattle.dom_tree.specs.Sound.{AreTrees}
use Rattle.dom_tree.specs.Trees.{find_id, has_id, is_text_in}
use Rattle.heap_relations.specs.Related.{Maybe, each, no_more, none, some}
use Rattle.host_relations.proofs.Changes.{next_rel}
use Rattle.host_relations.proofs.LinkedLists.{anys, befores, finds, firsts, lasts, same_has}
use Rattle.host_relations.proofs.Walks.{above_rel, all_trees, is_above_same, orders, same_joined, same_texts}
use Rattle.host_relations.specs.Linked.{Linked}
use Rattle.host_relations.specs.NodeLaws.{ErrorsAgree, NodesAgree, ReadsAgree}
use Rattle.host_relations.specs.Nodes.{NodeIds, NodesRel}

module _ (N : ℕ → ℕ → Type 0) (t u : Nodes) (g : NodesRel N t u) (a : AreTrees t) (b : AreTrees u) where
  pub same_kind : (k l : ℕ) → N k l → kind_at t k ≡ kind_at u l
  same_kind k l h = ap (λ c. c.kind) (g.at k l h).content

  previous_rel : (k l : ℕ) (o p : Option NodeId) → N k l → Maybe (NodeIds N) o p → Maybe (NodeIds N) (previous_under t k o) (previous_under u l p)
  previous_rel k l _ _ h none = none
  previous_rel k l _ _ h (some {a = x} {b = y} i) = befores N g.same None None k l (children_at t x.0) (children_at u y.0) none h (g.at x.0 y.0 i.linked).children

  pub reads : (k l : NodeId) → N k.0 l.0 → ReadsAgree N t u k l
  reads k l h =
      let n = g.at k.0 l.0 h in
      record {
        content = n.content;
        parent = n.parent;
        first = firsts N g.same (children_at t k.0) (children_at u l.0) n.children;
        last = lasts N g.same None None (children_at t k.0) (children_at u l.0) none n.children;
        next = next_rel N t u k.0 l.0 (parent_at t k.0) (parent_at u l.0) g h n.parent;
        previous = previous_rel k.0 l.0 (parent_at t k.0) (parent_at u l.0) h n.parent;
        text = same_texts N (all_trees N t u g a b (k ∷ []) (l ∷ []) (each (record { linked = h }) no_more));
        joined = same_joined N (all_trees N t u g a b (children_at t k.0) (children_at u l.0) n.children);
        walk = orders N (all_trees N t u g a b (k ∷ []) (l ∷ []) (each (record { linked = h }) no_more));
        above = above_rel N t u g a b k l h;
      }

  same_other : (c d : ℕ) → N c d → has_other_element t c ≡ has_other_element u d
  same_other c d h =
      anys N g.same (λ e. is_element (kind_at t e.0) && not (nat_eq c e.0)) (λ e. is_element (kind_at u e.0) && not (nat_eq d e.0)) (children_at t 0) (children_at u 0)
      (λ e f i. rw (same_kind e.0 f.0 i.linked, g.same c d e.0 f.0 h i.linked) refl) (g.at 0 0 g.document).children

  same_breaks : (p q c d : ℕ) → N p q → N c d → breaks_hierarchy t p c ≡ breaks_hierarchy u q d
  same_breaks p q c d h i = rw (same_kind p q h, same_kind c d i, is_above_same N t u g a b c d p q i h, same_other c d i) refl

  same_missing : (p q : ℕ) (o r : Option NodeId) → N p q → Maybe (NodeIds N) o r → is_missing t p o ≡ is_missing u q r
  same_missing p q _ _ h none = refl
  same_missing p q _ _ h (some {a = x} {b = y} i) = ap not (same_has N g.same x.0 y.0 (children_at t p) (children_at u q) i.linked (g.at p q h).children)

  third_same : (c d o r : ℕ) → N c d → N o r → has_third_element t c o ≡ has_third_element u d r
  third_same c d o r h k =
      anys N g.same (λ e. is_element (kind_at t e.0) && not (nat_eq c e.0) && not (nat_eq o e.0)) (λ e. is_element (kind_at u e.0) && not (nat_eq d e.0) && not (nat_eq r e.0)) (children_at t 0) (children_at u 0)
      (λ e f i. rw (same_kind e.0 f.0 i.linked, g.same c d e.0 f.0 h i.linked, g.same o r e.0 f.0 k i.linked) refl) (g.at 0 0 g.document).children

  pub errors : (p c q d : NodeId) → N p.0 q.0 → N c.0 d.0 → ErrorsAgree N t u p c q d
  errors p c q d h i = record {
    inserts = λ before after m. rw (same_breaks p.0 q.0 c.0 d.0 h i, same_missing p.0 q.0 before after h m) refl;
    replaces = λ o r m.
        rw (same_kind p.0 q.0 h, same_kind c.0 d.0 i, is_above_same N t u g a b c.0 d.0 p.0 q.0 i h, third_same c.0 d.0 o.0 r.0 i m, same_has N g.same o.0 r.0 (children_at t p.0) (children_at u q.0) m (g.at p.0 q.0 h).children) refl;
    removes = rw (same_has N g.same c.0 d.0 (children_at t p.0) (children_at u q.0) i (g.at p.0 q.0 h).children) refl;
  }

  same_id : (id : Text) (c d : NodeId) → NodeIds N c d → has_id t id c ≡ has_id u id d
  same_id id c d h = ap (λ x. is_text_in id (value_of (codes "id") x.attributes)) (g.at c.0 d.0 h.linked).content

  pub ids : (id : Text) → Maybe (NodeIds N) (find_id t id) (find_id u id)
  ids id = finds N g.same (has_id t id) (has_id u id) _ _ (same_id id) (orders N (all_trees N t u g a b (record { 0 = 0 } ∷ []) (record { 0 = 0 } ∷ []) (each (record { linked = g.document }) no_more)))

pub nodes_agree : NodesAgree
nodes_agree W t u g a b = (reads (Linked W) t u g a b, errors (Linked W) t u g a b, ids (Linked W) t u g a b)
