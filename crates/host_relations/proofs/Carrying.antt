-- Appending again, in both pages.
use Rattle.std.proofs.Common.{◌≡◌, sym, ap, subst, ◌∙◌, ℕ, ◌<◌, ◌&&◌, Bool, true, if◌then◌else◌, is_none, List, [], ◌∷◌, None}
use Rattle.js_values.specs.declared.ids.NodeId.{NodeId}
use Rattle.dom_tree.proofs.Callers.{has_head, has_tail, steps_stay_sound}
use Rattle.dom_tree.specs.Change.{inserted, insertion_error}
use Rattle.dom_tree.specs.Node.{Nodes, children_at, has, is_distinct, is_this, parent_at}
use Rattle.dom_tree.specs.Sound.{AreTrees, root}
use Rattle.dom_tree.specs.Steps.{inserts, is_there}
use Rattle.heap_relations.specs.Related.{Each, Maybe, none}
use Rattle.host_relations.proofs.Appending.{alone_at, appends_rebuild}
use Rattle.host_relations.proofs.Changes.{inserted_rel}
use Rattle.host_relations.proofs.NodeReads.{errors}
use Rattle.host_relations.proofs.NodeSteps.{both_there}
use Rattle.host_relations.specs.Appends.{AllAccepted, AreAccepted, AreGrown, all_appended, alone, appended}
use Rattle.host_relations.specs.Carrying.{AllPlaced, AppendsCarry, all_placed, sited}
use Rattle.host_relations.specs.Linked.{Linked}
use Rattle.host_relations.specs.Nodes.{NodeIds, NodesRel}

-- what is not refused leaves trees
stays_trees : (t : Nodes) (p c : NodeId) → AreTrees t → is_there t c ≡ true → insertion_error t p c None ≡ None → AreTrees (inserted t p c None)
stays_trees t p c a there fine =
    subst (λ (b : Bool). AreTrees (if b then inserted t p c None else t)) (ap (λ b. b && is_none (insertion_error t p c None)) there ∙ ap is_none fine)
    ((steps_stay_sound t (inserts p c None)).trees a)

-- both lists of nodes, trees that are related
record Both (N : ℕ → ℕ → Type 0) (m u : Nodes) : Type 0 where
  same : NodesRel N m u
  left : AreTrees m
  right : AreTrees u

module _ (N : ℕ → ℕ → Type 0) (f : NodeId → NodeId) where
  one : (m u : Nodes) (p c : NodeId) → Both N m u → N p.0 (f p).0 → N c.0 (f c).0 → insertion_error m p c None ≡ None
      → (insertion_error u (f p) (f c) None ≡ None) × Both N (inserted m p c None) (inserted u (f p) (f c) None)
  one m u p c b h k e =
      let fine : insertion_error u (f p) (f c) None ≡ None = sym ((errors N m u b.same b.left b.right p c (f p) (f c) h k).inserts None None none) ∙ e in
      let there = both_there N m u c (f c) b.same k in (
        fine,
        record {
          same = inserted_rel N m u p c (f p) (f c) None None b.same h k none;
          left = stays_trees m p c b.left there.0 e;
          right = stays_trees u (f p) (f c) b.right there.1 fine;
        },
      )

  each_child : (m u : Nodes) (p : NodeId) (cs : List NodeId) → Both N m u → N p.0 (f p).0 → ((c : NodeId) → has c.0 cs ≡ true → N c.0 (f c).0) → AreAccepted p cs m
      → AreAccepted (f p) (sited f cs) u × Both N (appended p cs m) (appended (f p) (sited f cs) u)
  each_child m u p [] b h k a = (tt, b)
  each_child m u p (c ∷ cs) b h k a =
      let first = one m u p c b h (k c (has_head c cs)) a.0 in
      let rest = each_child (inserted m p c None) (inserted u (f p) (f c) None) p cs first.1 h (λ d i. k d (has_tail d c cs i)) a.1 in
      ((first.0, rest.0), rest.1)

  each_node : (t m u : Nodes) (ks : List NodeId) → Both N m u → ((k : NodeId) → has k.0 ks ≡ true → N k.0 (f k).0)
      → ((k c : NodeId) → has k.0 ks ≡ true → has c.0 (children_at t k.0) ≡ true → N c.0 (f c).0) → AllAccepted t ks m
      → AllPlaced t f ks u × Both N (all_appended t ks m) (all_placed t f ks u)
  each_node t m u [] b h k a = (tt, b)
  each_node t m u (x ∷ ks) b h k a =
      let first = each_child m u x (children_at t x.0) b (h x (has_head x ks)) (λ c i. k x c (has_head x ks) i) a.0 in
      let rest = each_node t (appended x (children_at t x.0) m) (appended (f x) (sited f (children_at t x.0)) u) ks first.1 (λ d i. h d (has_tail d x ks i)) (λ d c i j. k d c (has_tail d x ks i) j) a.1 in
      ((first.0, rest.0), rest.1)

pub alone_trees : (t : Nodes) → AreTrees (alone t)
alone_trees t = record {
  agree = λ p c. ap (has c) (alone_at t p).1 ∙ sym (ap (is_this p) (alone_at t c).0);
  distinct = λ p. ap is_distinct (alone_at t p).1;
  rooted = λ k. root (alone_at t k).0;
}

pub appends_carry : AppendsCarry
appends_carry W t u f ks sound distinct sites same trees =
    let model = appends_rebuild t ks sound distinct in
    let run = each_node (Linked W) f t (alone t) u ks (record { same = same; left = alone_trees t; right = trees }) sites.linked
    (λ k c i j. sites.linked c (sites.children k.0 c.0 i j)) model.0
    in
    let g : AreGrown t (all_appended t ks (alone t)) ks = model.1 in
    let r : NodesRel (Linked W) (all_appended t ks (alone t)) (all_placed t f ks u) = run.1.same in (
      run.0,
      record {
        at = λ a b h.
            let among = sites.only a b h in
            let n = r.at a b h in
            record {
              content = sym (g.content a) ∙ n.content;
              parent = subst (λ o. Maybe (NodeIds (Linked W)) o (parent_at (all_placed t f ks u) b)) (g.parents a (sites.parents a among)) n.parent;
              children = subst (λ l. Each (NodeIds (Linked W)) l (children_at (all_placed t f ks u) b)) (g.children a among) n.children;
            };
        inside = λ a b h. let i = r.inside a b h in (subst (λ n. a < n) g.long i.0, i.1);
        same = r.same;
        document = r.document;
      },
    )
