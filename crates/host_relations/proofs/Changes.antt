-- Nodes that change on both sides.
use Rattle.std.proofs.Common.{◌≡◌, refl, sym, ℕ, ◌<◌, Bool, true, false, nat_eq, if◌then◌else◌, List, length, length-set, subst, Option, Some, None}
use Rattle.std.specs.Prelude.{slice_set}
use Rattle.js_values.specs.declared.ids.NodeId.{NodeId}
use Rattle.dom_tree.specs.declared.content.Content.{Content}
use Rattle.dom_tree.proofs.Callers.{at_set}
use Rattle.dom_tree.specs.Change.{all_taken_out, inserted, put_before, put_for, put_under, replaced, taken_from, taken_out, without}
use Rattle.dom_tree.specs.Node.{Node, Nodes, children_at, is_this, next_of, next_under, node_at, parent_at, with_children, with_content, with_parent}
use Rattle.heap_relations.specs.Related.{Each, Maybe, each, no_more, none, some}
use Rattle.host_relations.proofs.LinkedLists.{firsts, less, more, rests, same_this}
use Rattle.host_relations.specs.Nodes.{NodeIds, NodeRel, NodesRel}

-- one linked pair of nodes changes
pub changed : (N : ℕ → ℕ → Type 0) (t u : Nodes) (i j : ℕ) (m n : Node) → NodesRel N t u → N i j → NodeRel N m n → NodesRel N (slice_set t i m) (slice_set u j n)
changed N t u i j m n g h r = record {
  at = λ a b k. by a b k (nat_eq i a) (nat_eq j b) refl refl (g.same i j a b h k);
  inside = λ a b k. let s = g.inside a b k in (subst_length t i m a s.0, subst_length u j n b s.1);
  same = g.same;
  document = g.document;
}
  where
    subst_length : (v : Nodes) (k : ℕ) (x : Node) (a : ℕ) → a < length v → a < length (slice_set v k x)
    subst_length v k x a h = subst (λ n. a < n) (sym (length-set v k x)) h

    by : (a b : ℕ) → N a b → (e f : Bool) → nat_eq i a ≡ e → nat_eq j b ≡ f → nat_eq i a ≡ nat_eq j b → NodeRel N (node_at (slice_set t i m) a) (node_at (slice_set u j n) b)
    by a b k true true e f s = rw (at_set t i a m (g.inside i j h).0, at_set u j b n (g.inside i j h).1, e, f) r
    by a b k false false e f s = rw (at_set t i a m (g.inside i j h).0, at_set u j b n (g.inside i j h).1, e, f) (g.at a b k)
    by a b k true false e f s = absurd (cc)
    by a b k false true e f s = absurd (cc)

module _ (N : ℕ → ℕ → Type 0) where
  pub with_children_rel : (t u : Nodes) (p q : NodeId) (cs ds : List NodeId) → NodesRel N t u → N p.0 q.0 → Each (NodeIds N) cs ds → NodesRel N (with_children t p cs) (with_children u q ds)
  with_children_rel t u p q cs ds g h r =
      let n = g.at p.0 q.0 h in
      changed N t u p.0 q.0 (record { content = (node_at t p.0).content; parent = parent_at t p.0; children = cs }) (record { content = (node_at u q.0).content; parent = parent_at u q.0; children = ds })
      g h (record { content = n.content; parent = n.parent; children = r })

  pub with_parent_rel : (t u : Nodes) (p q : NodeId) (above over : Option NodeId) → NodesRel N t u → N p.0 q.0 → Maybe (NodeIds N) above over → NodesRel N (with_parent t p above) (with_parent u q over)
  with_parent_rel t u p q above over g h r =
      let n = g.at p.0 q.0 h in
      changed N t u p.0 q.0 (record { content = (node_at t p.0).content; parent = above; children = children_at t p.0 }) (record { content = (node_at u q.0).content; parent = over; children = children_at u q.0 })
      g h (record { content = n.content; parent = r; children = n.children })

  pub with_content_rel : (t u : Nodes) (p q : NodeId) (new : Content) → NodesRel N t u → N p.0 q.0 → NodesRel N (with_content t p new) (with_content u q new)
  with_content_rel t u p q new g h =
      let n = g.at p.0 q.0 h in
      changed N t u p.0 q.0 (record { content = new; parent = parent_at t p.0; children = children_at t p.0 }) (record { content = new; parent = parent_at u q.0; children = children_at u q.0 })
      g h (record { content = refl; parent = n.parent; children = n.children })

  taken_from_rel : (t u : Nodes) (c d : NodeId) (up over : Option NodeId) → NodesRel N t u → N c.0 d.0 → Maybe (NodeIds N) up over → NodesRel N (taken_from t c up) (taken_from u d over)
  taken_from_rel t u c d _ _ g h none = g
  taken_from_rel t u c d _ _ g h (some {a = p} {b = q} r) =
      with_parent_rel (with_children t p (without c.0 (children_at t p.0))) (with_children u q (without d.0 (children_at u q.0))) c d None None
      (with_children_rel t u p q (without c.0 (children_at t p.0)) (without d.0 (children_at u q.0)) g r.linked
      (less N g.same c.0 d.0 (children_at t p.0) (children_at u q.0) h (g.at p.0 q.0 r.linked).children)) h none

  pub taken_rel : (t u : Nodes) (c d : NodeId) → NodesRel N t u → N c.0 d.0 → NodesRel N (taken_out t c) (taken_out u d)
  taken_rel t u c d g h = taken_from_rel t u c d (parent_at t c.0) (parent_at u d.0) g h (g.at c.0 d.0 h).parent

  pub put_rel : (t u : Nodes) (p c q d : NodeId) (before after : Option NodeId) → NodesRel N t u → N p.0 q.0 → N c.0 d.0 → Maybe (NodeIds N) before after
      → NodesRel N (put_under t p c before) (put_under u q d after)
  put_rel t u p c q d before after g h k b =
      with_parent_rel (with_children t p (put_before before c (children_at t p.0))) (with_children u q (put_before after d (children_at u q.0))) c d (Some p) (Some q)
      (with_children_rel t u p q (put_before before c (children_at t p.0)) (put_before after d (children_at u q.0)) g h
      (more N g.same before after c d (children_at t p.0) (children_at u q.0) b (record { linked = k }) (g.at p.0 q.0 h).children)) k (some (record { linked = h }))

  pub inserted_rel : (t u : Nodes) (p c q d : NodeId) (before after : Option NodeId) → NodesRel N t u → N p.0 q.0 → N c.0 d.0 → Maybe (NodeIds N) before after
      → NodesRel N (inserted t p c before) (inserted u q d after)
  inserted_rel t u p c q d before after g h k b = by (is_this c.0 before) (is_this d.0 after) refl refl (same_this N g.same c.0 d.0 before after k b)
    where
      by : (e f : Bool) → is_this c.0 before ≡ e → is_this d.0 after ≡ f → is_this c.0 before ≡ is_this d.0 after → NodesRel N (inserted t p c before) (inserted u q d after)
      by true true e f s = rw (e, f) g
      by false false e f s = rw (e, f) (put_rel (taken_out t c) (taken_out u d) p c q d before after (taken_rel t u c d g k) h k b)
      by true false e f s = absurd (cc)
      by false true e f s = absurd (cc)

  pub all_taken_rel : (t u : Nodes) (cs ds : List NodeId) → NodesRel N t u → Each (NodeIds N) cs ds → NodesRel N (all_taken_out t cs) (all_taken_out u ds)
  all_taken_rel t u _ _ g no_more = g
  all_taken_rel t u _ _ g (each {a = c} {b = d} {xs = cs} {ys = ds} h hs) = all_taken_rel (taken_out t c) (taken_out u d) cs ds (taken_rel t u c d g h.linked) hs

  pub next_rel : (t u : Nodes) (k l : ℕ) (o p : Option NodeId) → NodesRel N t u → N k l → Maybe (NodeIds N) o p → Maybe (NodeIds N) (next_under t k o) (next_under u l p)
  next_rel t u k l _ _ g h none = none
  next_rel t u k l _ _ g h (some {a = x} {b = y} i) = firsts N g.same _ _ (rests N g.same k l (children_at t x.0) (children_at u y.0) h (g.at x.0 y.0 i.linked).children)

  put_for_rel : (t u : Nodes) (p c o q d r : NodeId) → NodesRel N t u → N p.0 q.0 → N c.0 d.0 → N o.0 r.0 → NodesRel N (put_for t p c o) (put_for u q d r)
  put_for_rel t u p c o q d r g h k m =
      put_rel (taken_out t o) (taken_out u r) p c q d (next_of t o.0) (next_of u r.0) (taken_rel t u o r g m) h k
      (next_rel t u o.0 r.0 (parent_at t o.0) (parent_at u r.0) g m (g.at o.0 r.0 m).parent)

  pub replaced_rel : (t u : Nodes) (p c o q d r : NodeId) → NodesRel N t u → N p.0 q.0 → N c.0 d.0 → N o.0 r.0 → NodesRel N (replaced t p c o) (replaced u q d r)
  replaced_rel t u p c o q d r g h k m = by (nat_eq c.0 o.0) (nat_eq d.0 r.0) (g.same c.0 d.0 o.0 r.0 k m)
    where
      by : (e f : Bool) → e ≡ f → NodesRel N (if e then t else put_for (taken_out t c) p c o) (if f then u else put_for (taken_out u d) q d r)
      by true true s = g
      by false false s = put_for_rel (taken_out t c) (taken_out u d) p c o q d r (taken_rel t u c d g k) h k m
      by true false s = absurd (cc)
      by false true s = absurd (cc)

  pub changed_so : (t u : Nodes) (c d : NodeId) (f : Content → Content) → NodesRel N t u → N c.0 d.0
      → NodesRel N (with_content t c (f (node_at t c.0).content)) (with_content u d (f (node_at u d.0).content))
  changed_so t u c d f g h =
      subst (λ x. NodesRel N (with_content t c (f (node_at t c.0).content)) (with_content u d (f x))) (g.at c.0 d.0 h).content
      (with_content_rel t u c d (f (node_at t c.0).content) g h)
