-- Nodes have the same host names, whatever is done to them.
use Rattle.std.proofs.Common.{◌≡◌, refl, ◌∙◌, ℕ, zero, suc, Bool, true, false, List, [], ◌∷◌, Option, Some, None, nat_eq, slice_set, if◌then◌else◌}
use Rattle.js_core.specs.Text.{Text}
use Rattle.js_values.specs.declared.ids.NodeId.{NodeId}
use Rattle.dom_tree.specs.Change.{all_taken_out, put_before, put_for, put_under, taken_from, taken_out, without}
use Rattle.dom_tree.specs.Content.{kind_with_text}
use Rattle.dom_tree.specs.declared.content.Kind.{Kind}
use Rattle.dom_tree.specs.declared.content.Kind.TheVariants as kind
use Rattle.dom_tree.specs.Node.{Node, Nodes, children_at, is_this, kind_at, next_of, with_children, with_parent}
use Rattle.dom_tree.specs.Steps.{NodeStep, after_fit, after_node, drops_attribute, empties, fits, inserts, replaces, sets_attribute, sets_text, sets_value, takes_out}
use Rattle.page_host.specs.declared.host_name.HostName.{HostName}
use Rattle.page_host.specs.declared.host_name.HostName.TheVariants.{NodeType}
use Rattle.page_host.specs.HostNames.{node_has}

abbrev pub SameNames : Nodes → Nodes → Type 0
SameNames t u = (j : ℕ) (n : HostName) → node_has (kind_at u j) n ≡ node_has (kind_at t j) n

pub none_names : (t : Nodes) → SameNames t t
none_names t j n = refl

then_done : (t u v : Nodes) → SameNames t u → SameNames u v → SameNames t v
then_done t u v a b j n = b j n ∙ a j n

set_names : (t : Nodes) (i : ℕ) (m : Node) → ((n : HostName) → node_has m.content.kind n ≡ node_has (kind_at t i) n) → SameNames t (slice_set t i m)
set_names [] i m h j n = refl
set_names (o ∷ t) zero m h zero n = h n
set_names (o ∷ t) zero m h (suc j) n = refl
set_names (o ∷ t) (suc i) m h zero n = refl
set_names (o ∷ t) (suc i) m h (suc j) n = set_names t i m h j n

children_names : (t : Nodes) (p : NodeId) (l : List NodeId) → SameNames t (with_children t p l)
children_names t p l = set_names t p.0 _ (λ n. refl)

parent_names : (t : Nodes) (c : NodeId) (o : Option NodeId) → SameNames t (with_parent t c o)
parent_names t c o = set_names t c.0 _ (λ n. refl)

taken_names : (t : Nodes) (c : NodeId) (o : Option NodeId) → SameNames t (taken_from t c o)
taken_names t c None = none_names t
taken_names t c (Some p) =
    let u = with_children t p (without c.0 (children_at t p.0)) in
    then_done t u (with_parent u c None) (children_names t p (without c.0 (children_at t p.0))) (parent_names u c None)

out_names : (t : Nodes) (c : NodeId) → SameNames t (taken_out t c)
out_names t c = taken_names t c _

all_out_names : (t : Nodes) (cs : List NodeId) → SameNames t (all_taken_out t cs)
all_out_names t [] = none_names t
all_out_names t (c ∷ cs) = then_done t (taken_out t c) (all_taken_out (taken_out t c) cs) (out_names t c) (all_out_names (taken_out t c) cs)

put_names : (t : Nodes) (p c : NodeId) (before : Option NodeId) → SameNames t (put_under t p c before)
put_names t p c before =
    let u = with_children t p (put_before before c (children_at t p.0)) in
    then_done t u (with_parent u c (Some p)) (children_names t p (put_before before c (children_at t p.0))) (parent_names u c (Some p))

unless_names : (b : Bool) (t u : Nodes) → SameNames t u → SameNames t (if b then t else u)
unless_names true t u h = none_names t
unless_names false t u h = h

-- a text stays one, and a comment too
text_names : (k : Kind) (text : Text) (n : HostName) → node_has (kind_with_text k text) n ≡ node_has k n
text_names (kind.Text old) text NodeType = refl
text_names (kind.Text old) text n = refl
text_names (kind.Comment old) text NodeType = refl
text_names (kind.Comment old) text n = refl
text_names k text n = refl

fit_names : (t : Nodes) (g : NodeStep) → SameNames t (after_fit t g)
fit_names t (inserts p c before) =
    unless_names (is_this c.0 before) t (put_under (taken_out t c) p c before)
    (then_done t (taken_out t c) (put_under (taken_out t c) p c before) (out_names t c) (put_names (taken_out t c) p c before))
fit_names t (replaces p c old) =
    let u = taken_out t c in
    let v = taken_out u old in
    unless_names (nat_eq c.0 old.0) t (put_for u p c old)
    (then_done t u (put_for u p c old) (out_names t c) (then_done u v (put_for u p c old) (out_names u old) (put_names v p c (next_of u old.0))))
fit_names t (takes_out c) = out_names t c
fit_names t (empties k) = all_out_names t (children_at t k.0)
fit_names t (sets_text k x) = set_names t k.0 _ (text_names (kind_at t k.0) x)
fit_names t (sets_value k x) = set_names t k.0 _ (λ n. refl)
fit_names t (sets_attribute k name x) = set_names t k.0 _ (λ n. refl)
fit_names t (drops_attribute k name) = set_names t k.0 _ (λ n. refl)

pub step_names : (t : Nodes) (g : NodeStep) → SameNames t (after_node t g)
step_names t g = by (fits t g)
  where
    by : (b : Bool) → SameNames t (if b then after_fit t g else t)
    by true = fit_names t g
    by false = none_names t
