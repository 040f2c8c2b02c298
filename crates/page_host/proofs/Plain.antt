-- No attribute's name begins with `on`, whatever is done to nodes.
use Rattle.std.proofs.Common.{◌≡◌, ℕ, zero, suc, Bool, true, false, cond, not, List, [], ◌∷◌, Option, Some, None, nat_eq, bytes_eq, slice_set, if◌then◌else◌, refl}
use Rattle.std.proofs.lemmas.Bool.{and_from, and_parts}
use Rattle.std.specs.List.{list_all}
use Rattle.js_core.specs.Text.{Text}
use Rattle.js_values.specs.declared.ids.NodeId.{NodeId}
use Rattle.dom_tree.specs.Attributes.{Pairs, with_value_of, without_value_of}
use Rattle.dom_tree.specs.Change.{all_taken_out, put_before, put_for, put_under, taken_from, taken_out, without}
use Rattle.dom_tree.specs.Content.{new_content}
use Rattle.dom_tree.specs.declared.content.Kind.{Kind}
use Rattle.dom_tree.specs.Name.{folded}
use Rattle.dom_tree.specs.Node.{Node, Nodes, children_at, is_this, next_of, node_at, parent_at, with_children, with_new, with_parent}
use Rattle.dom_tree.specs.Steps.{NodeStep, after_fit, after_node, drops_attribute, empties, fits, inserts, replaces, sets_attribute, sets_text, sets_value, takes_out}
use Rattle.page_host.specs.HostNames.{is_handler}
use Rattle.page_host.specs.Sound.{ArePlain, is_plain}
use Rattle.page_host.specs.Steps.{may_be_set}

set_plain : (t : Nodes) (i : ℕ) (n : Node) → is_plain n.content ≡ true → ArePlain t → ArePlain (slice_set t i n)
set_plain [] i n h a k = a k
set_plain (m ∷ t) zero n h a zero = h
set_plain (m ∷ t) zero n h a (suc k) = a (suc k)
set_plain (m ∷ t) (suc i) n h a zero = a zero
set_plain (m ∷ t) (suc i) n h a (suc k) = set_plain t i n h (λ j. a (suc j)) k

children_plain : (t : Nodes) (p : NodeId) (l : List NodeId) → ArePlain t → ArePlain (with_children t p l)
children_plain t p l a = set_plain t p.0 _ (a p.0) a

parent_plain : (t : Nodes) (c : NodeId) (o : Option NodeId) → ArePlain t → ArePlain (with_parent t c o)
parent_plain t c o a = set_plain t c.0 _ (a c.0) a

taken_plain : (t : Nodes) (c : NodeId) → ArePlain t → ArePlain (taken_out t c)
taken_plain t c a = by (parent_at t c.0)
  where
    by : (o : Option NodeId) → ArePlain (taken_from t c o)
    by None = a
    by (Some p) = parent_plain (with_children t p (without c.0 (children_at t p.0))) c None (children_plain t p (without c.0 (children_at t p.0)) a)

all_taken_plain : (t : Nodes) (cs : List NodeId) → ArePlain t → ArePlain (all_taken_out t cs)
all_taken_plain t [] a = a
all_taken_plain t (c ∷ cs) a = all_taken_plain (taken_out t c) cs (taken_plain t c a)

put_plain : (t : Nodes) (p c : NodeId) (before : Option NodeId) → ArePlain t → ArePlain (put_under t p c before)
put_plain t p c before a =
    parent_plain (with_children t p (put_before before c (children_at t p.0))) c (Some p) (children_plain t p (put_before before c (children_at t p.0)) a)

unless_plain : (b : Bool) (t u : Nodes) → ArePlain t → ArePlain u → ArePlain (if b then t else u)
unless_plain true t u a e = a
unless_plain false t u a e = e

value_plain : (name x : Text) (as' : Pairs) → not (is_handler name) ≡ true → list_all (λ a. not (is_handler a.0)) as' ≡ true → list_all (λ a. not (is_handler a.0)) (with_value_of name x as') ≡ true
value_plain name x [] n h = rw n
value_plain name x (b ∷ bs) n h =
    let p = and_parts (not (is_handler b.0)) (list_all (λ a. not (is_handler a.0)) bs) h in
    by (bytes_eq b.0 name) p (value_plain name x bs n p.1)
  where
    by : (c : Bool) → (not (is_handler b.0) ≡ true) × (list_all (λ a. not (is_handler a.0)) bs ≡ true) → list_all (λ a. not (is_handler a.0)) (with_value_of name x bs) ≡ true
        → list_all (λ a. not (is_handler a.0)) (cond c ((b.0, x) ∷ bs) (b ∷ with_value_of name x bs)) ≡ true
    by true p later = and_from (not (is_handler b.0)) (list_all (λ a. not (is_handler a.0)) bs) p.0 p.1
    by false p later = and_from (not (is_handler b.0)) (list_all (λ a. not (is_handler a.0)) (with_value_of name x bs)) p.0 later

dropped_plain : (name : Text) (as' : Pairs) → list_all (λ a. not (is_handler a.0)) as' ≡ true → list_all (λ a. not (is_handler a.0)) (without_value_of name as') ≡ true
dropped_plain name [] h = refl
dropped_plain name (b ∷ bs) h =
    let p = and_parts (not (is_handler b.0)) (list_all (λ a. not (is_handler a.0)) bs) h in
    by (bytes_eq b.0 name) p (dropped_plain name bs p.1)
  where
    by : (c : Bool) → (not (is_handler b.0) ≡ true) × (list_all (λ a. not (is_handler a.0)) bs ≡ true) → list_all (λ a. not (is_handler a.0)) (without_value_of name bs) ≡ true
        → list_all (λ a. not (is_handler a.0)) (cond c bs (b ∷ without_value_of name bs)) ≡ true
    by true p later = p.1
    by false p later = and_from (not (is_handler b.0)) (list_all (λ a. not (is_handler a.0)) (without_value_of name bs)) p.0 later

fit_plain : (t : Nodes) (g : NodeStep) → may_be_set g ≡ true → ArePlain t → ArePlain (after_fit t g)
fit_plain t (inserts p c before) h a = unless_plain (is_this c.0 before) t (put_under (taken_out t c) p c before) a (put_plain (taken_out t c) p c before (taken_plain t c a))
fit_plain t (replaces p c old) h a =
    unless_plain (nat_eq c.0 old.0) t (put_for (taken_out t c) p c old) a
    (put_plain (taken_out (taken_out t c) old) p c (next_of (taken_out t c) old.0) (taken_plain (taken_out t c) old (taken_plain t c a)))
fit_plain t (takes_out c) h a = taken_plain t c a
fit_plain t (empties k) h a = all_taken_plain t (children_at t k.0) a
fit_plain t (sets_text k x) h a = set_plain t k.0 _ (a k.0) a
fit_plain t (sets_value k x) h a = set_plain t k.0 _ (a k.0) a
fit_plain t (sets_attribute k name x) h a = set_plain t k.0 _ (value_plain (folded name) x (node_at t k.0).content.attributes h (a k.0)) a
fit_plain t (drops_attribute k name) h a = set_plain t k.0 _ (dropped_plain (folded name) (node_at t k.0).content.attributes (a k.0)) a

pub step_plain : (t : Nodes) (g : NodeStep) → may_be_set g ≡ true → ArePlain t → ArePlain (after_node t g)
step_plain t g h a = by (fits t g)
  where
    by : (b : Bool) → ArePlain (if b then after_fit t g else t)
    by true = fit_plain t g h a
    by false = a

pub new_plain : (t : Nodes) (k : Kind) → ArePlain t → ArePlain (with_new t (new_content k))
new_plain [] k a zero = refl
new_plain [] k a (suc j) = a (suc j)
new_plain (m ∷ t) k a zero = a zero
new_plain (m ∷ t) k a (suc j) = new_plain t k (λ i. a (suc i)) j
