-- Whatever is done to nodes, they stay trees and sound, and as many.
use Rattle.std.proofs.Common.{◌≡◌, ◌⊎◌, inl, inr, refl, sym, ap, subst, ◌∙◌, ℕ, ◌<◌, ◌≤◌, Bool, true, false, nat_eq, List, [], ◌∷◌, Option, Some, None, length, length-set, if◌then◌else◌, arith}
use Rattle.std.proofs.lemmas.Bool.{and_parts, both_ways, cases_lt, or_right}
use Rattle.std.proofs.lemmas.Bool.Decides.{nat_tests}
use Rattle.std.proofs.lemmas.List.{get_or_past}
use Rattle.std.specs.Option.{is_none, option_to_list}
use Rattle.js_core.specs.Text.{Text}
use Rattle.js_values.specs.declared.ids.NodeId.{NodeId}
use Rattle.dom_tree.specs.declared.content.Content.{Content}
use Rattle.dom_tree.specs.declared.content.Kind.{Kind}
use Rattle.dom_tree.specs.declared.content.Kind.TheVariants as kind
use Rattle.dom_tree.specs.declared.fault.DomError.{DomError}
use Rattle.dom_tree.specs.Change.{all_taken_out, breaks_hierarchy, inserted, insertion_error, is_missing, put_before, put_for, put_under, replaced, replacement_error, taken_from, taken_out, without}
use Rattle.dom_tree.specs.Content.{has_text, new_content, with_attribute, with_text, with_value, without_attribute}
use Rattle.dom_tree.specs.Fits.{IsReady}
use Rattle.dom_tree.specs.Laws.{NewNodesStaySound, StandsInPlace, StepsStaySound}
use Rattle.dom_tree.specs.Name.{is_name}
use Rattle.dom_tree.specs.Node.{Nodes, children_at, first_of, is_element, is_this, kind_at, may_have_children, next_of, no_node, node_at, parent_at, with_children, with_content, with_new}
use Rattle.dom_tree.specs.Sound.{AreTrees, IsSound, elements_of, has_folded_name, is_proper, takes_value}
use Rattle.dom_tree.specs.Steps.{NodeStep, after_fit, drops_attribute, empties, fits, inserts, is_there, replaces, sets_attribute, sets_text, sets_value, takes_out}
use Rattle.dom_tree.proofs.Emptying.{all_left}
use Rattle.dom_tree.proofs.Kept.{content_kids, content_sound, content_up, has_first, new_kids, new_sound, new_up, same_trees}
use Rattle.dom_tree.proofs.Moves.{fits as insertion_fits, ready, sound_in, sound_out}
use Rattle.dom_tree.proofs.Proper.{attribute_proper, text_document, text_element, text_proper, text_text, value_proper, without_attribute_proper}
use Rattle.dom_tree.proofs.Replacing.{IsAccepted, as_long, is_accepted, in_place, ready_for, trees_out}
use Rattle.dom_tree.proofs.Taken.{left}
use Rattle.dom_tree.proofs.Trees.{Moved, child_in, child_of_parent, moved, parent_in, put_trees}
use Rattle.dom_tree.proofs.Upheld.{no_fault}

-- ---- nodes that are there

-- a node of a kind that passes a test which a comment does not is there
kind_in : (t : Nodes) (k : ℕ) (f : Kind → Bool) → f (kind.Comment []) ≡ false → f (kind_at t k) ≡ true → k < length t
kind_in t k f comment this = by (cases_lt k (length t))
  where
    by : (k < length t) ⊎ (length t ≤ k) → k < length t
    by (inl h) = h
    by (inr h) = absurd (both_ways (f (kind_at t k)) (ap (λ n. f n.content.kind) (get_or_past t k no_node h) ∙ comment) this)

in_range : (t : Nodes) (k : NodeId) → is_there t k ≡ true → k.0 < length t
in_range t k h = grind (arith, nat_tests)

no_error : (o : Option DomError) → is_none o ≡ true → o ≡ None
no_error None h = refl
no_error (Some e) h = cc

-- ---- as many

taken_long : (t : Nodes) (c : NodeId) → length (taken_out t c) ≡ length t
taken_long t c = by (parent_at t c.0)
  where
    by : (o : Option NodeId) → length (taken_from t c o) ≡ length t
    by None = refl
    by (Some q) = length-set (with_children t q (without c.0 (children_at t q.0))) c.0 _ ∙ length-set t q.0 _

all_taken_long : (t : Nodes) (cs : List NodeId) → length (all_taken_out t cs) ≡ length t
all_taken_long t [] = refl
all_taken_long t (c ∷ cs) = all_taken_long (taken_out t c) cs ∙ taken_long t c

put_long : (t : Nodes) (p c : NodeId) (before : Option NodeId) → length (put_under t p c before) ≡ length t
put_long t p c before = length-set (with_children t p (put_before before c (children_at t p.0))) c.0 _ ∙ length-set t p.0 _

unless : (b : Bool) (t u : Nodes) → length u ≡ length t → length (if b then t else u) ≡ length t
unless true t u h = refl
unless false t u h = h

fit_long : (t : Nodes) (g : NodeStep) → length (after_fit t g) ≡ length t
fit_long t (inserts p c before) = unless (is_this c.0 before) t (put_under (taken_out t c) p c before) (put_long (taken_out t c) p c before ∙ taken_long t c)
fit_long t (replaces p c old) =
    unless (nat_eq c.0 old.0) t (put_for (taken_out t c) p c old)
    (put_long (taken_out (taken_out t c) old) p c (next_of (taken_out t c) old.0) ∙ taken_long (taken_out t c) old ∙ taken_long t c)
fit_long t (takes_out c) = taken_long t c
fit_long t (empties k) = all_taken_long t (children_at t k.0)
fit_long t (sets_text k x) = length-set t k.0 _
fit_long t (sets_value k x) = length-set t k.0 _
fit_long t (sets_attribute k name x) = length-set t k.0 _
fit_long t (drops_attribute k name) = length-set t k.0 _

-- ---- trees

put_ready_trees : (t : Nodes) (p c : NodeId) (before : Option NodeId) (n : ℕ) → IsReady t p c before n → c.0 < length t → AreTrees t → AreTrees (put_under t p c before)
put_ready_trees t p c before n r c_in a =
    let p_in : p.0 < length t = kind_in t p.0 may_have_children refl r.fits.holds in
    put_trees t (put_under t p c before) p c before (moved t p c (put_before before c (children_at t p.0)) (Some p) p_in c_in) r.alone p_in r.fits.not_above a

module _ (t : Nodes) (p c : NodeId) (before : Option NodeId) (a : AreTrees t) (c_in : c.0 < length t) (apart : is_this c.0 before ≡ false) (ok : insertion_error t p c before ≡ None) where
  ready_in : IsReady (taken_out t c) p c before (length t)
  ready_in =
      let tests = no_fault (breaks_hierarchy t p.0 c.0) (is_missing t p.0 before) ok in
      ready t p c before a c_in apart (insertion_fits t p c before tests.0 tests.1)

  c_left : c.0 < length (taken_out t c)
  c_left = subst (λ n. c.0 < n) (sym (taken_long t c)) c_in

inserted_trees : (t : Nodes) (p c : NodeId) (before : Option NodeId) → AreTrees t → c.0 < length t → insertion_error t p c before ≡ None → AreTrees (inserted t p c before)
inserted_trees t p c before a c_in ok = by (is_this c.0 before) refl
  where
    by : (b : Bool) → is_this c.0 before ≡ b → AreTrees (if b then t else put_under (taken_out t c) p c before)
    by true e = a
    by false e = put_ready_trees (taken_out t c) p c before (length t) (ready_in t p c before a c_in e ok) (c_left t p c before a c_in e ok) (left t c a).trees

replaced_trees : (t : Nodes) (p c old : NodeId) → AreTrees t → c.0 < length t → replacement_error t p c old ≡ None → AreTrees (replaced t p c old)
replaced_trees t p c old a c_in ok = by (nat_eq c.0 old.0) refl
  where
    acc : IsAccepted t p c old
    acc = is_accepted t p c old ok

    by : (b : Bool) → nat_eq c.0 old.0 ≡ b → AreTrees (if b then t else put_for (taken_out t c) p c old)
    by true e = a
    by false e =
        put_ready_trees (taken_out (taken_out t c) old) p c (next_of (taken_out t c) old.0) (length t) (ready_for t p c old a e acc)
        (subst (λ n. c.0 < n) (sym (as_long t p c old a e acc)) c_in) (trees_out t p c old a e acc)

content_trees : (t : Nodes) (k : NodeId) (new : Content) → k.0 < length t → AreTrees t → AreTrees (with_content t k new)
content_trees t k new k_in a = same_trees t (with_content t k new) (content_kids t k new k_in) (content_up t k new k_in) a

-- that the node is there, of a step that changes a content
element_in : (t : Nodes) (k : NodeId) → is_element (kind_at t k.0) ≡ true → k.0 < length t
element_in t k h = kind_in t k.0 is_element refl h

value_in : (t : Nodes) (k : NodeId) → takes_value (kind_at t k.0) ≡ true → k.0 < length t
value_in t k h = kind_in t k.0 takes_value refl h

fit_trees : (t : Nodes) (g : NodeStep) → AreTrees t → fits t g ≡ true → AreTrees (after_fit t g)
fit_trees t (inserts p c before) a h =
    let q = and_parts (is_there t c) (is_none (insertion_error t p c before)) h in
    inserted_trees t p c before a (in_range t c q.0) (no_error (insertion_error t p c before) q.1)
fit_trees t (replaces p c old) a h =
    let q = and_parts (is_there t c) (is_none (replacement_error t p c old)) h in
    replaced_trees t p c old a (in_range t c q.0) (no_error (replacement_error t p c old) q.1)
fit_trees t (takes_out c) a h = (left t c a).trees
fit_trees t (empties k) a h = (all_left t (children_at t k.0) a).trees
fit_trees t (sets_text k x) a h = content_trees t k _ (in_range t k (and_parts (is_there t k) (has_text (kind_at t k.0)) h).0) a
fit_trees t (sets_value k x) a h = content_trees t k _ (value_in t k h) a
fit_trees t (sets_attribute k name x) a h = content_trees t k _ (element_in t k (and_parts (is_element (kind_at t k.0)) (is_name name) h).0) a
fit_trees t (drops_attribute k name) a h = content_trees t k _ (element_in t k h) a

-- ---- sound

one_element : (l : List NodeId) → length l ≤ 1 → l ≡ option_to_list (first_of l)
one_element [] h = refl
one_element (c ∷ []) h = refl
one_element (c ∷ d ∷ l) h = absurd (omega (arith, h))

taken_sound : (t : Nodes) (c : NodeId) → IsSound t → IsSound (taken_out t c)
taken_sound t c s = by (parent_at t c.0) refl
  where
    by : (o : Option NodeId) → parent_at t c.0 ≡ o → IsSound (taken_from t c o)
    by None up = s
    by (Some p) up =
        let a : AreTrees t = s.trees in
        let m : Moved t (taken_from t c (Some p)) p c (without c.0 (children_at t p.0)) None =
        moved t p c (without c.0 (children_at t p.0)) None (parent_in t a c.0 p up) (child_in t a p.0 c.0 (child_of_parent t a c.0 p up))
        in
        (sound_out t (first_of (elements_of t)) p c s (one_element (elements_of t) s.one_element) (taken_from t c (Some p)) m up).sound

all_taken_sound : (t : Nodes) (cs : List NodeId) → IsSound t → IsSound (all_taken_out t cs)
all_taken_sound t [] s = s
all_taken_sound t (c ∷ cs) s = all_taken_sound (taken_out t c) cs (taken_sound t c s)

put_ready_sound : (t : Nodes) (p c : NodeId) (before : Option NodeId) (n : ℕ) → IsReady t p c before n → c.0 < length t → IsSound t → IsSound (put_under t p c before)
put_ready_sound t p c before n r c_in s =
    let p_in : p.0 < length t = kind_in t p.0 may_have_children refl r.fits.holds in
    (sound_in t (first_of (elements_of t)) p c s (one_element (elements_of t) s.one_element) (put_under t p c before) before
    (moved t p c (put_before before c (children_at t p.0)) (Some p) p_in c_in) p_in r.alone r.fits).sound

inserted_sound : (t : Nodes) (p c : NodeId) (before : Option NodeId) → IsSound t → c.0 < length t → insertion_error t p c before ≡ None → IsSound (inserted t p c before)
inserted_sound t p c before s c_in ok = by (is_this c.0 before) refl
  where
    by : (b : Bool) → is_this c.0 before ≡ b → IsSound (if b then t else put_under (taken_out t c) p c before)
    by true e = s
    by false e = put_ready_sound (taken_out t c) p c before (length t) (ready_in t p c before s.trees c_in e ok) (c_left t p c before s.trees c_in e ok) (taken_sound t c s)

replaced_sound : (t : Nodes) (p c old : NodeId) → IsSound t → c.0 < length t → replacement_error t p c old ≡ None → IsSound (replaced t p c old)
replaced_sound t p c old s c_in ok = by (nat_eq c.0 old.0) refl
  where
    acc : IsAccepted t p c old
    acc = is_accepted t p c old ok

    by : (b : Bool) → nat_eq c.0 old.0 ≡ b → IsSound (if b then t else put_for (taken_out t c) p c old)
    by true e = s
    by false e =
        put_ready_sound (taken_out (taken_out t c) old) p c (next_of (taken_out t c) old.0) (length t) (ready_for t p c old s.trees e acc)
        (subst (λ n. c.0 < n) (sym (as_long t p c old s.trees e acc)) c_in) (taken_sound (taken_out t c) old (taken_sound t c s))

module _ (t : Nodes) (k : NodeId) (s : IsSound t) where
  abbrev here : Content
  here = (node_at t k.0).content

  text_sound : (x : Text) → k.0 < length t → has_text (kind_at t k.0) ≡ true → IsSound (with_content t k (with_text here x))
  text_sound x k_in h =
      content_sound t k (with_text here x) k_in s
      (record {
        document = text_document here.kind x;
        element = text_element here.kind x;
        text = text_text here.kind x;
        proper = text_proper here.kind here.attributes here.value x h (s.proper k.0);
      })

  value_sound : (x : Text) → takes_value (kind_at t k.0) ≡ true → IsSound (with_content t k (with_value here x))
  value_sound x h =
      content_sound t k (with_value here x) (value_in t k h) s
      (record { document = refl; element = refl; text = refl; proper = value_proper here x h (s.proper k.0) })

  attribute_sound : (name x : Text) → is_element (kind_at t k.0) ≡ true → is_name name ≡ true → IsSound (with_content t k (with_attribute here name x))
  attribute_sound name x h n =
      content_sound t k (with_attribute here name x) (element_in t k h) s
      (record { document = refl; element = refl; text = refl; proper = attribute_proper here name x n h (s.proper k.0) })

  dropped_sound : (name : Text) → is_element (kind_at t k.0) ≡ true → IsSound (with_content t k (without_attribute here name))
  dropped_sound name h =
      content_sound t k (without_attribute here name) (element_in t k h) s
      (record { document = refl; element = refl; text = refl; proper = without_attribute_proper here name h (s.proper k.0) })

fit_sound : (t : Nodes) (g : NodeStep) → IsSound t → fits t g ≡ true → IsSound (after_fit t g)
fit_sound t (inserts p c before) s h =
    let q = and_parts (is_there t c) (is_none (insertion_error t p c before)) h in
    inserted_sound t p c before s (in_range t c q.0) (no_error (insertion_error t p c before) q.1)
fit_sound t (replaces p c old) s h =
    let q = and_parts (is_there t c) (is_none (replacement_error t p c old)) h in
    replaced_sound t p c old s (in_range t c q.0) (no_error (replacement_error t p c old) q.1)
fit_sound t (takes_out c) s h = taken_sound t c s
fit_sound t (empties k) s h = all_taken_sound t (children_at t k.0) s
fit_sound t (sets_text k x) s h = let q = and_parts (is_there t k) (has_text (kind_at t k.0)) h in text_sound t k s x (in_range t k q.0) q.1
fit_sound t (sets_value k x) s h = value_sound t k s x h
fit_sound t (sets_attribute k name x) s h = let q = and_parts (is_element (kind_at t k.0)) (is_name name) h in attribute_sound t k s name x q.0 q.1
fit_sound t (drops_attribute k name) s h = dropped_sound t k s name h

-- ---- the laws

pub steps_stay_sound : StepsStaySound
steps_stay_sound t g = record {
  trees = λ a. by (fits t g) refl AreTrees a (fit_trees t g a);
  sound = λ s. by (fits t g) refl IsSound s (fit_sound t g s);
  long = by (fits t g) refl (λ u. length u ≡ length t) refl (λ e. fit_long t g);
}
  where
    by : (b : Bool) → fits t g ≡ b → (P : Nodes → Type 0) → P t → (fits t g ≡ true → P (after_fit t g)) → P (if b then after_fit t g else t)
    by true e P before after = after e
    by false e P before after = before

new_proper : (k : Kind) → has_folded_name k ≡ true → is_proper (new_content k) ≡ true
new_proper kind.Document h = refl
new_proper (kind.Element name) h = rw h (or_right (takes_value (kind.Element name)) true refl)
new_proper (kind.Text x) h = refl
new_proper (kind.Comment x) h = refl

pub new_nodes_stay_sound : NewNodesStaySound
new_nodes_stay_sound t k = record {
  trees = λ a. same_trees t (with_new t (new_content k)) (new_kids t (new_content k)) (new_up t (new_content k)) a;
  sound = λ s named not_document. new_sound t (new_content k) (has_first t s) s (new_proper k named) not_document;
}

pub stands_in_place : StandsInPlace
stands_in_place t p c old r =
    let acc : IsAccepted t p c old = is_accepted t p c old r.accepted in
    let w : IsReady (taken_out (taken_out t c) old) p c (next_of (taken_out t c) old.0) (length t) = ready_for t p c old r.sound.trees r.apart acc in
    let p_in : p.0 < length (taken_out (taken_out t c) old) = kind_in (taken_out (taken_out t c) old) p.0 may_have_children refl w.fits.holds in
    in_place t p c old r.sound.trees r.apart acc (subst (λ n. p.0 < n) w.long p_in) r.child
