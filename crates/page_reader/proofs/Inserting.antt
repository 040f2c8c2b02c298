-- A node without children is put under one without a fault.
use Rattle.std.proofs.Common.{◌≡◌, ◌∙◌, ℕ, zero, suc, ◌+◌, ◌<◌, ◌||◌, ◌&&◌, Bool, true, false, not, cond, [], ◌∷◌, ◌++◌, length, refl, sym, ap, subst, Option, Some, None, is_some, Result, Ok, Err, nat_eq, arith, set, length-append, take, get_or, Bor}
use Rattle.std.proofs.lemmas.List.{take_more}
use Rattle.std.proofs.Math.ListN.{get_or-append}
use Rattle.std.specs.Option.{option_copied}
use Rattle.std.proofs.Math.Seq.{take-length, get_or-append_seam, set-append_seam}
use Rattle.std.proofs.lemmas.Bool.Decides.{nat_tests}
use Rattle.std.proofs.lemmas.Bool.{or_right}
use Rattle.js_core.specs.Text.{Text}
use Rattle.js_values.specs.declared.ids.NodeId.{NodeId}
use Rattle.dom_tree.specs.declared.content.Content.{Content}
use Rattle.dom_tree.specs.declared.content.Kind.{Kind}
use Rattle.dom_tree.specs.declared.content.Kind.TheVariants.{Comment, Document, Element}
use Rattle.dom_tree.specs.declared.content.Kind.TheVariants as kind
use Rattle.dom_tree.specs.declared.fault.DomError.{DomError}
use Rattle.dom_tree.specs.declared.fault.DomError.TheVariants.{Hierarchy}
use Rattle.dom_tree.specs.Attributes.{Pairs, value_of}
use Rattle.dom_tree.specs.Change.{Answers, breaks_hierarchy, inserted, insertion_error, is_above, is_above_within, is_misplaced, of_parent}
use Rattle.dom_tree.specs.Content.{new_content, with_attribute}
use Rattle.dom_tree.specs.Laws.{OthersStay}
use Rattle.dom_tree.specs.Name.{folded}
use Rattle.dom_tree.specs.Node.{Node, Nodes, children_at, document_alone, has, is_document, is_element, is_text, is_this, kind_at, may_have_children, no_node, node_at, parent_at, with_content, with_new}
use Rattle.dom_tree.specs.Sound.{AreTrees, IsSound}
use Rattle.page_tokens.specs.declared.token.Tag.{Tag}
use Rattle.page_reader.specs.Forest.{appended, element_content, with_all, with_first}
use Rattle.page_reader.specs.Reading.{KeepsElements}

-- Nodes of a longer list

pub old_node : (t : Nodes) (c : Content) (k : ℕ) → k < length t → node_at (with_new t c) k ≡ node_at t k
old_node t c k h = get_or-append t (record { content = c; parent = None; children = [] } ∷ []) no_node k h

pub new_node : (t : Nodes) (c : Content) → let n : Node = record { content = c; parent = None; children = [] } in node_at (with_new t c) (length t) ≡ n
new_node t c = get_or-append_seam t (record { content = c; parent = None; children = [] }) [] no_node

pub is_there : (t : Nodes) (k : ℕ) → is_element (kind_at t k) ≡ true → k < length t
is_there [] k e = absurd (cc)
is_there (n ∷ t) zero e = omega arith
is_there (n ∷ t) (suc k) e = let h = is_there t k e in omega arith

pub keeps_old : (t : Nodes) (c : Content) → KeepsElements t (with_new t c)
keeps_old t c k e = ap (λ n. is_element n.content.kind) (old_node t c k (is_there t k e)) ∙ e

-- No node is under the child

not_above : (w : Nodes) (k : ℕ) → children_at w k ≡ [] → AreTrees w → (n p : ℕ) → nat_eq k p ≡ false → is_above_within w n k p ≡ false
not_above w k none trees zero p e = refl
not_above w k none trees (suc n) p e = by_parent (parent_at w p) refl (λ q h. not_above w k none trees n q h)
  where
    by_parent : (o : Option NodeId) → parent_at w p ≡ o → ((q : ℕ) → nat_eq k q ≡ false → is_above_within w n k q ≡ false) → (nat_eq k p || of_parent (parent_at w p) (λ q. is_above_within w n k q)) ≡ false
    by_parent None f more = rw (e, f) refl
    by_parent (Some q) f more =
        let agrees = trees.agree k p in
        let other : nat_eq k q.0 ≡ false = sym (sym (ap (has p) none) ∙ agrees ∙ ap (is_this k) f) in
        rw (e, f) (more q.0 other)

all_false : (a b c d : Bool) → a ≡ true → b ≡ false → c ≡ false → d ≡ false → (not a || b || c || d) ≡ false
all_false a b c d e f g h = rw (e, f, g, h) refl

no_fault : (w : Nodes) (p child : NodeId) → IsSound w → children_at w child.0 ≡ [] → is_document (kind_at w child.0) ≡ false → may_have_children (kind_at w p.0) ≡ true → nat_eq child.0 p.0 ≡ false → (is_document (kind_at w p.0) && is_misplaced w child.0) ≡ false → insertion_error w p child None ≡ None
no_fault w p child sound none kind may apart placed =
    let above = not_above w child.0 none sound.trees (length w) p.0 apart in
    let free : breaks_hierarchy w p.0 child.0 ≡ false = all_false (may_have_children (kind_at w p.0)) (is_document (kind_at w child.0)) (is_above w child.0 p.0) (is_document (kind_at w p.0) && is_misplaced w child.0) may kind above placed in
    ap (λ b. cond b (Some Hierarchy) None) free

pub no_document : (x : Kind) → is_element x ≡ true → is_document x ≡ false
no_document Document e = absurd (cc)
no_document (Element name) e = refl
no_document (kind.Text text) e = absurd (cc)
no_document (Comment text) e = absurd (cc)

pub free_under_element : (w t : Nodes) (c : Content) (p child : NodeId) → IsSound w → w ≡ with_new t c → child.0 ≡ length t → is_document c.kind ≡ false → is_element (kind_at t p.0) ≡ true → insertion_error w p child None ≡ None
free_under_element w t c p child sound e i kind element =
    let there = is_there t p.0 element in
    let same : kind_at w p.0 ≡ kind_at t p.0 = ap (λ x. kind_at x p.0) e ∙ ap (λ n. n.content.kind) (old_node t c p.0 there) in
    let node = ap (λ k. node_at w k) i ∙ ap (λ x. node_at x (length t)) e ∙ new_node t c in
    let open_ : is_element (kind_at w p.0) ≡ true = ap is_element same ∙ element in
    let document : is_document (kind_at w p.0) ≡ false = no_document (kind_at w p.0) open_ in
    no_fault w p child sound (ap (λ n. n.children) node) (ap (λ n. is_document n.content.kind) node ∙ kind) (or_right (is_document (kind_at w p.0)) (is_element (kind_at w p.0)) open_) (apart there) (rw document refl)
  where
    apart : p.0 < length t → nat_eq child.0 p.0 ≡ false
    apart h = grind (arith, nat_tests)

-- The root of a document

no_text : (x : Kind) → is_element x ≡ true → is_text x ≡ false
no_text Document e = absurd (cc)
no_text (Element name) e = refl
no_text (kind.Text text) e = absurd (cc)
no_text (Comment text) e = absurd (cc)

root_fits : (c : Content) → is_element c.kind ≡ true → (is_document (kind_at (with_new document_alone c) 0) && is_misplaced (with_new document_alone c) 1) ≡ false
root_fits c element = let text = no_text c.kind element in rw (text, element) refl

pub free_under_document : (w : Nodes) (c : Content) (p child : NodeId) → IsSound w → w ≡ with_new document_alone c → child.0 ≡ 1 → p.0 ≡ 0 → is_element c.kind ≡ true → insertion_error w p child None ≡ None
free_under_document w c p child sound e i z element =
    let kind : is_document c.kind ≡ false = no_document c.kind element in
    let node = ap (λ k. node_at w k) i ∙ ap (λ x. node_at x 1) e in
    let root = ap (λ k. node_at w k) z ∙ ap (λ x. node_at x 0) e in
    let fits : (is_document (kind_at w p.0) && is_misplaced w child.0) ≡ false = rw (i, z, e) (root_fits c element) in
    no_fault w p child sound (ap (λ n. n.children) node) (ap (λ n. is_document n.content.kind) node ∙ kind) (ap (λ n. may_have_children n.content.kind) root) (rw (i, z) refl) fits

-- What the call answers

pub answered : (r : Result (Unit {0}) DomError) (fault : Option DomError) (after old new : Nodes) → fault ≡ None → Answers fault after old new r → new ≡ after
answered (Ok u) fault after old new f a = a.1
answered (Err e) fault after old new f a = absurd (let g = a.0 in cc)

pub kept : (w u : Nodes) (p child : NodeId) → OthersStay → IsSound w → p.0 < length w → child.0 < length w → insertion_error w p child None ≡ None → u ≡ inserted w p child None → KeepsElements w u
kept w u p child stay sound parent there free e k h =
    let same = (stay w p child None (record { sound = sound; parent = parent; child = there; accepted = free; apart = refl })).0 k in
    ap (λ x. is_element (kind_at x k)) e ∙ ap (λ x. is_element x.kind) same ∙ h

pub appended_is : (t w u : Nodes) (c : Content) (p child : NodeId) → w ≡ with_new t c → child.0 ≡ length t → u ≡ inserted w p child None → u ≡ appended t p c
appended_is t w u c p child e i f =
    let id : ℕ → NodeId = λ k. record { 0 = k } in
    f ∙ ap (λ x. inserted x p child None) e ∙ ap (λ k. inserted (with_new t c) p (id k) None) i

pub keeps_all : (t w u : Nodes) (c : Content) → w ≡ with_new t c → KeepsElements w u → KeepsElements t u
keeps_all t w u c e keeps k h = keeps k (subst (λ x. is_element (kind_at x k) ≡ true) (sym e) (keeps_old t c k h))

-- Attributes

pub keeps_kind : (c : Content) (attributes : Pairs) → (with_all c attributes).kind ≡ c.kind
keeps_kind c [] = refl
keeps_kind c (a ∷ as') = keeps_kind (with_first c a) as' ∙ first c a
  where
    first : (c : Content) (a : Text × Text) → (with_first c a).kind ≡ c.kind
    first c a = by_value (is_some (value_of (folded a.0) c.attributes))
      where
        by_value : (b : Bool) → (cond b c (with_attribute c a.0 a.1)).kind ≡ c.kind
        by_value true = refl
        by_value false = refl

pub one_more : (c : Content) (front : Pairs) (a : Text × Text) → with_all c (front ++ a ∷ []) ≡ with_first (with_all c front) a
one_more c [] a = refl
one_more c (b ∷ bs) a = one_more (with_first c b) bs a

pub is_element_content : (tag : Tag) → is_element (element_content tag).kind ≡ true
is_element_content tag = ap is_element (keeps_kind (new_content (Element (folded tag.name))) tag.attributes)

-- An attribute of the youngest node

youngest_is : (old t : Nodes) (c : Content) (node : NodeId) → node.0 + 1 ≡ length old → old ≡ with_new t c → node.0 ≡ length t
youngest_is old t c node y f =
    let long : length old ≡ length t + 1 = ap length f ∙ length-append t (record { content = c; parent = None; children = [] } ∷ []) in
    omega arith

content_is : (old t : Nodes) (c : Content) (node : NodeId) → node.0 + 1 ≡ length old → old ≡ with_new t c → let n : Node = record { content = c; parent = None; children = [] } in node_at old node.0 ≡ n
content_is old t c node y f = ap (λ k. node_at old k) (youngest_is old t c node y f) ∙ ap (λ x. node_at x (length t)) f ∙ new_node t c

pub first_stays : (old new : Nodes) (node : NodeId) (name value : Text) → node.0 + 1 ≡ length old → is_some (value_of (folded name) (node_at old node.0).content.attributes) ≡ true → new ≡ old → (t : Nodes) (c : Content) → old ≡ with_new t c → new ≡ with_new t (with_first c (name, value))
first_stays old new node name value y some e t c f =
    let at = content_is old t c node y f in
    let known : is_some (value_of (folded name) c.attributes) ≡ true = sym (ap (λ n. is_some (value_of (folded name) n.content.attributes)) at) ∙ some in
    e ∙ f ∙ ap (λ b. with_new t (cond b c (with_attribute c name value))) (sym known)

pub first_set : (old new : Nodes) (node : NodeId) (name value : Text) → node.0 + 1 ≡ length old → is_some (value_of (folded name) (node_at old node.0).content.attributes) ≡ false → new ≡ with_content old node (with_attribute (node_at old node.0).content name value) → (t : Nodes) (c : Content) → old ≡ with_new t c → new ≡ with_new t (with_first c (name, value))
first_set old new node name value y none e t c f =
    let at = content_is old t c node y f in
    let known : is_some (value_of (folded name) c.attributes) ≡ false = sym (ap (λ n. is_some (value_of (folded name) n.content.attributes)) at) ∙ none in
    let changed : Node → Node = λ n. record { content = with_attribute n.content name value; parent = n.parent; children = n.children } in
    let n : Node = record { content = c; parent = None; children = [] } in
    e ∙ ap (λ x. set old node.0 (changed x)) at ∙ ap (λ k. set old k (changed n)) (youngest_is old t c node y f) ∙ ap (λ x. set x (length t) (changed n)) f ∙ set-append_seam t n [] (changed n) ∙ ap (λ b. with_new t (cond b c (with_attribute c name value))) (sym known)

-- A new element

pub there_in : (w t : Nodes) (c : Content) (k : ℕ) → w ≡ with_new t c → is_element (kind_at t k) ≡ true → k < length w
there_in w t c k e h =
    let there = is_there t k h in
    let long : length w ≡ length t + 1 = ap length e ∙ length-append t (record { content = c; parent = None; children = [] } ∷ []) in
    omega arith

pub youngest_in : (w t : Nodes) (c : Content) (node : NodeId) → w ≡ with_new t c → node.0 ≡ length t → node.0 + 1 ≡ length w
youngest_in w t c node e i =
    let long : length w ≡ length t + 1 = ap length e ∙ length-append t (record { content = c; parent = None; children = [] } ∷ []) in
    omega arith

pub element_in : (w t : Nodes) (name : Text) (front : Pairs) (node : NodeId) → w ≡ with_new t (with_all (new_content (Element name)) front) → node.0 ≡ length t → is_element (kind_at w node.0) ≡ true
element_in w t name front node e i =
    ap (λ k. is_element (kind_at w k)) i ∙ ap (λ x. is_element (kind_at x (length t))) e ∙ ap (λ n. is_element n.content.kind) (new_node t (with_all (new_content (Element name)) front)) ∙ ap is_element (keeps_kind (new_content (Element name)) front)

pub front_more : (items : Pairs) (i : ℕ) (x : Text × Text) → i < length items → x ≡ get_or items i x → take (i + 1) items ≡ take i items ++ x ∷ []
front_more items i x there is = take_more items i x there ∙ ap (λ y. take i items ++ y ∷ []) (sym is)

pub made_more : (new t : Nodes) (c : Content) (items : Pairs) (i : ℕ) (x : Text × Text) → i < length items → x ≡ get_or items i x → new ≡ with_new t (with_first (with_all c (take i items)) x) → new ≡ with_new t (with_all c (take (i + 1) items))
made_more new t c items i x there is e =
    e ∙ ap (with_new t) (sym (one_more c (take i items) x)) ∙ ap (λ y. with_new t (with_all c y)) (sym (front_more items i x there is))

pub new_element : (w t : Nodes) (c : Content) (node : NodeId) → w ≡ with_new t c → node.0 ≡ length t → is_element c.kind ≡ true → is_element (kind_at w node.0) ≡ true
new_element w t c node e i h =
    ap (λ k. is_element (kind_at w k)) i ∙ ap (λ x. is_element (kind_at x (length t))) e ∙ ap (λ n. is_element n.content.kind) (new_node t c) ∙ h

pub made_all : (w t : Nodes) (c : Content) (items attributes : Pairs) (i : ℕ) → w ≡ with_new t (with_all c (take i items)) → i ≡ length items → items ≡ attributes → w ≡ with_new t (with_all c attributes)
made_all w t c items attributes i e l same =
    e ∙ ap (λ k. with_new t (with_all c (take k items))) l ∙ ap (λ x. with_new t (with_all c x)) (take-length items ∙ same)

pub known_is : (o : Option (Bor Text)) (v : Option Text) (b : Bool) → option_copied o ≡ v → b ≡ is_some o → is_some v ≡ b
known_is None v b e f = ap is_some (sym e) ∙ sym f
known_is (Some x) v b e f = ap is_some (sym e) ∙ sym f
