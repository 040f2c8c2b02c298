-- How nodes are put under others, taken out and replaced (DOM Level 2 Core, `insertBefore`, `removeChild` and `replaceChild`).
use Rattle.std.specs.Prelude.{◌≡◌, ℕ, zero, suc, Bool, false, ◌&&◌, ◌||◌, not, cond, List, [], ◌∷◌, Option, Some, None, Result, Ok, Err, length, nat_eq, if◌then◌else◌}
use Rattle.std.specs.List.{list_any}
use Rattle.js_values.specs.declared.ids.NodeId.{NodeId}
use Rattle.dom_tree.specs.declared.fault.DomError.{DomError}
use Rattle.dom_tree.specs.declared.fault.DomError.TheVariants.{Hierarchy, NotFound}
use Rattle.dom_tree.specs.Node.{Nodes, children_at, has, is_document, is_element, is_text, is_this, kind_at, may_have_children, next_of, parent_at, with_children, with_parent}

-- the list without the node
abbrev pub without : ℕ → List NodeId → List NodeId
without k [] = []
without k (c ∷ l) = cond (nat_eq k c.0) l (c ∷ without k l)

-- the list with the node directly before the reference, or at the end where there is none
abbrev pub put_before : Option NodeId → NodeId → List NodeId → List NodeId
put_before before c [] = c ∷ []
put_before before c (d ∷ l) = cond (is_this d.0 before) (c ∷ d ∷ l) (d ∷ put_before before c l)

-- the node is taken out of the children of its parent, which is this, if it has one
abbrev pub taken_from : Nodes → NodeId → Option NodeId → Nodes
taken_from t c None = t
taken_from t c (Some p) = with_parent (with_children t p (without c.0 (children_at t p.0))) c None

abbrev pub taken_out : Nodes → NodeId → Nodes
taken_out t c = taken_from t c (parent_at t c.0)

-- the node, which has no parent, is put under one
abbrev pub put_under : Nodes → NodeId → NodeId → Option NodeId → Nodes
put_under t p c before = with_parent (with_children t p (put_before before c (children_at t p.0))) c (Some p)

-- what the test says of the parent, if there is one
abbrev pub of_parent : Option NodeId → (ℕ → Bool) → Bool
of_parent None test = false
of_parent (Some p) test = test p.0

-- whether x is the node at k or one of so many above it
abbrev pub is_above_within : Nodes → ℕ → ℕ → ℕ → Bool
is_above_within t zero x k = false
is_above_within t (suc n) x k = nat_eq x k || of_parent (parent_at t k) (λ p. is_above_within t n x p)

-- whether x is the node at k or one above it, of which there are no more than nodes
abbrev pub is_above : Nodes → ℕ → ℕ → Bool
is_above t x k = is_above_within t (length t) x k

-- whether an element but the node is among the children of the document
abbrev pub has_other_element : Nodes → ℕ → Bool
has_other_element t c = list_any (λ e. is_element (kind_at t e.0) && not (nat_eq c e.0)) (children_at t 0)

-- the document may not get a text, and an element only where no other one is among its children
abbrev pub is_misplaced : Nodes → ℕ → Bool
is_misplaced t c = is_text (kind_at t c) || (is_element (kind_at t c) && has_other_element t c)

-- HIERARCHY_REQUEST_ERR: the parent may have no children, the child is the document or is the parent or above it, or it
-- may not stand under the document
abbrev pub breaks_hierarchy_where : Nodes → ℕ → ℕ → Bool → Bool
breaks_hierarchy_where t p c misplaced =
    not (may_have_children (kind_at t p)) || is_document (kind_at t c) || is_above t c p
    || (is_document (kind_at t p) && misplaced)

abbrev pub breaks_hierarchy : Nodes → ℕ → ℕ → Bool
breaks_hierarchy t p c = breaks_hierarchy_where t p c (is_misplaced t c)

-- NOT_FOUND_ERR: there is a reference, and it is no child of the parent
abbrev pub is_missing : Nodes → ℕ → Option NodeId → Bool
is_missing t p None = false
is_missing t p (Some r) = not (has r.0 (children_at t p))

-- the error of an insertion, if there is one; the hierarchy is tried before
abbrev pub insertion_error : Nodes → NodeId → NodeId → Option NodeId → Option DomError
insertion_error t p c before =
    if breaks_hierarchy t p.0 c.0 then Some Hierarchy else (if is_missing t p.0 before then Some NotFound else None)

-- a node that is in a tree is taken out before it is inserted; a node before itself changes nothing
abbrev pub inserted : Nodes → NodeId → NodeId → Option NodeId → Nodes
inserted t p c before = if is_this c.0 before then t else put_under (taken_out t c) p c before

-- whether an element but these two is among the children of the document
abbrev pub has_third_element : Nodes → ℕ → ℕ → Bool
has_third_element t c old =
    list_any (λ e. is_element (kind_at t e.0) && not (nat_eq c e.0) && not (nat_eq old e.0)) (children_at t 0)

abbrev pub is_misplaced_for : Nodes → ℕ → ℕ → Bool
is_misplaced_for t c old = is_text (kind_at t c) || (is_element (kind_at t c) && has_third_element t c old)

-- the error of a replacement: that of an insertion before the old node, which does not count as the element of the document
abbrev pub replacement_error : Nodes → NodeId → NodeId → NodeId → Option DomError
replacement_error t p c old =
    if breaks_hierarchy_where t p.0 c.0 (is_misplaced_for t c.0 old.0) then Some Hierarchy
    else (if has old.0 (children_at t p.0) then None else Some NotFound)

-- the node, which has no parent, is put where the old one stands, which is taken out
abbrev pub put_for : Nodes → NodeId → NodeId → NodeId → Nodes
put_for t p c old = put_under (taken_out t old) p c (next_of t old.0)

-- a node that is in a tree is taken out before; a node in place of itself changes nothing
abbrev pub replaced : Nodes → NodeId → NodeId → NodeId → Nodes
replaced t p c old = if nat_eq c.0 old.0 then t else put_for (taken_out t c) p c old

-- each of them is taken out
abbrev pub all_taken_out : Nodes → List NodeId → Nodes
all_taken_out t [] = t
all_taken_out t (c ∷ cs) = all_taken_out (taken_out t c) cs

-- the error of a removal, if there is one
abbrev pub removal_error : Nodes → NodeId → NodeId → Option DomError
removal_error t p c = if has c.0 (children_at t p.0) then None else Some NotFound

-- a call did what was tried, or answered the error and changed nothing
abbrev pub Answers : Option DomError → Nodes → Nodes → Nodes → Result (Unit {0}) DomError → Type 0
Answers fault after old new (Ok u) = (fault ≡ None) × (new ≡ after)
Answers fault after old new (Err e) = (fault ≡ Some e) × (new ≡ old)
