-- What is done to literal nodes leaves such, and what is read of them is literal.
use Rattle.std.proofs.Common.{refl, ℕ, zero, suc, Bool, true, false, cond, List, [], ◌∷◌, ◌++◌, Option, Some, None, Ok, codes, length, bytes_eq, nat_eq, unwrap_or, if◌then◌else◌, ◌≤◌, arith}
use Rattle.std.proofs.lemmas.List.Elements.{All-push, All-set}
use Rattle.js_core.specs.Text.{AllUnits, Text}
use Rattle.js_core.specs.Whole.{largest}
use Rattle.js_values.specs.declared.ids.NodeId.{NodeId}
use Rattle.js_values.specs.declared.ids.ObjId.{ObjId}
use Rattle.js_values.specs.declared.value.Value.TheVariants as value
use Rattle.dom_tree.specs.declared.content.Content.{Content}
use Rattle.dom_tree.specs.declared.content.Kind.{Kind}
use Rattle.dom_tree.specs.declared.content.Kind.TheVariants as kind
use Rattle.dom_tree.specs.Attributes.{Pairs, value_of, with_value_of, without_value_of}
use Rattle.dom_tree.specs.Change.{all_taken_out, inserted, put_before, put_under, replaced, taken_from, taken_out, without}
use Rattle.dom_tree.specs.Content.{is_named, kind_with_text, new_content, text_of, type_of, with_attribute, with_text, with_value, without_attribute}
use Rattle.dom_tree.specs.DomText.{joined_texts, own_text, text_content}
use Rattle.dom_tree.specs.Name.{folded}
use Rattle.dom_tree.specs.Node.{Node, Nodes, children_at, is_this, kind_at, next_of, no_node, node_at, parent_at, with_children, with_content, with_new, with_parent}
use Rattle.dom_tree.specs.Steps.{NodeStep, after_fit, after_node, content_at, drops_attribute, empties, fits, inserts, replaces, sets_attribute, sets_text, sets_value, takes_out}
use Rattle.dom_tree.specs.Trees.{Trees, no_trees, tree, trees_over, trees_within}
use Rattle.page_host.specs.declared.host_name.HostName.{HostName}
use Rattle.page_host.specs.declared.host_name.HostName.TheVariants.{NodeType, NodeName, NodeValue, ParentNode, FirstChild, LastChild, PreviousSibling, NextSibling, OwnerDocument, TextContent, TagName, Id, ClassName, Value as HasValue, Data, DocumentElement, Body, EventType, Target, CurrentTarget, EventPhase, Bubbles, Cancelable, TimeStamp}
use Rattle.page_host.specs.HostNames.{attribute_at, content_text, node_name, node_value, owner, reads_at, text_or_long, text_or_null, value_at}
use Rattle.literal_values.proofs.Conversions.{text_or_long_literal}
use Rattle.literal_values.proofs.Entries.{all_at}
use Rattle.literal_values.proofs.Units.{joined_units, lower_text, no_text, no_units, text_seen, upper_text}
use Rattle.literal_values.specs.Nodes.{LiteralContent, LiteralKind, LiteralNodes, LiteralNodeStep, LiteralPairs}
use Rattle.literal_values.specs.Values.{IsBounded, IsText, LiteralResult, MaybeText}

abbrev IsContent : Node → Type 0
IsContent n = LiteralContent n.content

no_node_literal : IsContent no_node
no_node_literal = record { kind = no_text; attributes = tt; value = tt }

pub node_literal : (t : Nodes) (k : ℕ) → LiteralNodes t → LiteralContent (node_at t k).content
node_literal t k h = all_at IsContent no_node t k no_node_literal h

-- ---- attributes

pub attribute_found : (name : Text) (as' : Pairs) → LiteralPairs as' → MaybeText (value_of name as')
attribute_found name [] h = tt
attribute_found name (a ∷ as') h = by_case (bytes_eq a.0 name) (attribute_found name as' h.2)
  where
    by_case : (b : Bool) → MaybeText (value_of name as') → MaybeText (cond b (Some a.1) (value_of name as'))
    by_case true rest = h.1
    by_case false rest = rest

attribute_set : (name v : Text) (as' : Pairs) → IsText name → IsText v → LiteralPairs as' → LiteralPairs (with_value_of name v as')
attribute_set name v [] n k h = (n, k, tt)
attribute_set name v (a ∷ as') n k h = by_case (bytes_eq a.0 name) (attribute_set name v as' n k h.2)
  where
    by_case : (b : Bool) → LiteralPairs (with_value_of name v as') → LiteralPairs (cond b ((a.0, v) ∷ as') (a ∷ with_value_of name v as'))
    by_case true rest = (h.0, k, h.2)
    by_case false rest = (h.0, h.1, rest)

attribute_dropped : (name : Text) (as' : Pairs) → LiteralPairs as' → LiteralPairs (without_value_of name as')
attribute_dropped name [] h = tt
attribute_dropped name (a ∷ as') h = by_case (bytes_eq a.0 name) (attribute_dropped name as' h.2)
  where
    by_case : (b : Bool) → LiteralPairs (without_value_of name as') → LiteralPairs (cond b as' (a ∷ without_value_of name as'))
    by_case true rest = h.2
    by_case false rest = (h.0, h.1, rest)

-- ---- places of nodes

module _ (t : Nodes) (h : LiteralNodes t) where
  children_literal : (p : NodeId) (l : List NodeId) → LiteralNodes (with_children t p l)
  children_literal p l = All-set IsContent t p.0 (record { content = (node_at t p.0).content; parent = parent_at t p.0; children = l }) (node_literal t p.0 h) h

  parent_literal : (c : NodeId) (p : Option NodeId) → LiteralNodes (with_parent t c p)
  parent_literal c p = All-set IsContent t c.0 (record { content = (node_at t c.0).content; parent = p; children = children_at t c.0 }) (node_literal t c.0 h) h

  content_literal : (k : NodeId) (c : Content) → LiteralContent c → LiteralNodes (with_content t k c)
  content_literal k c i = All-set IsContent t k.0 (record { content = c; parent = parent_at t k.0; children = children_at t k.0 }) i h

  pub new_literal : (c : Content) → LiteralContent c → LiteralNodes (with_new t c)
  new_literal c i = All-push IsContent t (record { content = c; parent = None; children = [] }) h i

from_literal : (t : Nodes) (c : NodeId) (p : Option NodeId) → LiteralNodes t → LiteralNodes (taken_from t c p)
from_literal t c None h = h
from_literal t c (Some p) h = parent_literal (with_children t p (without c.0 (children_at t p.0))) (children_literal t h p (without c.0 (children_at t p.0))) c None

taken_literal : (t : Nodes) (c : NodeId) → LiteralNodes t → LiteralNodes (taken_out t c)
taken_literal t c h = from_literal t c (parent_at t c.0) h

put_literal : (t : Nodes) (p c : NodeId) (before : Option NodeId) → LiteralNodes t → LiteralNodes (put_under t p c before)
put_literal t p c before h = parent_literal (with_children t p (put_before before c (children_at t p.0))) (children_literal t h p (put_before before c (children_at t p.0))) c (Some p)

all_taken_literal : (t : Nodes) (cs : List NodeId) → LiteralNodes t → LiteralNodes (all_taken_out t cs)
all_taken_literal t [] h = h
all_taken_literal t (c ∷ cs) h = all_taken_literal (taken_out t c) cs (taken_literal t c h)

either_nodes : (b : Bool) (t u : Nodes) → LiteralNodes t → LiteralNodes u → LiteralNodes (if b then t else u)
either_nodes true t u h k = h
either_nodes false t u h k = k

inserted_literal : (t : Nodes) (p c : NodeId) (before : Option NodeId) → LiteralNodes t → LiteralNodes (inserted t p c before)
inserted_literal t p c before h = either_nodes (is_this c.0 before) t _ h (put_literal (taken_out t c) p c before (taken_literal t c h))

replaced_literal : (t : Nodes) (p c old : NodeId) → LiteralNodes t → LiteralNodes (replaced t p c old)
replaced_literal t p c old h =
    let out = taken_literal t c h in
    either_nodes (nat_eq c.0 old.0) t _ h (put_literal (taken_out (taken_out t c) old) p c (next_of (taken_out t c) old.0) (taken_literal (taken_out t c) old out))

-- ---- contents

text_kind : (k : Kind) (x : Text) → LiteralKind k → IsText x → LiteralKind (kind_with_text k x)
text_kind (kind.Element name) x h i = h
text_kind (kind.Text old) x h i = i
text_kind (kind.Comment old) x h i = i
text_kind kind.Document x h i = h

fit_literal : (t : Nodes) (g : NodeStep) → LiteralNodeStep g → LiteralNodes t → LiteralNodes (after_fit t g)
fit_literal t (inserts p c before) i h = inserted_literal t p c before h
fit_literal t (replaces p c old) i h = replaced_literal t p c old h
fit_literal t (takes_out c) i h = taken_literal t c h
fit_literal t (empties k) i h = all_taken_literal t (children_at t k.0) h
fit_literal t (sets_text k x) i h =
    let c = node_literal t k.0 h in
    content_literal t h k (with_text (content_at t k) x) (record { kind = text_kind (content_at t k).kind x c.kind i; attributes = c.attributes; value = c.value })
fit_literal t (sets_value k x) i h =
    let c = node_literal t k.0 h in
    content_literal t h k (with_value (content_at t k) x) (record { kind = c.kind; attributes = c.attributes; value = i })
fit_literal t (sets_attribute k name x) i h =
    let c = node_literal t k.0 h in
    content_literal t h k (with_attribute (content_at t k) name x)
    (record { kind = c.kind; attributes = attribute_set (folded name) x (content_at t k).attributes (lower_text name i.0) i.1 c.attributes; value = c.value })
fit_literal t (drops_attribute k name) i h =
    let c = node_literal t k.0 h in
    content_literal t h k (without_attribute (content_at t k) name)
    (record { kind = c.kind; attributes = attribute_dropped (folded name) (content_at t k).attributes c.attributes; value = c.value })

pub node_step_literal : (t : Nodes) (g : NodeStep) → LiteralNodeStep g → LiteralNodes t → LiteralNodes (after_node t g)
node_step_literal t g i h = either_nodes (fits t g) (after_fit t g) t (fit_literal t g i h) h

pub new_node_literal : (t : Nodes) (k : Kind) → LiteralKind k → LiteralNodes t → LiteralNodes (with_new t (new_content k))
new_node_literal t k i h = new_literal t h (new_content k) (record { kind = i; attributes = tt; value = tt })

-- ---- texts of trees

data LiteralTrees : Trees → Type 0 where
  none : LiteralTrees no_trees
  one : {k : NodeId} {n : Node} {under others : Trees} → IsContent n → LiteralTrees under → LiteralTrees others → LiteralTrees (tree k n under others)

over_literal : (t : Nodes) (under : NodeId → Trees) (l : List NodeId) → LiteralNodes t → ((c : NodeId) → LiteralTrees (under c)) → LiteralTrees (trees_over t under l)
over_literal t under [] h f = none
over_literal t under (c ∷ l) h f = one (node_literal t c.0 h) (f c) (over_literal t under l h f)

within_literal : (t : Nodes) (n : ℕ) (l : List NodeId) → LiteralNodes t → LiteralTrees (trees_within t n l)
within_literal t zero l h = none
within_literal t (suc n) l h = over_literal t (λ c. trees_within t n (children_at t c.0)) l h (λ c. within_literal t n (children_at t c.0) h)

own_units : (k : Kind) → LiteralKind k → AllUnits (own_text k)
own_units (kind.Element name) h = no_units
own_units (kind.Text t) h = h.0
own_units (kind.Comment t) h = no_units
own_units kind.Document h = no_units

joined_trees : {ts : Trees} → LiteralTrees ts → AllUnits (joined_texts ts)
joined_trees none = no_units
joined_trees (one {n = n} {under = under} {others = others} i u o) =
    joined_units (own_text n.content.kind ++ joined_texts under) (joined_texts others)
    (joined_units (own_text n.content.kind) (joined_texts under) (own_units n.content.kind i.kind) (joined_trees u)) (joined_trees o)

pub text_content_units : (t : Nodes) (k : NodeId) → LiteralNodes t → AllUnits (text_content t k)
text_content_units t k h = joined_trees (within_literal t (length t) (children_at t k.0) h)

-- ---- what nodes read

type_small : (k : Kind) → type_of k ≤ largest
type_small (kind.Element name) = omega arith
type_small (kind.Text x) = omega arith
type_small (kind.Comment x) = omega arith
type_small kind.Document = omega arith

null_or : (o : Option Text) → MaybeText o → IsBounded (text_or_null o)
null_or None h = tt
null_or (Some x) h = h

name_units : (k : Kind) → LiteralKind k → IsText (node_name k)
name_units (kind.Element name) h = upper_text name h
name_units (kind.Text x) h = text_seen (codes "#text") refl
name_units (kind.Comment x) h = text_seen (codes "#comment") refl
name_units kind.Document h = text_seen (codes "#document") refl

kind_text : (k : Kind) → LiteralKind k → MaybeText (text_of k)
kind_text (kind.Element name) h = tt
kind_text (kind.Text x) h = h
kind_text (kind.Comment x) h = h
kind_text kind.Document h = tt

or_empty : (o : Option Text) → MaybeText o → IsText (unwrap_or o [])
or_empty None h = no_text
or_empty (Some x) h = h

linked_value : (objects : List ObjId) (o : Option NodeId) → IsBounded (node_value objects o)
linked_value objects None = tt
linked_value objects (Some k) = tt

owner_value : (objects : List ObjId) (k : Kind) → IsBounded (owner objects k)
owner_value objects kind.Document = tt
owner_value objects (kind.Element name) = tt
owner_value objects (kind.Text x) = tt
owner_value objects (kind.Comment x) = tt

module _ (t : Nodes) (h : LiteralNodes t) (k : NodeId) where
  pub attribute_text : (x : Text) → MaybeText (attribute_at t k x)
  attribute_text x = attribute_found x (node_at t k.0).content.attributes (node_literal t k.0 h).attributes

  content_result : (e : Kind) → LiteralKind e → LiteralResult (content_text t k e)
  content_result kind.Document i = tt
  content_result (kind.Element name) i = text_or_long_literal (text_content t k) (text_content_units t k h)
  content_result (kind.Text x) i = i
  content_result (kind.Comment x) i = i

  value_result : (o : Option Text) (e : Kind) → MaybeText o → LiteralResult (value_at t k o e)
  value_result (Some x) e i = i
  value_result None e i = by_case (is_named (codes "input") e)
    where
      by_case : (b : Bool) → LiteralResult (if b then Ok (value.Text (unwrap_or (attribute_at t k (codes "value")) [])) else text_or_long (text_content t k))
      by_case true = or_empty (attribute_at t k (codes "value")) (attribute_text (codes "value"))
      by_case false = text_or_long_literal (text_content t k) (text_content_units t k h)

  pub reads_literal : (objects : List ObjId) (n : HostName) → LiteralResult (reads_at t objects k n)
  reads_literal objects NodeType = type_small (kind_at t k.0)
  reads_literal objects NodeName = name_units (kind_at t k.0) (node_literal t k.0 h).kind
  reads_literal objects NodeValue = null_or (text_of (kind_at t k.0)) (kind_text (kind_at t k.0) (node_literal t k.0 h).kind)
  reads_literal objects ParentNode = linked_value objects _
  reads_literal objects FirstChild = linked_value objects _
  reads_literal objects LastChild = linked_value objects _
  reads_literal objects PreviousSibling = linked_value objects _
  reads_literal objects NextSibling = linked_value objects _
  reads_literal objects OwnerDocument = owner_value objects (kind_at t k.0)
  reads_literal objects TextContent = content_result (kind_at t k.0) (node_literal t k.0 h).kind
  reads_literal objects TagName = name_units (kind_at t k.0) (node_literal t k.0 h).kind
  reads_literal objects Id = or_empty (attribute_at t k (codes "id")) (attribute_text (codes "id"))
  reads_literal objects ClassName = or_empty (attribute_at t k (codes "class")) (attribute_text (codes "class"))
  reads_literal objects HasValue = value_result (node_at t k.0).content.value (kind_at t k.0) (node_literal t k.0 h).value
  reads_literal objects Data = null_or (text_of (kind_at t k.0)) (kind_text (kind_at t k.0) (node_literal t k.0 h).kind)
  reads_literal objects DocumentElement = linked_value objects _
  reads_literal objects Body = linked_value objects _
  reads_literal objects EventType = tt
  reads_literal objects Target = tt
  reads_literal objects CurrentTarget = tt
  reads_literal objects EventPhase = tt
  reads_literal objects Bubbles = tt
  reads_literal objects Cancelable = tt
  reads_literal objects TimeStamp = tt
