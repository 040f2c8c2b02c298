-- The nodes of a page are literal, and the texts of its scripts parts of it, where the texts of its tokens are.
use Rattle.std.proofs.Common.{ℕ, zero, suc, Bool, true, false, ◌&&◌, cond, List, [], ◌∷◌, ◌++◌, Option, Some, None, bytes_eq, slice_set, subst, if◌then◌else◌}
use Rattle.std.specs.List.{list_all}
use Rattle.std.specs.Option.{is_some}
use Rattle.std.proofs.lemmas.List.Elements.{All-cons, All-head, All-nil, All-tail}
use Rattle.js_core.specs.Text.{Text}
use Rattle.js_values.specs.declared.ids.NodeId.{NodeId}
use Rattle.dom_tree.specs.Attributes.{Pairs, value_of, with_value_of}
use Rattle.dom_tree.specs.Change.{put_before, taken_from, taken_out, without}
use Rattle.dom_tree.specs.Content.{new_content}
use Rattle.dom_tree.specs.DomText.{is_void}
use Rattle.dom_tree.specs.Name.{folded}
use Rattle.dom_tree.specs.Node.{Node, Nodes, children_at, document_alone, no_content, node_at, parent_at, with_children, with_new, with_parent}
use Rattle.dom_tree.specs.declared.content.Content.{Content}
use Rattle.dom_tree.specs.declared.content.Kind.{Kind}
use Rattle.dom_tree.specs.declared.content.Kind.TheVariants as kind
use Rattle.page_tokens.specs.Characters.{is_space}
use Rattle.page_tokens.specs.declared.token.PageToken.{PageToken}
use Rattle.page_tokens.specs.declared.token.PageToken.TheVariants as token
use Rattle.page_tokens.specs.declared.token.RawText.{RawText}
use Rattle.page_tokens.specs.declared.token.Tag.{Tag}
use Rattle.page_reader.specs.Elements.{is_allowed, is_script}
use Rattle.page_reader.specs.Forest.{Forest, appended, element_content, grown, joined, next_id, with_all, with_first}
use Rattle.page_reader.specs.Forest.Forest.{no_trees, element, text, comment}
use Rattle.page_reader.specs.Pages.{Content as Inside, PageOf, Part, behind_prolog, is_html, misplaced, opens, page, part_of, text_alone, whole}
use Rattle.page_reader.specs.Pages.Content.{ended, alone, nested}
use Rattle.literal_values.specs.Nodes.{LiteralContent, LiteralKind, LiteralNodes, LiteralPairs}
use Rattle.literal_values.specs.Values.{IsText}
use Rattle.literal_pages.proofs.Parts.{IsPart, empty_part, folded_part, part_text}
use Rattle.literal_pages.proofs.PageTokens.{PairsParts, TagParts, TokenParts, TokensParts}

-- ---- trees

abbrev ForestParts : Forest → Type 0
ForestParts no_trees = Unit {0}
ForestParts (element tag inner others) = TagParts tag × ForestParts inner × ForestParts others
ForestParts (text v others) = IsPart v × ForestParts others
ForestParts (comment v others) = IsPart v × ForestParts others

prolog_parts : (seen : Bool) (ts : List PageToken) → TokensParts ts → TokensParts (behind_prolog seen ts)
prolog_parts seen [] a = a
prolog_parts seen (token.Space v ∷ ts) a = prolog_parts seen ts a.1
prolog_parts seen (token.Comment v ∷ ts) a = prolog_parts seen ts a.1
prolog_parts false (token.Doctype ∷ ts) a = prolog_parts true ts a.1
prolog_parts true (token.Doctype ∷ ts) a = a
prolog_parts seen (token.Text v ∷ ts) a = a
prolog_parts seen (token.StartTag tag ∷ ts) a = a
prolog_parts seen (token.EndTag name ∷ ts) a = a
prolog_parts seen (token.Raw tag raw ∷ ts) a = a

forests_parts : (f g : Forest) → ForestParts f → ForestParts g → ForestParts (joined f g)
forests_parts no_trees g h k = k
forests_parts (element tag inner others) g h k = (h.0, h.1, forests_parts others g h.2 k)
forests_parts (text v others) g h k = (h.0, forests_parts others g h.1 k)
forests_parts (comment v others) g h k = (h.0, forests_parts others g h.1 k)

-- the texts of scripts
abbrev pub ScriptsParts : List RawText → Type 0
ScriptsParts [] = Unit {0}
ScriptsParts (raw ∷ raws) = IsPart raw.text × ScriptsParts raws

scripts_join : (s s' : List RawText) → ScriptsParts s → ScriptsParts s' → ScriptsParts (s ++ s')
scripts_join [] s' h k = k
scripts_join (raw ∷ raws) s' h k = (h.0, scripts_join raws s' h.1 k)

-- the trees and scripts that a token is by itself, and the tag that it opens
abbrev PlaceParts : Part → Type 0
PlaceParts (whole f s) = ForestParts f × ScriptsParts s
PlaceParts (opens tag) = TagParts tag
PlaceParts misplaced = Unit {0}

either_place : (b : Bool) (p q : Part) → PlaceParts p → PlaceParts q → PlaceParts (if b then p else q)
either_place true p q f g = f
either_place false p q f g = g

alone_parts : (us : Text) → IsPart us → ForestParts (text_alone us)
alone_parts [] f = tt
alone_parts (u ∷ us) f = (f, tt)

place_parts : (name : Text) (t : PageToken) → TokenParts t → PlaceParts (part_of name t)
unfolding part_of
place_parts name (token.Space v) a = either_place (is_html name && list_all is_space v) (whole no_trees []) (whole (text v no_trees) []) (tt, tt) ((a, tt), tt)
place_parts name (token.Text v) a = either_place (is_html name && list_all is_space v) (whole no_trees []) (whole (text v no_trees) []) (tt, tt) ((a, tt), tt)
place_parts name (token.Comment v) a = ((a, tt), tt)
place_parts name token.Doctype a = tt
place_parts name (token.EndTag x) a = tt
place_parts name (token.StartTag tag) a =
    either_place (is_allowed tag) _ misplaced (either_place (is_void tag.name) (whole (element tag no_trees no_trees) []) (opens tag) ((a, tt, tt), tt) a) tt
place_parts name (token.Raw tag raw) a =
    either_place (is_allowed tag) _ misplaced
    (either_place (is_script tag.name) (whole (element tag no_trees no_trees) (raw ∷ [])) (whole (element tag (text_alone raw.text) no_trees) [])
    ((a.0, tt, tt), (a.1, tt)) ((a.0, alone_parts raw.text a.1, tt), tt)) tt

-- the content of an element with its scripts, and the tokens after it
record ContentParts (f : Forest) (s : List RawText) (ts : List PageToken) : Type 0 where
  trees : ForestParts f
  scripts : ScriptsParts s
  behind : TokensParts ts

content_parts : {name : Text} {ts behind : List PageToken} {f : Forest} {s : List RawText} → Inside name ts behind f s → TokensParts ts → ContentParts f s behind
content_parts (ended name behind) a = record { trees = tt; scripts = tt; behind = a.1 }
content_parts (alone name t ts behind trees f s s' is later) a =
    let rest = content_parts later a.1 in
    let here : PlaceParts (whole trees s) = subst PlaceParts is (place_parts name t a.0) in
    record { trees = forests_parts trees f here.0 rest.trees; scripts = scripts_join s s' here.1 rest.scripts; behind = rest.behind }
content_parts (nested name tag t ts rest behind inner f s s' is inside later) a =
    let first = content_parts inside a.1 in
    let last = content_parts later first.behind in
    let here : PlaceParts (opens tag) = subst PlaceParts is (place_parts name t a.0) in
    record { trees = (here, first.trees, last.trees); scripts = scripts_join s s' first.scripts last.scripts; behind = last.behind }

-- ---- contents

new_literal : (k : Kind) → LiteralKind k → LiteralContent (new_content k)
new_literal k h = record { kind = h; attributes = tt; value = tt }

value_literal : (name v : Text) (as' : Pairs) → IsText name → IsText v → LiteralPairs as' → LiteralPairs (with_value_of name v as')
value_literal name v [] f g h = (f, g, tt)
value_literal name v (a ∷ as') f g h = by (bytes_eq a.0 name) (value_literal name v as' f g h.2)
  where
    by : (b : Bool) → LiteralPairs (with_value_of name v as') → LiteralPairs (cond b ((a.0, v) ∷ as') (a ∷ with_value_of name v as'))
    by true later = (h.0, g, h.2)
    by false later = (h.0, h.1, later)

with_literal : (c : Content) (as' : Pairs) → LiteralContent c → PairsParts as' → LiteralContent (with_all c as')
with_literal c [] h f = h
with_literal c (a ∷ as') h f = with_literal (with_first c a) as' (by (is_some (value_of (folded a.0) c.attributes))) f.1
  where
    by : (b : Bool) → LiteralContent (if b then c else record { kind = c.kind; attributes = with_value_of (folded a.0) a.1 c.attributes; value = c.value })
    by true = h
    by false = record {
      kind = h.kind;
      attributes = value_literal (folded a.0) a.1 c.attributes (part_text (folded a.0) (folded_part a.0 f.0.0)) (part_text a.1 f.0.1) h.attributes;
      value = h.value;
    }

element_literal : (tag : Tag) → TagParts tag → LiteralContent (element_content tag)
element_literal tag f =
    with_literal (new_content (kind.Element (folded tag.name))) tag.attributes
    (new_literal (kind.Element (folded tag.name)) (part_text (folded tag.name) (folded_part tag.name f.0))) f.1

-- ---- nodes

abbrev IsFit : Node → Type 0
IsFit m = LiteralContent m.content

none_literal : LiteralContent no_content
none_literal = new_literal (kind.Comment []) (part_text [] empty_part)

node_literal : (t : Nodes) (k : ℕ) → LiteralNodes t → LiteralContent (node_at t k).content
node_literal [] k a = none_literal
node_literal (m ∷ t) zero a = All-head IsFit m t a
node_literal (m ∷ t) (suc k) a = node_literal t k (All-tail IsFit m t a)

set_literal : (t : Nodes) (i : ℕ) (m : Node) → LiteralContent m.content → LiteralNodes t → LiteralNodes (slice_set t i m)
set_literal [] i m h a = a
set_literal (l ∷ t) zero m h a = All-cons IsFit m t h (All-tail IsFit l t a)
set_literal (l ∷ t) (suc i) m h a = All-cons IsFit l (slice_set t i m) (All-head IsFit l t a) (set_literal t i m h (All-tail IsFit l t a))

more_literal : (t : Nodes) (m : Node) → LiteralContent m.content → LiteralNodes t → LiteralNodes (t ++ m ∷ [])
more_literal [] m h a = All-cons IsFit m [] h (All-nil IsFit)
more_literal (l ∷ t) m h a = All-cons IsFit l (t ++ m ∷ []) (All-head IsFit l t a) (more_literal t m h (All-tail IsFit l t a))

placed_literal : (t : Nodes) (p c : NodeId) (l : List NodeId) (o : Option NodeId) → LiteralNodes t → LiteralNodes (with_parent (with_children t p l) c o)
placed_literal t p c l o a =
    let u = with_children t p l in
    let inner : LiteralNodes u = set_literal t p.0 _ (node_literal t p.0 a) a in
    set_literal u c.0 _ (node_literal u c.0 inner) inner

taken_literal : (t : Nodes) (c : NodeId) (o : Option NodeId) → LiteralNodes t → LiteralNodes (taken_from t c o)
taken_literal t c None a = a
taken_literal t c (Some p) a = placed_literal t p c (without c.0 (children_at t p.0)) None a

appended_literal : (t : Nodes) (p : NodeId) (c : Content) → LiteralContent c → LiteralNodes t → LiteralNodes (appended t p c)
appended_literal t p c h a =
    let u : Nodes = with_new t c in
    let new : LiteralNodes u = more_literal t _ h a in
    let k : NodeId = next_id t in
    let out : LiteralNodes (taken_out u k) = taken_literal u k (parent_at u k.0) new in
    placed_literal (taken_out u k) p k (put_before None k (children_at (taken_out u k) p.0)) (Some p) out

grown_literal : (f : Forest) (p : NodeId) (t : Nodes) → ForestParts f → LiteralNodes t → LiteralNodes (grown f p t)
grown_literal no_trees p t h a = a
grown_literal (element tag inner others) p t h a =
    let u : Nodes = appended t p (element_content tag) in
    grown_literal others p (grown inner (next_id t) u) h.2
    (grown_literal inner (next_id t) u h.1 (appended_literal t p (element_content tag) (element_literal tag h.0) a))
grown_literal (text v others) p t h a =
    let c : Content = new_content (kind.Text v) in
    grown_literal others p (appended t p c) h.1 (appended_literal t p c (new_literal (kind.Text v) (part_text v h.0)) a)
grown_literal (comment v others) p t h a =
    let c : Content = new_content (kind.Comment v) in
    grown_literal others p (appended t p c) h.1 (appended_literal t p c (new_literal (kind.Comment v) (part_text v h.0)) a)

document_literal : LiteralNodes document_alone
document_literal = All-cons IsFit _ [] (new_literal kind.Document tt) (All-nil IsFit)

pub page_literal : {ts : List PageToken} {t : Nodes} {s : List RawText} → TokensParts ts → PageOf ts t s → LiteralNodes t
page_literal fits (page ts tag inner scripts is) =
    let behind : TokensParts (token.StartTag tag ∷ is.content) = subst TokensParts is.begins (prolog_parts false ts fits) in
    grown_literal (element tag inner no_trees) (record { 0 = 0 }) document_alone (behind.0, (content_parts is.reads behind.1).trees, tt) document_literal

pub page_scripts : {ts : List PageToken} {t : Nodes} {s : List RawText} → TokensParts ts → PageOf ts t s → ScriptsParts s
page_scripts fits (page ts tag inner scripts is) =
    let behind : TokensParts (token.StartTag tag ∷ is.content) = subst TokensParts is.begins (prolog_parts false ts fits) in
    (content_parts is.reads behind.1).scripts
