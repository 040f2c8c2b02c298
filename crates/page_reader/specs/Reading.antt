-- What the code has yet to read: words of contracts inside the crate.
use Rattle.std.specs.Prelude.{◌≡◌, ℕ, Bool, true, false, ◌&&◌, List, [], ◌∷◌, ◌++◌, reverse, Option, Some, None, if◌then◌else◌}
use Rattle.std.specs.List.{list_all}
use Rattle.js_values.specs.declared.ids.NodeId.{NodeId}
use Rattle.dom_tree.specs.Node.{Nodes, is_element, kind_at}
use Rattle.page_tokens.specs.declared.token.PageToken.{PageToken}
use Rattle.page_tokens.specs.declared.token.PageToken.TheVariants.{Comment, Doctype, EndTag, Space, StartTag}
use Rattle.page_tokens.specs.declared.token.RawText.{RawText}
use Rattle.page_tokens.specs.declared.token.Tag.{Tag}
use Rattle.page_reader.specs.declared.tree.Frame.{Frame}
use Rattle.page_reader.specs.Elements.{is_allowed}
use Rattle.page_reader.specs.Forest.{Forest, appended, element_content, grown, next_id}
use Rattle.page_reader.specs.Pages.{Content, Part, is_html, is_outside}
use Rattle.page_reader.specs.Pages.Part.{whole, opens}

-- what a token made of the nodes and the scripts, and the element that it opened
abbrev pub Placed : Part → NodeId → Nodes → List RawText → Nodes → List RawText → Option Frame → Type 0
Placed (whole trees s) p t sc t' sc' None = (t' ≡ grown trees p t) × (sc' ≡ sc ++ s)
Placed (opens tag) p t sc t' sc' (Some frame) =
    (t' ≡ appended t p (element_content tag)) × (sc' ≡ sc) × (frame.name ≡ tag.name) × (frame.node ≡ next_id t)
Placed part p t sc t' sc' frame = ⊥

-- all open elements are elements
abbrev pub AreOpen : Nodes → List Frame → Type 0
AreOpen t [] = Unit {0}
AreOpen t (frame ∷ below) = (is_element (kind_at t frame.node.0) ≡ true) × AreOpen t below

-- elements stay elements
abbrev pub KeepsElements : Nodes → Nodes → Type 0
KeepsElements t t' = (k : ℕ) → is_element (kind_at t k) ≡ true → is_element (kind_at t' k) ≡ true

-- the tokens end the open elements, the innermost first, and then stands what may stand outside: the nodes and scripts at the
-- end, from those now
pub data Pending : List Frame → List PageToken → Nodes → List RawText → Nodes → List RawText → Type 0 where
  outside : (ts : List PageToken) (t : Nodes) (sc : List RawText) → list_all is_outside ts ≡ true → Pending [] ts t sc t sc
  inside : (frame : Frame) (below : List Frame) (ts behind : List PageToken) (f : Forest) (t t' : Nodes) (sc s sc' : List RawText) → Content frame.name ts behind f s → Pending below behind (grown f frame.node t) (sc ++ s) t' sc' → Pending (frame ∷ below) ts t sc t' sc'

-- what is pending of the first is pending of the second, and the other way round
pub record Follows (stack : List Frame) (ts : List PageToken) (t : Nodes) (sc : List RawText) (stack' : List Frame) (ts' : List PageToken) (t' : Nodes) (sc' : List RawText) : Type 0 where
  pub on : (u : Nodes) (s : List RawText) → Pending stack ts t sc u s → Pending stack' ts' t' sc' u s
  pub back : (u : Nodes) (s : List RawText) → Pending stack' ts' t' sc' u s → Pending stack ts t sc u s

-- the open elements, the innermost first: none, where `html` has ended
abbrev pub left : Bool → Frame → List Frame → List Frame
left true top below = []
left false top below = top ∷ reverse below

-- an element that was opened is the innermost
abbrev pub opened_on : Option Frame → List Frame → List Frame
opened_on None stack = stack
opened_on (Some frame) stack = frame ∷ stack

-- the tag of an `html` element that a page may have
abbrev pub html_tag : PageToken → Option Tag
html_tag (StartTag tag) = if is_html tag.name && is_allowed tag then Some tag else None
html_tag t = None

abbrev pub is_end_tag : PageToken → Bool
is_end_tag (EndTag name) = true
is_end_tag t = false

-- whether a doctype has come, behind a token of the prolog
abbrev pub after_token : Bool → PageToken → Option Bool
after_token seen (Space v) = Some seen
after_token seen (Comment v) = Some seen
after_token false Doctype = Some true
after_token seen t = None
