-- The grammar of pages over their tokens.
use Rattle.std.specs.Prelude.{◌≡◌, Bool, true, false, ◌&&◌, List, [], ◌∷◌, ◌++◌, bytes_eq, codes, if◌then◌else◌}
use Rattle.std.specs.List.{list_all}
use Rattle.js_core.specs.Text.{Text}
use Rattle.dom_tree.specs.DomText.{is_void}
use Rattle.dom_tree.specs.Node.{Nodes, document_alone}
use Rattle.page_tokens.specs.declared.token.PageToken.{PageToken}
use Rattle.page_tokens.specs.declared.token.PageToken.TheVariants.{Comment, Doctype, EndTag, Raw, Space, StartTag}
use Rattle.page_tokens.specs.declared.token.PageToken.TheVariants as token
use Rattle.page_tokens.specs.declared.token.RawText.{RawText}
use Rattle.page_tokens.specs.declared.token.Tag.{Tag}
use Rattle.page_tokens.specs.Characters.{is_space}
use Rattle.page_reader.specs.Elements.{is_allowed, is_script}
use Rattle.page_reader.specs.Forest.{Forest, grown, joined}
use Rattle.page_reader.specs.Forest.Forest.{no_trees, element, text, comment}

-- what a token is in the content of an element: trees and scripts by itself, or the start tag of an element whose content
-- follows, or nothing that may stand there
pub data Part : Type 0 where
  whole : Forest → List RawText → Part
  opens : Tag → Part
  misplaced : Part

abbrev pub is_html : Text → Bool
is_html name = bytes_eq name (codes "html")

-- white space directly in `html` makes no node
abbrev pub text_part : Text → Text → Part
text_part parent v = if is_html parent && list_all is_space v then whole no_trees [] else whole (text v no_trees) []

abbrev pub start_part : Tag → Part
start_part tag = if is_void tag.name then whole (element tag no_trees no_trees) [] else opens tag

-- raw text that is not empty is a text
abbrev pub text_alone : Text → Forest
text_alone [] = no_trees
text_alone (u ∷ us) = text (u ∷ us) no_trees

-- the text of a script makes no node
abbrev pub raw_part : Tag → RawText → Part
raw_part tag raw =
    if is_script tag.name then whole (element tag no_trees no_trees) (raw ∷ []) else whole (element tag (text_alone raw.text) no_trees) []

-- what a token is in the content of an element with this name
unfoldable pub part_of : Text → PageToken → Part
part_of parent (Space v) = text_part parent v
part_of parent (token.Text v) = text_part parent v
part_of parent (Comment v) = whole (comment v no_trees) []
part_of parent (StartTag tag) = if is_allowed tag then start_part tag else misplaced
part_of parent (Raw tag raw) = if is_allowed tag then raw_part tag raw else misplaced
part_of parent Doctype = misplaced
part_of parent (EndTag name) = misplaced

-- the content of an element with this name and its end tag: the tokens, what stands behind them, the trees of the content,
-- and the scripts in it in their order
pub data Content : Text → List PageToken → List PageToken → Forest → List RawText → Type 0 where
  ended : (name : Text) (behind : List PageToken) → Content name (EndTag name ∷ behind) behind no_trees []
  alone : (name : Text) (t : PageToken) (ts behind : List PageToken) (trees f : Forest) (s s' : List RawText) → part_of name t ≡ whole trees s → Content name ts behind f s' → Content name (t ∷ ts) behind (joined trees f) (s ++ s')
  nested : (name : Text) (tag : Tag) (t : PageToken) (ts rest behind : List PageToken) (inner f : Forest) (s s' : List RawText) → part_of name t ≡ opens tag → Content tag.name ts rest inner s → Content name rest behind f s' → Content name (t ∷ ts) behind (element tag inner f) (s ++ s')

-- white space and comments
abbrev pub is_outside : PageToken → Bool
is_outside (Space v) = true
is_outside (Comment v) = true
is_outside t = false

-- what stands behind white space, comments and at most one doctype
abbrev pub behind_prolog : Bool → List PageToken → List PageToken
behind_prolog seen [] = []
behind_prolog seen (Space v ∷ ts) = behind_prolog seen ts
behind_prolog seen (Comment v ∷ ts) = behind_prolog seen ts
behind_prolog false (Doctype ∷ ts) = behind_prolog true ts
behind_prolog seen (t ∷ ts) = t ∷ ts

-- the tokens are those of a page: white space, comments and at most one doctype, the `html` element with its content, and
-- white space and comments
pub record IsPage (tokens : List PageToken) (tag : Tag) (inner : Forest) (scripts : List RawText) : Type 0 where
  pub content : List PageToken
  pub behind : List PageToken
  pub begins : behind_prolog false tokens ≡ StartTag tag ∷ content
  pub named : is_html tag.name ≡ true
  pub allowed : is_allowed tag ≡ true
  pub reads : Content tag.name content behind inner scripts
  pub ends : list_all is_outside behind ≡ true

-- the nodes of a page and its scripts in their order
pub data PageOf : List PageToken → Nodes → List RawText → Type 0 where
  page : (tokens : List PageToken) (tag : Tag) (inner : Forest) (scripts : List RawText) → IsPage tokens tag inner scripts → PageOf tokens (grown (element tag inner no_trees) (record { 0 = 0 }) document_alone) scripts
