-- What laws say of pages.
use Rattle.std.specs.Prelude.{◌≡◌, Bool, true, false, List, [], ◌∷◌, ◌++◌, codes}
use Rattle.std.specs.List.{list_all}
use Rattle.js_core.specs.Text.{Text}
use Rattle.dom_tree.specs.Node.{Nodes, document_alone}
use Rattle.page_tokens.specs.declared.token.PageToken.{PageToken}
use Rattle.page_tokens.specs.declared.token.RawText.{RawText}
use Rattle.page_tokens.specs.declared.token.Tag.{Tag}
use Rattle.page_tokens.specs.Laws.{has_end_tag}
use Rattle.page_tokens.specs.Tokens.{Tokens}
use Rattle.page_reader.specs.Bytes.{IsTextPage}
use Rattle.page_reader.specs.Forest.{Forest, grown}
use Rattle.page_reader.specs.Forest.Forest.{no_trees, element}
use Rattle.page_reader.specs.Pages.{is_outside}
use Rattle.page_reader.specs.Replacing.{form_mark}
use Rattle.page_reader.specs.Text.{has_zero, without_mark}

-- the text is white space and comments
pub record IsOutsideText (text : Text) : Type 0 where
  pub tokens : List PageToken
  pub reads : Tokens text tokens
  pub outside : list_all is_outside tokens ≡ true

-- two pages have the same nodes and scripts, and what the second text has more is white space and comments
pub record GoesOn (more : Text) (left right : Nodes) (first second : List RawText) : Type 0 where
  pub nodes : left ≡ right
  pub scripts : first ≡ second
  pub outside : IsOutsideText more

-- what may stand before a page round one script
pub data Mark : Type 0 where
  no_mark : Mark
  byte_order_mark : Mark
  form_page_mark : Mark

abbrev pub mark_text : Mark → Text
mark_text no_mark = []
mark_text byte_order_mark = 65279 ∷ []
mark_text form_page_mark = form_mark

-- what stands before the script in `html`: an empty body, or nothing
abbrev pub body_text : Bool → Text
body_text true = codes "<body></body>"
body_text false = []

-- the text is that of a page round one script: no end tag of a script begins in the script's text, in any case, and there is
-- no U+0000
pub record IsScriptPage (text : Text) (with_body : Bool) (script : Text) : Type 0 where
  pub mark : Mark
  pub whole : text ≡ mark_text mark ++ codes "<html>" ++ body_text with_body ++ codes "<script>" ++ script ++ codes "</script></html>"
  pub no_end : has_end_tag (codes "script") script ≡ false
  pub no_zero : has_zero text ≡ false

-- a start tag without attributes
abbrev pub bare_tag : Text → Tag
bare_tag name = record { name = name; attributes = []; closed = false }

-- a body without content, or none, and then a script without a child
abbrev pub script_trees : Bool → Forest
script_trees true = element (bare_tag (codes "body")) no_trees (element (bare_tag (codes "script")) no_trees no_trees)
script_trees false = element (bare_tag (codes "script")) no_trees no_trees

-- the nodes of such a page
abbrev pub script_page : Bool → Nodes
script_page with_body = grown (element (bare_tag (codes "html")) (script_trees with_body) no_trees) (record { 0 = 0 }) document_alone

-- the text, behind a byte order mark, is that of a page with these nodes and one script, whose text is this
pub record HasOneScript (text : Text) (nodes : Nodes) (script : Text) : Type 0 where
  pub raw : RawText
  pub page : IsTextPage (without_mark text) nodes (raw ∷ [])
  pub text_is : raw.text ≡ script
