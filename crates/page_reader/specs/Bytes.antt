-- The bytes of a page, its nodes and its scripts.
use Rattle.std.specs.Prelude.{◌≡◌, ℕ, false, List, map}
use Rattle.std.specs.Str.{IsUtf8}
use Rattle.js_core.specs.Text.{Text, utf16_of}
use Rattle.dom_tree.specs.Node.{Nodes}
use Rattle.page_tokens.specs.declared.token.PageToken.{PageToken}
use Rattle.page_tokens.specs.declared.token.RawText.{RawText}
use Rattle.page_tokens.specs.Tokens.{Tokens}
use Rattle.page_reader.specs.declared.fault.PageError.{PageError}
use Rattle.page_reader.specs.declared.fault.PageError.TheVariants.{NotUtf8, NotPage}
use Rattle.page_reader.specs.declared.page.Place.{Place}
use Rattle.page_reader.specs.declared.page.ScriptText.{ScriptText}
use Rattle.page_reader.specs.Pages.{PageOf}
use Rattle.page_reader.specs.Text.{byte_place, has_zero, mark_size, page_text, without_mark}

-- the text is that of a page with these nodes and scripts: it has the tokens of the page
pub record IsTextPage (text : Text) (nodes : Nodes) (raws : List RawText) : Type 0 where
  pub tokens : List PageToken
  pub reads : Tokens text tokens
  pub is_page : PageOf tokens nodes raws

-- a script's place in a file's bytes, from its place in the page's text, before whose units so many bytes stand
abbrev pub place_of : ℕ → Text → RawText → Place
place_of skipped units raw = record { start = byte_place skipped units raw.start; end = byte_place skipped units raw.end }

-- a script with its place
abbrev pub script_of : ℕ → Text → RawText → ScriptText
script_of skipped units raw = record { text = raw.text; place = place_of skipped units raw }

-- the scripts with their places in the bytes of a file with these units
abbrev pub scripts_of : Text → List RawText → List ScriptText
scripts_of units raws = map (script_of (mark_size units) (without_mark units)) raws

-- the units of a file are those of a page with these nodes and scripts: none is U+0000, and behind a byte order mark, with
-- line ends made LF, stands the text of the page
pub record IsUnitsPage (units : Text) (nodes : Nodes) (scripts : List ScriptText) : Type 0 where
  pub raws : List RawText
  pub no_zero : has_zero units ≡ false
  pub text : IsTextPage (page_text units) nodes raws
  pub placed : scripts ≡ scripts_of units raws

-- the bytes are those of a page: they are UTF-8, and their units those of a page
pub record IsPageOf (bytes : List ℕ) (nodes : Nodes) (scripts : List ScriptText) : Type 0 where
  pub utf8 : IsUtf8 bytes
  pub units : IsUnitsPage (utf16_of bytes) nodes scripts

-- what each error says of the bytes
abbrev pub IsNoPage : List ℕ → PageError → Type 0
IsNoPage bytes NotUtf8 = ¬ IsUtf8 bytes
IsNoPage bytes NotPage = IsUtf8 bytes × ((nodes : Nodes) (scripts : List ScriptText) → IsPageOf bytes nodes scripts → ⊥)
