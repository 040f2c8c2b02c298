-- A page's text and its tokens.
use Rattle.std.specs.Prelude.{◌≡◌, ℕ, ◌+◌, ◌-◌, Bool, true, false, not, ◌&&◌, List, [], ◌∷◌, drop, length, Some}
use Rattle.std.specs.List.{list_all}
use Rattle.dom_tree.specs.Name.{folded, is_name_part}
use Rattle.page_tokens.specs.declared.opening.Opening.TheVariants as opening
use Rattle.page_tokens.specs.declared.token.PageToken.{PageToken}
use Rattle.page_tokens.specs.declared.token.PageToken.TheVariants.{Comment, Doctype, EndTag, Raw, Space, StartTag, Text}
use Rattle.page_tokens.specs.declared.token.RawText.{RawText}
use Rattle.page_tokens.specs.declared.token.Tag.{Tag}
use Rattle.page_tokens.specs.Attributes.{Attributes}
use Rattle.page_tokens.specs.Characters.{behind, is_other, is_space, run_of}
use Rattle.page_tokens.specs.References.{Decodes}
use Rattle.page_tokens.specs.Tags.{comment_of, doctype_of, end_tag_of, has_raw_text, opening_of, raw_text_of, tag_end}

-- the text begins with a start tag: what stands behind it
pub record StartTagAt (text rest : List ℕ) (tag : Tag) : Type 0 where
  pub opens : opening_of text ≡ opening.StartTag
  pub named : tag.name ≡ folded (run_of is_name_part (drop 1 text))
  pub end : List ℕ
  pub attributes : Attributes (behind is_name_part (drop 1 text)) end tag.attributes
  pub closes : tag_end end ≡ Some (tag.closed, rest)

-- raw text follows the start tag
abbrev pub begins_raw_text : Tag → Bool
begins_raw_text tag = not tag.closed && has_raw_text tag.name

-- raw text and its place in a text of so many units, from what stands behind the start tag
abbrev pub placed : ℕ → List ℕ → List ℕ → RawText
placed size content inner =
    record { text = inner; start = size - length content; end = (size - length content) + length inner }

-- the token with which the last part of a text of so many units begins, and what stands behind it. Text goes on to the
-- first `<`, and what is written as white space alone is told apart; an element with raw text is one token with its end tag.
pub data TokenAt (size : ℕ) : List ℕ → List ℕ → PageToken → Type 0 where
  space : (us : List ℕ) → opening_of us ≡ opening.Characters → list_all is_space (run_of (is_other 60) us) ≡ true → TokenAt size us (behind (is_other 60) us) (Space (run_of (is_other 60) us))
  text : (us value : List ℕ) → opening_of us ≡ opening.Characters → list_all is_space (run_of (is_other 60) us) ≡ false → Decodes (run_of (is_other 60) us) value → TokenAt size us (behind (is_other 60) us) (Text value)
  doctype : (us rest : List ℕ) → opening_of us ≡ opening.Doctype → doctype_of (drop 9 us) ≡ Some rest → TokenAt size us rest Doctype
  comment : (us inner rest : List ℕ) → opening_of us ≡ opening.Comment → comment_of (drop 4 us) ≡ Some (inner, rest) → TokenAt size us rest (Comment inner)
  end_tag : (us name rest : List ℕ) → opening_of us ≡ opening.EndTag → end_tag_of (drop 2 us) ≡ Some (name, rest) → TokenAt size us rest (EndTag (folded name))
  start_tag : (us rest : List ℕ) (tag : Tag) → StartTagAt us rest tag → begins_raw_text tag ≡ false → TokenAt size us rest (StartTag tag)
  raw : (us content inner rest : List ℕ) (tag : Tag) → StartTagAt us content tag → begins_raw_text tag ≡ true → raw_text_of tag.name content ≡ Some (inner, rest) → TokenAt size us rest (Raw tag (placed size content inner))

-- the tokens of the last part of a text of so many units
pub data TokensOf (size : ℕ) : List ℕ → List PageToken → Type 0 where
  none : TokensOf size [] []
  more : (text rest : List ℕ) (token : PageToken) (tokens : List PageToken) → TokenAt size text rest token → TokensOf size rest tokens → TokensOf size text (token ∷ tokens)

-- the text has these tokens
abbrev pub Tokens : List ℕ → List PageToken → Type 0
Tokens us tokens = TokensOf (length us) us tokens
