-- No text and no bytes have two readings, where no text has two lists of tokens.
use Rattle.std.proofs.Common.{◌≡◌, ◌∙◌, ℕ, List, sym, ap, subst}
use Rattle.js_core.specs.Text.{utf16_of}
use Rattle.dom_tree.specs.Node.{Nodes}
use Rattle.page_tokens.specs.declared.token.PageToken.{PageToken}
use Rattle.page_tokens.specs.declared.token.RawText.{RawText}
use Rattle.page_tokens.specs.Tokens.{Tokens}
use Rattle.page_reader.specs.declared.page.ScriptText.{ScriptText}
use Rattle.page_reader.specs.Bytes.{IsPageOf, IsTextPage, scripts_of}
use Rattle.page_reader.specs.Pages.{PageOf}
use Rattle.page_reader.proofs.OnePage.{page_once}

pub text_once : ((text : List ℕ) (left right : List PageToken) → Tokens text left → Tokens text right → left ≡ right) → (text : List ℕ) (left right : Nodes) (first second : List RawText) → IsTextPage text left first → IsTextPage text right second → (left ≡ right) × (first ≡ second)
text_once once text left right first second p q =
    let same = once text p.tokens q.tokens p.reads q.reads in
    page_once p.tokens left right first second p.is_page (subst (λ x. PageOf x right second) (sym same) q.is_page)

pub bytes_once : ((text : List ℕ) (left right : List PageToken) → Tokens text left → Tokens text right → left ≡ right) → (bytes : List ℕ) (left right : Nodes) (first second : List ScriptText) → IsPageOf bytes left first → IsPageOf bytes right second → (left ≡ right) × (first ≡ second)
bytes_once once bytes left right first second p q =
    let same = text_once once _ left right p.units.raws q.units.raws p.units.text q.units.text in
    (same.0, p.units.placed ∙ ap (scripts_of (utf16_of bytes)) same.1 ∙ sym q.units.placed)
