-- An accepted page is literal: its text is of 16-bit units and no longer than its bytes, and its scripts are trees of tokens that stand in it.
use Rattle.std.proofs.Common.{List, [], ◌∷◌, subst}
use Rattle.js_core.specs.Text.{Text, utf16_of}
use Rattle.js_core.specs.Tree as tree
use Rattle.js_print.specs.Written.{TokensCanBeWritten}
use Rattle.page_check.specs.Accept.{ArePageScripts, IsPageScript, texts_of}
use Rattle.page_check.specs.declared.page.Kind.{Kind}
use Rattle.page_reader.specs.Bytes.{scripts_of}
use Rattle.page_tokens.specs.declared.token.RawText.{RawText}
use Rattle.literal_values.specs.Trees.{LiteralScripts, LiteralStmts}
use Rattle.literal_values.specs.Values.{longest_name}
use Rattle.literal_pages.specs.Literal.{AcceptedPagesAreLiteral}
use Rattle.literal_pages.proofs.Bytes.{page_part}
use Rattle.literal_pages.proofs.InUnits.{all_units}
use Rattle.literal_pages.proofs.PageNodes.{ScriptsParts, page_literal, page_scripts}
use Rattle.literal_pages.proofs.PageTokens.{tokens_part}
use Rattle.literal_pages.proofs.Parts.{IsPart}
use Rattle.literal_pages.proofs.ScriptStatements.{derived_is_literal}
use Rattle.literal_pages.proofs.ScriptSymbols.{symbols_literal}
use Rattle.literal_pages.proofs.ScriptTokens.{tokens_short}

pub script_is_literal : TokensCanBeWritten → (kind : Kind) (text : Text) (script : tree.Stmts) → IsPart text → IsPageScript kind text script → LiteralStmts script
script_is_literal written kind text script part is =
    let strict = is.low.orderly.strict in
    let writes = written text strict.tokens (all_units text part.units) strict.read.lexed in
    derived_is_literal strict.tokens script (symbols_literal strict.tokens writes (tokens_short longest_name part.short strict.read.lexed)) strict.read.parsed.0

scripts_are_literal : TokensCanBeWritten → (kind : Kind) (units : Text) (raws : List RawText) (scripts : List tree.Stmts) → ScriptsParts raws
    → ArePageScripts kind (texts_of (scripts_of units raws)) scripts → LiteralScripts scripts
scripts_are_literal written kind units [] [] h is = tt
scripts_are_literal written kind units (raw ∷ raws) (script ∷ scripts) h is =
    (script_is_literal written kind raw.text script h.0 is.0, scripts_are_literal written kind units raws scripts h.1 is.1)
scripts_are_literal written kind units [] (script ∷ scripts) h is = absurd is
scripts_are_literal written kind units (raw ∷ raws) [] h is = absurd is

pub accepted_pages_are_literal : TokensCanBeWritten → AcceptedPagesAreLiteral
accepted_pages_are_literal written bytes page is short =
    let found = is.is_page.units in
    let parts = tokens_part found.text.reads (page_part bytes is.is_page.utf8 short) in (
      page_literal parts found.text.is_page,
      scripts_are_literal written page.kind (utf16_of bytes) found.raws page.scripts (page_scripts parts found.text.is_page)
          (subst (λ texts. ArePageScripts page.kind (texts_of texts) page.scripts) found.placed is.read),
    )
