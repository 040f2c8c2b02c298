-- That the text of a plain page with opened scopes is its own, with its opened scripts.
use Rattle.std.proofs.Common.{◌≡◌, ◌∙◌, ap, ℕ, List, map, Result, Ok, Err, IfOk}
use Rattle.std.specs.Prelude.{◌++◌}
use Rattle.instrumenter.specs.Opening.{open_scripts}
use Rattle.js_core.specs.Text.{utf16_of}
use Rattle.js_core.specs.Tree as tree
use Rattle.js_print.specs.Printing.{script_text}
use Rattle.page_check.specs.Accept.{AcceptedPage, IsAcceptedAt}
use Rattle.page_check.specs.declared.page.Kind.{Kind}
use Rattle.page_check.specs.declared.page.Kind.TheVariants.{Plain, Form}
use Rattle.page_reader.specs.declared.page.Place.{Place}
use Rattle.page_reader.specs.Replacing.{form_mark, replaced_from}
use Rattle.page_reader.specs.Text.{mark_size}
use Rattle.opened_pages.specs.Opened.{Opens, OpensAs}

abbrev texts_of_opened : List tree.Stmts → List (List ℕ)
texts_of_opened scripts = map script_text (open_scripts scripts)

-- where the text may be wanting
pub opens_as_plain : {T E : Type 0} (found : AcceptedPage) (bytes : List ℕ) (start : ℕ) (places : List Place) (scripts : List tree.Stmts) (text_of : T → List ℕ) (r : Result T E)
    → found.page.kind ≡ Plain → IsAcceptedAt bytes found → start ≡ found.start → places ≡ found.places → scripts ≡ found.page.scripts
    → IfOk r (λ t. text_of t ≡ form_mark ++ replaced_from start bytes places (texts_of_opened scripts)) → IfOk r (λ t. Opens bytes found.page (text_of t))
opens_as_plain found bytes start places scripts text_of (Ok t) is at s p same e = by found.page.kind is
  where
    whole : text_of t ≡ form_mark ++ replaced_from found.start bytes found.places (texts_of_opened found.page.scripts)
    whole =
        e ∙ ap (λ (n : ℕ). form_mark ++ replaced_from n bytes places (texts_of_opened scripts)) s
        ∙ ap (λ (ps : List Place). form_mark ++ replaced_from found.start bytes ps (texts_of_opened scripts)) p
        ∙ ap (λ (ss : List tree.Stmts). form_mark ++ replaced_from found.start bytes found.places (texts_of_opened ss)) same

    by : (kind : Kind) → kind ≡ Plain → OpensAs kind bytes found.page (text_of t)
    by Form off = absurd (cc)
    by Plain on = (
      at.accepted,
      whole ∙ ap (λ (n : ℕ). form_mark ++ replaced_from n bytes found.places (texts_of_opened found.page.scripts)) at.start
          ∙ ap (λ (ps : List Place). form_mark ++ replaced_from (mark_size (utf16_of bytes)) bytes ps (texts_of_opened found.page.scripts)) at.placed,
    )
opens_as_plain found bytes start places scripts text_of (Err f) is at s p same e = tt
