-- That generated pages are accepted.
use Rattle.std.proofs.Common.{◌≡◌, ◌∙◌, ℕ, ◌≤◌, Bool, true, List, [], ◌∷◌, ◌++◌, refl, sym, ap, subst, arith}
use Rattle.std.specs.Prelude.{not, codes, IsUtf8}
use Rattle.std.specs.List.{list_all}
use Rattle.std.proofs.lemmas.Bool.{and_from}
use Rattle.std.proofs.lemmas.List.Folds.{list_all-append}
use Rattle.std.proofs.lemmas.Str.{IsUtf8-append}
use Rattle.js_core.specs.Height.{stmts_height}
use Rattle.js_core.specs.Text.{Text, utf16_of}
use Rattle.js_core.specs.Whole.{largest}
use Rattle.js_grammar.specs.Scripts.{height_limit}
use Rattle.js_print.specs.Laws.{HasNoEndTag}
use Rattle.js_print.specs.Lined.{LinedAgain, is_lined}
use Rattle.js_print.proofs.Callers.{ended_scripts_are_read_again}
use Rattle.page_check.specs.Accept.{ArePageScripts, IsAccepted, IsPageScript, IsRead, IsStrictScript}
use Rattle.page_check.specs.declared.page.Kind.TheVariants.{Plain}
use Rattle.page_maker.specs.Page.{page, tail}
use Rattle.page_reader.specs.Laws.{IsScriptPage, body_text, mark_text, script_page}
use Rattle.page_reader.specs.Laws.Mark.{no_mark}
use Rattle.page_reader.specs.Replacing.{IsReadAs}
use Rattle.page_reader.specs.Text.{has_zero, with_line_feeds}
use Rattle.printed_pages.proofs.Callers.{Same, ScriptPages, all_stay, no_end_tag, same_units, stays, units_join, with_same, zero_free}
use Rattle.generated_pages.specs.Pages.{PagesAreAccepted, plain_page}
use Rattle.generated_pages.proofs.Rules.{breaks_no_rule, has_no_reserved_name, is_low, is_not_too_high}
use Rattle.generated_pages.proofs.Script.{made_script}
use Rattle.generated_pages.proofs.Syntax.{script_is}
use Rattle.generated_pages.proofs.Texts.{script_is_lined, script_lines, script_may, script_text}

-- ---- the script

script_again : (n : ℕ) → n ≤ largest → LinedAgain (made_script n) (script_text n)
script_again n h =
    subst (LinedAgain (made_script n)) (script_is_lined n) (ended_scripts_are_read_again (made_script n) (script_lines n) (script_is n h) (script_may n))

is_page_script : (n : ℕ) → n ≤ largest → IsPageScript Plain (utf16_of (script_text n)) (made_script n)
is_page_script n h =
    let again = script_again n h in
    let low = is_low n in
    let limited : stmts_height (made_script n) ≤ height_limit = omega (arith, low) in
    let read : IsRead (utf16_of (script_text n)) again.tokens (made_script n) = record { lexed = again.read; parsed = (again.derived, limited) } in
    let whole : IsStrictScript (utf16_of (script_text n)) (made_script n) = record { tokens = again.tokens; read = read; strict = again.strict refl } in
    record { low = record { orderly = record { strict = whole; orderly = breaks_no_rule n }; low = is_not_too_high n }; formed = ap (λ (b : Bool). not b) (has_no_reserved_name n) }

-- ---- the page round it

abbrev front : List ℕ
front = codes "<html><body></body><script>"

abbrev framed : List ℕ → List ℕ
framed text = front ++ (text ++ tail)

page_is_framed : (n : ℕ) → page n ≡ framed (script_text n)
page_is_framed n = refl

front_same : Same front
front_same = same_units front refl refl refl

tail_same : Same tail
tail_same = same_units tail refl refl refl

framed_is_utf8 : (t : List ℕ) → IsUtf8 t → IsUtf8 (framed t)
framed_is_utf8 t u = IsUtf8-append front (t ++ tail) front_same.utf8 (IsUtf8-append t tail u tail_same.utf8)

framed_units : (t : List ℕ) → IsUtf8 t → utf16_of (framed t) ≡ framed (utf16_of t)
framed_units t u =
    units_join front (t ++ tail) front_same.utf8 (IsUtf8-append t tail u tail_same.utf8) ∙ ap (λ (x : List ℕ). x ++ utf16_of (t ++ tail)) front_same.units
    ∙ ap (λ (x : List ℕ). front ++ x) (units_join t tail u tail_same.utf8 ∙ ap (λ (x : List ℕ). utf16_of t ++ x) tail_same.units)

framed_stays : (us : List ℕ) → list_all stays us ≡ true → list_all stays (framed us) ≡ true
framed_stays us all = list_all-append stays us tail ∙ and_from _ _ all refl

framed_whole : (us : List ℕ) → framed us ≡ mark_text no_mark ++ codes "<html>" ++ body_text true ++ codes "<script>" ++ us ++ codes "</script></html>"
framed_whole us = refl

is_script_page : (t : List ℕ) → IsUtf8 t → HasNoEndTag (utf16_of t) → list_all is_lined (utf16_of t) ≡ true
    → IsScriptPage (with_line_feeds (utf16_of (framed t))) true (utf16_of t)
is_script_page t u none lined =
    let units = utf16_of t in
    let kept = framed_stays units (all_stay units lined) in
    let same = ap with_line_feeds (framed_units t u) ∙ with_same (framed units) kept in
    record { mark = no_mark; whole = same ∙ framed_whole units; no_end = no_end_tag units none; no_zero = ap has_zero same ∙ zero_free (framed units) kept }

is_accepted : ScriptPages → (n : ℕ) → n ≤ largest → IsAccepted (framed (script_text n)) (plain_page (made_script n))
is_accepted pages n h =
    let again = script_again n h in
    let text = script_text n in
    let read : IsReadAs (framed text) (script_page true) (utf16_of text ∷ []) =
    pages (framed text) true (utf16_of text) (framed_is_utf8 text again.utf8) (is_script_page text again.utf8 again.no_tag_in_units again.no_control) in
    let are : ArePageScripts Plain (utf16_of text ∷ []) (made_script n ∷ []) = (is_page_script n h, tt) in
    record {
      texts = read.scripts;
      is_page = read.page;
      of_kind = refl;
      read = subst (λ (ts : List Text). ArePageScripts Plain ts (made_script n ∷ [])) (sym read.texts_are) are;
    }

pub pages_are_accepted : ScriptPages → PagesAreAccepted
pages_are_accepted pages n h =
    (made_script n, subst (λ (bytes : List ℕ). IsAccepted bytes (plain_page (made_script n))) (sym (page_is_framed n)) (is_accepted pages n h))
