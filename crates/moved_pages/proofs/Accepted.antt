-- That the text of a saved page is accepted as a form page, with its script.
use Rattle.std.proofs.Common.{◌≡◌, ◌∙◌, ℕ, true, List, ◌++◌, refl, sym, ap, subst, append_assoc}
use Rattle.std.specs.Prelude.{codes}
use Rattle.js_print.specs.Lexemes.{stmts_lexemes}
use Rattle.js_print.specs.Lined.{LinedScriptsAreReadAgain, lined_text}
use Rattle.js_print.specs.ReadAgain.{begins_strict}
use Rattle.page_check.specs.Accept.{IsAccepted}
use Rattle.page_writer.specs.FormScripts.{SavedScriptsAreForm}
use Rattle.page_writer.specs.Page.{page_of, script_text}
use Rattle.page_writer.specs.Script.{saved_script}
use Rattle.printed_pages.proofs.Callers.{ScriptPages, framed_scripts_are_accepted}
use Rattle.printed_pages.specs.Printed.{framed, framed_page, page_front}
use Rattle.rebuild_plan.specs.Compact.{compact}
use Rattle.rebuild_plan.specs.Plan.{plan}
use Rattle.rebuild_plan.specs.declared.statement.Rebuild.{Rebuild}
use Rattle.moved_pages.specs.Accepted.{SavedPagesAreAccepted}
use Rattle.moved_pages.proofs.LinedPage.{page_marks, script_is_lined, script_may_be_lined}

saved_is_framed : (rs : List Rebuild) → page_of rs ≡ framed (lined_text (page_marks rs) (stmts_lexemes (saved_script rs)))
saved_is_framed rs =
    ap (λ (t : List ℕ). page_front ++ t) (append_assoc (script_text rs) (codes "</script>") (codes "</html>"))
    ∙ ap framed (sym (script_is_lined rs))

saved_begins_strict : (rs : List Rebuild) → begins_strict (saved_script rs) ≡ true
saved_begins_strict rs = refl

pub saved_pages_are_accepted : SavedScriptsAreForm → LinedScriptsAreReadAgain → ScriptPages → SavedPagesAreAccepted
saved_pages_are_accepted form lined pages s things still walk are =
    let rs = plan (compact s things) in
    let is = form s things still walk are in
    let again = lined (saved_script rs) (page_marks rs) is.0 (script_may_be_lined rs) in
    subst (λ (bytes : List ℕ). IsAccepted bytes (framed_page (saved_script rs))) (sym (saved_is_framed rs))
    (framed_scripts_are_accepted pages (saved_script rs) (lined_text (page_marks rs) (stmts_lexemes (saved_script rs))) is.1
    (saved_begins_strict rs) again)
