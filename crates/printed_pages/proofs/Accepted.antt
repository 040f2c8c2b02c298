-- That printed scripts are accepted in form pages.
use Rattle.std.proofs.Common.{◌≡◌, ◌∙◌, ap, ℕ, ◌≤◌, Bool, true, false, List, [], ◌∷◌, length, map, refl, sym, subst, arith}
use Rattle.std.specs.Prelude.{IsTrue, IsUtf8, nat_lt, ◌&&◌}
use Rattle.std.specs.List.{All, list_all}
use Rattle.std.proofs.lemmas.Bool.{and_parts, le-ltb, or_from, or_left}
use Rattle.std.proofs.lemmas.List.Elements.{All-head, All-tail}
use Rattle.dom_tree.specs.Node.{Nodes}
use Rattle.js_core.specs.Height.{stmts_height}
use Rattle.js_core.specs.Text.{Text, utf16_of}
use Rattle.js_core.specs.Tree as tree
use Rattle.js_grammar.specs.Scripts.{height_limit}
use Rattle.js_grammar.specs.Syntax.{IsSyntax}
use Rattle.js_print.specs.Laws.{is_free}
use Rattle.js_print.specs.Lined.{LinedAgain, is_lined}
use Rattle.js_print.specs.Printing.{script_text}
use Rattle.js_print.specs.ReadAgain.{ReadAgain, ScriptsAreReadAgain, begins_strict}
use Rattle.page_check.specs.Accept.{ArePageScripts, IsAccepted, IsPageScript, IsRead, IsStrictScript, is_too_deep, kind_of}
use Rattle.page_check.specs.declared.page.Kind.TheVariants.{Form}
use Rattle.page_reader.specs.declared.page.ScriptText.{ScriptText}
use Rattle.page_reader.specs.Bytes.{IsPageOf}
use Rattle.page_reader.specs.Laws.{IsScriptPage, script_page}
use Rattle.page_reader.specs.Replacing.{AreScriptBytes, IsReadAs, as_form_page, places_of}
use Rattle.page_reader.specs.Text.{with_line_feeds}
use Rattle.early_rules.specs.Limits.{form_height_limit}
use Rattle.script_rules.specs.Form.{has_high_function}
use Rattle.script_rules.specs.FormScripts.{IsFormPageScript}
use Rattle.printed_pages.specs.Printed.{FramedScriptsAreAccepted, PrintedPagesAreAccepted, form_page, framed}
use Rattle.printed_pages.proofs.Frames.{framed_is_utf8, is_framed, script_bytes}

-- such a script that a text has is that of a form page
form_is_page_script : (script : tree.Stmts) (text : List ℕ) → IsFormPageScript script → IsTrue (begins_strict script) → LinedAgain script text
    → IsPageScript Form (utf16_of text) script
form_is_page_script script text form strict again =
    let limited : stmts_height script ≤ height_limit = omega (arith, form.form.low) in
    let low : is_too_deep Form script ≡ false =
    or_from (nat_lt form_height_limit (stmts_height script)) (has_high_function script) (le-ltb form_height_limit (stmts_height script) form.form.low)
    form.functions in
    let read : IsRead (utf16_of text) again.tokens script = record { lexed = again.read; parsed = (again.derived, limited) } in
    let whole : IsStrictScript (utf16_of text) script = record { tokens = again.tokens; read = read; strict = again.strict strict } in
    record { low = record { orderly = record { strict = whole; orderly = form.form.orderly }; low = low }; formed = form.form.formed }

-- bytes that are read as these nodes and texts, which are those of scripts of a form page
accepted_as : (bytes : List ℕ) (nodes : Nodes) (texts : List Text) (scripts : List tree.Stmts) → kind_of bytes ≡ Form → IsReadAs bytes nodes texts
    → ArePageScripts Form texts scripts → IsAccepted bytes (form_page nodes scripts)
accepted_as bytes nodes texts scripts kind read are = record {
  texts = read.scripts;
  is_page = read.page;
  of_kind = sym kind;
  read = subst (λ (ts : List Text). ArePageScripts Form ts scripts) (sym read.texts_are) are;
}

-- ---- in the frame of a saved page

-- a page round one script is read as such
abbrev pub ScriptPages : Type 0
ScriptPages =
    (bytes : List ℕ) (with_body : Bool) (script : List ℕ) → IsUtf8 bytes → IsScriptPage (with_line_feeds (utf16_of bytes)) with_body script
    → IsReadAs bytes (script_page with_body) (script ∷ [])

pub framed_scripts_are_accepted : ScriptPages → FramedScriptsAreAccepted
framed_scripts_are_accepted pages script text form strict again =
    accepted_as (framed text) (script_page false) (utf16_of text ∷ []) (script ∷ []) refl
    (pages (framed text) false (utf16_of text) (framed_is_utf8 text again.utf8) (is_framed text again.utf8 again.no_tag_in_units again.no_control))
    (form_is_page_script script text form strict again, tt)

-- ---- in the places of a page's scripts

-- a printed text has no control character, so none but LF
all_lined : (us : List ℕ) → list_all is_free us ≡ true → list_all is_lined us ≡ true
all_lined [] h = refl
all_lined (u ∷ us) h =
    ap (λ (d : Bool). d && list_all is_lined us) (or_left (is_free u) _ (and_parts (is_free u) _ h).0) ∙ all_lined us (and_parts (is_free u) _ h).1

lined_again : (script : tree.Stmts) (text : List ℕ) → ReadAgain script text → LinedAgain script text
lined_again script text again = record {
  utf8 = again.utf8;
  no_tag_in_units = again.no_tag_in_units;
  no_control = all_lined (utf16_of text) again.no_control;
  tokens = again.tokens;
  read = again.read;
  derived = again.derived;
  strict = again.strict;
}

abbrev ReplacedScripts : Type 0
ReplacedScripts =
    (bytes : List ℕ) (nodes : Nodes) (scripts : List ScriptText) (texts : List (List ℕ)) → IsPageOf bytes nodes scripts → AreScriptBytes scripts texts
    → IsReadAs (as_form_page bytes (places_of scripts) texts) nodes (map utf16_of texts)

abbrev Begins : tree.Stmts → Type 0
Begins script = begins_strict script ≡ true

module _ (printed : ScriptsAreReadAgain) where
  may_stand : (texts : List ScriptText) (scripts : List tree.Stmts) → length scripts ≡ length texts → All IsSyntax scripts
      → AreScriptBytes texts (map script_text scripts)
  may_stand [] [] e syntax = tt
  may_stand (t ∷ ts) (script ∷ scripts) e syntax =
      let again = lined_again script (script_text script) (printed script (All-head IsSyntax script scripts syntax)) in
      (script_bytes (script_text script) again.utf8 again.no_tag_in_units again.no_control, may_stand ts scripts (omega (arith, e)) (All-tail IsSyntax script scripts syntax))
  may_stand [] (script ∷ scripts) e syntax = absurd (omega (arith, e))
  may_stand (t ∷ ts) [] e syntax = absurd (omega (arith, e))

  are_page_scripts : (scripts : List tree.Stmts) → All IsSyntax scripts → All IsFormPageScript scripts → All Begins scripts
      → ArePageScripts Form (map utf16_of (map script_text scripts)) scripts
  are_page_scripts [] syntax form strict = tt
  are_page_scripts (script ∷ scripts) syntax form strict =
      let again = lined_again script (script_text script) (printed script (All-head IsSyntax script scripts syntax)) in (
        form_is_page_script script (script_text script) (All-head IsFormPageScript script scripts form) (All-head Begins script scripts strict) again,
        are_page_scripts scripts (All-tail IsSyntax script scripts syntax) (All-tail IsFormPageScript script scripts form) (All-tail Begins script scripts strict),
      )

  pub printed_pages_are_accepted : ReplacedScripts → PrintedPagesAreAccepted
  printed_pages_are_accepted replaced bytes nodes texts scripts is e syntax form strict =
      accepted_as (as_form_page bytes (places_of texts) (map script_text scripts)) nodes (map utf16_of (map script_text scripts)) scripts refl
      (replaced bytes nodes texts (map script_text scripts) is (may_stand texts scripts e syntax)) (are_page_scripts scripts syntax form strict)
