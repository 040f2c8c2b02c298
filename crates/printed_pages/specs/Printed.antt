-- That printed scripts in the places of a page's scripts are accepted, that a script in the frame of a saved page is, and which trees the
-- scripts of accepted pages are.
use Rattle.std.specs.Prelude.{◌≡◌, ℕ, true, false, IsTrue, List, [], ◌∷◌, ◌++◌, codes, length, map}
use Rattle.std.specs.List.{All}
use Rattle.dom_tree.specs.Node.{Nodes}
use Rattle.js_core.specs.Tree as tree
use Rattle.js_grammar.specs.Syntax.{IsSyntax}
use Rattle.js_print.specs.Lined.{LinedAgain}
use Rattle.js_print.specs.Printing.{script_text}
use Rattle.js_print.specs.ReadAgain.{begins_strict}
use Rattle.page_check.specs.Accept.{IsAccepted}
use Rattle.page_check.specs.Rules.{Page}
use Rattle.page_check.specs.declared.page.Kind.TheVariants.{Form}
use Rattle.page_reader.specs.declared.page.ScriptText.{ScriptText}
use Rattle.page_reader.specs.Bytes.{IsPageOf}
use Rattle.page_reader.specs.Laws.{script_page}
use Rattle.page_reader.specs.Replacing.{as_form_page, form_mark, places_of}
use Rattle.script_rules.specs.FormScripts.{IsFormPageScript}

-- ---- in the places of a page's scripts

-- the form page with these nodes and scripts
abbrev pub form_page : Nodes → List tree.Stmts → Page
form_page nodes scripts = record { kind = Form; nodes = nodes; scripts = scripts }

-- where there are as many scripts as a page has, and each keeps the rules on trees and what a form page asks, and begins with the strict
-- directive, the page with their printed texts in place of its own is accepted as a form page with the same nodes and these scripts
abbrev pub PrintedPagesAreAccepted : Type 0
PrintedPagesAreAccepted =
    (bytes : List ℕ) (nodes : Nodes) (texts : List ScriptText) (scripts : List tree.Stmts) → IsPageOf bytes nodes texts → length scripts ≡ length texts
    → All IsSyntax scripts → All IsFormPageScript scripts → All (λ script. begins_strict script ≡ true) scripts
    → IsAccepted (as_form_page bytes (places_of texts) (map script_text scripts)) (form_page nodes scripts)

-- ---- in the frame of a saved page

-- what stands before the text of its script, and what stands after it
abbrev pub page_front : List ℕ
page_front = form_mark ++ codes "<html><script>"

abbrev pub page_back : List ℕ
page_back = codes "</script></html>"

abbrev pub framed : List ℕ → List ℕ
framed text = page_front ++ (text ++ page_back)

-- the page that it is with this script
abbrev pub framed_page : tree.Stmts → Page
framed_page script = form_page (script_page false) (script ∷ [])

-- where the text is read again as what a form page asks of a script, and this begins with the strict directive, it is accepted in this frame
abbrev pub FramedScriptsAreAccepted : Type 0
FramedScriptsAreAccepted =
    (script : tree.Stmts) (text : List ℕ) → IsFormPageScript script → IsTrue (begins_strict script) → LinedAgain script text
    → IsAccepted (framed text) (framed_page script)

-- ---- the scripts of accepted pages

-- each is a tree that some tokens have
abbrev pub AcceptedScriptsHaveSyntax : Type 0
AcceptedScriptsHaveSyntax = (bytes : List ℕ) (page : Page) → IsAccepted bytes page → All IsSyntax page.scripts

-- each begins with string literals as statements, one of which is the strict directive
abbrev pub AcceptedScriptsBeginStrict : Type 0
AcceptedScriptsBeginStrict = (bytes : List ℕ) (page : Page) → IsAccepted bytes page → All (λ script. begins_strict script ≡ true) page.scripts
