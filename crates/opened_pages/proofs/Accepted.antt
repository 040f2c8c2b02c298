-- That the text of a page with opened scopes is accepted as a form page.
use Rattle.std.proofs.Common.{◌≡◌, refl, sym, ap, subst, ℕ, suc, ◌+◌, Bool, true, false, List, [], ◌∷◌, length}
use Rattle.std.specs.Prelude.{◌||◌, bytes_eq, codes}
use Rattle.std.specs.List.{All}
use Rattle.std.proofs.lemmas.Bool.{ltb-false, not-true}
use Rattle.std.proofs.lemmas.List.Elements.{All-cons, All-head, All-nil, All-tail}
use Rattle.dom_tree.specs.Node.{Nodes}
use Rattle.early_rules.specs.Limits.{plain_height_limit}
use Rattle.instrumenter.specs.Around.{top}
use Rattle.instrumenter.specs.Counting.{stmts_scopes}
use Rattle.instrumenter.specs.Opened.{IsPlainScript, OpenedScriptsAreForm}
use Rattle.instrumenter.specs.Opening.{open_from, open_script, open_scripts, open_tops}
use Rattle.js_core.specs.Height.{stmts_height}
use Rattle.js_core.specs.Tree as tree
use Rattle.js_core.specs.Tree.{no_stmts, then_stmt}
use Rattle.js_grammar.specs.Syntax.{IsSyntax}
use Rattle.js_print.specs.ReadAgain.{begins_strict}
use Rattle.page_check.specs.Accept.{ArePageScripts, IsAccepted, IsPageScript, texts_of}
use Rattle.page_check.specs.Rules.{Page}
use Rattle.page_check.specs.declared.page.Kind.{Kind}
use Rattle.page_check.specs.declared.page.Kind.TheVariants.{Plain, Form}
use Rattle.page_reader.specs.declared.page.ScriptText.{ScriptText}
use Rattle.page_reader.specs.Replacing.{places_of}
use Rattle.printed_pages.specs.Printed.{AcceptedScriptsBeginStrict, AcceptedScriptsHaveSyntax, PrintedPagesAreAccepted, form_page}
use Rattle.script_rules.specs.Form.{has_reserved_name}
use Rattle.script_rules.specs.FormScripts.{IsFormPageScript}
use Rattle.opened_pages.specs.Opened.{OpenedPagesAreAccepted, OpensAs, opened_scripts, opened_text}

-- ---- directives stay where they are

begins_opened : (n : ℕ) (script : tree.Stmts) → begins_strict script ≡ true → begins_strict (open_tops (top true) n script) ≡ true
begins_opened n (then_stmt (tree.expr (tree.text t)) ss) h = by (bytes_eq t (codes "use strict")) h (λ more. begins_opened (n + 0) ss more)
  where
    by : (b : Bool) → (b || begins_strict ss) ≡ true → (begins_strict ss ≡ true → begins_strict (open_tops (top true) (n + 0) ss) ≡ true)
        → (b || begins_strict (open_tops (top true) (n + 0) ss)) ≡ true
    by true h later = refl
    by false h later = later h
begins_opened n ss h = cc h

-- ---- scripts

-- a script of an accepted plain page can be opened
pub plain_script : (text : List ℕ) (script : tree.Stmts) → IsPageScript Plain text script → IsSyntax script → IsPlainScript script
plain_script text script is syntax = record {
  syntax = syntax;
  orderly = is.low.orderly.orderly;
  low = ltb-false plain_height_limit (stmts_height script) is.low.low;
  plain = not-true (has_reserved_name script) is.formed;
}

pub all_plain : (texts : List (List ℕ)) (scripts : List tree.Stmts) → ArePageScripts Plain texts scripts → All IsSyntax scripts → All IsPlainScript scripts
all_plain [] [] read syntax = All-nil IsPlainScript
all_plain (text ∷ texts) (script ∷ scripts) read syntax =
    All-cons IsPlainScript script scripts (plain_script text script read.0 (All-head IsSyntax script scripts syntax))
    (all_plain texts scripts read.1 (All-tail IsSyntax script scripts syntax))
all_plain [] (script ∷ scripts) read syntax = absurd read
all_plain (text ∷ texts) [] read syntax = absurd read

-- there are as many opened scripts as the page has
as_many : (n : ℕ) (texts : List ScriptText) (scripts : List tree.Stmts) → ArePageScripts Plain (texts_of texts) scripts → length (open_from n scripts) ≡ length texts
as_many n [] [] read = refl
as_many n (text ∷ texts) (script ∷ scripts) read = ap suc (as_many (n + stmts_scopes script) texts scripts read.1)
as_many n [] (script ∷ scripts) read = absurd read
as_many n (text ∷ texts) [] read = absurd read

abbrev Begins : tree.Stmts → Type 0
Begins script = begins_strict script ≡ true

all_begin : (n : ℕ) (scripts : List tree.Stmts) → All Begins scripts → All Begins (open_from n scripts)
all_begin n [] h = All-nil Begins
all_begin n (script ∷ scripts) h =
    All-cons Begins (open_script n script) (open_from (n + stmts_scopes script) scripts) (begins_opened n script (All-head Begins script scripts h))
    (all_begin (n + stmts_scopes script) scripts (All-tail Begins script scripts h))

module _ (formed : OpenedScriptsAreForm) where
  all_syntax : (n : ℕ) (scripts : List tree.Stmts) → All IsPlainScript scripts → All IsSyntax (open_from n scripts)
  all_syntax n [] h = All-nil IsSyntax
  all_syntax n (script ∷ scripts) h =
      All-cons IsSyntax (open_script n script) (open_from (n + stmts_scopes script) scripts) (formed n script (All-head IsPlainScript script scripts h)).0
      (all_syntax (n + stmts_scopes script) scripts (All-tail IsPlainScript script scripts h))

  all_form : (n : ℕ) (scripts : List tree.Stmts) → All IsPlainScript scripts → All IsFormPageScript (open_from n scripts)
  all_form n [] h = All-nil IsFormPageScript
  all_form n (script ∷ scripts) h =
      All-cons IsFormPageScript (open_script n script) (open_from (n + stmts_scopes script) scripts) (formed n script (All-head IsPlainScript script scripts h)).1
      (all_form (n + stmts_scopes script) scripts (All-tail IsPlainScript script scripts h))

module _ (formed : OpenedScriptsAreForm) (printed : PrintedPagesAreAccepted) (syntax : AcceptedScriptsHaveSyntax) (strict : AcceptedScriptsBeginStrict) where
  plain_is_accepted : (bytes : List ℕ) (nodes : Nodes) (scripts : List tree.Stmts) (is : IsAccepted bytes (record { kind = Plain; nodes = nodes; scripts = scripts }))
      → IsAccepted (opened_text bytes (places_of is.texts) scripts) (form_page nodes (open_scripts scripts))
  plain_is_accepted bytes nodes scripts is =
      let page : Page = record { kind = Plain; nodes = nodes; scripts = scripts } in
      let plain = all_plain (texts_of is.texts) scripts is.read (syntax bytes page is) in
      printed bytes nodes is.texts (open_scripts scripts) is.is_page (as_many 1 is.texts scripts is.read) (all_syntax formed 1 scripts plain)
      (all_form formed 1 scripts plain) (all_begin 1 scripts (strict bytes page is))

  by_kind : (bytes : List ℕ) (kind : Kind) (nodes : Nodes) (scripts : List tree.Stmts) (text : List ℕ) → IsAccepted bytes (record { kind = kind; nodes = nodes; scripts = scripts })
      → OpensAs kind bytes (record { kind = kind; nodes = nodes; scripts = scripts }) text → IsAccepted text (form_page nodes (opened_scripts kind scripts))
  by_kind bytes Form nodes scripts text is opens = subst (λ (t : List ℕ). IsAccepted t (form_page nodes scripts)) (sym opens) is
  by_kind bytes Plain nodes scripts text is opens =
      subst (λ (t : List ℕ). IsAccepted t (form_page nodes (open_scripts scripts))) (sym opens.1) (plain_is_accepted bytes nodes scripts opens.0)

  pub opened_pages_are_accepted : OpenedPagesAreAccepted
  opened_pages_are_accepted bytes page text is opens = by_kind bytes page.kind page.nodes page.scripts text is opens
