-- An opened page puts out the lines of the page.
use Rattle.std.proofs.Common.{◌≡◌, ◌∙◌, refl, sym, ap, List, ◌++◌, drop, length}
use Rattle.dom_tree.specs.Node.{Nodes}
use Rattle.dom_tree.specs.Sound.{IsSound}
use Rattle.js_core.specs.Tree as tree
use Rattle.js_values.specs.declared.event.Event.{Event}
use Rattle.js_values.specs.declared.line.Line.{Line}
use Rattle.agreement.proofs.Callers.{run_append}
use Rattle.agreement.specs.Laws.{PlainPagesAgree}
use Rattle.instrumenter.specs.Opening.{open_scripts}
use Rattle.page_check.specs.Accept.{IsAccepted, texts_of}
use Rattle.page_check.specs.declared.page.Kind.{Kind}
use Rattle.page_check.specs.declared.page.Kind.TheVariants.{Plain, Form}
use Rattle.page_meaning.specs.Pages.{Page as RunningPage, lines_after, lines_of_run, load_of}
use Rattle.page_meaning.specs.Store.{Store}
use Rattle.printed_pages.specs.Printed.{AcceptedScriptsHaveSyntax}
use Rattle.opened_pages.proofs.Accepted.{all_plain}
use Rattle.opened_pages.specs.Opened.{HaveNumbers, OpenedPagesPutOutTheSame, PutOutTheSame, opened_scripts}

-- ---- later events

after_is : (page : RunningPage) (earlier later : List Event)
    → lines_after page earlier later ≡ drop (length (lines_of_run page earlier)) (lines_of_run page (earlier ++ later))
after_is page earlier later =
    ap (λ (s : Store). drop (length (lines_of_run page earlier)) s.lines) (sym (run_append (load_of page) earlier later))

same_after : (page other : RunningPage) → ((es : List Event) → lines_of_run page es ≡ lines_of_run other es)
    → (earlier later : List Event) → lines_after page earlier later ≡ lines_after other earlier later
same_after page other same earlier later =
    after_is page earlier later
    ∙ ap (λ (ls : List Line). drop (length ls) (lines_of_run page (earlier ++ later))) (same earlier)
    ∙ ap (λ (ls : List Line). drop (length (lines_of_run other earlier)) ls) (same (earlier ++ later))
    ∙ sym (after_is other earlier later)

-- ---- the law

abbrev page_of : Nodes → List tree.Stmts → RunningPage
page_of nodes scripts = record { nodes = nodes; scripts = scripts }

pub opened_pages_put_out_the_same : PlainPagesAgree → AcceptedScriptsHaveSyntax → OpenedPagesPutOutTheSame
opened_pages_put_out_the_same agree syntax bytes page is sound numbered = by page.kind page.nodes page.scripts is sound numbered
  where
    by : (kind : Kind) (nodes : Nodes) (scripts : List tree.Stmts) → IsAccepted bytes (record { kind = kind; nodes = nodes; scripts = scripts }) → IsSound nodes
        → HaveNumbers kind scripts → PutOutTheSame (page_of nodes (opened_scripts kind scripts)) (page_of nodes scripts)
    by Form nodes scripts is sound numbered = record { all = λ es. refl; after = λ earlier later. refl }
    by Plain nodes scripts is sound numbered =
        let plain = all_plain (texts_of is.texts) scripts is.read (syntax bytes (record { kind = Plain; nodes = nodes; scripts = scripts }) is) in
        let one : RunningPage = page_of nodes (open_scripts scripts) in
        let other : RunningPage = page_of nodes scripts in
        let same : (es : List Event) → lines_of_run one es ≡ lines_of_run other es = λ es. agree other es sound plain numbered in
        record { all = same; after = same_after one other same }
