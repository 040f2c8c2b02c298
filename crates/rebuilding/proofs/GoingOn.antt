-- Under each list of later events a rebuilt page puts out the same lines as the page that was saved.
use Rattle.std.proofs.Common.{◌≡◌, sym, ap, ◌∙◌, List, drop, length}
use Rattle.js_values.specs.declared.line.Line.{Line}
use Rattle.page_meaning.specs.Pages.{load_of, run_all}
use Rattle.page_meaning.specs.Store.{Store}
use Rattle.page_writer.specs.Script.{saved_in_frame}
use Rattle.rebuild_plan.specs.Compact.{compact}
use Rattle.rebuild_plan.specs.Plan.{plan}
use Rattle.agreement.specs.Laws.{EventsAgree}
use Rattle.rebuilding.specs.Laws.{RebuiltPagesGoOn, ScriptsRebuild}

pub rebuilt_pages_go_on : EventsAgree → ScriptsRebuild → RebuiltPagesGoOn
rebuilt_pages_go_on events scripts s things later can =
    let t : Store = load_of (saved_in_frame (plan (compact s things))) in
    let loaded = scripts s things can in
    let same : drop (length s.lines) (run_all s later).lines ≡ drop (length t.lines) (run_all t later).lines =
    events loaded.1.world s t later loaded.1.trees loaded.1.stores
    in
    let none : drop (length t.lines) (run_all t later).lines ≡ (run_all t later).lines =
    ap (λ (ls : List Line). drop (length ls) (run_all t later).lines) loaded.0
    in
    sym none ∙ sym same
