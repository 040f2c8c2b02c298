use Rattle.std.proofs.Common.{List, Err, Ok as Good, refl, subst, sym}
use Rattle.page_meaning.specs.Pages.{run_of}
use Rattle.outcomes.specs.Seen.{seen_between}
use Rattle.outcomes.specs.Work.{Answers}
use Rattle.outcomes.specs.declared.status.Status.{Status}
use Rattle.read_files.specs.Page.{opened}
use Rattle.migrate.specs.Moving.{IsAnswer}
use Rattle.command_line.specs.Works.{saving}
use Rattle.command_line.proofs.Saved.{last, not_saved, save_stops, saved_well}
use Rattle.command_line.proofs.save.save.Goals as goal

pub returns-in-Err-clause-answers : goal.returns-in-Err-clause-answers
returns-in-Err-clause-answers g c keeper =
    save_stops c.args.page.now c.args.events.now (g.F.Files.seen c.args.files.now) (g.F.Files.seen c.read_session.new.files) (g.O.Sink.seen c.args.out.now)
    (g.O.Sink.seen c.args.out.now) keeper c.in-Err.status c.in-Err.ensures.stops c.in-Err.ensures.lasts refl

pub returns-in-Ok-save_page-clause-answers : goal.returns-in-Ok-save_page-clause-answers
returns-in-Ok-save_page-clause-answers g c keeper =
    let files = g.F.Files.seen c.args.files.now in
    let files_now = g.F.Files.seen c.read_session.new.files in
    let out = g.O.Sink.seen c.args.out.now in
    let out_now = g.O.Sink.seen c.save_page.new.out in
    saved_well c.args.page.now c.args.events.now files files_now out out_now keeper c.in-Ok.read.0 c.in-Ok.read.1.items c.in-Ok.ensures.ok
    c.law_saved_pages_move.ensures (c.in-Ok-save_page.ensures.numbered (λ e. cc))
    (subst (λ (l : List _). IsAnswer (run_of (opened c.in-Ok.read.0) l) out out_now (Good tt)) c.deref.ensures.value c.in-Ok-save_page.ensures.answer)
    (last c.args.page.now c.args.events.now files files_now out out_now keeper c.in-Ok.ensures.lasts c.in-Ok-save_page.ensures.later)

pub returns-clause-answers : goal.returns-clause-answers
returns-clause-answers g c keeper =
    let files = g.F.Files.seen c.args.files.now in
    let files_now = g.F.Files.seen c.read_session.new.files in
    let out = g.O.Sink.seen c.args.out.now in
    let out_now = g.O.Sink.seen c.save_page.new.out in
    subst (λ (s : Status). Answers (saving c.args.page.now c.args.events.now) s (seen_between files files_now keeper keeper) out out_now) (sym c.status.ensures)
    (not_saved c.args.page.now c.args.events.now files files_now out out_now keeper c.in-Ok.read.0 c.in-Ok.read.1.items c.in-Ok.ensures.ok
    c.law_saved_pages_move.ensures c.in-Err-save_page.cause c.in-Err-save_page.ensures.numbered
    (subst (λ (l : List _). IsAnswer (run_of (opened c.in-Ok.read.0) l) out out_now (Err c.in-Err-save_page.cause)) c.deref.ensures.value c.in-Err-save_page.ensures.answer)
    (last c.args.page.now c.args.events.now files files_now out out_now keeper c.in-Ok.ensures.lasts c.in-Err-save_page.ensures.later))
