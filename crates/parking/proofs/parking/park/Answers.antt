use Rattle.std.proofs.Common.{ℕ, List, Err, refl, subst, sym}
use Rattle.page_meaning.specs.Pages.{run_of}
use Rattle.migrate.specs.Moving.{IsNotSaved, IsSaved}
use Rattle.read_files.specs.Page.{opened}
use Rattle.outcomes.specs.Seen.{seen_between}
use Rattle.outcomes.specs.Work.{Gives}
use Rattle.outcomes.specs.declared.status.Status.{Status}
use Rattle.parking.specs.Keeping.{IsKept}
use Rattle.parking.specs.Works.{parking}
use Rattle.parking.proofs.Parks.{park_gives, unsaved_stops}
use Rattle.parking.proofs.parking.park.Goals as goal

pub returns-clause-gives : goal.returns-clause-gives
returns-clause-gives g c =
    park_gives c.args.page.now c.args.events.now c.args.name.now (g.F.Files.seen c.args.files.now) (g.F.Files.seen c.read_session.new.files)
    (g.K.Keeper.seen c.args.keeper.now) (g.K.Keeper.seen c.keep.new.keeper) c.in-Ok.read.0 c.in-Ok.read.1.items c.in-Ok.ensures.ok
    c.law_saved_pages_move.ensures
    c.in-Ok-saved_text.text.items c.keep.result c.in-Ok-saved_text.ensures.numbered
    (subst (λ (l : List _). IsSaved (run_of (opened c.in-Ok.read.0) l) c.in-Ok-saved_text.text.items) c.deref.ensures.value c.in-Ok-saved_text.ensures.ok)
    (subst (λ (b : List ℕ). IsKept c.args.name.now b (g.K.Keeper.seen c.args.keeper.now) (g.K.Keeper.seen c.keep.new.keeper) c.keep.result)
    c.deref-2.ensures.value c.keep.ensures)

pub returns-in-Err-saved_text-clause-gives : goal.returns-in-Err-saved_text-clause-gives
returns-in-Err-saved_text-clause-gives g c =
    let seen = seen_between (g.F.Files.seen c.args.files.now) (g.F.Files.seen c.read_session.new.files) (g.K.Keeper.seen c.args.keeper.now) (g.K.Keeper.seen c.args.keeper.now) in
    subst (λ (s : Status). Gives (parking c.args.page.now c.args.events.now c.args.name.now) (Err s) seen) (sym c.status.ensures)
    (unsaved_stops c.args.page.now c.args.events.now c.args.name.now (g.F.Files.seen c.args.files.now) (g.F.Files.seen c.read_session.new.files)
    (g.K.Keeper.seen c.args.keeper.now) (g.K.Keeper.seen c.args.keeper.now) c.in-Ok.read.0 c.in-Ok.read.1.items c.in-Ok.ensures.ok c.in-Err-saved_text.cause
    (subst (λ (l : List _). IsNotSaved (run_of (opened c.in-Ok.read.0) l) c.in-Err-saved_text.cause) c.deref.ensures.value c.in-Err-saved_text.ensures.stops) refl)
