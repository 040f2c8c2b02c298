-- How `save` ends.
use Rattle.std.proofs.Common.{◌≡◌, ℕ, ◌≤◌, List, [], ◌∷◌, Result, Ok as Good, Err, refl, ap, inl, inr, arith}
use Rattle.js_values.specs.declared.event.Event.{Event}
use Rattle.opened_pages.specs.Opened.{HaveNumbers}
use Rattle.page_io.specs.Seen.{FilesSeen, KeeperSeen, SinkSeen}
use Rattle.page_meaning.specs.Pages.{run_of}
use Rattle.page_writer.specs.Page.{saved_page}
use Rattle.outcomes.specs.declared.status.Status.{Status}
use Rattle.outcomes.specs.declared.status.Status.TheVariants.{Ok, TooLarge}
use Rattle.outcomes.specs.Seen.{Seen, seen_between, FilesLast, Lasts}
use Rattle.outcomes.specs.Stages.{PassesAll}
use Rattle.outcomes.specs.Work.{Answers}
use Rattle.outcomes.proofs.Callers.{ends_behind, ends_within, passes_both, refused}
use Rattle.read_files.specs.Page.{Page, opened}
use Rattle.read_files.specs.Reading.{AreRead, StopsReading}
use Rattle.read_files.specs.Replay.{HeldBoth}
use Rattle.read_files.specs.Stages.{reading}
use Rattle.read_files.proofs.Callers.{passes_reading, told_accepted_as, told_both}
use Rattle.migrate.specs.Moving.{IsAnswer, IsLight, unsaved_status}
use Rattle.migrate.specs.Saving.{Begins, CanBeSaved, IsMovable, IsTooLarge, SavedPagesMove, Saves}
use Rattle.migrate.specs.Stage.{moving, reading_to_move}
use Rattle.migrate.specs.declared.unsaved.Unsaved.{Unsaved}
use Rattle.migrate.specs.declared.unsaved.Unsaved.TheVariants as unsaved
use Rattle.migrate.proofs.Callers.{large, movable}
use Rattle.command_line.specs.Works.{saving}

abbrev pub failed : Unsaved → Result (Unit {0}) Unsaved
failed cause = Err cause

module _ (p e : List ℕ) (files files_now : FilesSeen) (out out_now : SinkSeen) (keeper : KeeperSeen) where
  abbrev seen : Seen
  seen = seen_between files files_now keeper keeper

  pub last : FilesLast files files_now → out.faults ≤ out_now.faults → Lasts seen out out_now
  last lasts later = record { content = lasts.content; reads = lasts.reads; calls = omega arith; puts = later }

  -- reading ends it
  pub save_stops : (status : Status) → StopsReading p e status files files_now → FilesLast files files_now → out_now ≡ out → Answers (saving p e) status seen out out_now
  save_stops status h lasts same =
      refused (saving p e) status seen out out_now (ends_within (reading p e) (moving p e ∷ []) status seen (h keeper keeper)) refl (ap (λ (s : SinkSeen). s.taken) same)
      (last lasts (omega (arith, ap (λ (s : SinkSeen). s.faults) same)))

  module _ (page : Page) (events : List Event) (read : AreRead (files.content p) (files.content e) page events) where
    of_both : (P : Page → List Event → Type 0) → P page events → HeldBoth seen p e P
    of_both P h = told_both (files.content p) (files.content e) page events P read h

    passes : (things : List ℕ) → CanBeSaved (run_of (opened page) events) things → PassesAll (reading_to_move p e) seen
    passes things can =
        passes_both (reading p e) (moving p e ∷ []) seen (passes_reading p e seen page events read) (of_both IsMovable (movable page events things can), tt)

    saved_text : SavedPagesMove → HaveNumbers page.kind page.scripts → (things : List ℕ) → CanBeSaved (run_of (opened page) events) things
        → HeldBoth seen p e (λ of list. Saves of list (saved_page (run_of (opened page) events) things))
    saved_text move numbered things can =
        told_accepted_as (files.content p) (files.content e) page events (λ of list. Saves of list (saved_page (run_of (opened page) events) things)) read
        (λ bytes is. move bytes page events things is read.sound numbered can)

    begun : (things : List ℕ) → IsLight (run_of (opened page) events) things → HeldBoth seen p e (λ of list. Begins of list (saved_page (run_of (opened page) events) things))
    begun things is = of_both (λ of list. Begins of list (saved_page (run_of (opened page) events) things)) (record {
      state = run_of (opened page) events;
      things = things;
      after = record { state = refl; walked = is.walked };
      little = is.little;
      saved = refl;
    })

    -- saving answers so
    pub saved_well : SavedPagesMove → HaveNumbers page.kind page.scripts → IsAnswer (run_of (opened page) events) out out_now (Good tt)
        → Lasts seen out out_now → Answers (saving p e) Ok seen out out_now
    saved_well move numbered a lasts = record {
      ends = inr (passes a.0 a.1, tt);
      puts = (saved_page (run_of (opened page) events) a.0, saved_text move numbered a.0 a.1, a.2);
      rows = refl;
      lasts = lasts;
    }

    pub not_saved : SavedPagesMove → (cause : Unsaved) → (¬ (failed cause ≡ failed unsaved.OutOfMemory) → HaveNumbers page.kind page.scripts)
        → IsAnswer (run_of (opened page) events) out out_now (failed cause) → Lasts seen out out_now → Answers (saving p e) (unsaved_status cause) seen out out_now
    not_saved move unsaved.WriteFault numbered a lasts = record {
      ends = inr (passes a.0 a.1, a.3);
      puts = (saved_page (run_of (opened page) events) a.0, saved_text move (numbered (λ e. cc)) a.0 a.1, a.2);
      rows = refl;
      lasts = lasts;
    }
    not_saved move (unsaved.TooLarge w) numbered a lasts = record {
      ends = inl (ends_behind (reading p e) (moving p e ∷ []) (TooLarge w) seen (passes_reading p e seen page events read)
          (inl (of_both (λ page events. IsTooLarge page events w) (large page events a.1.0 w a.1.1))));
      puts = ap (λ (s : SinkSeen). s.taken) a.0;
      rows = refl;
      lasts = lasts;
    }
    not_saved move unsaved.OutOfMemory numbered (inl a) lasts = record {
      ends = inl (inl tt);
      puts = inl (ap (λ (s : SinkSeen). s.taken) a);
      rows = refl;
      lasts = lasts;
    }
    not_saved move unsaved.OutOfMemory numbered (inr a) lasts = record {
      ends = inl (inl tt);
      puts = inr (saved_page (run_of (opened page) events) a.0, begun a.0 a.1, a.2);
      rows = refl;
      lasts = lasts;
    }
