-- The stage of moving excludes other causes, and at it there is a cause or it is passed; and what the answers of saving say of it.
use Rattle.std.proofs.Common.{◌≡◌, ℕ, List, [], ◌∷◌, refl, sym, ap, ◌∙◌}
use Rattle.heap_walker.specs.declared.weight.Weight.{Weight}
use Rattle.js_values.specs.declared.event.Event.{Event}
use Rattle.outcomes.specs.declared.status.Status.{Status}
use Rattle.outcomes.specs.declared.status.Status.TheVariants as status
use Rattle.outcomes.specs.Lawful.{AreDecided, AreExclusive, IsDecided, IsExclusive, nothing_before}
use Rattle.outcomes.specs.Seen.{Seen}
use Rattle.outcomes.specs.Stages.{StopsAt}
use Rattle.page_meaning.specs.Pages.{run_of}
use Rattle.read_files.specs.Page.{Page, opened}
use Rattle.read_files.specs.Replay.{HeldBoth}
use Rattle.read_files.proofs.Callers.{AnswersAreOne, after_reading, held_both, read_both, reading_decided_before, reading_exclusive_before}
use Rattle.migrate.specs.Moving.{IsLight, IsOverweight}
use Rattle.migrate.specs.Saving.{CanBeSaved, IsMovable, IsTooLarge}
use Rattle.migrate.specs.Stage.{moving, reading_to_move}
use Rattle.migrate.proofs.Outcomes.{large_or_little, one_weight, some_outcome}

module _ (page : Page) (events : List Event) (things : List ℕ) where
  pub large : (w : Weight) → IsOverweight (run_of (opened page) events) things w → IsTooLarge page events w
  large w over = record {
    state = run_of (opened page) events;
    things = things;
    after = record { state = refl; walked = over.walked };
    weighed = over.weighed;
    more = over.more;
  }

  pub light : IsLight (run_of (opened page) events) things → IsMovable page events
  light is = record {
    state = run_of (opened page) events;
    things = things;
    after = record { state = refl; walked = is.walked };
    little = is.little;
  }

  pub movable : CanBeSaved (run_of (opened page) events) things → IsMovable page events
  movable can = light (record { walked = can.walked; little = can.little })

stops_moving : (seen : Seen) (p e : List ℕ) (s : Status) → ¬ (s ≡ status.OutOfMemory) → StopsAt (moving p e) s seen
    → (w : Weight) × (s ≡ status.TooLarge w) × HeldBoth seen p e (λ page events. IsTooLarge page events w)
stops_moving seen p e (status.TooLarge w) n h = (w, refl, h)
stops_moving seen p e status.OutOfMemory n h = absurd (n refl)
stops_moving seen p e s n h = absurd h

pub moving_exclusive : AnswersAreOne → (p e : List ℕ) → IsExclusive (moving p e)
moving_exclusive laws p e = record {
  one = λ seen s t q n m h k.
      let a = stops_moving seen p e s n h in
      let b = stops_moving seen p e t m k in
      let same = held_both laws seen p e (λ page events. IsTooLarge page events a.0) (λ page events. IsTooLarge page events b.0) (a.0 ≡ b.0) q.told.0 q.told.1.0 a.2 b.2
      (λ page events x y. one_weight page events a.0 b.0 x y) in
      a.1 ∙ ap status.TooLarge same ∙ sym b.1;
  apart = λ seen s q n h pass.
      let a = stops_moving seen p e s n h in
      held_both laws seen p e (λ page events. IsTooLarge page events a.0) IsMovable ⊥ q.told.0 q.told.1.0 a.2 pass
      (λ page events x y. large_or_little page events a.0 x y);
}

-- where the page and the events were read
pub moving_decided : (given : Seen → Type 0) (p e : List ℕ) → IsDecided (after_reading given p e) (moving p e)
moving_decided given p e seen before asked behind never =
    read_both seen p e ⊥ before.0.0.1 before.0.1 before.1 asked.files.0 asked.files.1.0 λ page events held.
    some_outcome page events
    (λ w is. never (status.TooLarge w) (λ e. cc) (held (λ page events. IsTooLarge page events w) is))
    (λ is. behind (record { passes = held IsMovable is; none = never }))

-- ---- a page that is read, and moved

pub save_exclusive : AnswersAreOne → (p e : List ℕ) → AreExclusive (reading_to_move p e)
save_exclusive laws p e = reading_exclusive_before laws p e (moving p e ∷ []) (moving_exclusive laws p e, tt)

pub save_decided : AnswersAreOne → (p e : List ℕ) → AreDecided nothing_before (reading_to_move p e)
save_decided laws p e = reading_decided_before laws nothing_before p e (moving p e ∷ []) (moving_decided nothing_before p e, tt)
