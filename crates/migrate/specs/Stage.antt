-- The stage at which a page is taken as it is after its events.
use Rattle.std.specs.Prelude.{ℕ, false, List, [], ◌∷◌, ◌++◌}
use Rattle.outcomes.specs.Seen.{Seen}
use Rattle.outcomes.specs.Stages.{Stage}
use Rattle.outcomes.specs.declared.status.Status.{Status}
use Rattle.outcomes.specs.declared.status.Status.TheVariants.{TooLarge}
use Rattle.read_files.specs.Replay.{HeldBoth}
use Rattle.read_files.specs.Stages.{reading}
use Rattle.migrate.specs.Saving.{IsMovable, IsTooLarge}

abbrev pub StopsAtMoving : List ℕ → List ℕ → Status → Seen → Type 0
StopsAtMoving p e (TooLarge w) seen = HeldBoth seen p e (λ page events. IsTooLarge page events w)
StopsAtMoving p e status seen = ⊥

-- it takes what the page of the one name is after the events of the other, if that is little enough
abbrev pub moving : List ℕ → List ℕ → Stage
moving p e = record {
  files = p ∷ e ∷ [];
  asks = false;
  stops = StopsAtMoving p e;
  passes = λ seen. HeldBoth seen p e IsMovable;
}

-- the stages of a page that is read, and moved
abbrev pub reading_to_move : List ℕ → List ℕ → List Stage
reading_to_move p e = reading p e ++ moving p e ∷ []
