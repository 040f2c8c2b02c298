-- What `stress` does, and the stage at which its page is moved.
use Rattle.std.specs.Prelude.{ℕ, false, [], ◌∷◌}
use Rattle.outcomes.specs.Stages.{Stage}
use Rattle.outcomes.specs.Work.{Work, writing}
use Rattle.outcomes.specs.declared.status.Status.{Status}
use Rattle.outcomes.specs.declared.status.Status.TheVariants.{TooLarge}
use Rattle.stress.specs.Stress.{IsMovableHalfway, IsTooLargeHalfway, Measures}

abbrev pub StopsHalfway : ℕ → Status → Type 0
StopsHalfway n (TooLarge w) = IsTooLargeHalfway n w
StopsHalfway n status = ⊥

-- it takes what the generated page with so many parts is after the first half of its events, if that is little enough
abbrev pub halfway : ℕ → Stage
halfway n = record {
  files = [];
  asks = false;
  stops = λ status seen. StopsHalfway n status;
  passes = λ seen. IsMovableHalfway n;
}

abbrev pub stressing : ℕ → Work
stressing n = writing (halfway n ∷ []) (λ seen text. Measures n text)
