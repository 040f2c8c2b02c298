-- What is asked of stages, so that the causes of a command's end exclude each other and there is always one.
use Rattle.std.specs.Prelude.{◌≡◌, ℕ, ◌⊎◌, true, List, [], ◌∷◌, Some, None}
use Rattle.page_io.specs.Faults.{Rose}
use Rattle.outcomes.specs.Seen.{Seen, ReadFailed}
use Rattle.outcomes.specs.Stages.{Stage, StopsAt}
use Rattle.outcomes.specs.declared.status.Status.{Status}
use Rattle.outcomes.specs.declared.status.Status.TheVariants.{OutOfMemory}

-- ---- causes exclude each other where what a command asks for is told, and nothing of it failed

-- it is told what each of the names holds
abbrev pub AreTold : Seen → List (List ℕ) → Type 0
AreTold seen [] = Unit {0}
AreTold seen (name ∷ names) = ¬ (seen.files_before.content name ≡ None) × AreTold seen names

-- of a stage: what its files hold is told and no read failed, where it speaks of one; the rows are and no call failed, where it asks the keeper
pub record IsQuietAt (g : Stage) (seen : Seen) : Type 0 where
  pub told : AreTold seen g.files
  pub reads : ¬ (g.files ≡ []) → ¬ Rose seen.files_before.faults seen.files_now.faults
  pub rows : g.asks ≡ true → ¬ (seen.keeper_before.table ≡ None)
  pub calls : g.asks ≡ true → ¬ Rose seen.keeper_before.faults seen.keeper_now.faults

abbrev pub AreQuiet : List Stage → Seen → Type 0
AreQuiet [] seen = Unit {0}
AreQuiet (g ∷ gs) seen = IsQuietAt g seen × AreQuiet gs seen

-- two statuses that are not want of memory do not end a command at the stage at once, and none does where it is passed
pub record IsExclusive (g : Stage) : Type 0 where
  pub one : (seen : Seen) (status other : Status) → IsQuietAt g seen → ¬ (status ≡ OutOfMemory) → ¬ (other ≡ OutOfMemory)
      → StopsAt g status seen → StopsAt g other seen → status ≡ other
  pub apart : (seen : Seen) (status : Status) → IsQuietAt g seen → ¬ (status ≡ OutOfMemory) → StopsAt g status seen → ¬ g.passes seen

abbrev pub AreExclusive : List Stage → Type 0
AreExclusive [] = Unit {0}
AreExclusive (g ∷ gs) = IsExclusive g × AreExclusive gs

-- ---- there is always a cause

-- it is told that the name holds bytes, or a read of it failed
abbrev pub IsReadOrFailed : Seen → List ℕ → Type 0
IsReadOrFailed seen name = ((bytes : List ℕ) × (seen.files_before.content name ≡ Some (Some bytes))) ⊎ ReadFailed name seen.files_before seen.files_now

abbrev pub AreReadOrFailed : Seen → List (List ℕ) → Type 0
AreReadOrFailed seen [] = Unit {0}
AreReadOrFailed seen (name ∷ names) = IsReadOrFailed seen name × AreReadOrFailed seen names

-- so it is of the files of a stage, and the rows are told where it asks the keeper
pub record IsAskedAt (g : Stage) (seen : Seen) : Type 0 where
  pub files : AreReadOrFailed seen g.files
  pub rows : g.asks ≡ true → ¬ (seen.keeper_before.table ≡ None)

abbrev pub AreAsked : List Stage → Seen → Type 0
AreAsked [] seen = Unit {0}
AreAsked (g ∷ gs) seen = IsAskedAt g seen × AreAsked gs seen

-- a stage is passed, and no status ends the command at it
pub record IsBehind (g : Stage) (seen : Seen) : Type 0 where
  pub passes : g.passes seen
  pub none : (status : Status) → ¬ (status ≡ OutOfMemory) → ¬ StopsAt g status seen

-- a stage that comes after what is given is passed, or some status that is not want of memory ends the command at it
abbrev pub IsDecided : (Seen → Type 0) → Stage → Type 0
IsDecided given g = (seen : Seen) → given seen → IsAskedAt g seen → (IsBehind g seen → ⊥)
    → ((status : Status) → ¬ (status ≡ OutOfMemory) → ¬ StopsAt g status seen) → ⊥

-- so is each of the stages, after those before it
abbrev pub AreDecided : (Seen → Type 0) → List Stage → Type 0
AreDecided given [] = Unit {0}
AreDecided given (g ∷ gs) = IsDecided given g × AreDecided (λ seen. given seen × IsBehind g seen) gs

-- nothing is given before the first stage
abbrev pub nothing_before : Seen → Type 0
nothing_before seen = Unit {0}
