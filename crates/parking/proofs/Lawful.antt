-- The stages of commands that ask the keeper exclude each other's causes, and at each of them there is a cause or it is passed.
use Rattle.std.proofs.Common.{◌≡◌, ℕ, ◌<◌, ◌≤◌, List, [], ◌∷◌, Option, Some, None, IfSome, refl, sym, ◌∙◌, inl, inr, arith}
use Rattle.std.specs.FinMap.{get}
use Rattle.std.specs.Prelude.{◌⊎◌}
use Rattle.js_core.specs.Text.{utf16_of}
use Rattle.page_io.specs.Table.{Table}
use Rattle.outcomes.specs.declared.status.Status.{Status}
use Rattle.outcomes.specs.declared.status.Status.TheVariants as status
use Rattle.outcomes.specs.Lawful.{AreDecided, AreExclusive, IsBehind, IsDecided, IsExclusive, IsQuietAt, nothing_before}
use Rattle.outcomes.specs.Seen.{Seen}
use Rattle.outcomes.specs.Stages.{StopsAt}
use Rattle.outcomes.proofs.Callers.{at_most_or_more, of_rows, of_table}
use Rattle.read_files.proofs.Callers.{AnswersAreOne, after_reading, reading_decided_before, reading_exclusive_before}
use Rattle.migrate.specs.Stage.{moving}
use Rattle.migrate.proofs.Callers.{moving_decided, moving_exclusive}
use Rattle.parking.specs.Rows.{AreUsed, greatest, last_version, listed}
use Rattle.parking.specs.Stages.{all_rows, next_row, one_row}
use Rattle.parking.specs.Works.{parking_stages}

-- ---- one cause at each stage

module _ (seen : Seen) where
  stops_next : (name : List ℕ) (s : Status) → IsQuietAt (next_row name) seen → ¬ (s ≡ status.OutOfMemory) → StopsAt (next_row name) s seen
      → (s ≡ status.VersionsUsed) × IfSome seen.keeper_before.table (AreUsed name)
  stops_next name status.VersionsUsed q n h = (refl, h)
  stops_next name status.KeeperFault q n h = absurd (q.calls refl h)
  stops_next name status.OutOfMemory q n h = absurd (n refl)
  stops_next name s q n h = absurd h

  stops_row : (name : List ℕ) (version : ℕ) (s : Status) → IsQuietAt (one_row name version) seen → ¬ (s ≡ status.OutOfMemory)
      → StopsAt (one_row name version) s seen → (s ≡ status.NoSession) × IfSome seen.keeper_before.table (λ t. get t (name, version) ≡ None)
  stops_row name version status.NoSession q n h = (refl, h)
  stops_row name version status.KeeperFault q n h = absurd (q.calls refl h)
  stops_row name version status.OutOfMemory q n h = absurd (n refl)
  stops_row name version s q n h = absurd h

  stops_rows : (s : Status) → IsQuietAt all_rows seen → ¬ (s ≡ status.OutOfMemory) → ¬ StopsAt all_rows s seen
  stops_rows status.KeeperFault q n h = q.calls refl h
  stops_rows status.OutOfMemory q n h = n refl
  stops_rows s q n h = h

next_row_exclusive : (name : List ℕ) → IsExclusive (next_row name)
next_row_exclusive name = record {
  one = λ seen s t q n m h k. (stops_next seen name s q n h).0 ∙ sym (stops_next seen name t q m k).0;
  apart = λ seen s q n h pass.
      of_rows seen.keeper_before.table (AreUsed name) (λ t. ¬ AreUsed name t) (q.rows refl) (stops_next seen name s q n h).1 pass (λ t x y. y x);
}

one_row_exclusive : (name : List ℕ) (version : ℕ) → IsExclusive (one_row name version)
one_row_exclusive name version = record {
  one = λ seen s t q n m h k. (stops_row seen name version s q n h).0 ∙ sym (stops_row seen name version t q m k).0;
  apart = λ seen s q n h pass.
      of_rows seen.keeper_before.table (λ t. get t (name, version) ≡ None) (λ t. (bytes : List ℕ) × (get t (name, version) ≡ Some bytes)) (q.rows refl)
      (stops_row seen name version s q n h).1 pass (λ t x y. let same : None ≡ Some y.0 = sym x ∙ y.1 in cc);
}

all_rows_exclusive : IsExclusive all_rows
all_rows_exclusive = record {
  one = λ seen s t q n m h k. absurd (stops_rows seen s q n h);
  apart = λ seen s q n h pass. stops_rows seen s q n h;
}

pub parking_exclusive : AnswersAreOne → (p e name : List ℕ) → AreExclusive (parking_stages p e name)
parking_exclusive laws p e name =
    reading_exclusive_before laws p e (moving p e ∷ next_row name ∷ []) (moving_exclusive laws p e, (next_row_exclusive name, tt))

pub one_exclusive : (name : List ℕ) (version : ℕ) → AreExclusive (one_row name version ∷ [])
one_exclusive name version = (one_row_exclusive name version, tt)

pub all_exclusive : AreExclusive (all_rows ∷ [])
all_exclusive = (all_rows_exclusive, tt)

-- ---- some cause at each stage

-- the rows are told
with_table : (rows : Option Table) → ¬ (rows ≡ None) → ((t : Table) → rows ≡ Some t → ⊥) → ⊥
with_table None told f = told refl
with_table (Some t) told f = f t refl

next_row_decided : (given : Seen → Type 0) (name : List ℕ) → IsDecided given (next_row name)
next_row_decided given name seen before asked behind never = with_table seen.keeper_before.table (asked.rows refl) λ t is.
    by_case t is (at_most_or_more last_version (greatest (utf16_of name) (listed t)))
  where
    by_case : (t : Table) → seen.keeper_before.table ≡ Some t
        → (last_version ≤ greatest (utf16_of name) (listed t)) ⊎ (greatest (utf16_of name) (listed t) < last_version) → ⊥
    by_case t is (inl used) = never status.VersionsUsed (λ e. cc) (of_table _ t (AreUsed name) is used)
    by_case t is (inr left) = behind (record { passes = of_table _ t (λ u. ¬ AreUsed name u) is (λ used. omega (arith, used, left)); none = never })

one_row_decided : (given : Seen → Type 0) (name : List ℕ) (version : ℕ) → IsDecided given (one_row name version)
one_row_decided given name version seen before asked behind never = with_table seen.keeper_before.table (asked.rows refl) λ t is.
    by_case t is (get t (name, version)) refl
  where
    by_case : (t : Table) → seen.keeper_before.table ≡ Some t → (o : Option (List ℕ)) → get t (name, version) ≡ o → ⊥
    by_case t is None e = never status.NoSession (λ e. cc) (of_table _ t (λ u. get u (name, version) ≡ None) is e)
    by_case t is (Some bytes) e =
        behind (record { passes = of_table _ t (λ u. (bytes : List ℕ) × (get u (name, version) ≡ Some bytes)) is (bytes, e); none = never })

all_rows_decided : (given : Seen → Type 0) → IsDecided given all_rows
all_rows_decided given seen before asked behind never = behind (record { passes = tt; none = never })

pub parking_decided : AnswersAreOne → (p e name : List ℕ) → AreDecided nothing_before (parking_stages p e name)
parking_decided laws p e name =
    reading_decided_before laws nothing_before p e (moving p e ∷ next_row name ∷ [])
    (moving_decided nothing_before p e, (next_row_decided (λ seen. after_reading nothing_before p e seen × IsBehind (moving p e) seen) name, tt))

pub one_decided : (name : List ℕ) (version : ℕ) → AreDecided nothing_before (one_row name version ∷ [])
one_decided name version = (one_row_decided nothing_before name version, tt)

pub all_decided : AreDecided nothing_before (all_rows ∷ [])
all_decided = (all_rows_decided nothing_before, tt)
