-- What `park`, `fetch`, `parked` and `drop` do.
use Rattle.std.specs.Prelude.{◌≡◌, ℕ, List, [], ◌∷◌, ◌++◌, Some, None, IfSome, codes}
use Rattle.std.specs.FinMap.{get, insert, remove}
use Rattle.std.specs.Option.{option_map}
use Rattle.outcomes.specs.Seen.{Seen, KeepsRows}
use Rattle.outcomes.specs.Stages.{Stage}
use Rattle.outcomes.specs.Work.{Work, writing}
use Rattle.read_files.specs.Replay.{HeldBoth}
use Rattle.read_files.specs.Stages.{reading}
use Rattle.migrate.specs.Saving.{Saves}
use Rattle.migrate.specs.Stage.{moving}
use Rattle.parking.specs.Rows.{listed, listed_text, next_version, row_line}
use Rattle.parking.specs.Stages.{all_rows, next_row, one_row}

-- there is one row more: under the next version of the name, which had none, stands the page that is saved after the events
pub record HasParked (p e name : List ℕ) (seen : Seen) : Type 0 where
  pub text : List ℕ
  pub saved : HeldBoth seen p e (λ page events. Saves page events text)
  pub rows : seen.keeper_now.table ≡ option_map (λ t. insert t (name, next_version name t) text) seen.keeper_before.table
  pub more : IfSome seen.keeper_before.table (λ t. get t (name, next_version name t) ≡ None)

abbrev pub parking_stages : List ℕ → List ℕ → List ℕ → List Stage
parking_stages p e name = reading p e ++ moving p e ∷ next_row name ∷ []

abbrev pub parking : List ℕ → List ℕ → List ℕ → Work
parking p e name = record {
  stages = parking_stages p e name;
  text = λ seen text. (version : ℕ) × (text ≡ row_line (codes "parked ") name version) × IfSome seen.keeper_before.table (λ t. version ≡ next_version name t);
  begins = λ seen begun. ⊥;
  changes = HasParked p e name;
  stopped = KeepsRows;
}

abbrev pub fetching : List ℕ → ℕ → Work
fetching name version = writing (one_row name version ∷ []) (λ seen text. IfSome seen.keeper_before.table (λ t. get t (name, version) ≡ Some text))

abbrev pub listing : Work
listing = writing (all_rows ∷ []) (λ seen text. IfSome seen.keeper_before.table (λ t. text ≡ listed_text (listed t)))

abbrev pub dropping : List ℕ → ℕ → Work
dropping name version = record {
  stages = one_row name version ∷ [];
  text = λ seen text. text ≡ row_line (codes "dropped ") name version;
  begins = λ seen begun. ⊥;
  changes = λ seen. seen.keeper_now.table ≡ option_map (λ t. remove t (name, version)) seen.keeper_before.table;
  stopped = KeepsRows;
}
