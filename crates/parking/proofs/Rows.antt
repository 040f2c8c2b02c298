-- How commands on rows end.
use Rattle.std.proofs.Common.{◌≡◌, ℕ, List, Option, Some, None, IfSome, Ok as Good, Err, Vec, Global, inl}
use Rattle.std.specs.FinMap.{get}
use Rattle.page_io.specs.Faults.{Rose}
use Rattle.page_io.specs.Seen.{KeeperSeen}
use Rattle.page_io.specs.Table.{Table}
use Rattle.outcomes.specs.declared.status.Status.TheVariants.{KeeperFault, NoSession, OutOfMemory}
use Rattle.outcomes.specs.Work.{GivesOfRows}
use Rattle.parking.specs.Rows.{listed, listed_text}
use Rattle.parking.specs.Works.{dropping, fetching, listing}

module _ (before now : KeeperSeen) where
  some_row : (o : Option Table) (name : List ℕ) (version : ℕ) (bytes : List ℕ) → IfSome o (λ t. get t (name, version) ≡ Some bytes)
      → IfSome o (λ t. (bytes : List ℕ) × (get t (name, version) ≡ Some bytes))
  some_row None name version bytes h = tt
  some_row (Some t) name version bytes h = (bytes, h)

  pub fetch_gives : (name : List ℕ) (version : ℕ) (bytes : Vec ℕ Global) → IfSome before.table (λ t. get t (name, version) ≡ Some bytes.items)
      → now.table ≡ before.table → GivesOfRows (fetching name version) (Good bytes) before now
  fetch_gives name version bytes h same files = ((some_row before.table name version bytes.items h, tt), h, same)

  pub fetch_finds_none : (name : List ℕ) (version : ℕ) → IfSome before.table (λ t. get t (name, version) ≡ None) → now.table ≡ before.table
      → GivesOfRows (fetching name version) (Err NoSession) before now
  fetch_finds_none name version h same files = (inl h, same)

  pub fetch_fails : (name : List ℕ) (version : ℕ) → Rose before.faults now.faults → now.table ≡ before.table
      → GivesOfRows (fetching name version) (Err KeeperFault) before now
  fetch_fails name version h same files = (inl h, same)

  pub fetch_lacks_memory : (name : List ℕ) (version : ℕ) → now.table ≡ before.table → GivesOfRows (fetching name version) (Err OutOfMemory) before now
  fetch_lacks_memory name version same files = (inl tt, same)

  pub parked_gives : (text : Vec ℕ Global) → IfSome before.table (λ t. text.items ≡ listed_text (listed t)) → now.table ≡ before.table
      → GivesOfRows listing (Good text) before now
  parked_gives text h same files = ((tt, tt), h, same)

  pub parked_fails : Rose before.faults now.faults → now.table ≡ before.table → GivesOfRows listing (Err KeeperFault) before now
  parked_fails h same files = (inl h, same)

  pub parked_lacks_memory : now.table ≡ before.table → GivesOfRows listing (Err OutOfMemory) before now
  parked_lacks_memory same files = (inl tt, same)

  pub drop_fails : (name : List ℕ) (version : ℕ) → Rose before.faults now.faults → now.table ≡ before.table
      → GivesOfRows (dropping name version) (Err KeeperFault) before now
  drop_fails name version h same files = (inl h, same)

  pub drop_lacks_memory : (name : List ℕ) (version : ℕ) → now.table ≡ before.table → GivesOfRows (dropping name version) (Err OutOfMemory) before now
  drop_lacks_memory name version same files = (inl tt, same)
