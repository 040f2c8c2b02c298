-- A keeper in memory, as contracts see it.
use Rattle.std.specs.Prelude.{ℕ, ◌==◌, Bool, List, map, Result, Ok, Err, String, Vec, refl}
use Rattle.std.specs.Global.{Global}
use Rattle.std.specs.List.{list_any}
use Rattle.std.specs.String.{string_bytes}
use Rattle.std.specs.FinMap.{code, from_entries}
use Rattle.std.specs.Coded.{Coded, code_by, coded×, coded_ℕ, coded_list}
use Rattle.page_io.specs.Faults.{counted}
use Rattle.page_io.specs.Table.{Key, Table}
use Rattle.page_io.specs.declared.keeper.KeeperFault.{KeeperFault}
use Rattle.page_io.specs.declared.keeper.KeeperFault.TheVariants.{Failed, OutOfMemory}

-- the rows; the numbers of the calls that fail; how many calls there were, and how many of them failed
pub record MemoryKeeperOf : Type 0 where
  pub table : Table
  pub failing : List ℕ
  pub calls : ℕ
  pub faults : ℕ

-- a keeper is stored as its fields
abbrev pub memory_keeper_code : Coded MemoryKeeperOf
memory_keeper_code =
    code_by ((Table × List ℕ) × (ℕ × ℕ)) (coded× (coded× (code (coded× (coded_list coded_ℕ) coded_ℕ) (coded_list coded_ℕ)) (coded_list coded_ℕ)) (coded× coded_ℕ coded_ℕ))
    (λ k. ((k.table, k.failing), (k.calls, k.faults)))
    (λ p. record { table = p.0.0; failing = p.0.1; calls = p.1.0; faults = p.1.1 })
    (λ _. refl)

-- a stored row, by its bytes
abbrev pub row_of : (String Global × ℕ) × Vec ℕ Global → Key × List ℕ
row_of e = ((string_bytes e.0.0, e.0.1), e.1.items)

-- the table of stored rows
abbrev pub table_of : List ((String Global × ℕ) × Vec ℕ Global) → Table
table_of rows = from_entries (map row_of rows)

-- whether the next call is listed
abbrev pub is_listed : MemoryKeeperOf → Bool
is_listed k = list_any (λ n. n == counted k.calls) k.failing

-- the keeper after a call with this result, whose Ok makes this table: the call is counted, and a failure too
abbrev pub after_call : {T : Type 0} → MemoryKeeperOf → Table → Result T KeeperFault → MemoryKeeperOf
after_call k table (Ok x) = record k { table = table; calls = counted k.calls }
after_call k table (Err Failed) = record k { calls = counted k.calls; faults = counted k.faults }
after_call k table (Err OutOfMemory) = record k { calls = counted k.calls }
