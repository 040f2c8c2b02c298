-- A sink over a writer, as contracts see it.
use Rattle.std.specs.Prelude.{ℕ, Result, Err}
use Rattle.page_io.specs.Faults.{counted}
use Rattle.page_io.specs.declared.sink.PutFault.{PutFault}

-- the writer, and how many puts failed
pub record RealSinkOf (W : Type 0) : Type 0 where
  pub writer : W
  pub faults : ℕ

-- the count after a put with this result
abbrev pub put_count : ℕ → Result (Unit {0}) PutFault → ℕ
put_count faults (Err fault) = counted faults
put_count faults _ = faults
