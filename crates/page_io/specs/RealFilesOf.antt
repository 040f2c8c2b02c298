-- Files of the system, as contracts see them.
use Rattle.std.specs.Prelude.{ℕ, List, Option, Some, Result, Err, Vec}
use Rattle.std.specs.Global.{Global}
use Rattle.page_io.specs.Faults.{counted}
use Rattle.page_io.specs.declared.files.ReadFault.{ReadFault}
use Rattle.page_io.specs.declared.files.ReadFault.TheVariants.{Failed}

-- how many reads failed, and the name of the last one
pub record RealFilesOf : Type 0 where
  pub faults : ℕ
  pub failed : Option (List ℕ)

-- the files after a read with this result: a failure is counted, with its name
abbrev pub after_real_read : RealFilesOf → List ℕ → Result (Vec ℕ Global) ReadFault → RealFilesOf
after_real_read m name (Err Failed) = record { faults = counted m.faults; failed = Some name }
after_real_read m name _ = m
