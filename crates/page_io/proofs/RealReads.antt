-- What a read of the system's files gives of any files.
use Rattle.std.proofs.Common.{ℕ, List, None, Result, Ok, Err, IfErr, Vec, Global, refl}
use Rattle.page_io.specs.Faults.{CountsFaults}
use Rattle.page_io.specs.Content.{Allows, KeepsFailed}
use Rattle.page_io.specs.RealFilesOf.{RealFilesOf, after_real_read}
use Rattle.page_io.specs.declared.files.ReadFault.{ReadFault}
use Rattle.page_io.specs.declared.files.ReadFault.TheVariants.{Failed, TooLong, OutOfMemory}
use Rattle.page_io.proofs.Counts.{counts_failure, counts_other}

pub real_counts : (m : RealFilesOf) (name : List ℕ) (r : Result (Vec ℕ Global) ReadFault) → CountsFaults Failed m.faults (after_real_read m name r).faults r
real_counts m name (Ok v) = counts_other Failed m.faults (Ok v) (λ e. cc)
real_counts m name (Err Failed) = counts_failure Failed m.faults
real_counts m name (Err TooLong) = counts_other Failed m.faults (Err TooLong) (λ e. cc)
real_counts m name (Err OutOfMemory) = counts_other Failed m.faults (Err OutOfMemory) (λ e. cc)

pub real_name : (m : RealFilesOf) (name : List ℕ) (r : Result (Vec ℕ Global) ReadFault) → KeepsFailed m.failed (after_real_read m name r).failed name r
real_name m name (Ok v) = record { named = λ e. cc; stayed = λ h. refl }
real_name m name (Err Failed) = record { named = λ e. refl; stayed = λ h. absurd (h refl) }
real_name m name (Err TooLong) = record { named = λ e. cc; stayed = λ h. refl }
real_name m name (Err OutOfMemory) = record { named = λ e. cc; stayed = λ h. refl }

-- where no content is told, any fault is allowed
pub untold_fault : (limit : ℕ) (r : Result (Vec ℕ Global) ReadFault) → IfErr r (λ e. Allows None limit e)
untold_fault limit (Ok v) = tt
untold_fault limit (Err Failed) = tt
untold_fault limit (Err TooLong) = tt
untold_fault limit (Err OutOfMemory) = tt
