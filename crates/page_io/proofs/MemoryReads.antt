-- What a read of files in memory gives of any files.
use Rattle.std.proofs.Common.{◌≡◌, ℕ, ◌<◌, ◌≤◌, Bool, true, false, nat_lt, if◌then◌else◌, List, length, Option, Some, None, Result, Ok, Err, IfOk, IfErr, Vec, Global, arith, refl}
use Rattle.std.proofs.lemmas.Bool.Decides.{nat_tests}
use Rattle.page_io.specs.Faults.{CountsFaults}
use Rattle.page_io.specs.Content.{IsContent, Allows, KeepsFailed}
use Rattle.page_io.specs.MemoryFilesOf.{MemoryFilesOf, content_of, whole, answer_of, Answers, after_read}
use Rattle.page_io.specs.declared.files.ReadFault.{ReadFault}
use Rattle.page_io.specs.declared.files.ReadFault.TheVariants.{Failed, TooLong, OutOfMemory}
use Rattle.page_io.proofs.Counts.{counts_failure, counts_other}

-- ---- a wanted answer that is `Ok` or `TooLong` comes from the content

abbrev answer_if : Bool → List ℕ → Result (List ℕ) ReadFault
answer_if b content = if b then Err TooLong else Ok content

ok_if : (b : Bool) (limit : ℕ) (content bytes : List ℕ) → nat_lt limit (length content) ≡ b → answer_if b content ≡ Ok bytes → (bytes ≡ content) × (length bytes ≤ limit)
ok_if true limit content bytes t e = cc
ok_if false limit content bytes t e = let same : bytes ≡ content = cc in (same, rw same (grind (arith, nat_tests)))

whole_ok : (held : Option (List ℕ)) (limit : ℕ) (bytes : List ℕ) → whole held limit ≡ Ok bytes → IsContent (Some held) limit bytes
whole_ok None limit bytes e = cc
whole_ok (Some content) limit bytes e = ok_if (nat_lt limit (length content)) limit content bytes refl e

long_if : (b : Bool) (limit : ℕ) (content : List ℕ) → nat_lt limit (length content) ≡ b → answer_if b content ≡ Err TooLong → limit < length content
long_if true limit content t e = grind (arith, nat_tests)
long_if false limit content t e = cc

whole_long : (held : Option (List ℕ)) (limit : ℕ) → whole held limit ≡ Err TooLong → Allows (Some held) limit TooLong
whole_long None limit e = cc
whole_long (Some content) limit e = long_if (nat_lt limit (length content)) limit content refl e

unless_ok : (b : Bool) (r : Result (List ℕ) ReadFault) (bytes : List ℕ) → (if b then Err Failed else r) ≡ Ok bytes → r ≡ Ok bytes
unless_ok true r bytes e = cc
unless_ok false r bytes e = e

unless_long : (b : Bool) (r : Result (List ℕ) ReadFault) → (if b then Err Failed else r) ≡ Err TooLong → r ≡ Err TooLong
unless_long true r e = cc
unless_long false r e = e

-- ---- the clauses of any files

pub read_bytes : (m : MemoryFilesOf) (name : List ℕ) (limit : ℕ) (r : Result (Vec ℕ Global) ReadFault) → Answers (answer_of m name limit) r → IfOk r (λ v. IsContent (Some (content_of m.files name)) limit v.items)
read_bytes m name limit (Ok v) a = whole_ok (content_of m.files name) limit v.items (unless_ok _ _ v.items a)
read_bytes m name limit (Err fault) a = tt

allowed : (held : Option (List ℕ)) (limit : ℕ) → Allows (Some held) limit Failed × Allows (Some held) limit OutOfMemory
allowed None limit = (tt, tt)
allowed (Some content) limit = (tt, tt)

pub read_fault : (m : MemoryFilesOf) (name : List ℕ) (limit : ℕ) (r : Result (Vec ℕ Global) ReadFault) → Answers (answer_of m name limit) r → IfErr r (λ e. Allows (Some (content_of m.files name)) limit e)
read_fault m name limit (Ok v) a = tt
read_fault m name limit (Err Failed) a = (allowed (content_of m.files name) limit).0
read_fault m name limit (Err TooLong) a = whole_long (content_of m.files name) limit (unless_long _ _ a)
read_fault m name limit (Err OutOfMemory) a = (allowed (content_of m.files name) limit).1

pub read_same : (m : MemoryFilesOf) (name : List ℕ) (r : Result (Vec ℕ Global) ReadFault) → (after_read m name r).files ≡ m.files
read_same m name (Ok v) = refl
read_same m name (Err Failed) = refl
read_same m name (Err TooLong) = refl
read_same m name (Err OutOfMemory) = refl

pub read_counts : (m : MemoryFilesOf) (name : List ℕ) (r : Result (Vec ℕ Global) ReadFault) → CountsFaults Failed m.faults (after_read m name r).faults r
read_counts m name (Ok v) = counts_other Failed m.faults (Ok v) (λ e. cc)
read_counts m name (Err Failed) = counts_failure Failed m.faults
read_counts m name (Err TooLong) = counts_other Failed m.faults (Err TooLong) (λ e. cc)
read_counts m name (Err OutOfMemory) = counts_other Failed m.faults (Err OutOfMemory) (λ e. cc)

pub read_name : (m : MemoryFilesOf) (name : List ℕ) (r : Result (Vec ℕ Global) ReadFault) → KeepsFailed m.failed (after_read m name r).failed name r
read_name m name (Ok v) = record { named = λ e. cc; stayed = λ h. refl }
read_name m name (Err Failed) = record { named = λ e. refl; stayed = λ h. absurd (h refl) }
read_name m name (Err TooLong) = record { named = λ e. cc; stayed = λ h. refl }
read_name m name (Err OutOfMemory) = record { named = λ e. cc; stayed = λ h. refl }
