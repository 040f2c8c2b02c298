-- What a put into a sink in memory gives of any sink.
use Rattle.std.proofs.Common.{◌≡◌, ℕ, ◌-◌, ◌≤◌, min, Bool, true, false, ◌||◌, nat_lt, if◌then◌else◌, List, ◌++◌, length, take, Option, Some, None, is_some, Result, Ok, Err, OnOk, OnErr, arith, refl, ap}
use Rattle.std.specs.Option.{option_map_or}
use Rattle.std.proofs.lemmas.List.{take_all}
use Rattle.std.proofs.lemmas.Bool.Decides.{nat_tests}
use Rattle.page_io.specs.Faults.{counted, CountsFaults}
use Rattle.page_io.specs.MemorySinkOf.{MemorySinkOf, listed, takes, fails, put_answer, after_put}
use Rattle.page_io.specs.declared.sink.PutFault.{PutFault}
use Rattle.page_io.specs.declared.sink.PutFault.TheVariants.{Failed}
use Rattle.page_io.proofs.Counts.{counts_failure, counts_other}

fits_whole : (left n : ℕ) → nat_lt left n ≡ false → n ≤ min left n
fits_whole left n e = grind (arith, nat_tests)

-- a put that does not fail takes the whole piece
whole_by_listed : (o : Option ℕ) (left : ℕ) (piece : List ℕ) → (is_some o || nat_lt left (length piece)) ≡ false → take (option_map_or (min (min left (length piece))) o (min left (length piece))) piece ≡ piece
whole_by_listed (Some n) left piece e = cc
whole_by_listed None left piece e = take_all _ piece (fits_whole left (length piece) e)

abbrev answer_if : Bool → Result (Unit {0}) PutFault
answer_if b = if b then Err Failed else Ok tt

ok_by : (s : MemorySinkOf) (piece : List ℕ) (b : Bool) → fails s piece ≡ b → OnOk (answer_if b) (s.bytes ++ take (takes s piece) piece ≡ s.bytes ++ piece)
ok_by s piece true e = tt
ok_by s piece false e = ap (λ taken. s.bytes ++ taken) (whole_by_listed (listed s.failing (counted s.calls)) (s.room - length s.bytes) piece e)

pub put_ok : (s : MemorySinkOf) (piece : List ℕ) → OnOk (put_answer s piece) ((after_put s piece).bytes ≡ s.bytes ++ piece)
put_ok s piece = ok_by s piece (fails s piece) refl

err_by : (s : MemorySinkOf) (piece : List ℕ) (b : Bool) → OnErr (answer_if b) ((n : ℕ) × (s.bytes ++ take (takes s piece) piece ≡ s.bytes ++ take n piece))
err_by s piece true = (takes s piece, refl)
err_by s piece false = tt

pub put_err : (s : MemorySinkOf) (piece : List ℕ) → OnErr (put_answer s piece) ((n : ℕ) × ((after_put s piece).bytes ≡ s.bytes ++ take n piece))
put_err s piece = err_by s piece (fails s piece)

counts_by : (n : ℕ) (b : Bool) → CountsFaults {T = Unit {0}} Failed n (if b then counted n else n) (answer_if b)
counts_by n true = counts_failure Failed n
counts_by n false = counts_other Failed n (Ok tt) (λ (e : ◌≡◌ {A = Result (Unit {0}) PutFault} (Ok tt) (Err Failed)). cc)

pub put_counts : (s : MemorySinkOf) (piece : List ℕ) → CountsFaults Failed s.faults (after_put s piece).faults (put_answer s piece)
put_counts s piece = counts_by s.faults (fails s piece)
