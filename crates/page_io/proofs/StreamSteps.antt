-- One more step of a loop that reads or writes.
use Rattle.std.proofs.Common.{◌≡◌, ℕ, ◌+◌, ◌-◌, ◌<◌, List, [], ◌++◌, length, take, drop, length-drop, Option, Some, None, IfSome, arith, refl, length-append, append_assoc, append-nil}
use Rattle.std.proofs.Math.Seq.{take-add}
use Rattle.std.proofs.lemmas.List.{take_all}
use Rattle.std.specs.Io.KnownBytes.{Keeps, Appends, Consumes, IsAtEnd}

pub Appends_none : (a : Option (List ℕ)) → Appends a a []
Appends_none None = tt
Appends_none (Some x) = rw append-nil

pub Appends_more : (a b c : Option (List ℕ)) (xs ys : List ℕ) → Appends a b xs → Appends b c ys → Appends a c (xs ++ ys)
Appends_more None b c xs ys p q = tt
Appends_more (Some x) None c xs ys p q = absurd p
Appends_more (Some x) (Some y) None xs ys p q = absurd q
Appends_more (Some x) (Some y) (Some z) xs ys p q = rw (q, p, append_assoc)

pub Appends_kept : (a b c : Option (List ℕ)) (xs : List ℕ) → Appends a b xs → Keeps b c → Appends a c xs
Appends_kept None b c xs p q = tt
Appends_kept (Some x) None c xs p q = absurd p
Appends_kept (Some x) (Some y) None xs p q = absurd q
Appends_kept (Some x) (Some y) (Some z) xs p q = rw (q, p)

pub Consumes_none : (a : Option (List ℕ)) → Consumes a a []
Consumes_none None = tt
Consumes_none (Some x) = refl

pub Consumes_more : (a b c : Option (List ℕ)) (xs ys : List ℕ) → Consumes a b xs → Consumes b c ys → Consumes a c (xs ++ ys)
Consumes_more None b c xs ys p q = tt
Consumes_more (Some x) None c xs ys p q = absurd p
Consumes_more (Some x) (Some y) None xs ys p q = absurd q
Consumes_more (Some x) (Some y) (Some z) xs ys p q = rw (p, q, append_assoc)

-- what was read is all, where the next read gives nothing and is at the end
pub Consumes_all : (a b c : Option (List ℕ)) (xs : List ℕ) → Consumes a b xs → Consumes b c [] → IsAtEnd c → IfSome a (λ known. xs ≡ known)
Consumes_all None b c xs p q end = tt
Consumes_all (Some x) None c xs p q end = absurd p
Consumes_all (Some x) (Some y) None xs p q end = absurd q
Consumes_all (Some x) (Some y) (Some z) xs p q end = rw (p, q, end, append-nil)

-- there are as many bytes as were read, or more
pub Consumes_long : (a b : Option (List ℕ)) (xs : List ℕ) (limit : ℕ) → Consumes a b xs → limit < length xs → IfSome a (λ known. limit < length known)
Consumes_long None b xs limit p h = tt
Consumes_long (Some x) None xs limit p h = absurd p
Consumes_long (Some x) (Some y) xs limit p h = rw (p, length-append) (omega arith)

-- the rest of a piece from `done` on, as a slice's range gives it
rest_of_piece : (done : ℕ) (piece : List ℕ) → take (length piece - done) (drop done piece) ≡ drop done piece
rest_of_piece done piece = take_all _ (drop done piece) (rw length-drop (omega arith))

-- a write of more of a piece
pub Appends_step : (a b c : Option (List ℕ)) (done count : ℕ) (piece : List ℕ) → Appends a b (take done piece) → Appends b c (take count (take (length piece - done) (drop done piece))) → Appends a c (take (done + count) piece)
Appends_step a b c done count piece p q = rw take-add (Appends_more a b c _ _ p (rw rest_of_piece at q))
