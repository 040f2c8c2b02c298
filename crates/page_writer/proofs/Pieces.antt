-- Pieces of a page that are put one after another.
use Rattle.std.proofs.Common.{◌≡◌, ◌∙◌, refl, sym, ap, subst, ℕ, ◌<◌, ◌≤◌, zero, suc, List, [], ◌∷◌, ◌++◌, take, Option, Some, None, Result, Ok, Err, append-nil, append_assoc, arith}
use Rattle.std.specs.Prelude.{IsErr, IsErrAnd}
use Rattle.page_io.specs.Faults.{CountsFaults, Rose}
use Rattle.page_io.specs.Seen.{SinkSeen}
use Rattle.page_io.specs.Taken.{Takes, TakesFront}
use Rattle.heap_walker.specs.declared.weight.Weight.{Weight}
use Rattle.page_writer.specs.Putting.{Puts}
use Rattle.page_writer.specs.Sizes.{Judged, text_limit, things_limit}
use Rattle.page_writer.specs.Sizes.Judged.{put, many, long, fault, memory}
use Rattle.js_core.specs.declared.memory.Failure.{Failure}
use Rattle.page_writer.specs.declared.save_fault.NotSaved.{NotSaved}
use Rattle.js_core.specs.declared.memory.Failure.TheVariants.{Cause, OutOfMemory}
use Rattle.page_writer.specs.declared.save_fault.NotSaved.TheVariants.{TooMany, TooLong, WriteFault}

-- ---- what a sink takes

-- a prefix of a piece is a prefix of the piece and what follows
front_of_more : (n : ℕ) (p more : List ℕ) → (m : ℕ) × (take n p ≡ take m (p ++ more))
front_of_more zero p more = (0, refl)
front_of_more (suc n) [] more = (0, refl)
front_of_more (suc n) (u ∷ p) more = let h = front_of_more n p more in (suc h.0, ap (λ (w : List ℕ). u ∷ w) h.1)

front_before : (before now : Option (List ℕ)) (p more : List ℕ) → TakesFront before now p → TakesFront before now (p ++ more)
front_before None None p more h = tt
front_before (Some old) (Some new) p more h = let f = front_of_more h.0 p more in (f.0, h.1 ∙ ap (λ (w : List ℕ). old ++ w) f.1)
front_before None (Some new) p more h = absurd h
front_before (Some old) None p more h = absurd h

-- a prefix of what follows, after a whole piece
behind_piece : (n : ℕ) (p more : List ℕ) → (m : ℕ) × (p ++ take n more ≡ take m (p ++ more))
behind_piece n [] more = (n, refl)
behind_piece n (u ∷ p) more = let h = behind_piece n p more in (suc h.0, ap (λ (w : List ℕ). u ∷ w) h.1)

front_after : (before mid now : Option (List ℕ)) (p more : List ℕ) → Takes before mid p → TakesFront mid now more → TakesFront before now (p ++ more)
front_after None None None p more h g = tt
front_after (Some old) (Some mid) (Some new) p more h g =
    let f = behind_piece g.0 p more in
    (f.0, g.1 ∙ ap (λ (w : List ℕ). w ++ take g.0 more) h ∙ append_assoc old p (take g.0 more) ∙ ap (λ (w : List ℕ). old ++ w) f.1)
front_after None (Some mid) now p more h g = absurd h
front_after (Some old) None now p more h g = absurd h
front_after None None (Some new) p more h g = absurd g
front_after (Some old) (Some mid) None p more h g = absurd g

takes_both : (before mid now : Option (List ℕ)) (p more : List ℕ) → Takes before mid p → Takes mid now more → Takes before now (p ++ more)
takes_both None None None p more h g = tt
takes_both (Some old) (Some mid) (Some new) p more h g = g ∙ ap (λ (w : List ℕ). w ++ more) h ∙ append_assoc old p more
takes_both None (Some mid) now p more h g = absurd h
takes_both (Some old) None now p more h g = absurd h
takes_both None None (Some new) p more h g = absurd g
takes_both (Some old) (Some mid) None p more h g = absurd g

none_taken : (taken : Option (List ℕ)) → Takes taken taken []
none_taken None = tt
none_taken (Some bytes) = sym (append-nil bytes)

no_front : (taken : Option (List ℕ)) (p : List ℕ) → TakesFront taken taken p
no_front None p = tt
no_front (Some bytes) p = (0, sym (append-nil bytes))

-- ---- what is said of parts of a page

pub puts_nothing : (seen : SinkSeen) → Puts seen seen [] (Ok tt)
puts_nothing seen = (none_taken seen.taken, refl)

-- want of memory before anything of it was put
puts_no_front : (seen : SinkSeen) (p : List ℕ) → Puts seen seen p (Err OutOfMemory)
puts_no_front seen p = (no_front seen.taken p, refl)

-- a part that was not put whole
puts_front : (old new : SinkSeen) (p more : List ℕ) (fault : Failure NotSaved) → Puts old new p (Err fault) → Puts old new (p ++ more) (Err fault)
puts_front old new p more (Cause WriteFault) h = (front_before old.taken new.taken p more h.0, h.1)
puts_front old new p more OutOfMemory h = (front_before old.taken new.taken p more h.0, h.1)
puts_front old new p more (Cause (TooMany w)) h = absurd h
puts_front old new p more (Cause (TooLong w)) h = absurd h

-- a part that was put whole, and what follows
pub puts_both : (old mid new : SinkSeen) (p more : List ℕ) (r : Result (Unit {0}) (Failure NotSaved)) → Puts old mid p (Ok tt) → Puts mid new more r → Puts old new (p ++ more) r
puts_both old mid new p more (Ok done) h g = (takes_both old.taken mid.taken new.taken p more h.0 g.0, g.1 ∙ h.1)
puts_both old mid new p more (Err (Cause WriteFault)) h g =
    (front_after old.taken mid.taken new.taken p more h.0 g.0, (subst (λ n. Rose n new.faults) h.1 g.1.0, subst (λ n. n ≤ new.faults) h.1 g.1.1))
puts_both old mid new p more (Err OutOfMemory) h g = (front_after old.taken mid.taken new.taken p more h.0 g.0, g.1 ∙ h.1)
puts_both old mid new p more (Err (Cause (TooMany w))) h g = absurd g
puts_both old mid new p more (Err (Cause (TooLong w))) h g = absurd g

-- a part that was not put whole, where the fault is handed on
pub puts_stopped : (old new : SinkSeen) (p more : List ℕ) (answer result : Result (Unit {0}) (Failure NotSaved)) (f : Failure NotSaved) → answer ≡ Err f → IsErr result × IsErrAnd result (λ e. e ≡ f) → Puts old new p answer → Puts old new (p ++ more) result
puts_stopped old new p more answer (Ok done) f was same h = absurd same.1
puts_stopped old new p more answer (Err e) f was same h = puts_front old new p more e (subst (λ r. Puts old new p r) (was ∙ ap (λ x. Err x) (sym same.1)) h)

-- want of memory, handed on
pub puts_no_memory : (seen : SinkSeen) (p : List ℕ) (result : Result (Unit {0}) (Failure NotSaved)) → IsErr result × IsErrAnd result (λ e. e ≡ OutOfMemory) → Puts seen seen p result
puts_no_memory seen p (Ok done) same = absurd same.1
puts_no_memory seen p (Err e) same = subst (λ f. Puts seen seen p (Err f)) (sym same.1) (puts_no_front seen p)

-- whatever comes of the rest comes of the whole
abbrev pub Leads : SinkSeen → SinkSeen → List ℕ → List ℕ → Type 0
Leads old now rest whole = (new : SinkSeen) (r : Result (Unit {0}) (Failure NotSaved)) → Puts now new rest r → Puts old new whole r

-- ---- what is answered

pub judged_puts : (w : Weight) (old new : SinkSeen) (page : List ℕ) (r : Result (Unit {0}) (Failure NotSaved)) → w.things ≤ things_limit → w.text ≤ text_limit → Puts old new page r → Judged w old new page r
judged_puts w old new page (Ok tt) few short h = put few short h.0
judged_puts w old new page (Err (Cause WriteFault)) few short h = fault few short h.0 h.1.0
judged_puts w old new page (Err OutOfMemory) few short h = memory (λ more. absurd (omega (arith, few, more))) (λ more. absurd (omega (arith, short, more))) h.0
judged_puts w old new page (Err (Cause (TooMany v))) few short h = absurd h
judged_puts w old new page (Err (Cause (TooLong v))) few short h = absurd h

pub judged_no_memory : (w : Weight) (seen : SinkSeen) (page : List ℕ) (result : Result (Unit {0}) (Failure NotSaved)) → IsErr result × IsErrAnd result (λ e. e ≡ OutOfMemory) → Judged w seen seen page result
judged_no_memory w seen page (Ok done) same = absurd same.1
judged_no_memory w seen page (Err e) same = subst (λ f. Judged w seen seen page (Err f)) (sym same.1) (memory (λ more. refl) (λ more. refl) (no_front seen.taken page))

-- the weight is told as it was taken
pub judged_many : (v w : Weight) (seen : SinkSeen) (page : List ℕ) → v ≡ w → things_limit < v.things → Judged w seen seen page (Err (Cause (TooMany v)))
judged_many v w seen page is more = subst (λ u. Judged u seen seen page (Err (Cause (TooMany v)))) is (many more refl)

pub judged_long : (v w : Weight) (seen : SinkSeen) (page : List ℕ) → v ≡ w → v.things ≤ things_limit → text_limit < v.text → Judged w seen seen page (Err (Cause (TooLong v)))
judged_long v w seen page is few more = subst (λ u. Judged u seen seen page (Err (Cause (TooLong v)))) is (long few more refl)

-- ---- what is counted

pub counts_puts : (old new : SinkSeen) (p : List ℕ) (r : Result (Unit {0}) (Failure NotSaved)) → Puts old new p r → CountsFaults (Cause WriteFault) old.faults new.faults r
counts_puts old new p (Ok done) h = record { later = omega (arith, h.1); rose = λ e. cc e; stayed = λ ok. h.1 }
counts_puts old new p (Err (Cause WriteFault)) h = record { later = h.1.1; rose = λ e. h.1.0; stayed = λ ok. cc ok }
counts_puts old new p (Err OutOfMemory) h = record { later = omega (arith, h.1); rose = λ e. cc e; stayed = λ ok. h.1 }
counts_puts old new p (Err (Cause (TooMany w))) h = absurd h
counts_puts old new p (Err (Cause (TooLong w))) h = absurd h

-- nothing was put
pub counts_none : (n : ℕ) (f : Failure NotSaved) → (f ≡ Cause WriteFault → ⊥) → CountsFaults {T = Unit {0}} (Cause WriteFault) n n (Err f)
counts_none n f other = record { later = omega arith; rose = λ e. absurd (other (cc e)); stayed = λ ok. refl }

pub counts_no_memory : (n : ℕ) (result : Result (Unit {0}) (Failure NotSaved)) → IsErr result × IsErrAnd result (λ e. e ≡ OutOfMemory) → CountsFaults (Cause WriteFault) n n result
counts_no_memory n (Ok done) same = absurd same.1
counts_no_memory n (Err e) same = subst (λ f. CountsFaults {T = Unit {0}} (Cause WriteFault) n n (Err f)) (sym same.1) (counts_none n OutOfMemory (λ e. cc e))
