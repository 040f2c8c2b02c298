-- What the answer of the writer says of a page that is saved.
use Rattle.std.proofs.Common.{◌≡◌, ◌⊎◌, inl, inr, ℕ, ◌≤◌, ◌<◌, List, Result, Ok, Err, sym, ap, subst, arith}
use Rattle.heap_walker.specs.Things.{IsWalk}
use Rattle.heap_walker.specs.Weight.{load_of, told}
use Rattle.heap_walker.specs.declared.weight.Weight.{Weight}
use Rattle.page_io.specs.Faults.{Rose}
use Rattle.page_io.specs.Seen.{SinkSeen}
use Rattle.page_io.specs.Taken.{Takes, TakesFront}
use Rattle.page_meaning.specs.Store.{Store}
use Rattle.page_writer.specs.Literals.{HaveLiterals}
use Rattle.page_writer.specs.Page.{saved_page}
use Rattle.page_writer.specs.Sizes.{Judged, put, many, long, fault, memory, text_limit, things_limit}
use Rattle.js_core.specs.declared.memory.Failure.{Failure}
use Rattle.page_writer.specs.declared.save_fault.NotSaved.{NotSaved}
use Rattle.js_core.specs.declared.memory.Failure.TheVariants.{Cause, OutOfMemory}
use Rattle.page_writer.specs.declared.save_fault.NotSaved.TheVariants.{TooMany, TooLong, WriteFault}
use Rattle.rebuild_plan.specs.Compact.{compact}
use Rattle.rebuild_plan.specs.Plan.{plan}
use Rattle.migrate.specs.Moving.{IsLight, IsOverweight}
use Rattle.migrate.specs.Saving.{CanBeSaved, IsTooMuch}
use Rattle.outcomes.proofs.Callers.{at_most_or_more}

-- little things and little text are not too much
not_much : (w : Weight) → w.things ≤ things_limit → w.text ≤ text_limit → ¬ IsTooMuch w
not_much w things text (inl more) = omega (arith, things, more)
not_much w things text (inr more) = omega (arith, text, more)

abbrev Failed : Failure NotSaved → Result (Unit {0}) (Failure NotSaved)
Failed f = Err f

module _ (s : Store) (things : List ℕ) (old new : SinkSeen) where
  abbrev WasJudged : Failure NotSaved → Type 0
  WasJudged f = Judged (told (load_of s things)) old new (saved_page s things) (Err f)

  overweight : (v : Weight) → IsWalk s things → told (load_of s things) ≡ v → IsTooMuch (told (load_of s things)) → new ≡ old
      → (new ≡ old) × ((x : List ℕ) × IsOverweight s x v)
  overweight v walk same more none = (
    none,
    (
      things,
      record {
        walked = walk;
        weighed = sym same;
        more = subst IsTooMuch same more;
      },
    ),
  )

  pub answer_put : (r : Result (Unit {0}) (Failure NotSaved)) → IsWalk s things → r ≡ Ok tt → Judged (told (load_of s things)) old new (saved_page s things) r → HaveLiterals (plan (compact s things))
      → (x : List ℕ) × CanBeSaved s x × Takes old.taken new.taken (saved_page s x)
  answer_put r walk e (put few little whole) literals = (
    things,
    record {
      walked = walk;
      little = not_much (told (load_of s things)) few little;
      literals = literals;
    },
    whole,
  )
  answer_put r walk e (many more none) literals = cc e
  answer_put r walk e (long few more none) literals = cc e
  answer_put r walk e (fault few little front rose) literals = cc e
  answer_put r walk e (memory few little front) literals = cc e

  pub answer_large : (f : Failure NotSaved) (v : Weight) → IsWalk s things → f ≡ Cause (TooMany v) → WasJudged f
      → (new ≡ old) × ((x : List ℕ) × IsOverweight s x v)
  answer_large f v walk e (many more none) = overweight v walk (cc e) (inl more) none
  answer_large f v walk e (long few more none) = cc e
  answer_large f v walk e (fault few little front rose) = cc e
  answer_large f v walk e (memory few little front) = cc e

  pub answer_long : (f : Failure NotSaved) (v : Weight) → IsWalk s things → f ≡ Cause (TooLong v) → WasJudged f
      → (new ≡ old) × ((x : List ℕ) × IsOverweight s x v)
  answer_long f v walk e (many more none) = cc e
  answer_long f v walk e (long few more none) = overweight v walk (cc e) (inr more) none
  answer_long f v walk e (fault few little front rose) = cc e
  answer_long f v walk e (memory few little front) = cc e

  pub answer_fault : (f : Failure NotSaved) → IsWalk s things → f ≡ Cause WriteFault → WasJudged f
      → (Failed f ≡ Failed (Cause WriteFault) → HaveLiterals (plan (compact s things)))
      → (x : List ℕ) × CanBeSaved s x × TakesFront old.taken new.taken (saved_page s x) × Rose old.faults new.faults
  answer_fault f walk e (many more none) literals = cc e
  answer_fault f walk e (long few more none) literals = cc e
  answer_fault f walk e (fault few little front rose) literals = (
    things,
    record {
      walked = walk;
      little = not_much (told (load_of s things)) few little;
      literals = literals (ap Failed e);
    },
    front,
    rose,
  )
  answer_fault f walk e (memory few little front) literals = cc e

  -- of a page that is too large nothing was put
  either : (n limit : ℕ) (R : Type 0) → (limit < n → new ≡ old) → (n ≤ limit → R) → (new ≡ old) ⊎ R
  either n limit R none some = by (at_most_or_more n limit)
    where
      by : (n ≤ limit) ⊎ (limit < n) → (new ≡ old) ⊎ R
      by (inl few) = inr (some few)
      by (inr more) = inl (none more)

  abbrev Begun : Type 0
  Begun = (x : List ℕ) × IsLight s x × TakesFront old.taken new.taken (saved_page s x)

  flat : (new ≡ old) ⊎ ((new ≡ old) ⊎ Begun) → (new ≡ old) ⊎ Begun
  flat (inl none) = inl none
  flat (inr rest) = rest

  pub answer_memory : (f : Failure NotSaved) → IsWalk s things → f ≡ OutOfMemory → WasJudged f → (new ≡ old) ⊎ Begun
  answer_memory f walk e (many more none) = cc e
  answer_memory f walk e (long few more none) = cc e
  answer_memory f walk e (fault few little front rose) = cc e
  answer_memory f walk e (memory few little front) =
      flat (either (told (load_of s things)).things things_limit ((new ≡ old) ⊎ Begun) few λ some.
      either (told (load_of s things)).text text_limit Begun little λ short.
      (things, record { walked = walk; little = not_much (told (load_of s things)) some short }, front))

  -- a page that is little is not judged too large
  pub not_many : (f : Failure NotSaved) (v : Weight) (R : Type 0) → f ≡ Cause (TooMany v) → ¬ IsTooMuch (told (load_of s things)) → WasJudged f → R
  not_many f v R e small (many more none) = absurd (small (inl more))
  not_many f v R e small (long few more none) = absurd (small (inr more))
  not_many f v R e small (fault few little front rose) = cc e
  not_many f v R e small (memory few little front) = cc e

  pub not_long : (f : Failure NotSaved) (v : Weight) (R : Type 0) → f ≡ Cause (TooLong v) → ¬ IsTooMuch (told (load_of s things)) → WasJudged f → R
  not_long f v R e small (many more none) = absurd (small (inl more))
  not_long f v R e small (long few more none) = absurd (small (inr more))
  not_long f v R e small (fault few little front rose) = cc e
  not_long f v R e small (memory few little front) = cc e
