-- Timers that start.
use Rattle.std.proofs.Common.{◌≡◌, sym, ap, ◌∙◌, ℕ, Option, Some, None}
use Rattle.std.specs.Prelude.{pos}
use Rattle.js_core.specs.declared.memory.Failure.{Failure}
use Rattle.js_core.specs.declared.memory.Failure.TheVariants as fault
use Rattle.js_values.specs.declared.ids.ObjId.{ObjId}
use Rattle.js_values.specs.declared.throw.Throw.TheVariants.{OutOfRange}
use Rattle.js_values.specs.declared.value.Value.{Value}
use Rattle.js_values.specs.declared.value.Value.TheVariants.{Num}
use Rattle.page_meaning.specs.declared.signal.Signal.TheVariants.{Value as Val}
use Rattle.timer_queue.specs.Timers.{least_free}
use Rattle.page_meaning.specs.Act.{Ended, give, then_on}
use Rattle.page_meaning.specs.Errors.{raise}
use Rattle.page_meaning.specs.Store.{Store}
use Rattle.page_meaning.specs.TimerRows.{start}
use Rattle.page_state.specs.Does.{Does, Raises}
use Rattle.page_state.specs.Made.{IsStarted}

pub started : (delay : ℕ) (period : Option ℕ) (f : ObjId) (id : ℕ) (v : Value) (s t : Store) → IsStarted delay period f s (Some id) t → v ≡ Num (Some (pos id)) → Does (λ _. start delay period f) s (Val v) t
started delay period f id v s t h is = record {
  is = λ calls n.
      let given : v ≡ Num (Some (pos (least_free s.host.timers))) = is ∙ ap (λ i. Num (Some (pos i))) (h.1.0) in
      rw (h.0)
      (ap (λ o. then_on o (λ _. give (Num (Some (pos (least_free s.host.timers)))))) (h.1.1.is calls n) ∙ ap (λ x. Ended (Val x) t n) (sym given));
}

pub none_started : (delay : ℕ) (period : Option ℕ) (f : ObjId) (s t u : Store) (e : Failure Value) → IsStarted delay period f s None t → Raises (λ _. raise OutOfRange) t u e → Raises (λ _. start delay period f) s u e
none_started delay period f s t u (fault.Cause v) h r = let k : Does (λ _. raise OutOfRange) s _ u = rw (h.1) at r in record { is = λ calls n. rw (h.0) (k.is calls n) }
none_started delay period f s t u fault.OutOfMemory h r = tt
