-- Timers that come due one after another.
use Rattle.std.specs.Prelude.{◌≡◌, ℕ, ◌<◌, Bool, true, false}
use Rattle.page_machine.specs.declared.machine.End.{End}
use Rattle.page_machine.specs.declared.machine.End.TheVariants as end
use Rattle.page_meaning.specs.Act.{Act, Stopped}
use Rattle.page_meaning.specs.Calls.{calls_at}
use Rattle.page_meaning.specs.Lines.{put_uncaught}
use Rattle.page_meaning.specs.Store.{Store}
use Rattle.page_meaning.specs.TimerRows.{fired}
use Rattle.page_frames.specs.declared.meter.Meter.{Meter}
use Rattle.page_host.specs.Steps.{next_timer}
use Rattle.page_state.specs.Does.{Does}

-- whatever comes next, the timer that is due first fires, which takes a step at least and leaves the levels of depth
pub record GoesOn (moment : ℕ) (s : Store) (m : Meter) (t : Store) (m' : Meter) : Type 0 where
  pub fewer : m'.steps < m.steps
  pub depth : m'.depth ≡ m.depth
  pub same : (next : Unit {0} → Act) (last : Act) → (fired (calls_at m.depth) moment next last (next_timer s.host moment)).run s m.steps ≡ (next tt).run t m'.steps

-- or all stops
abbrev pub Stops : ℕ → Store → Meter → Store → Type 0
Stops moment s m t =
    (next : Unit {0} → Act) (last : Act) → (fired (calls_at m.depth) moment next last (next_timer s.host moment)).run s m.steps ≡ Stopped t

abbrev pub Fired : ℕ → Store → Meter → Bool → Store → Meter → Type 0
Fired moment s m true t m' = GoesOn moment s m t m'
Fired moment s m false t m' = Stops moment s m t

-- what ended is put out, and all goes on; what stopped does not
abbrev pub EndIsPut : End → Store → Bool → Store → Type 0
EndIsPut (end.Ended given) s true t = Does (λ _. put_uncaught given) s tt t
EndIsPut (end.Ended given) s false t = ⊥
EndIsPut end.Stopped s true t = ⊥
EndIsPut end.Stopped s false t = t ≡ s
