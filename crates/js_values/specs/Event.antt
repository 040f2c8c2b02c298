-- Host events.
use Rattle.std.specs.Prelude.{ℕ, ◌≤◌}
use Rattle.js_core.specs.Text.{AllUnits}
use Rattle.js_values.specs.declared.event.Event.{Event}
use Rattle.js_values.specs.declared.event.Event.TheVariants.{Fire, Input, Tick, Call, Dom}

-- a tick lasts at most so many milliseconds
abbrev pub longest_tick : ℕ
longest_tick = 1000000000

-- an event's texts are of 16-bit units, and a tick is not too long
abbrev pub IsEvent : Event → Type 0
IsEvent (Fire kind at bubbles cancelable) = AllUnits kind × AllUnits at
IsEvent (Input text at) = AllUnits text × AllUnits at
IsEvent (Tick n) = n ≤ longest_tick
IsEvent (Call name) = AllUnits name
IsEvent Dom = Unit {0}
