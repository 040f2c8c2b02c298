-- Which events a file holds.
use Rattle.std.specs.Prelude.{◌≡◌, ℕ, ◌+◌, List, [], ◌∷◌, Option, Some, None, Result, Ok, Err, option_and_then, nat_le, if◌then◌else◌, Vec}
use Rattle.std.specs.Str.{is_utf8}
use Rattle.std.specs.declared.alloc.Global.{Global}
use Rattle.serde_json.specs.Data.{Data, Items, no_items, item}
use Rattle.serde_json.specs.Find.{as_array}
use Rattle.serde_json.specs.Read.{read}
use Rattle.event_file.specs.Items.{event_of}
use Rattle.js_values.specs.declared.event.Event.{Event}
use Rattle.js_core.specs.declared.memory.Failure.{Failure}
use Rattle.event_file.specs.declared.fault.NotEvents.{NotEvents}
use Rattle.js_core.specs.declared.memory.Failure.TheVariants.{Cause, OutOfMemory}

-- a file has at most so many events
abbrev pub most_events : ℕ
most_events = 100000

-- the nth item, counted from 1; one past the most is no event
abbrev pub event_at : ℕ → Data → Option Event
event_at n d = if nat_le n most_events then event_of d else None

-- the nth item's event before those of the later items; n where it is none
abbrev pub with_event : Option Event → ℕ → Result (List Event) ℕ → Result (List Event) ℕ
with_event None n later = Err n
with_event (Some e) n (Ok es) = Ok (e ∷ es)
with_event (Some e) n (Err m) = Err m

-- the events of the items, of which the first is the nth, or the number of the first that is none
abbrev pub events_from : ℕ → Items → Result (List Event) ℕ
events_from n no_items = Ok []
events_from n (item d ds) = with_event (event_at n d) n (events_from (n + 1) ds)

abbrev pub events_of_array : Option Items → Result (List Event) ℕ
events_of_array None = Err 0
events_of_array (Some ds) = events_from 1 ds

-- the items of the JSON array that the bytes are
abbrev pub items_of : List ℕ → Option Items
items_of bytes = if is_utf8 bytes then option_and_then as_array (read bytes) else None

-- the events that the bytes hold: 0 where they are no JSON array, else the number of the first item that is no event
abbrev pub events_of : List ℕ → Result (List Event) ℕ
events_of bytes = events_of_array (items_of bytes)

-- what was found is answered, or memory ran out
abbrev pub Finds : Result (List Event) ℕ → Result (Vec Event Global) (Failure NotEvents) → Type 0
Finds found (Ok v) = found ≡ Ok v.items
Finds found (Err (Cause why)) = found ≡ Err why.0
Finds found (Err OutOfMemory) = Unit {0}
