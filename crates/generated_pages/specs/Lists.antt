-- Which events the lists for generated pages hold.
use Rattle.std.specs.Prelude.{◌≡◌, ◌≤◌, ◌<◌, ℕ, zero, suc, ◌+◌, ◌/◌, ◌%◌, ◌==◌, true, if◌then◌else◌, List, [], ◌∷◌, ◌++◌, length, codes, Ok}
use Rattle.std.specs.Fmt.{decimal}
use Rattle.event_file.specs.Events.{events_of, most_events}
use Rattle.js_core.specs.Text.{utf16_of}
use Rattle.js_values.specs.declared.event.Event.{Event}
use Rattle.js_values.specs.declared.event.Event.TheVariants.{Call, Fire, Tick}
use Rattle.page_maker.specs.Events.{event_list}
use Rattle.page_maker.specs.Generator.{drawn}

-- the event that a number chooses, for a page with so many parts
abbrev pub chosen : ℕ → ℕ → Event
chosen parts y =
    if y % 3 == 0 then Fire (utf16_of (codes "click")) (utf16_of (codes "p" ++ decimal (1 + y / 3 % parts))) true true
    else (if y % 3 == 1 then Tick (y / 3 % 20) else Call (utf16_of (codes "total")))

-- the events that the numbers choose which are drawn after those of the page, so many, and then these
abbrev pub chosen_before : ℕ → ℕ → List Event → List Event
chosen_before parts zero es = es
chosen_before parts (suc n) es = chosen_before parts n (chosen parts (drawn (parts + suc n)) ∷ es)

-- as many as the page has parts, and the call that prints the sums
abbrev pub made_events : ℕ → List Event
made_events n = chosen_before n n (Call (utf16_of (codes "total")) ∷ [])

-- the list for the page with n parts holds these events, one more than the parts, where they are not too many for a file of events
abbrev pub ListsAreRead : Type 0
ListsAreRead = (n : ℕ) → 1 ≤ n → n < most_events → (events_of (event_list n) ≡ Ok (made_events n)) × (length (made_events n) ≡ n + 1)
