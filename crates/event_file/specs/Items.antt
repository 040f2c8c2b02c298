-- The event that an item is.
use Rattle.std.specs.Prelude.{ℕ, ◌&&◌, Bool, true, List, codes, Option, Some, None, option_map, option_and_then, nat_le, if◌then◌else◌}
use Rattle.serde_json.specs.Data.{Data}
use Rattle.serde_json.specs.Find.{get, as_bool, as_number, as_str, as_u64}
use Rattle.js_core.specs.Text.{utf16_of}
use Rattle.js_values.specs.Event.{longest_tick}
use Rattle.event_file.specs.Kinds.{has_only_keys_of, kind_of}
use Rattle.js_values.specs.declared.event.Event.{Event}
use Rattle.js_values.specs.declared.event.Event.TheVariants as event
use Rattle.event_file.specs.declared.kind.Kind.{Kind}
use Rattle.event_file.specs.declared.kind.Kind.TheVariants.{Fire, Input, Tick, Call, Dom}

-- the text at a key
abbrev pub text_at : List ℕ → Data → Option (List ℕ)
text_at key d = option_and_then as_str (get key d)

abbrev pub truth_or_true : Option Data → Option Bool
truth_or_true None = Some true
truth_or_true (Some d) = as_bool d

-- the truth at a key, true where it is absent
abbrev pub truth_at : List ℕ → Data → Option Bool
truth_at key d = truth_or_true (get key d)

abbrev pub in_reach : ℕ → Option ℕ
in_reach n = if nat_le n longest_tick then Some n else None

-- the length of a tick: an unsigned integer up to the longest
abbrev pub tick_of : Data → Option ℕ
tick_of d = option_and_then in_reach (option_and_then as_u64 (option_and_then as_number (get (codes "tick") d)))

abbrev pub fire_with : Option (List ℕ) → Option (List ℕ) → Option Bool → Option Bool → Option Event
fire_with (Some kind) (Some at) (Some bubbles) (Some cancelable) = Some (event.Fire (utf16_of kind) (utf16_of at) bubbles cancelable)
fire_with kind at bubbles cancelable = None

abbrev pub input_with : Option (List ℕ) → Option (List ℕ) → Option Event
input_with (Some text) (Some at) = Some (event.Input (utf16_of text) (utf16_of at))
input_with text at = None

abbrev pub dom_with : Option Bool → Option Event
dom_with (Some true) = Some event.Dom
dom_with truth = None

abbrev pub fire_of : Data → Option Event
fire_of d = fire_with (text_at (codes "fire") d) (text_at (codes "at") d) (truth_at (codes "bubbles") d) (truth_at (codes "cancelable") d)

abbrev pub input_of : Data → Option Event
input_of d = input_with (text_at (codes "input") d) (text_at (codes "at") d)

abbrev pub call_of : Data → Option Event
call_of d = option_map (λ name. event.Call (utf16_of name)) (text_at (codes "call") d)

abbrev pub dom_of : Data → Option Event
dom_of d = dom_with (option_and_then as_bool (get (codes "dom") d))

-- the event that an object of a kind is
abbrev pub event_as : Kind → Data → Option Event
event_as Fire d = fire_of d
event_as Input d = input_of d
event_as Tick d = option_map event.Tick (tick_of d)
event_as Call d = call_of d
event_as Dom d = dom_of d

-- the event that an item is, if it has the keys of its kind alone
abbrev pub event_if_of : Data → Kind → Option Event
event_if_of d kind = if has_only_keys_of kind d then event_as kind d else None

abbrev pub event_of : Data → Option Event
event_of d = option_and_then (event_if_of d) (kind_of d)
