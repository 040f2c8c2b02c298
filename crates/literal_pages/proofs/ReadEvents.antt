-- The events that a file holds are literal: its texts are given by bytes, and no longer than it.
use Rattle.std.proofs.Common.{◌≡◌, ℕ, ◌+◌, ◌≤◌, ◌&&◌, Bool, true, false, List, length, Option, Some, None, Result, Ok, Err, nat_le, option_and_then, refl, subst, arith, codes}
use Rattle.std.specs.Prelude.{if◌then◌else◌, option_map}
use Rattle.std.specs.Str.{is_utf8}
use Rattle.std.proofs.lemmas.Str.{IsUtf8-from_is_utf8}
use Rattle.js_core.specs.Text.{utf16_of}
use Rattle.js_values.specs.declared.event.Event.{Event}
use Rattle.js_values.specs.declared.event.Event.TheVariants as event
use Rattle.event_file.specs.Events.{event_at, events_from, events_of_array, items_of, most_events, with_event}
use Rattle.event_file.specs.Items.{dom_with, event_as, event_if_of, event_of, fire_with, input_with, text_at, tick_of}
use Rattle.event_file.specs.Kinds.{has_only_keys_of, kind_of}
use Rattle.event_file.specs.declared.kind.Kind.{Kind}
use Rattle.event_file.specs.declared.kind.Kind.TheVariants.{Fire, Input, Tick, Call, Dom}
use Rattle.serde_json.specs.Data.{Data, Items, item, no_items}
use Rattle.serde_json.specs.Find.{as_array, as_str, get}
use Rattle.serde_json.specs.Read.{read}
use Rattle.literal_values.specs.Events.{LiteralEvent, LiteralEvents}
use Rattle.literal_values.specs.Values.{IsName, IsText, longest_name}
use Rattle.literal_values.proofs.Callers.{name_text}
use Rattle.literal_pages.specs.Literal.{ReadEventsAreLiteral}
use Rattle.literal_pages.proofs.Bytes.{text_count, text_units, utf8_bytes}
use Rattle.literal_pages.proofs.InUnits.{all_units}
use Rattle.literal_pages.proofs.JsonTokens.{IsShortText}
use Rattle.literal_pages.proofs.JsonValues.{DataBytes, Found, ItemsBytes, array_bytes, found_then, got_bytes, read_bytes, str_bytes}

-- ---- the event that an item is

name_read : (s : List ℕ) → IsShortText s → IsName (utf16_of s)
name_read s h = let l = text_count s in let m = h.short in (all_units (utf16_of s) (text_units s h.bytes), omega arith)

text_read : (s : List ℕ) → IsShortText s → IsText (utf16_of s)
text_read s h = name_text (utf16_of s) (name_read s h)

text_bytes : (key : List ℕ) (d : Data) → DataBytes d → Found IsShortText (text_at key d)
text_bytes key d h = found_then DataBytes IsShortText as_str (get key d) (got_bytes key d h) str_bytes

fire_literal : (a b : Option (List ℕ)) (c e : Option Bool) → Found IsShortText a → Found LiteralEvent (fire_with a b c e)
fire_literal (Some kind) (Some at) (Some bubbles) (Some cancelable) h = text_read kind h
fire_literal None b c e h = tt
fire_literal (Some kind) None c e h = tt
fire_literal (Some kind) (Some at) None e h = tt
fire_literal (Some kind) (Some at) (Some bubbles) None h = tt

input_literal : (a b : Option (List ℕ)) → Found IsShortText a → Found LiteralEvent (input_with a b)
input_literal (Some t) (Some at) h = text_read t h
input_literal None b h = tt
input_literal (Some t) None h = tt

call_literal : (o : Option (List ℕ)) → Found IsShortText o → Found LiteralEvent (option_map (λ name. event.Call (utf16_of name)) o)
call_literal None h = tt
call_literal (Some name) h = name_read name h

tick_literal : (o : Option ℕ) → Found LiteralEvent (option_map event.Tick o)
tick_literal None = tt
tick_literal (Some n) = tt

dom_literal : (o : Option Bool) → Found LiteralEvent (dom_with o)
dom_literal None = tt
dom_literal (Some true) = tt
dom_literal (Some false) = tt

kind_literal : (kind : Kind) (d : Data) → DataBytes d → Found LiteralEvent (event_as kind d)
kind_literal Fire d h = fire_literal (text_at (codes "fire") d) _ _ _ (text_bytes (codes "fire") d h)
kind_literal Input d h = input_literal (text_at (codes "input") d) _ (text_bytes (codes "input") d h)
kind_literal Tick d h = tick_literal (tick_of d)
kind_literal Call d h = call_literal (text_at (codes "call") d) (text_bytes (codes "call") d h)
kind_literal Dom d h = dom_literal _

if_literal : (b : Bool) (o : Option Event) → Found LiteralEvent o → Found LiteralEvent (if b then o else None)
if_literal true o h = h
if_literal false o h = tt

item_literal : (d : Data) → DataBytes d → Found LiteralEvent (event_of d)
item_literal d h = by (kind_of d)
  where
    by : (o : Option Kind) → Found LiteralEvent (option_and_then (event_if_of d) o)
    by None = tt
    by (Some kind) = if_literal (has_only_keys_of kind d) (event_as kind d) (kind_literal kind d h)

-- ---- those of a file

abbrev AreLiteral : Result (List Event) ℕ → Type 0
AreLiteral (Ok es) = LiteralEvents es
AreLiteral (Err n) = Unit {0}

with_literal : (o : Option Event) (n : ℕ) (r : Result (List Event) ℕ) → Found LiteralEvent o → AreLiteral r → AreLiteral (with_event o n r)
with_literal None n r h k = tt
with_literal (Some e) n (Ok es) h k = (h, k)
with_literal (Some e) n (Err m) h k = tt

items_literal : (n : ℕ) (ds : Items) → ItemsBytes ds → AreLiteral (events_from n ds)
items_literal n no_items h = tt
items_literal n (item d ds) h =
    with_literal (event_at n d) n (events_from (n + 1) ds) (if_literal (nat_le n most_events) (event_of d) (item_literal d h.0))
    (items_literal (n + 1) ds h.1)

array_literal : (o : Option Items) → Found ItemsBytes o → AreLiteral (events_of_array o)
array_literal None h = tt
array_literal (Some ds) h = items_literal 1 ds h

file_bytes : (bytes : List ℕ) → length bytes ≤ longest_name → Found ItemsBytes (items_of bytes)
file_bytes bytes short = by (is_utf8 bytes) refl
  where
    by : (b : Bool) → is_utf8 bytes ≡ b → Found ItemsBytes (if b then option_and_then as_array (read bytes) else None)
    by false e = tt
    by true e = found_then DataBytes ItemsBytes as_array (read bytes) (read_bytes bytes (record { bytes = utf8_bytes bytes (IsUtf8-from_is_utf8 bytes e); short = short })) array_bytes

pub read_events_are_literal : ReadEventsAreLiteral
read_events_are_literal bytes events e short = subst AreLiteral e (array_literal (items_of bytes) (file_bytes bytes (omega (arith, short))))
