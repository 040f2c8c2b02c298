-- Which number is answered, in the words of the table of items.
use Rattle.std.specs.Prelude.{◌≡◌, ◌⊎◌, ◌↔◌, ℕ, ◌+◌, ◌≤◌, List, [], ◌∷◌, ◌++◌, length, map, Some, None, Ok, Err}
use Rattle.serde_json.specs.Data.{Data, Items, no_items, item}
use Rattle.event_file.specs.Events.{events_of, items_of, most_events}
use Rattle.event_file.specs.Items.{event_of}
use Rattle.js_values.specs.declared.event.Event.{Event}

abbrev pub list_of : Items → List Data
list_of no_items = []
list_of (item d ds) = d ∷ list_of ds

-- the items are these events, of which there are not too many
pub record AreEvents (items : List Data) (events : List Event) : Type 0 where
  pub each : map (event_of) items ≡ map Some events
  pub few : length events ≤ most_events

-- item i, counted from 1, is no event or is item 100,001, and the items in front of it are events
pub record IsFirstRefused (items : List Data) (i : ℕ) : Type 0 where
  pub front : List Data
  pub refused : Data
  pub later : List Data
  pub split : items ≡ front ++ refused ∷ later
  pub number : i ≡ length front + 1
  pub events : List Event
  pub before : AreEvents front events
  pub why : (event_of refused ≡ None) ⊎ (i ≡ most_events + 1)

-- 0 is answered exactly where the bytes are no JSON array; of an array, i exactly where item i is the first that is
-- refused; and else its items are the events
pub record NumbersItems (bytes : List ℕ) : Type 0 where
  pub no_array : (events_of bytes ≡ Err 0) ↔ (items_of bytes ≡ None)
  pub first_refused : (items : Items) (i : ℕ) → items_of bytes ≡ Some items → (events_of bytes ≡ Err i) ↔ IsFirstRefused (list_of items) i
  pub all_events : (items : Items) (es : List Event) → items_of bytes ≡ Some items → (events_of bytes ≡ Ok es) ↔ AreEvents (list_of items) es
