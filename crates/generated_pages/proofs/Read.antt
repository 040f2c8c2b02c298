-- Which events that JSON is.
use Rattle.std.proofs.Common.{◌≡◌, ◌∙◌, ℕ, zero, suc, ◌+◌, ◌%◌, ◌==◌, ◌^◌, ◌<◌, ◌≤◌, Bool, true, false, List, [], ◌∷◌, ◌++◌, length, Option, Some, Result, Ok, refl, ap, arith}
use Rattle.std.specs.Prelude.{codes, decimal, nat_le, option_map, option_and_then}
use Rattle.std.proofs.lemmas.Bool.Decides.{nat_tests}
use Rattle.std.proofs.lemmas.Str.{is_utf8-from_IsUtf8}
use Rattle.event_file.specs.Events.{event_at, events_from, events_of_array, most_events, with_event}
use Rattle.event_file.specs.Items.{event_of}
use Rattle.js_core.specs.Text.{utf16_of}
use Rattle.js_values.specs.Event.{longest_tick}
use Rattle.js_values.specs.declared.event.Event.{Event}
use Rattle.js_values.specs.declared.event.Event.TheVariants.{Call, Fire, Tick}
use Rattle.json.specs.Json as json
use Rattle.page_maker.specs.Events.{event_list}
use Rattle.page_maker.specs.Generator.{drawn}
use Rattle.serde_json.specs.Data.{Data, Items, array, item, member, no_items, no_members, number, object, string, unsigned}
use Rattle.serde_json.specs.Find.{as_array}
use Rattle.serde_json.specs.Read.{of_items, of_json, read}
use Rattle.serde_json.proofs.Numbers.{number_of-decimal}
use Rattle.generated_pages.specs.Lists.{ListsAreRead, chosen, chosen_before}
use Rattle.generated_pages.proofs.Json.{click_json, event_json, events_before, length_is_small, length_of, list_is_read, list_is_utf8, list_items, part_of, picked, tick_json, total_json}

-- ---- data

abbrev click_data : ℕ → Data
click_data part = object (member (codes "at") (string (codes "p" ++ decimal part)) (member (codes "fire") (string (codes "click")) no_members))

abbrev tick_data : ℕ → Data
tick_data length = object (member (codes "tick") (number (unsigned length)) no_members)

abbrev total_data : Data
total_data = object (member (codes "call") (string (codes "total")) no_members)

abbrev event_data : ℕ → ℕ → Data
event_data parts y = picked (y % 3 == 0) (y % 3 == 1) (click_data (part_of parts y)) (tick_data (length_of y)) total_data

abbrev data_before : ℕ → ℕ → Items → Items
data_before parts zero ds = ds
data_before parts (suc n) ds = data_before parts n (item (event_data parts (drawn (parts + suc n))) ds)

abbrev list_data : ℕ → Items
list_data n = data_before n n (item total_data no_items)

picked_is_data : (b c : Bool) (part length : ℕ) → length < 2 ^ 64
    → of_json (picked b c (click_json part) (tick_json length) total_json) ≡ Some (picked b c (click_data part) (tick_data length) total_data)
picked_is_data true c part length h = refl
picked_is_data false true part length h = rw (number_of-decimal length h) refl
picked_is_data false false part length h = refl

item_is_data : (j : json.Json) (d : Data) (js : json.Items) (ds : Items) → of_json j ≡ Some d → of_items js ≡ Some ds → of_items (json.item j js) ≡ Some (item d ds)
item_is_data j d js ds e f = rw (e, f) refl

items_are_data : (parts n : ℕ) (js : json.Items) (ds : Items) → of_items js ≡ Some ds → of_items (events_before parts n js) ≡ Some (data_before parts n ds)
items_are_data parts zero js ds e = e
items_are_data parts (suc n) js ds e =
    let y = drawn (parts + suc n) in
    let small : length_of y < 2 ^ 64 = omega (arith, length_is_small y) in
    items_are_data parts n (json.item (event_json parts y) js) (item (event_data parts y) ds)
    (item_is_data (event_json parts y) (event_data parts y) js ds (picked_is_data (y % 3 == 0) (y % 3 == 1) (part_of parts y) (length_of y) small) e)

list_is_data : (n : ℕ) → of_items (list_items n) ≡ Some (list_data n)
list_is_data n = items_are_data n n (json.item total_json json.no_items) (item total_data no_items) refl

-- ---- events

in_reach : (length : ℕ) → length < 20 → nat_le length longest_tick ≡ true
in_reach length h = grind (arith, nat_tests)

picked_is_event : (b c : Bool) (part length : ℕ) → length < 20 → event_of (picked b c (click_data part) (tick_data length) total_data)
    ≡ Some (picked b c (Fire (utf16_of (codes "click")) (utf16_of (codes "p" ++ decimal part)) true true) (Tick length) (Call (utf16_of (codes "total"))))
picked_is_event true c part length h = refl
picked_is_event false true part length h = rw (in_reach length h) refl
picked_is_event false false part length h = refl

few_enough : (i : ℕ) → i ≤ 100000 → nat_le i most_events ≡ true
few_enough i h = grind (arith, nat_tests)

first_is_event : (i : ℕ) (d : Data) (e : Event) (ds : Items) (es : List Event) → i ≤ 100000 → event_of d ≡ Some e → events_from (i + 1) ds ≡ Ok es
    → events_from i (item d ds) ≡ Ok (e ∷ es)
first_is_event i d e ds es few is rest =
    let at : event_at i d ≡ Some e = rw (few_enough i few) is in
    ap (λ (o : Option Event). with_event o i (events_from (i + 1) ds)) at ∙ ap (λ (r : Result (List Event) ℕ). with_event (Some e) i r) rest

-- n events and these, of which the first comes after n others
events_are : (parts n : ℕ) (ds : Items) (es : List Event) → n < 100000 → events_from (n + 1) ds ≡ Ok es → events_from 1 (data_before parts n ds) ≡ Ok (chosen_before parts n es)
events_are parts zero ds es few is = is
events_are parts (suc n) ds es few is =
    let y = drawn (parts + suc n) in
    events_are parts n (item (event_data parts y) ds) (chosen parts y ∷ es) (omega arith)
    (first_is_event (n + 1) (event_data parts y) (chosen parts y) ds es (omega arith) (picked_is_event (y % 3 == 0) (y % 3 == 1) (part_of parts y) (length_of y) (length_is_small y))
    (let next : (n + 1) + 1 ≡ suc n + 1 = omega arith in ap (λ (i : ℕ). events_from i ds) next ∙ is))

last_is : (i : ℕ) → i ≤ 100000 → events_from i (item total_data no_items) ≡ Ok (Call (utf16_of (codes "total")) ∷ [])
last_is i few = first_is_event i total_data (Call (utf16_of (codes "total"))) no_items [] few refl refl

so_many : (parts n : ℕ) (es : List Event) → length (chosen_before parts n es) ≡ n + length es
so_many parts zero es = omega arith
so_many parts (suc n) es = so_many parts n (chosen parts (drawn (parts + suc n)) ∷ es) ∙ omega arith

pub lists_are_read : ListsAreRead
lists_are_read n some few =
    let found : read (event_list n) ≡ Some (array (list_data n)) = list_is_read n some few ∙ ap (option_map array) (list_is_data n) in
    let utf8 = is_utf8-from_IsUtf8 (event_list n) (list_is_utf8 n some few) in (
      rw utf8 (ap (λ (o : Option Data). events_of_array (option_and_then as_array o)) found)
          ∙ events_are n n (item total_data no_items) (Call (utf16_of (codes "total")) ∷ []) few (last_is (n + 1) (omega arith)),
      so_many n n (Call (utf16_of (codes "total")) ∷ []),
    )
