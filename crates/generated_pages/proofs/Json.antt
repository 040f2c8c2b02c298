-- The list of events for a generated page as JSON: what is printed for it is the list's text, so that text is read as it.
use Rattle.std.proofs.Common.{◌≡◌, ◌∙◌, ℕ, zero, suc, ◌+◌, ◌/◌, ◌%◌, ◌==◌, ◌^◌, ◌<◌, ◌≤◌, Bool, true, false, List, [], ◌∷◌, ◌++◌, length, get_or, refl, sym, ap, ap₂, append_assoc, append-nil, arith}
use Rattle.std.specs.Prelude.{codes, decimal, if◌then◌else◌, option_and_then, IsUtf8}
use Rattle.std.proofs.lemmas.Fmt.{IsAscii-decimal, decimal_is_IsNumeral}
use Rattle.std.proofs.lemmas.Str.{IsUtf8-append, IsUtf8-from_ascii}
use Rattle.std.proofs.lemmas.Str.Parse.{digit_at}
use Rattle.json.specs.Json as json
use Rattle.json.specs.Json.{if_last, value}
use Rattle.json.specs.Lex.{tokens}
use Rattle.json.specs.Print.{escape, print, print_from, escape_byte}
use Rattle.json.specs.Token.{Token}
use Rattle.json.specs.Tree.{HasNumbers, ItemsHaveNumbers, items_depth, items_tokens, json_tokens}
use Rattle.json.proofs.Printed.Decimals.{IsNumber-decimal}
use Rattle.json.proofs.Printed.Strings.{escape_byte_plain}
use Rattle.json.proofs.Printed.Tokens.{tokens-print}
use Rattle.json.proofs.Printed.Trees.{ArePrintable-json_tokens, value-json_tokens}
use Rattle.json.proofs.Printed.Utf8.{IsUtf8-are_ascii}
use Rattle.serde_json.specs.Read.{max_depth, of_json, read}
use Rattle.page_maker.specs.Events.{click, event, event_list, events, tick, total}
use Rattle.page_maker.specs.Generator.{drawn}

-- ---- events as JSON

abbrev pub click_json : ℕ → json.Json
click_json part = json.object (json.member (codes "fire") (json.string (codes "click")) (json.member (codes "at") (json.string (codes "p" ++ decimal part)) json.no_members))

abbrev pub tick_json : ℕ → json.Json
tick_json length = json.object (json.member (codes "tick") (json.number (decimal length)) json.no_members)

abbrev pub total_json : json.Json
total_json = json.object (json.member (codes "call") (json.string (codes "total")) json.no_members)

-- one of the three, where these tell which
abbrev pub picked : {A : Type 0} → Bool → Bool → A → A → A → A
picked b c x y z = if b then x else (if c then y else z)

abbrev pub part_of : ℕ → ℕ → ℕ
part_of parts y = 1 + y / 3 % parts

abbrev pub length_of : ℕ → ℕ
length_of y = y / 3 % 20

abbrev pub event_json : ℕ → ℕ → json.Json
event_json parts y = picked (y % 3 == 0) (y % 3 == 1) (click_json (part_of parts y)) (tick_json (length_of y)) total_json

-- the first n events, and then these
abbrev pub events_before : ℕ → ℕ → json.Items → json.Items
events_before parts zero js = js
events_before parts (suc n) js = events_before parts n (json.item (event_json parts (drawn (parts + suc n))) js)

abbrev pub list_items : ℕ → json.Items
list_items n = events_before n n (json.item total_json json.no_items)

-- ---- numbers

pub part_is_small : (parts y : ℕ) → 1 ≤ parts → parts < 100000 → part_of parts y < 2 ^ 64
part_is_small parts y some few = let low : y / 3 % parts < parts = omega arith in omega arith

pub length_is_small : (y : ℕ) → length_of y < 20
length_is_small y = omega arith

-- ---- the text

digits_stay : (ds : List ℕ) → ((i : ℕ) → i < length ds → (48 ≤ get_or ds i 0) × (get_or ds i 0 ≤ 57)) → escape ds ≡ ds
digits_stay [] h = refl
digits_stay (d ∷ ds) h =
    let first : (48 ≤ d) × (d ≤ 57) = h 0 (omega arith) in
    ap₂ (λ (a b : List ℕ). a ++ b) (escape_byte_plain d (λ e. omega (arith, first.0, first.1)) (λ e. omega (arith, first.0, first.1)) (omega (arith, first.0)))
    (digits_stay ds (λ i l. h (suc i) (omega arith)))

decimal_stays : (n : ℕ) → n < 2 ^ 64 → escape (decimal n) ≡ decimal n
decimal_stays n h = digits_stay (decimal n) (λ i l. digit_at (decimal n) i (decimal_is_IsNumeral n h).0.1 l)

click_is_printed : (part : ℕ) (ts : List Token) → part < 2 ^ 64 → print_from false (json_tokens (click_json part) ++ ts) ≡ click part ++ print_from true ts
unfolding print_from escape_byte
click_is_printed part ts h =
    ap (λ (t : List ℕ). codes "{\"fire\":\"click\",\"at\":\"p" ++ t)
    (ap (λ (t : List ℕ). (t ++ codes "\"") ++ (codes "}" ++ print_from true ts)) (decimal_stays part h) ∙ append_assoc (decimal part) (codes "\"") (codes "}" ++ print_from true ts)
    ∙ sym (append_assoc (decimal part) (codes "\"}") (print_from true ts)))

tick_is_printed : (length : ℕ) (ts : List Token) → print_from false (json_tokens (tick_json length) ++ ts) ≡ tick length ++ print_from true ts
unfolding print_from escape_byte
tick_is_printed length ts = ap (λ (t : List ℕ). codes "{\"tick\":" ++ t) (sym (append_assoc (decimal length) (codes "}") (print_from true ts)))

total_is_printed : (ts : List Token) → print_from false (json_tokens total_json ++ ts) ≡ total ++ print_from true ts
unfolding print_from escape_byte
total_is_printed ts = refl

picked_is_printed : (b c : Bool) (part length : ℕ) (ts : List Token) → part < 2 ^ 64
    → print_from false (json_tokens (picked b c (click_json part) (tick_json length) total_json) ++ ts) ≡ picked b c (click part) (tick length) total ++ print_from true ts
picked_is_printed true c part length ts h = click_is_printed part ts h
picked_is_printed false true part length ts h = tick_is_printed length ts
picked_is_printed false false part length ts h = total_is_printed ts

-- after a value a comma stands before these items
abbrev Follows : json.Items → Type 0
Follows js = print_from true (items_tokens js) ≡ 44 ∷ print_from false (items_tokens js)

picked_follows : (b c : Bool) (part length : ℕ) (js : json.Items) → Follows (json.item (picked b c (click_json part) (tick_json length) total_json) js)
unfolding print_from
picked_follows true c part length js = refl
picked_follows false true part length js = refl
picked_follows false false part length js = refl

item_is_printed : (b c : Bool) (part length : ℕ) (js : json.Items) → part < 2 ^ 64 → Follows js
    → print_from false (items_tokens (json.item (picked b c (click_json part) (tick_json length) total_json) js))
    ≡ (picked b c (click part) (tick length) total ++ codes ",") ++ print_from false (items_tokens js)
item_is_printed b c part length js h follows =
    let text = picked b c (click part) (tick length) total in
    picked_is_printed b c part length (items_tokens js) h ∙ ap (λ (t : List ℕ). text ++ t) follows ∙ sym (append_assoc text (codes ",") (print_from false (items_tokens js)))

events_are_printed : (parts n : ℕ) (js : json.Items) → 1 ≤ parts → parts < 100000 → Follows js
    → print_from false (items_tokens (events_before parts n js)) ≡ events parts n ++ print_from false (items_tokens js)
events_are_printed parts zero js some few follows = refl
events_are_printed parts (suc n) js some few follows =
    let y = drawn (parts + suc n) in
    let rest = print_from false (items_tokens js) in
    events_are_printed parts n (json.item (event_json parts y) js) some few (picked_follows (y % 3 == 0) (y % 3 == 1) (part_of parts y) (length_of y) js)
    ∙ ap (λ (t : List ℕ). events parts n ++ t) (item_is_printed (y % 3 == 0) (y % 3 == 1) (part_of parts y) (length_of y) js (part_is_small parts y some few) follows)
    ∙ sym (append_assoc (events parts n) (event parts y ++ codes ",") rest)

total_follows : Follows (json.item total_json json.no_items)
unfolding print_from
total_follows = refl

last_is_printed : print_from false (items_tokens (json.item total_json json.no_items)) ≡ total ++ codes "]"
unfolding print_from escape_byte
last_is_printed = refl

list_begins : (js : json.Items) → print (json_tokens (json.array js)) ≡ codes "[" ++ print_from false (items_tokens js)
unfolding print_from
list_begins js = refl

list_is_printed : (n : ℕ) → 1 ≤ n → n < 100000 → print (json_tokens (json.array (list_items n))) ≡ event_list n
list_is_printed n some few =
    list_begins (list_items n)
    ∙ ap (λ (t : List ℕ). codes "[" ++ t) (events_are_printed n n (json.item total_json json.no_items) some few total_follows ∙ ap (λ (t : List ℕ). events n n ++ t) last_is_printed)

-- ---- what is read

picked_has_numbers : (b c : Bool) (part length : ℕ) → length < 2 ^ 64 → HasNumbers (picked b c (click_json part) (tick_json length) total_json)
picked_has_numbers true c part length h = (tt, (tt, tt))
picked_has_numbers false true part length h = (IsNumber-decimal length h, tt)
picked_has_numbers false false part length h = (tt, tt)

have_numbers : (parts n : ℕ) (js : json.Items) → ItemsHaveNumbers js → ItemsHaveNumbers (events_before parts n js)
have_numbers parts zero js h = h
have_numbers parts (suc n) js h =
    let y = drawn (parts + suc n) in
    let small : length_of y < 2 ^ 64 = omega (arith, length_is_small y) in
    have_numbers parts n (json.item (event_json parts y) js) (picked_has_numbers (y % 3 == 0) (y % 3 == 1) (part_of parts y) (length_of y) small, h)

picked_is_shallow : (b c : Bool) (part length : ℕ) (js : json.Items) → items_depth js ≤ 1 → items_depth (json.item (picked b c (click_json part) (tick_json length) total_json) js) ≤ 1
picked_is_shallow true c part length js h = omega arith
picked_is_shallow false true part length js h = omega arith
picked_is_shallow false false part length js h = omega arith

are_shallow : (parts n : ℕ) (js : json.Items) → items_depth js ≤ 1 → items_depth (events_before parts n js) ≤ 1
are_shallow parts zero js h = h
are_shallow parts (suc n) js h =
    let y = drawn (parts + suc n) in
    are_shallow parts n (json.item (event_json parts y) js) (picked_is_shallow (y % 3 == 0) (y % 3 == 1) (part_of parts y) (length_of y) js h)

pub list_is_read : (n : ℕ) → 1 ≤ n → n < 100000 → read (event_list n) ≡ of_json (json.array (list_items n))
list_is_read n some few =
    let list = json.array (list_items n) in
    let numbers : HasNumbers list = have_numbers n n (json.item total_json json.no_items) ((tt, tt), tt) in
    let low : items_depth (list_items n) ≤ 1 = are_shallow n n (json.item total_json json.no_items) (omega arith) in
    let found : tokens (event_list n) ≡ json_tokens list = ap tokens (sym (list_is_printed n some few)) ∙ tokens-print (json_tokens list) (ArePrintable-json_tokens list numbers) in
    ap (λ (o : _). option_and_then of_json (option_and_then (λ p. if_last p.0 p.1) o))
    (ap (value max_depth) (found ∙ sym (append-nil (json_tokens list))) ∙ value-json_tokens list max_depth [] (omega (arith, low)))

-- ---- UTF-8

number_is_utf8 : (n : ℕ) → n < 2 ^ 64 → IsUtf8 (decimal n)
number_is_utf8 n h = IsUtf8-from_ascii (decimal n) (IsAscii-decimal n h)

picked_is_utf8 : (b c : Bool) (part length : ℕ) → part < 2 ^ 64 → length < 2 ^ 64 → IsUtf8 (picked b c (click part) (tick length) total)
picked_is_utf8 true c part length h k =
    IsUtf8-append (codes "{\"fire\":\"click\",\"at\":\"p") _ (IsUtf8-are_ascii _ refl) (IsUtf8-append (decimal part) (codes "\"}") (number_is_utf8 part h) (IsUtf8-are_ascii _ refl))
picked_is_utf8 false true part length h k =
    IsUtf8-append (codes "{\"tick\":") _ (IsUtf8-are_ascii _ refl) (IsUtf8-append (decimal length) (codes "}") (number_is_utf8 length k) (IsUtf8-are_ascii _ refl))
picked_is_utf8 false false part length h k = IsUtf8-are_ascii total refl

events_are_utf8 : (parts n : ℕ) → 1 ≤ parts → parts < 100000 → IsUtf8 (events parts n)
events_are_utf8 parts zero some few = IsUtf8-are_ascii [] refl
events_are_utf8 parts (suc n) some few =
    let y = drawn (parts + suc n) in
    let small : length_of y < 2 ^ 64 = omega (arith, length_is_small y) in
    IsUtf8-append (events parts n) _ (events_are_utf8 parts n some few)
    (IsUtf8-append (event parts y) (codes ",") (picked_is_utf8 (y % 3 == 0) (y % 3 == 1) (part_of parts y) (length_of y) (part_is_small parts y some few) small) (IsUtf8-are_ascii _ refl))

pub list_is_utf8 : (n : ℕ) → 1 ≤ n → n < 100000 → IsUtf8 (event_list n)
list_is_utf8 n some few =
    IsUtf8-append (codes "[") _ (IsUtf8-are_ascii _ refl) (IsUtf8-append (events n n) _ (events_are_utf8 n n some few) (IsUtf8-append total (codes "]") (IsUtf8-are_ascii _ refl) (IsUtf8-are_ascii _ refl)))
