-- The events that were found, before those of the items that are left.
use Rattle.std.proofs.Common.{◌≡◌, ℕ, suc, ◌+◌, ◌<◌, ◌≤◌, List, [], ◌∷◌, ◌++◌, length, nat_le, true, arith, Option, Some, None, Result, Ok, Err, refl, sym, ap, ◌∙◌, append_assoc, drop, get_or, drop-cons, add-one}
use Rattle.serde_json.specs.declared.value.Value.{Value}
use Rattle.std.proofs.lemmas.Bool.Decides.{nat_tests}
use Rattle.serde_json.specs.Data.{Data}
use Rattle.serde_json.specs.View.{view, items_view}
use Rattle.event_file.specs.Events.{event_at, events_from, with_event}
use Rattle.event_file.specs.Items.{event_of}
use Rattle.js_values.specs.declared.event.Event.{Event}

-- behind events that were found before
abbrev pub behind : List Event → Result (List Event) ℕ → Result (List Event) ℕ
behind front (Ok es) = Ok (front ++ es)
behind front (Err n) = Err n

behind_one : (front : List Event) (e : Event) (n : ℕ) (r : Result (List Event) ℕ) → behind front (with_event (Some e) n r) ≡ behind (front ++ e ∷ []) r
behind_one front e n (Ok es) = ap Ok (sym (append_assoc front (e ∷ []) es))
behind_one front e n (Err m) = refl

-- the item at i, which is the nth, and those behind it
at_item : (vs : List Value) (v : Value) (i n : ℕ) (front : List Event) → i < length vs → v ≡ get_or vs i v
    → behind front (events_from n (items_view (drop i vs))) ≡ behind front (with_event (event_at n (view v)) n (events_from (n + 1) (items_view (drop (i + 1) vs))))
at_item vs v i n front lt e =
    let split : drop i vs ≡ v ∷ drop (i + 1) vs = rw (add-one, drop-cons vs i v lt) (ap (λ w. w ∷ drop (suc i) vs) (sym e)) in
    ap (λ l. behind front (events_from n (items_view l))) split

pub found_more : (vs : List Value) (v : Value) (i n : ℕ) (front : List Event) (e : Event) → i < length vs → v ≡ get_or vs i v → event_at n (view v) ≡ Some e
    → behind front (events_from n (items_view (drop i vs))) ≡ behind (front ++ e ∷ []) (events_from (n + 1) (items_view (drop (i + 1) vs)))
found_more vs v i n front e lt at is =
    at_item vs v i n front lt at ∙ ap (λ o. behind front (with_event o n (events_from (n + 1) (items_view (drop (i + 1) vs))))) is ∙ behind_one front e n _

pub found_none : (vs : List Value) (v : Value) (i n : ℕ) (front : List Event) → i < length vs → v ≡ get_or vs i v → event_at n (view v) ≡ None
    → behind front (events_from n (items_view (drop i vs))) ≡ Err n
found_none vs v i n front lt at is =
    at_item vs v i n front lt at ∙ ap (λ o. behind front (with_event o n (events_from (n + 1) (items_view (drop (i + 1) vs))))) is

few_enough : (n : ℕ) → n ≤ 100000 → nat_le n 100000 ≡ true
few_enough n h = grind (arith, nat_tests)

-- an item that is not past the most is the event that it is
pub is_event : (n : ℕ) (d : Data) (o : Option Event) → n ≤ 100000 → o ≡ event_of d → event_at n d ≡ o
is_event n d o few is = rw (few_enough n few) (sym is)
