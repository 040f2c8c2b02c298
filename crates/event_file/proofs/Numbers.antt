-- The number that is answered is that of the first item that is refused.
use Rattle.std.proofs.Common.{◌≡◌, ◌⊎◌, inl, inr, ℕ, suc, ◌+◌, ◌≤◌, Bool, true, false, nat_le, List, [], ◌∷◌, ◌++◌, length, map, Option, Some, None, Result, Ok, Err, refl, sym, ap, subst, ◌∙◌, arith}
use Rattle.std.proofs.lemmas.Bool.Decides.{nat_tests}
use Rattle.serde_json.specs.Data.{Data, Items, no_items, item}
use Rattle.event_file.specs.Events.{event_at, events_of, events_from, items_of, with_event}
use Rattle.event_file.specs.Items.{event_of}
use Rattle.event_file.specs.Laws.{IsFirstRefused, list_of, NumbersItems}
use Rattle.js_values.specs.declared.event.Event.{Event}

is_few : (n : ℕ) → n ≤ 100000 → nat_le n 100000 ≡ true
is_few n h = grind (arith, nat_tests)

is_many : (n : ℕ) → 100001 ≤ n → nat_le n 100000 ≡ false
is_many n h = grind (arith, nat_tests)

few_from : (n : ℕ) → nat_le n 100000 ≡ true → n ≤ 100000
few_from n h = grind (arith, nat_tests)

many_from : (n : ℕ) → nat_le n 100000 ≡ false → 100001 ≤ n
many_from n h = grind (arith, nat_tests)

at_most : (n : ℕ) (d : Data) → n ≤ 100000 → event_at n d ≡ event_of d
at_most n d few = rw (is_few n few) refl

past_most : (n : ℕ) (d : Data) → 100001 ≤ n → event_at n d ≡ None
past_most n d many = rw (is_many n many) refl

-- the nth item, which is an event, is not past the most
is_at_most : (n : ℕ) (d : Data) (e : Event) → event_at n d ≡ Some e → n ≤ 100000
is_at_most n d e is = by_case (nat_le n 100000) refl
  where
    by_case : (b : Bool) → nat_le n 100000 ≡ b → n ≤ 100000
    by_case true few = few_from n few
    by_case false many = let none = past_most n d (many_from n many) in absurd (cc)

-- the nth item, which is no event, is none by its kind, or past the most
is_none_for : (n : ℕ) (d : Data) → n ≤ 100001 → event_at n d ≡ None → (event_of d ≡ None) ⊎ (n ≡ 100001)
is_none_for n d within is = by_case (nat_le n 100000) refl
  where
    by_case : (b : Bool) → nat_le n 100000 ≡ b → (event_of d ≡ None) ⊎ (n ≡ 100001)
    by_case true few = inl (sym (at_most n d (few_from n few)) ∙ is)
    by_case false many = let past = many_from n many in inr (omega arith)

abbrev refuse : ℕ → Result (List Event) ℕ
refuse n = Err n

-- the items of which the first is the nth
record Refuses (items : List Data) (n m : ℕ) : Type 0 where
  pub front : List Data
  pub refused : Data
  pub later : List Data
  pub split : items ≡ front ++ refused ∷ later
  pub number : m ≡ n + length front
  pub events : List Event
  pub each : map (event_of) front ≡ map Some events
  pub within : m ≤ 100001
  pub why : (event_of refused ≡ None) ⊎ (m ≡ 100001)

more : (d : Data) (e : Event) (items : List Data) (n m : ℕ) → event_of d ≡ Some e → Refuses items (n + 1) m → Refuses (d ∷ items) n m
more d e items n m is r = record {
  front = d ∷ r.front;
  refused = r.refused;
  later = r.later;
  split = ap (λ l. d ∷ l) r.split;
  number = r.number ∙ omega arith;
  events = e ∷ r.events;
  each = rw (is, r.each) refl;
  within = r.within;
  why = r.why;
}

is_refused : (ds : Items) (n m : ℕ) → n ≤ 100001 → events_from n ds ≡ Err m → Refuses (list_of ds) n m
is_refused no_items n m within is = absurd (cc)
is_refused (item d ds) n m within is = by_event (event_at n d) refl (λ w. is_refused ds (n + 1) m w)
  where
    by_rest : (e : Event) (r : Result (List Event) ℕ) → event_at n d ≡ Some e → events_from (n + 1) ds ≡ r → with_event (Some e) n r ≡ Err m
        → (n + 1 ≤ 100001 → events_from (n + 1) ds ≡ Err m → Refuses (list_of ds) (n + 1) m) → Refuses (d ∷ list_of ds) n m
    by_rest e (Ok es) at rest whole later = absurd (cc)
    by_rest e (Err k) at rest whole later =
        let few = is_at_most n d e at in
        more d e (list_of ds) n m (sym (at_most n d few) ∙ at) (later (omega arith) (rest ∙ whole))

    by_event : (o : Option Event) → event_at n d ≡ o → (n + 1 ≤ 100001 → events_from (n + 1) ds ≡ Err m → Refuses (list_of ds) (n + 1) m) → Refuses (d ∷ list_of ds) n m
    by_event None at later' = let same : n ≡ m = (let whole : refuse n ≡ Err m = ap (λ o. with_event o n (events_from (n + 1) ds)) (sym at) ∙ is in cc) in
        record {
          front = [];
          refused = d;
          later = list_of ds;
          split = refl;
          number = omega arith;
          events = [];
          each = refl;
          within = omega arith;
          why = subst (λ k. (event_of d ≡ None) ⊎ (k ≡ 100001)) same (is_none_for n d within at);
        }
    by_event (Some e) at later' = by_rest e (events_from (n + 1) ds) at refl (ap (λ o. with_event o n (events_from (n + 1) ds)) (sym at) ∙ is) later'

none_at : (n m : ℕ) (d : Data) → m ≡ n + 0 → (event_of d ≡ None) ⊎ (m ≡ 100001) → event_at n d ≡ None
none_at n m d same why = by_case (nat_le n 100000) refl why
  where
    by_case : (b : Bool) → nat_le n 100000 ≡ b → (event_of d ≡ None) ⊎ (m ≡ 100001) → event_at n d ≡ None
    by_case true few (inl none) = at_most n d (few_from n few) ∙ none
    by_case true few (inr past) = let low = few_from n few in absurd (omega arith)
    by_case false many why' = past_most n d (many_from n many)

answered : (ds : Items) (n m : ℕ) (front : List Data) (refused : Data) (later : List Data) (events : List Event)
    → list_of ds ≡ front ++ refused ∷ later → m ≡ n + length front → map (event_of) front ≡ map Some events → m ≤ 100001
    → (event_of refused ≡ None) ⊎ (m ≡ 100001) → events_from n ds ≡ Err m
answered no_items n m [] refused later events split number each within why = absurd (cc)
answered no_items n m (f ∷ fs) refused later events split number each within why = absurd (cc)
answered (item d ds) n m [] refused later events split number each within why =
    let same : refused ≡ d = cc in
    let none : event_at n d ≡ None = none_at n m d number (subst (λ x. (event_of x ≡ None) ⊎ (m ≡ 100001)) same why) in
    let here : n ≡ m = omega arith in
    ap (λ o. with_event o n (events_from (n + 1) ds)) none ∙ ap Err here
answered (item d ds) n m (f ∷ fs) refused later [] split number each within why = absurd (cc)
answered (item d ds) n m (f ∷ fs) refused later (e ∷ es) split number each within why =
    let same : f ≡ d = cc in
    let rest : list_of ds ≡ fs ++ refused ∷ later = cc in
    let is : event_of f ≡ Some e = cc in
    let others : map (event_of) fs ≡ map Some es = cc in
    let few : n ≤ 100000 = omega arith in
    let at : event_at n d ≡ Some e = at_most n d few ∙ ap (event_of) (sym same) ∙ is in
    let found : events_from (n + 1) ds ≡ Err m = answered ds (n + 1) m fs refused later es rest (omega arith) others within why in
    ap (λ o. with_event o n (events_from (n + 1) ds)) at ∙ ap (with_event (Some e) n) found

all_from : (ds : Items) (n : ℕ) (es : List Event) → n ≤ 100001 → events_from n ds ≡ Ok es → (map (event_of) (list_of ds) ≡ map Some es) × (n + length es ≤ 100001)
all_from no_items n [] within is = (refl, omega arith)
all_from no_items n (e ∷ es) within is = absurd (cc)
all_from (item d ds) n es within is = by_event (event_at n d) refl (λ xs w. all_from ds (n + 1) xs w)
  where
    by_rest : (e : Event) (r : Result (List Event) ℕ) → event_at n d ≡ Some e → events_from (n + 1) ds ≡ r → with_event (Some e) n r ≡ Ok es
        → ((xs : List Event) → n + 1 ≤ 100001 → events_from (n + 1) ds ≡ Ok xs → (map (event_of) (list_of ds) ≡ map Some xs) × (n + 1 + length xs ≤ 100001))
        → (map (event_of) (d ∷ list_of ds) ≡ map Some es) × (n + length es ≤ 100001)
    by_rest e (Err k) at rest whole later = absurd (cc)
    by_rest e (Ok xs) at rest whole later =
        let few = is_at_most n d e at in
        let one : event_of d ≡ Some e = sym (at_most n d few) ∙ at in
        let others = later xs (omega arith) rest in
        let split : es ≡ e ∷ xs = cc in
        (rw (split, one, others.0) refl, rw split (omega (arith, others.1)))

    by_event : (o : Option Event) → event_at n d ≡ o
        → ((xs : List Event) → n + 1 ≤ 100001 → events_from (n + 1) ds ≡ Ok xs → (map (event_of) (list_of ds) ≡ map Some xs) × (n + 1 + length xs ≤ 100001))
        → (map (event_of) (d ∷ list_of ds) ≡ map Some es) × (n + length es ≤ 100001)
    by_event None at later' = let whole : refuse n ≡ Ok es = ap (λ o. with_event o n (events_from (n + 1) ds)) (sym at) ∙ is in absurd (cc)
    by_event (Some e) at later' = by_rest e (events_from (n + 1) ds) at refl (ap (λ o. with_event o n (events_from (n + 1) ds)) (sym at) ∙ is) later'

all_found : (ds : Items) (n : ℕ) (es : List Event) → map (event_of) (list_of ds) ≡ map Some es → n + length es ≤ 100001 → events_from n ds ≡ Ok es
all_found no_items n [] each few = refl
all_found no_items n (e ∷ es) each few = absurd (cc)
all_found (item d ds) n [] each few = absurd (cc)
all_found (item d ds) n (e ∷ es) each few =
    let one : event_of d ≡ Some e = cc in
    let others : map (event_of) (list_of ds) ≡ map Some es = cc in
    let low : n ≤ 100000 = omega arith in
    let at : event_at n d ≡ Some e = at_most n d low ∙ one in
    ap (λ o. with_event o n (events_from (n + 1) ds)) at ∙ ap (with_event (Some e) n) (all_found ds (n + 1) es others (omega arith))

same_length : (ds : List Data) (es : List Event) → map (event_of) ds ≡ map Some es → length ds ≡ length es
same_length [] [] e = refl
same_length [] (y ∷ ys) e = absurd (cc)
same_length (x ∷ xs) [] e = absurd (cc)
same_length (x ∷ xs) (y ∷ ys) e = let rest : map (event_of) xs ≡ map Some ys = cc in ap suc (same_length xs ys rest)

of_items : (bytes : List ℕ) (items : Items) → items_of bytes ≡ Some items → events_of bytes ≡ events_from 1 items
of_items bytes items is = rw is refl

to_first : (items : List Data) (i : ℕ) → Refuses items 1 i → IsFirstRefused items i
to_first items i r = record {
  front = r.front;
  refused = r.refused;
  later = r.later;
  split = r.split;
  number = omega arith;
  events = r.events;
  before = record { each = r.each; few = omega (arith, same_length r.front r.events r.each) };
  why = r.why;
}

pub numbers_items : (bytes : List ℕ) → NumbersItems bytes
numbers_items bytes = record {
  no_array = (by_items (items_of bytes) refl, λ none. rw none refl);
  first_refused = λ items i is. (λ err. to_first (list_of items) i (is_refused items 1 i (omega arith) (sym (of_items bytes items is) ∙ err)), λ r. of_items bytes items is ∙ answered items 1 i r.front r.refused r.later r.events r.split (omega arith) r.before.each (omega (arith, same_length r.front r.events r.before.each)) r.why);
  all_events = λ items es is. (λ ok. let all = all_from items 1 es (omega arith) (sym (of_items bytes items is) ∙ ok) in record { each = all.0; few = omega (arith, all.1) }, λ r. of_items bytes items is ∙ all_found items 1 es r.each (omega arith));
}
  where
    by_items : (o : Option Items) → items_of bytes ≡ o → events_of bytes ≡ Err 0 → items_of bytes ≡ None
    by_items None e err = e
    by_items (Some items) e err = let r = is_refused items 1 0 (omega arith) (sym (of_items bytes items e) ∙ err) in absurd (omega arith)
