-- What names the site of a thing is moved back to where the thing was moved, and the sites of links are the links of what is sited.
use Rattle.std.specs.Prelude.{unwrap_or}
use Rattle.std.proofs.Common.{◌≡◌, inl, inr, refl, sym, ap, ◌∙◌, ℕ, ◌+◌, ◌-◌, ◌<◌, Bool, true, false, nat_eq, map, List, [], ◌∷◌, ◌++◌, Option, Some, None, length, arith}
use Rattle.std.proofs.Math.Bool.{or-true}
use Rattle.std.proofs.lemmas.Bool.{eq-eqb, eqb-true}
use Rattle.std.proofs.lemmas.List.{map-append}
use Rattle.std.specs.List.Sorted.{IsStrictlyIncreasing}
use Rattle.heap_walker.specs.Things.{calls_links, is_in, needs_links, nodes_links, timers_links}
use Rattle.js_values.specs.declared.ids.ObjId.{ObjId}
use Rattle.js_values.specs.declared.value.Value.{Value}
use Rattle.js_values.specs.declared.value.Value.TheVariants as value
use Rattle.object_heap.specs.Define.{with_value}
use Rattle.object_heap.specs.Property.{Props}
use Rattle.js_values.specs.declared.ids.NodeId.{NodeId}
use Rattle.page_host.specs.Host.{object_of_node}
use Rattle.page_host.specs.declared.listener.Listener.{Listener}
use Rattle.timer_queue.specs.declared.timer.Live.{Live}
use Rattle.object_shapes.specs.Links.{props_links, proto_links, value_links, values_links}
use Rattle.rebuild_plan.specs.Compact.{moved_needs, moved_props, moved_proto, moved_value, moved_values, place_of}
use Rattle.rebuild_plan.specs.Moved.{first_thing}
use Rattle.rebuild_plan.specs.Nodes.{moved_listeners, moved_nodes}
use Rattle.rebuild_plan.specs.Timers.{moved_timers}
use Rattle.rebuilding.specs.Rebuilt.{nth, sited_ids, sited_listeners, sited_timers}
use Rattle.rebuilding.specs.Sites.{site, sited_needs, sited_props, sited_proto, sited_value, sited_values}
use Rattle.heap_walker.proofs.Callers.{among_left, among_right}
use Rattle.rebuilding.proofs.Basics.{heads_same, tails_same}
use Rattle.rebuilding.proofs.Known.{AreKnown, IsKnown, head_in, tail_in}
use Rattle.rebuilding.proofs.Naming.{rising_places, site_of_built_in}
use Rattle.rebuilding.proofs.Placed.{AreYoung, number_at, place_in, place_low, site_thing}

-- ---- lists

pub in_mapped : (f : ℕ → ℕ) (k : ℕ) (ks : List ℕ) → is_in k ks ≡ true → is_in (f k) (map f ks) ≡ true
in_mapped f k [] h = cc h
in_mapped f k (x ∷ xs) h = by (nat_eq k x) refl (λ g. in_mapped f k xs g)
  where
    by : (b : Bool) → nat_eq k x ≡ b → (is_in k xs ≡ true → is_in (f k) (map f xs) ≡ true) → is_in (f k) (map f (x ∷ xs)) ≡ true
    by true e later = rw (eq-eqb (f k) (f x) (ap f (eqb-true k x e))) refl
    by false e later = rw (later (rw e at h)) (or-true (nat_eq (f k) (f x)))

-- a number among those that are made of others is made of one of them
pub record IsMadeOf (f : ℕ → ℕ) (j : ℕ) (ks : List ℕ) : Type 0 where
  pub from : ℕ
  pub among : is_in from ks ≡ true
  pub is : j ≡ f from

pub from_mapped : (f : ℕ → ℕ) (j : ℕ) (ks : List ℕ) → is_in j (map f ks) ≡ true → IsMadeOf f j ks
from_mapped f j [] h = cc h
from_mapped f j (x ∷ xs) h = by (nat_eq j (f x)) refl (λ g. from_mapped f j xs g)
  where
    by : (b : Bool) → nat_eq j (f x) ≡ b → (is_in j (map f xs) ≡ true → IsMadeOf f j xs) → IsMadeOf f j (x ∷ xs)
    by true e later = record { from = x; among = rw (eq-eqb x x refl) refl; is = eqb-true j (f x) e }
    by false e later =
        let m = later (rw e at h) in
        record { from = m.from; among = rw m.among (or-true (nat_eq m.from x)); is = m.is }

-- ---- places

-- of numbers that rise, the nth has the nth place
pub place_at : (ks : List ℕ) (n : ℕ) → IsStrictlyIncreasing ks → n < length ks → place_of ks (nth ks n) ≡ first_thing + n
place_at ks n rises inside =
    let m = number_at ks (nth ks n) (place_in ks n inside) in
    let tested : nat_eq m.0 n ≡ true = sym (rising_places ks m.0 n rises m.2 inside) ∙ eq-eqb (nth ks m.0) (nth ks n) m.3 in
    let same : m.0 ≡ n = eqb-true m.0 n tested in
    m.1 ∙ ap (λ i. first_thing + i) same

-- where what is named so stands in the page that is rebuilt
abbrev pub carried : List ℕ → List ℕ → ℕ → ℕ
carried things sites k = site sites (place_of things k)

module _ (things sites : List ℕ) where
  pub carried_at : (n : ℕ) → IsStrictlyIncreasing things → n < length things → carried things sites (nth things n) ≡ nth sites n
  carried_at n rises inside = ap (site sites) (place_at things n rises inside) ∙ site_thing sites n

  -- ---- links

  pub value_carried : (v : Value) → value_links (sited_value sites (moved_value things v)) ≡ map (carried things sites) (value_links v)
  value_carried (value.Object at) = refl
  value_carried value.Undefined = refl
  value_carried value.Null = refl
  value_carried (value.Bool b) = refl
  value_carried (value.Num n) = refl
  value_carried (value.Text t) = refl

  pub values_carried : (vs : List Value) → values_links (sited_values sites (moved_values things vs)) ≡ map (carried things sites) (values_links vs)
  values_carried [] = refl
  values_carried (v ∷ vs) =
      let first = value_carried v in
      let others = values_carried vs in
      (λ i. first i ++ others i) ∙ sym (map-append (carried things sites) (value_links v) (values_links vs))

  pub needs_carried : (ns : List (List ℕ × Value)) → needs_links (sited_needs sites (moved_needs things ns))
      ≡ map (carried things sites) (needs_links ns)
  needs_carried [] = refl
  needs_carried (n ∷ ns) =
      let first = value_carried n.1 in
      let others = needs_carried ns in
      (λ i. first i ++ others i) ∙ sym (map-append (carried things sites) (value_links n.1) (needs_links ns))

  pub props_carried : (ps : Props) → props_links (sited_props sites (moved_props things ps)) ≡ map (carried things sites) (props_links ps)
  props_carried [] = refl
  props_carried (e ∷ es) =
      let first = value_carried e.1.value in
      let others = props_carried es in
      (λ i. first i ++ others i) ∙ sym (map-append (carried things sites) (value_links e.1.value) (props_links es))

  pub proto_carried : (p : Option ObjId) → proto_links (sited_proto sites (moved_proto things p)) ≡ map (carried things sites) (proto_links p)
  proto_carried None = refl
  proto_carried (Some at) = refl

  -- ---- what is moved, sited and moved again

  module _ (rising : IsStrictlyIncreasing sites) (count : length sites ≡ length things) (old : AreYoung things) (young : AreYoung sites) where
    pub place_back : (k : ℕ) → IsKnown things k → place_of sites (site sites (place_of things k)) ≡ place_of things k
    place_back k (inl low) =
        ap (place_of sites) (site_of_built_in things sites k low old) ∙ place_low sites k young low ∙ sym (place_low things k old low)
    place_back k (inr found) =
        let m = number_at things k found in
        let there : m.0 < length sites = omega (arith, m.2, count) in
        ap (place_of sites) (ap (site sites) m.1 ∙ site_thing sites m.0) ∙ place_at sites m.0 rising there ∙ sym m.1

    pub value_back : (v : Value) → AreKnown things (value_links v)
        → moved_value sites (sited_value sites (moved_value things v)) ≡ moved_value things v
    value_back (value.Object at) known = ap (λ k. value.Object (record { 0 = k })) (place_back at.0 (known at.0 (head_in at.0 [])))
    value_back value.Undefined known = refl
    value_back value.Null known = refl
    value_back (value.Bool b) known = refl
    value_back (value.Num n) known = refl
    value_back (value.Text t) known = refl

    pub values_back : (vs : List Value) → AreKnown things (values_links vs)
        → moved_values sites (sited_values sites (moved_values things vs)) ≡ moved_values things vs
    values_back [] known = refl
    values_back (v ∷ vs) known =
        let first = value_back v (λ j h. known j (among_left j (value_links v) (values_links vs) h)) in
        let others = values_back vs (λ j h. known j (among_right j (value_links v) (values_links vs) h)) in
        (λ i. first i ∷ others i)

    pub needs_back : (ns : List (List ℕ × Value)) → AreKnown things (needs_links ns)
        → moved_needs sites (sited_needs sites (moved_needs things ns)) ≡ moved_needs things ns
    needs_back [] known = refl
    needs_back (n ∷ ns) known =
        let first = value_back n.1 (λ j h. known j (among_left j (value_links n.1) (needs_links ns) h)) in
        let others = needs_back ns (λ j h. known j (among_right j (value_links n.1) (needs_links ns) h)) in
        (λ i. (n.0, first i) ∷ others i)

    pub props_back : (ps : Props) → AreKnown things (props_links ps)
        → moved_props sites (sited_props sites (moved_props things ps)) ≡ moved_props things ps
    props_back [] known = refl
    props_back (e ∷ es) known =
        let first = value_back e.1.value (λ j h. known j (among_left j (value_links e.1.value) (props_links es) h)) in
        let others = props_back es (λ j h. known j (among_right j (value_links e.1.value) (props_links es) h)) in
        (λ i. (e.0, with_value e.1 (first i)) ∷ others i)

    pub proto_back : (p : Option ObjId) → AreKnown things (proto_links p)
        → moved_proto sites (sited_proto sites (moved_proto things p)) ≡ moved_proto things p
    proto_back None known = refl
    proto_back (Some at) known = ap (λ k. Some (record { 0 = k })) (place_back at.0 (known at.0 (head_in at.0 [])))

    -- what was moved so and stands there is moved back
    pub nodes_back : (objects others : List ObjId) (cs ds : List NodeId) → ((j : ℕ) → is_in j (nodes_links objects cs) ≡ true → IsKnown things j)
        → moved_nodes [] others ds ≡ sited_ids sites (moved_nodes things objects cs) → moved_nodes sites others ds ≡ moved_nodes things objects cs
    nodes_back objects others [] [] known e = refl
    nodes_back objects others [] (d ∷ ds) known e = absurd (cc e)
    nodes_back objects others (k ∷ cs) [] known e = absurd (cc e)
    nodes_back objects others (k ∷ cs) (d ∷ ds) known e =
        let at : ℕ = (object_of_node objects k).0 in
        let first : place_of sites (object_of_node others d).0 ≡ place_of things at =
        ap (λ o. place_of sites o.0) (heads_same e) ∙ place_back at (known at (head_in at (nodes_links objects cs)))
        in
        let rest = nodes_back objects others cs ds (λ j h. known j (tail_in j at (nodes_links objects cs) h)) (tails_same e) in
        (λ i. record { 0 = first i } ∷ rest i)

    pub listeners_back : (ls ms : List Listener) → AreKnown things (calls_links ls)
        → moved_listeners [] ms ≡ sited_listeners sites (moved_listeners things ls) → moved_listeners sites ms ≡ moved_listeners things ls
    listeners_back [] [] known e = refl
    listeners_back [] (m ∷ ms) known e = absurd (cc e)
    listeners_back (l ∷ ls) [] known e = absurd (cc e)
    listeners_back (l ∷ ls) (m ∷ ms) known e =
        let same = heads_same e in
        let first : place_of sites m.call.0 ≡ place_of things l.call.0 =
        ap (λ x. place_of sites x.call.0) same ∙ place_back l.call.0 (known l.call.0 (head_in l.call.0 (calls_links ls)))
        in
        let kind : m.kind ≡ l.kind = ap (λ x. x.kind) same in
        let capture : m.capture ≡ l.capture = ap (λ x. x.capture) same in
        let rest = listeners_back ls ms (λ j h. known j (tail_in j l.call.0 (calls_links ls) h)) (tails_same e) in
        (λ i. record { kind = kind i; call = record { 0 = first i }; capture = capture i } ∷ rest i)

    pub target_back : (p q : Option ObjId) → AreKnown things (proto_links p)
        → moved_proto [] q ≡ sited_proto sites (moved_proto things p) → moved_proto sites q ≡ moved_proto things p
    target_back None None known e = refl
    target_back None (Some b) known e = absurd (cc e)
    target_back (Some a) None known e = absurd (cc e)
    target_back (Some a) (Some b) known e =
        let same : b.0 ≡ site sites (place_of things a.0) = ap (λ o. (unwrap_or o a).0) e in
        ap (λ k. Some (record { 0 = k })) (ap (place_of sites) same ∙ place_back a.0 (known a.0 (head_in a.0 [])))

    pub timers_back : (clock : ℕ) (ts : List Live) → AreKnown things (timers_links ts)
        → moved_timers sites 0 (sited_timers sites (moved_timers things clock ts)) ≡ moved_timers things clock ts
    timers_back clock [] known = refl
    timers_back clock (t ∷ ts) known =
        let first = place_back t.call.0 (known t.call.0 (head_in t.call.0 (timers_links ts))) in
        let due : (t.due - clock) - 0 ≡ t.due - clock = omega arith in
        let rest = timers_back clock ts (λ j h. known j (tail_in j t.call.0 (timers_links ts) h)) in
        (λ i. record { id = t.id; due = due i; period = t.period; call = record { 0 = first i } } ∷ rest i)

    -- what is bound
    pub bound_back : (target : ObjId) (this : Value) (args : List Value)
        → ((j : ℕ) → is_in j (target.0 ∷ (value_links this ++ values_links args)) ≡ true → IsKnown things j)
        → (place_of sites (site sites (place_of things target.0)) ≡ place_of things target.0)
        × (moved_value sites (sited_value sites (moved_value things this)) ≡ moved_value things this)
        × (moved_values sites (sited_values sites (moved_values things args)) ≡ moved_values things args)
    bound_back target this args known =
        let others : (j : ℕ) → is_in j (value_links this ++ values_links args) ≡ true → IsKnown things j =
        λ j h. known j (among_right j (target.0 ∷ []) (value_links this ++ values_links args) h)
        in (
          place_back target.0 (known target.0 (among_left target.0 (target.0 ∷ []) (value_links this ++ values_links args) (head_in target.0 []))),
          value_back this (λ j h. others j (among_left j (value_links this) (values_links args) h)),
          values_back args (λ j h. others j (among_right j (value_links this) (values_links args) h)),
        )
