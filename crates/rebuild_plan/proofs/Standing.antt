-- The plan of a page at rest names only what already stands.
use Rattle.std.proofs.Common.{◌≡◌, ◌⊎◌, inl, inr, refl, sym, ap, subst, ◌∙◌, ℕ, zero, suc, ◌+◌, ◌<◌, ◌≤◌, Bool, true, false, ◌&&◌, nat_eq, nat_lt, List, [], ◌∷◌, ◌++◌, Option, Some, None, length, get_or, bytes_eq, arith}
use Rattle.std.specs.Prelude.{if◌then◌else◌}
use Rattle.std.proofs.lemmas.Bool.{and_from, and_parts, cases_eq, cases_lt, eq-eqb, eqb-true, lt-ltb}
use Rattle.std.proofs.lemmas.List.Folds.{list_all-append, list_any_at}
use Rattle.std.proofs.lemmas.List.Kept.{AllPairs-from_increasing}
use Rattle.std.proofs.lemmas.List.Quantifiers.{position-Some}
use Rattle.std.specs.List.{list_all, list_any, position, position_or_len}
use Rattle.std.specs.List.Sorted.{IsStrictlyIncreasing}
use Rattle.dom_tree.specs.Attributes.{Pairs}
use Rattle.dom_tree.specs.Node.{children_at, node_at, parent_at}
use Rattle.dom_tree.specs.declared.content.Kind.{Kind}
use Rattle.dom_tree.specs.declared.content.Kind.TheVariants as kind
use Rattle.js_values.specs.declared.ids.NodeId.{NodeId}
use Rattle.js_values.specs.declared.ids.ObjId.{ObjId}
use Rattle.js_values.specs.declared.value.Value.{Value}
use Rattle.js_values.specs.declared.value.Value.TheVariants as value
use Rattle.object_heap.specs.Chain.{object_at}
use Rattle.object_heap.specs.Define.{length_name}
use Rattle.object_heap.specs.Function.{prototype_name}
use Rattle.object_heap.specs.Object.{Object}
use Rattle.object_heap.specs.Property.{Props, own_property}
use Rattle.object_heap.specs.declared.object.Class.{Class}
use Rattle.object_heap.specs.declared.object.Class.TheVariants as class
use Rattle.object_heap.specs.declared.property.Prop.{Prop}
use Rattle.page_host.specs.Host.{Host, object_of_node}
use Rattle.page_host.specs.declared.listener.Listener.{Listener}
use Rattle.page_meaning.specs.Places.{document, window}
use Rattle.page_meaning.specs.Store.{Store}
use Rattle.timer_queue.specs.Timers.{is_live}
use Rattle.timer_queue.specs.declared.timer.Live.{Live}
use Rattle.heap_walker.specs.Still.{Still, made_links}
use Rattle.heap_walker.specs.Things.{IsWalk, calls_links, class_links, globals_of, heard_at, host_links, is_in, links, links_of, needs_links, needs_of, nodes_links, parent_links, roots, timers_links}
use Rattle.heap_walker.specs.Weight.{greatest}
use Rattle.object_shapes.specs.Links.{all_below, props_links, proto_links, value_links, values_links}
use Rattle.rebuild_plan.specs.Compact.{Compact, Thing, compact, first_thing, maker_as, maker_of, moved_needs, moved_prop, moved_props, moved_proto, moved_value, moved_values, place_of, placed, thing_at, thing_of, things_at}
use Rattle.rebuild_plan.specs.Events.{SavedEvent, event_as, event_of}
use Rattle.rebuild_plan.specs.Nodes.{SavedNode, moved_listeners, moved_nodes, node_as, node_maker}
use Rattle.rebuild_plan.specs.Plan.{appends, attributes, clears, define, define_length, defines, dispatch, each, event, fill, fillers, has_length, has_prototype, init, listens, makes, plan, prevent, set_value, start, starts, statements_of, thing_place, timers, whole}
use Rattle.rebuild_plan.specs.Stands.{is_next, made_by, maker_names, standing, statement_names}
use Rattle.rebuild_plan.specs.Timers.{moved_timer, moved_timers}
use Rattle.rebuild_plan.specs.declared.phase.Phase.{Phase}
use Rattle.rebuild_plan.specs.declared.phase.Phase.TheVariants as phase
use Rattle.rebuild_plan.specs.declared.statement.Maker.{Maker}
use Rattle.rebuild_plan.specs.declared.statement.Maker.TheVariants as made
use Rattle.rebuild_plan.specs.declared.statement.Rebuild.{Rebuild}
use Rattle.rebuild_plan.specs.declared.statement.Rebuild.TheVariants.{Clear, Define, DefinePrototype, Init, Prevent}
use Rattle.heap_walker.proofs.Callers.{all_of, document_among, global_among, links_in_walk, made_among, made_older, roots_in_walk, timers_among}

-- ---- what refers to places that fit still does when it is moved

-- the place that a reference gets is below n
module _ (things : List ℕ) (n : ℕ) where
  abbrev fits : ℕ → Bool
  fits k = nat_lt (place_of things k) n

  value_fits : (v : Value) → list_all fits (value_links v) ≡ true → all_below n (value_links (moved_value things v)) ≡ true
  value_fits (value.Object at) h = h
  value_fits value.Undefined h = refl
  value_fits value.Null h = refl
  value_fits (value.Bool b) h = refl
  value_fits (value.Num m) h = refl
  value_fits (value.Text t) h = refl

  values_fit : (vs : List Value) → list_all fits (values_links vs) ≡ true → all_below n (values_links (moved_values things vs)) ≡ true
  values_fit [] h = refl
  values_fit (v ∷ vs) h =
      let split = sym (list_all-append fits (value_links v) (values_links vs)) ∙ h in
      list_all-append (λ k. nat_lt k n) (value_links (moved_value things v)) (values_links (moved_values things vs))
      ∙ and_from _ _ (value_fits v (and_parts _ _ split).0) (values_fit vs (and_parts _ _ split).1)

  needs_fit : (ns : List (List ℕ × Value)) → list_all fits (needs_links ns) ≡ true → all_below n (needs_links (moved_needs things ns)) ≡ true
  needs_fit [] h = refl
  needs_fit (m ∷ ns) h =
      let split = sym (list_all-append fits (value_links m.1) (needs_links ns)) ∙ h in
      list_all-append (λ k. nat_lt k n) (value_links (moved_value things m.1)) (needs_links (moved_needs things ns))
      ∙ and_from _ _ (value_fits m.1 (and_parts _ _ split).0) (needs_fit ns (and_parts _ _ split).1)

  proto_fits : (proto : Option ObjId) → list_all fits (proto_links proto) ≡ true → all_below n (proto_links (moved_proto things proto)) ≡ true
  proto_fits None h = refl
  proto_fits (Some at) h = h

  node_fits : (proto : Option ObjId) (k : Kind) → list_all fits (proto_links proto) ≡ true → all_below n (maker_names (node_maker things proto k)) ≡ true
  node_fits proto kind.Document h = proto_fits proto h
  node_fits proto (kind.Element name) h = refl
  node_fits proto (kind.Text text) h = refl
  node_fits proto (kind.Comment text) h = refl

  maker_fits : (s : Store) (proto : Option ObjId) (c : Class) → list_all fits (proto_links proto ++ class_links s c) ≡ true → all_below n (maker_names (maker_as s things proto c)) ≡ true
  maker_fits s proto class.List h = refl
  maker_fits s proto class.Fault h = refl
  maker_fits s proto (class.Page c env) h =
      needs_fit (needs_of s env c) (and_parts _ _ (sym (list_all-append fits (proto_links proto) (needs_links (needs_of s env c))) ∙ h)).1
  maker_fits s proto (class.Bound target this args) h =
      let own = (and_parts _ _ (sym (list_all-append fits (proto_links proto) (target.0 ∷ (value_links this ++ values_links args))) ∙ h)).1 in
      let split = sym (list_all-append fits (value_links this) (values_links args)) ∙ (and_parts _ _ own).1 in
      and_from _ _ (and_parts _ _ own).0
      (list_all-append (λ k. nat_lt k n) (value_links (moved_value things this)) (values_links (moved_values things args))
      ∙ and_from _ _ (value_fits this (and_parts _ _ split).0) (values_fit args (and_parts _ _ split).1))
  maker_fits s proto class.Plain h = proto_fits proto (and_parts _ _ (sym (list_all-append fits (proto_links proto) []) ∙ h)).0
  maker_fits s proto (class.Native which) h = proto_fits proto (and_parts _ _ (sym (list_all-append fits (proto_links proto) []) ∙ h)).0
  maker_fits s proto class.Math h = proto_fits proto (and_parts _ _ (sym (list_all-append fits (proto_links proto) []) ∙ h)).0
  maker_fits s proto class.Window h = proto_fits proto (and_parts _ _ (sym (list_all-append fits (proto_links proto) []) ∙ h)).0
  maker_fits s proto (class.Node m) h =
      node_fits proto (node_at s.host.nodes m.0).content.kind (and_parts _ _ (sym (list_all-append fits (proto_links proto) []) ∙ h)).0
  maker_fits s proto (class.Event parts) h = refl

-- ---- places

found_below : (p : ℕ → Bool) (xs : List ℕ) → list_any p xs ≡ true → position_or_len p xs < length xs
found_below p [] h = cc h
found_below p (x ∷ xs) h = by (p x) refl (λ g. found_below p xs g)
  where
    by : (b : Bool) → p x ≡ b → (list_any p xs ≡ true → position_or_len p xs < length xs) → position_or_len p (x ∷ xs) < length (x ∷ xs)
    by true here later = rw here (omega arith)
    by false here later =
        let more : position_or_len p xs < length xs = later (rw here at h) in
        rw here (omega (arith, more))

-- the place of what is built in or a thing, which has this number
pub number_at : (things : List ℕ) (j : ℕ) → is_in j things ≡ true → (i : ℕ) × (position (nat_eq j) things ≡ Some i) × (i < length things) × (get_or things i 0 ≡ j)
number_at things j h =
    let i : ℕ = position_or_len (nat_eq j) things in
    let inside : i < length things = found_below (nat_eq j) things h in
    let is : position (nat_eq j) things ≡ Some i = rw (lt-ltb i (length things) inside) refl in
    (i, is, inside, sym (eqb-true j (get_or things i 0) (position-Some (nat_eq j) things i 0 is).1))

-- what is built in or walked stands when all things are made
whole_fits : (things : List ℕ) (j : ℕ) → (j < first_thing) ⊎ (is_in j things ≡ true) → fits things (first_thing + length things) j ≡ true
whole_fits things j known = by (position (nat_eq j) things) refl known
  where
    by : (o : Option ℕ) → position (nat_eq j) things ≡ o → (j < first_thing) ⊎ (is_in j things ≡ true) → fits things (first_thing + length things) j ≡ true
    by (Some i) is w =
        ap (λ o. nat_lt (placed j o) (first_thing + length things)) is
        ∙ lt-ltb (first_thing + i) (first_thing + length things) (omega (arith, (position-Some (nat_eq j) things i 0 is).0))
    by None is (inl low) = ap (λ o. nat_lt (placed j o) (first_thing + length things)) is ∙ lt-ltb j (first_thing + length things) (omega (arith, low))
    by None is (inr found) = cc (sym is ∙ (number_at things j found).1)

-- and what is older than the thing with a number stands when that is made
older_fits : (things : List ℕ) (m j : ℕ) → IsStrictlyIncreasing things → m < length things → j < get_or things m 0 → (j < first_thing) ⊎ (is_in j things ≡ true) → fits things (first_thing + m) j ≡ true
older_fits things m j rises inside older known = by (position (nat_eq j) things) refl known
  where
    earlier : (i : ℕ) → i < length things → get_or things i 0 ≡ j → i < m
    earlier i there is = compared (cases_lt i m)
      where
        compared : (i < m) ⊎ (m ≤ i) → i < m
        compared (inl before) = before
        compared (inr after) = same_or_after (cases_eq m i)
          where
            same_or_after : (m ≡ i) ⊎ (m ≡ i → ⊥) → i < m
            same_or_after (inl same) = absurd (omega (arith, older, ap (λ n. get_or things n 0) same, is))
            same_or_after (inr other) = absurd (omega (arith, AllPairs-from_increasing things rises m i 0 (omega (arith, after, other)) there, older, is))

    by : (o : Option ℕ) → position (nat_eq j) things ≡ o → (j < first_thing) ⊎ (is_in j things ≡ true) → fits things (first_thing + m) j ≡ true
    by (Some i) is w =
        let found = position-Some (nat_eq j) things i 0 is in
        let before : i < m = earlier i found.0 (sym (eqb-true j (get_or things i 0) found.1)) in
        ap (λ o. nat_lt (placed j o) (first_thing + m)) is ∙ lt-ltb (first_thing + i) (first_thing + m) (omega (arith, before))
    by None is (inl low) = ap (λ o. nat_lt (placed j o) (first_thing + m)) is ∙ lt-ltb j (first_thing + m) (omega (arith, low))
    by None is (inr found) = cc (sym is ∙ (number_at things j found).1)

-- ---- the things are made

makes_stand : (s : Store) (things ks : List ℕ) (n : ℕ) (rest : List Rebuild)
    → ((i : ℕ) → i < length ks → list_all (fits things (first_thing + (n + i))) (made_links s (object_at s.heap.objects (get_or ks i 0))) ≡ true)
    → standing (n + length ks) rest ≡ true
    → standing n (makes n (things_at s things ks) ++ rest) ≡ true
makes_stand s things [] n rest every h =
    let none : n + 0 ≡ n = omega arith in
    subst (λ m. standing m rest ≡ true) none h
makes_stand s things (k ∷ ks) n rest every h =
    let here : n + 0 ≡ n = omega arith in
    let o : Object = object_at s.heap.objects k in
    let first : list_all (fits things (first_thing + n)) (made_links s o) ≡ true = subst (λ m. list_all (fits things (first_thing + m)) (made_links s o) ≡ true) here (every 0 (omega arith)) in
    let long : n + length (k ∷ ks) ≡ suc n + length ks = omega arith in
    let others : standing (suc n) (makes (suc n) (things_at s things ks) ++ rest) ≡ true =
    makes_stand s things ks (suc n) rest (λ i inside. subst (λ m. list_all (fits things (first_thing + m)) (made_links s (object_at s.heap.objects (get_or ks i 0))) ≡ true) (moved_on n i) (every (suc i) (omega (arith, inside))))
    (subst (λ m. standing m rest ≡ true) long h)
    in
    and_from _ _ (and_from _ _ (eq-eqb n n refl) (maker_fits things (first_thing + n) s o.proto o.class first))
    (ap (λ m. standing m (makes (suc n) (things_at s things ks) ++ rest)) (one_more n) ∙ others)
  where
    moved_on : (a b : ℕ) → a + suc b ≡ suc a + b
    moved_on a b = omega arith

    one_more : (a : ℕ) → 1 + a ≡ suc a
    one_more a = omega arith

-- ---- the statements after these

-- where so many things are made, it makes none and names only what stands
abbrev late : ℕ → Rebuild → Bool
late n r = nat_eq (made_by r) 0 && (is_next n r && all_below (first_thing + n) (statement_names r))

abbrev all_late : ℕ → List Rebuild → Bool
all_late n rs = list_all (late n) rs

late_stand : (n : ℕ) (rs : List Rebuild) → all_late n rs ≡ true → standing n rs ≡ true
late_stand n [] h = refl
late_stand n (r ∷ rs) h =
    let split = and_parts (late n r) (all_late n rs) h in
    let own = and_parts (nat_eq (made_by r) 0) (is_next n r && all_below (first_thing + n) (statement_names r)) split.0 in
    let others : standing n rs ≡ true = late_stand n rs split.1 in
    and_from _ _ own.1 (ap (λ m. standing (m + n) rs) (eqb-true (made_by r) 0 own.0) ∙ ap (λ m. standing m rs) (none_more n) ∙ others)
  where
    none_more : (a : ℕ) → 0 + a ≡ a
    none_more a = omega arith

join : (n : ℕ) (rs qs : List Rebuild) → all_late n rs ≡ true → all_late n qs ≡ true → all_late n (rs ++ qs) ≡ true
join n rs qs h g = list_all-append (late n) rs qs ∙ and_from _ _ h g

-- where an object at the place is meant, which stands
module _ (things : List ℕ) (n : ℕ) (at : ObjId) (stands : nat_lt at.0 (first_thing + n) ≡ true) where
  abbrev fit_all : List ℕ → Bool
  fit_all ks = list_all (fits things (first_thing + n)) ks

  -- a part of what fits
  left_fits : (ks js : List ℕ) → fit_all (ks ++ js) ≡ true → fit_all ks ≡ true
  left_fits ks js h = (and_parts _ _ (sym (list_all-append (fits things (first_thing + n)) ks js) ∙ h)).0

  right_fits : (ks js : List ℕ) → fit_all (ks ++ js) ≡ true → fit_all js ≡ true
  right_fits ks js h = (and_parts _ _ (sym (list_all-append (fits things (first_thing + n)) ks js) ∙ h)).1

  appends_late : (objects : List ObjId) (ks : List NodeId) → fit_all (nodes_links objects ks) ≡ true → all_late n (appends at (moved_nodes things objects ks)) ≡ true
  appends_late objects [] h = refl
  appends_late objects (k ∷ ks) h =
      let split = and_parts (fits things (first_thing + n) (object_of_node objects k).0) (fit_all (nodes_links objects ks)) h in
      and_from _ _ (and_from _ _ stands (and_from _ _ split.0 refl)) (appends_late objects ks split.1)

  attributes_late : (as' : Pairs) → all_late n (attributes at as') ≡ true
  attributes_late [] = refl
  attributes_late (a ∷ as') = and_from _ _ (and_from _ _ stands refl) (attributes_late as')

  value_late : (text : Option (List ℕ)) → all_late n (set_value at text) ≡ true
  value_late None = refl
  value_late (Some text) = and_from _ _ (and_from _ _ stands refl) refl

  listens_late : (ls : List Listener) → fit_all (calls_links ls) ≡ true → all_late n (listens at (moved_listeners things ls)) ≡ true
  listens_late [] h = refl
  listens_late (l ∷ ls) h =
      let split = and_parts (fits things (first_thing + n) l.call.0) (fit_all (calls_links ls)) h in
      and_from _ _ (and_from _ _ stands (and_from _ _ split.0 refl)) (listens_late ls split.1)

  init_late : (e : SavedEvent) → all_late n (init at e) ≡ true
  init_late e = by e.begun
    where
      by : (b : Bool) → all_late n (if b then Init at e.kind e.bubbles e.cancelable ∷ [] else []) ≡ true
      by true = and_from _ _ (and_from _ _ stands refl) refl
      by false = refl

  dispatch_late : (target : Option ObjId) → fit_all (proto_links target) ≡ true → all_late n (dispatch at (moved_proto things target)) ≡ true
  dispatch_late None h = refl
  dispatch_late (Some target) h = and_from _ _ (and_from _ _ (and_parts (fits things (first_thing + n) target.0) true h).0 (and_from _ _ stands refl)) refl

  -- ---- properties

  named : (v : Value) → fit_all (value_links v) ≡ true → all_below (first_thing + n) (at.0 ∷ value_links (moved_value things v)) ≡ true
  named v h = and_from _ _ stands (value_fits things (first_thing + n) v h)

  defines_late : (a b : Bool) (props : Props) → fit_all (props_links props) ≡ true → all_late n (defines a b at (moved_props things props)) ≡ true
  defines_late a b [] h = refl
  defines_late a b (e ∷ es) h =
      join n (define a b at e.0 (moved_prop things e.1)) (defines a b at (moved_props things es))
      (by (a && bytes_eq e.0 length_name) (b && bytes_eq e.0 prototype_name) (named e.1.value (left_fits (value_links e.1.value) (props_links es) h)))
      (defines_late a b es (right_fits (value_links e.1.value) (props_links es) h))
    where
      one : Bool → Bool → List Rebuild
      one c d = if c then [] else (if d then DefinePrototype at (moved_value things e.1.value) e.1.writable ∷ [] else Define at e.0 (moved_prop things e.1) ∷ [])

      by : (c d : Bool) → all_below (first_thing + n) (at.0 ∷ value_links (moved_value things e.1.value)) ≡ true → all_late n (one c d) ≡ true
      by true d own = refl
      by false true own = and_from _ _ own refl
      by false false own = and_from _ _ own refl

  own_fits : (props : Props) (x : List ℕ) (p : Prop) → fit_all (props_links props) ≡ true → own_property (moved_props things props) x ≡ Some p
      → all_below (first_thing + n) (value_links p.value) ≡ true
  own_fits [] x p h found = cc found
  own_fits (e ∷ es) x p h found = by (bytes_eq x e.0) refl (λ g. own_fits es x p (right_fits (value_links e.1.value) (props_links es) h) g)
    where
      by : (b : Bool) → bytes_eq x e.0 ≡ b → (own_property (moved_props things es) x ≡ Some p → all_below (first_thing + n) (value_links p.value) ≡ true)
          → all_below (first_thing + n) (value_links p.value) ≡ true
      by true same later =
          let is : moved_prop things e.1 ≡ p = cc (rw same at found) in
          subst (λ q. all_below (first_thing + n) (value_links q.value) ≡ true) is
          (value_fits things (first_thing + n) e.1.value (left_fits (value_links e.1.value) (props_links es) h))
      by false other later = later (rw other at found)

  length_late : (m : Maker) (own : Option Prop) → ((p : Prop) → own ≡ Some p → all_below (first_thing + n) (value_links p.value) ≡ true)
      → all_late n (define_length m at own) ≡ true
  length_late made.List (Some p) h = and_from _ _ (and_from _ _ stands (h p refl)) refl
  length_late made.List None h = refl
  length_late (made.Plain proto) own h = refl
  length_late (made.Fault kind) own h = refl
  length_late (made.Func c needs) own h = refl
  length_late (made.Bind target this args) own h = refl
  length_late (made.Element name) own h = refl
  length_late (made.Text text) own h = refl
  length_late (made.Comment text) own h = refl
  length_late made.Event own h = refl

  fill_late : (s : Store) (o : Object) → fit_all (props_links o.props) ≡ true → all_late n (fill at (thing_of s things o)) ≡ true
  fill_late s o h =
      let m : Maker = maker_of s things o in
      join n (defines (has_length m) (has_prototype m) at (moved_props things o.props)) (define_length m at (own_property (moved_props things o.props) length_name))
      (defines_late (has_length m) (has_prototype m) o.props h)
      (length_late m (own_property (moved_props things o.props) length_name) (λ p found. own_fits o.props length_name p h found))

  prevent_late : (t : Thing) → all_late n (prevent at t) ≡ true
  prevent_late t = by t.extensible
    where
      by : (b : Bool) → all_late n (if b then [] else Prevent at ∷ []) ≡ true
      by true = refl
      by false = and_from _ _ (and_from _ _ stands refl) refl

  -- ---- a phase

  children_late : (h : Host) (c : Class) → fit_all (host_links h c) ≡ true → all_late n (appends at (node_as h things c).children) ≡ true
  children_late h (class.Node k) fit =
      appends_late h.objects (children_at h.nodes k.0)
      (left_fits (nodes_links h.objects (children_at h.nodes k.0)) (calls_links (heard_at k.0 h.listeners))
      (right_fits (parent_links h.objects (parent_at h.nodes k.0)) (nodes_links h.objects (children_at h.nodes k.0) ++ calls_links (heard_at k.0 h.listeners)) fit))
  children_late h c fit = refl

  listeners_late : (h : Host) (c : Class) → fit_all (host_links h c) ≡ true → all_late n (listens at (node_as h things c).listeners) ≡ true
  listeners_late h (class.Node k) fit =
      listens_late (heard_at k.0 h.listeners)
      (right_fits (nodes_links h.objects (children_at h.nodes k.0)) (calls_links (heard_at k.0 h.listeners))
      (right_fits (parent_links h.objects (parent_at h.nodes k.0)) (nodes_links h.objects (children_at h.nodes k.0) ++ calls_links (heard_at k.0 h.listeners)) fit))
  listeners_late h c fit = refl

  event_late : (h : Host) (c : Class) → fit_all (host_links h c) ≡ true → all_late n (event at (event_as things c)) ≡ true
  event_late h (class.Event parts) fit =
      join n (init at (event_of things parts)) (dispatch at (moved_proto things parts.target)) (init_late (event_of things parts)) (dispatch_late parts.target fit)
  event_late h c fit = refl

  statements_late : (p : Phase) (s : Store) (o : Object) → fit_all (links_of s o) ≡ true → all_late n (statements_of p at (thing_of s things o)) ≡ true
  statements_late p s o h = by p
    where
      later : fit_all (host_links s.host o.class ++ props_links o.props) ≡ true
      later =
          right_fits (class_links s o.class) (host_links s.host o.class ++ props_links o.props)
          (right_fits (proto_links o.proto) (class_links s o.class ++ (host_links s.host o.class ++ props_links o.props)) h)

      hosted : fit_all (host_links s.host o.class) ≡ true
      hosted = left_fits (host_links s.host o.class) (props_links o.props) later

      by : (q : Phase) → all_late n (statements_of q at (thing_of s things o)) ≡ true
      by phase.Children = children_late s.host o.class hosted
      by phase.Contents =
          let t : SavedNode = node_as s.host things o.class in
          join n (attributes at t.attributes) (set_value at t.value) (attributes_late t.attributes) (value_late t.value)
      by phase.Events = event_late s.host o.class hosted
      by phase.Listeners = listeners_late s.host o.class hosted
      by phase.Properties = fill_late s o (right_fits (host_links s.host o.class) (props_links o.props) later)
      by phase.Ends = prevent_late (thing_of s things o)

each_late : (p : Phase) (s : Store) (things ks : List ℕ) (n k : ℕ) → k + length ks ≤ n
    → ((i : ℕ) → i < length ks → list_all (fits things (first_thing + n)) (links s (get_or ks i 0)) ≡ true)
    → all_late n (each p k (things_at s things ks)) ≡ true
each_late p s things [] n k few every = refl
each_late p s things (j ∷ ks) n k few every =
    join n (statements_of p (thing_place k) (thing_at s things j)) (each p (suc k) (things_at s things ks))
    (statements_late things n (thing_place k) (lt-ltb (first_thing + k) (first_thing + n) (omega (arith, few))) p s (object_at s.heap.objects j) (every 0 (omega arith)))
    (each_late p s things ks n (suc k) (omega (arith, few)) (λ i inside. every (suc i) (omega (arith, inside))))

-- ---- timers

fillers_late : (n count : ℕ) → all_late n (fillers count) ≡ true
fillers_late n zero = refl
fillers_late n (suc count) = fillers_late n count

starts_late : (things : List ℕ) (n clock : ℕ) (ts : List Live) → list_all (fits things (first_thing + n)) (timers_links ts) ≡ true
    → all_late n (starts (moved_timers things clock ts)) ≡ true
starts_late things n clock [] h = refl
starts_late things n clock (t ∷ ts) h =
    let split = and_parts (fits things (first_thing + n) t.call.0) (list_all (fits things (first_thing + n)) (timers_links ts)) h in
    and_from _ _ (by t.period (and_from _ _ split.0 refl)) (starts_late things n clock ts split.1)
  where
    moved_one : Live
    moved_one = moved_timer things clock t

    by : (period : Option ℕ) → all_below (first_thing + n) (moved_one.call.0 ∷ []) ≡ true → late n (start moved_one period) ≡ true
    by None own = own
    by (Some period) own = own

clears_late : (n count id : ℕ) (ts : List Live) → all_late n (clears count id ts) ≡ true
clears_late n zero id ts = refl
clears_late n (suc count) id ts = join n (one (is_live ts id)) (clears count (id + 1) ts) (by (is_live ts id)) (clears_late n count (id + 1) ts)
  where
    one : Bool → List Rebuild
    one b = if b then [] else Clear id ∷ []

    by : (b : Bool) → all_late n (one b) ≡ true
    by true = refl
    by false = refl

timers_late : (things : List ℕ) (n clock : ℕ) (ts : List Live) → list_all (fits things (first_thing + n)) (timers_links ts) ≡ true
    → all_late n (timers (moved_timers things clock ts)) ≡ true
timers_late things n clock ts h =
    let moved_ones : List Live = moved_timers things clock ts in
    let cleared : List Rebuild = clears (greatest moved_ones) 1 moved_ones in
    join n (fillers (greatest moved_ones)) (starts moved_ones ++ cleared) (fillers_late n (greatest moved_ones))
    (join n (starts moved_ones) cleared (starts_late things n clock ts h) (clears_late n (greatest moved_ones) 1 moved_ones))

-- ---- the whole plan

at_place : (things : List ℕ) (i : ℕ) → i < length things → is_in (get_or things i 0) things ≡ true
at_place things i inside = list_any_at (nat_eq (get_or things i 0)) things i 0 inside (eq-eqb (get_or things i 0) (get_or things i 0) refl)

pub plans_stand : (s : Store) (things : List ℕ) → Still s → IsWalk s things → standing 0 (plan (compact s things)) ≡ true
plans_stand s things still walk =
    let all_made : n ≡ 0 + n = omega arith in
    makes_stand s things things 0 rest made_fit (subst (λ m. standing m rest ≡ true) all_made (late_stand n rest rest_late))
  where
    n : ℕ
    n = length things

    c : Compact
    c = compact s things

    -- what is there is known
    known : (ks : List ℕ) → ((j : ℕ) → is_in j ks ≡ true → (j < first_thing) ⊎ (is_in j things ≡ true)) → list_all (fits things (first_thing + n)) ks ≡ true
    known ks there = all_of (fits things (first_thing + n)) ks (λ j h. whole_fits things j (there j h))

    root_known : (j : ℕ) → is_in j (roots s) ≡ true → (j < first_thing) ⊎ (is_in j things ≡ true)
    root_known j h = roots_in_walk s things still walk j h

    phase_late : (p : Phase) → all_late n (whole p c) ≡ true
    phase_late p =
        join n (statements_of p document c.document) (each p 0 c.things)
        (statements_late things n document (lt-ltb document.0 (first_thing + n) (omega arith)) p s (object_at s.heap.objects document.0)
        (known (links s document.0) (λ j h. root_known j (document_among s j h))))
        (each_late p s things things n 0 (omega arith)
        (λ i inside. known (links s (get_or things i 0)) (λ j h. links_in_walk s things still walk (get_or things i 0) (at_place things i inside) j h)))

    globals : List Rebuild
    globals = defines false false window c.globals

    globals_late : all_late n globals ≡ true
    globals_late =
        defines_late things n window (lt-ltb window.0 (first_thing + n) (omega arith)) false false (globals_of s)
        (known (props_links (globals_of s)) (λ j h. root_known j (global_among s j h)))

    clocks_late : all_late n (timers c.timers) ≡ true
    clocks_late = timers_late things n s.host.clock s.host.timers (known (timers_links s.host.timers) (λ j h. root_known j (timers_among s j h)))

    last : List Rebuild
    last = timers c.timers ++ whole phase.Ends c

    properties : List Rebuild
    properties = globals ++ (whole phase.Properties c ++ last)

    rest : List Rebuild
    rest = whole phase.Children c ++ (whole phase.Contents c ++ (whole phase.Events c ++ (whole phase.Listeners c ++ properties)))

    properties_late : all_late n properties ≡ true
    properties_late =
        join n globals (whole phase.Properties c ++ last) globals_late
        (join n (whole phase.Properties c) last (phase_late phase.Properties) (join n (timers c.timers) (whole phase.Ends c) clocks_late (phase_late phase.Ends)))

    rest_late : all_late n rest ≡ true
    rest_late =
        join n (whole phase.Children c) (whole phase.Contents c ++ (whole phase.Events c ++ (whole phase.Listeners c ++ properties))) (phase_late phase.Children)
        (join n (whole phase.Contents c) (whole phase.Events c ++ (whole phase.Listeners c ++ properties)) (phase_late phase.Contents)
        (join n (whole phase.Events c) (whole phase.Listeners c ++ properties) (phase_late phase.Events)
        (join n (whole phase.Listeners c) properties (phase_late phase.Listeners) properties_late)))

    made_fit : (i : ℕ) → i < length things → list_all (fits things (first_thing + (0 + i))) (made_links s (object_at s.heap.objects (get_or things i 0))) ≡ true
    made_fit i inside =
        let k : ℕ = get_or things i 0 in
        let none : i ≡ 0 + i = omega arith in
        let found : is_in k things ≡ true = at_place things i inside in
        subst (λ m. list_all (fits things (first_thing + m)) (made_links s (object_at s.heap.objects k)) ≡ true) none
        (all_of (fits things (first_thing + i)) (made_links s (object_at s.heap.objects k))
        (λ j h. older_fits things i j walk.rising inside (made_older s things still walk k found j h) (links_in_walk s things still walk k found j (made_among s k j h))))
