-- A page stays held where an object of it changes, where one is made, and where its environments change.
use Rattle.std.proofs.Common.{◌≡◌, ◌⊎◌, inl, inr, refl, sym, ap, subst, ◌∙◌, ℕ, zero, suc, ◌<◌, ◌≤◌, Bool, true, false, ◌&&◌, nat_lt, List, [], ◌∷◌, ◌++◌, Some, length, length-append, slice_set, arith}
use Rattle.std.proofs.lemmas.Bool.{and_parts, cases_eq, cases_lt, cases_order}
use Rattle.std.proofs.lemmas.List.{length-set}
use Rattle.js_values.specs.declared.ids.NodeId.{NodeId}
use Rattle.js_values.specs.declared.ids.ObjId.{ObjId}
use Rattle.object_heap.proofs.Callers.{object_absent, object_before, object_last, object_past, object_set_other, object_set_same}
use Rattle.object_heap.specs.Chain.{object_at}
use Rattle.object_heap.specs.Environment.{Environment, environment_at}
use Rattle.object_heap.specs.Heap.{Contents, with_environments, with_new_object, with_object}
use Rattle.object_heap.specs.Object.{is_list, Object}
use Rattle.object_heap.specs.declared.object.Class.{Class}
use Rattle.object_heap.specs.declared.object.Class.TheVariants as class
use Rattle.page_meaning.specs.Places.{window}
use Rattle.page_meaning.specs.Pristine.{built_ins}
use Rattle.page_host.specs.Host.{Host}
use Rattle.page_meaning.specs.Classes.{class_at, is_function, is_made}
use Rattle.page_meaning.specs.Store.{Store, with_both, with_heap, with_host}
use Rattle.object_shapes.specs.Hosted.{IsHosted, has_no_kept}
use Rattle.object_shapes.specs.Links.{all_below, bound_links, event_links, is_thing, made_links, object_links, parts_links, props_links, proto_links}
use Rattle.page_meaning.specs.Places.{built_in_count}
use Rattle.object_shapes.specs.Shapes.{HasShape, IsShaped, IsWindow, built_in_at}
use Rattle.object_shapes.proofs.Changed.{Kept}
use Rattle.object_shapes.proofs.Held.{FunctionKept, IsHeld, SameKinds, function_there, held_of, hosted_kept, is_thing_from, node_there, props_same, same_kinds, shape_kept, shaped_of, thing_is}
use Rattle.object_shapes.proofs.Lists.{all_back, all_front, all_join}

-- ---- built-in objects are closed, but for the global one

abbrev are_closed : List Object → Bool
are_closed [] = true
are_closed (o ∷ os) = o.closed && are_closed os

closed_at : (os : List Object) (k : ℕ) → are_closed os ≡ true → (object_at os k).closed ≡ true
closed_at [] k h = refl
closed_at (o ∷ os) zero h = (and_parts o.closed (are_closed os) h).0
closed_at (o ∷ os) (suc k) h = closed_at os k (and_parts o.closed (are_closed os) h).1

abbrev tail_of : List Object → List Object
tail_of [] = []
tail_of (o ∷ os) = os

tail_closed : are_closed (tail_of built_ins) ≡ true
tail_closed = refl

at_tail : (os : List Object) (k : ℕ) → object_at os (suc k) ≡ object_at (tail_of os) k
at_tail [] k = refl
at_tail (o ∷ os) k = refl

pub built_in_closed : (k : ℕ) → 0 < k → (built_in_at k).closed ≡ true
built_in_closed zero h = absurd (omega arith)
built_in_closed (suc k) h = ap (λ (o : Object). o.closed) (at_tail built_ins k) ∙ closed_at
    (tail_of built_ins) k tail_closed

-- and none is a node or an event
abbrev are_made : List Object → Bool
are_made [] = true
are_made (o ∷ os) = is_made o.class && are_made os

made_at : (os : List Object) (k : ℕ) → are_made os ≡ true → is_made (object_at os k).class ≡ true
made_at [] k h = refl
made_at (o ∷ os) zero h = (and_parts (is_made o.class) (are_made os) h).0
made_at (o ∷ os) (suc k) h = made_at os k (and_parts (is_made o.class) (are_made os) h).1

all_made : are_made built_ins ≡ true
all_made = refl

pub built_in_made : (k : ℕ) → is_made (built_in_at k).class ≡ true
built_in_made k = made_at built_ins k all_made

-- what the language makes is no object of a node
pub no_node : (c : Class) (j : NodeId) → is_made c ≡ true → c ≡ class.Node j → ⊥
no_node c j h e = cc (sym h ∙ ap is_made e)

zero_place : 0 < built_in_count
unfolding built_in_count
zero_place = omega arith

-- ---- one object changes

-- an object becomes another one of its kind; an event may have other parts
pub record Becomes (n : ℕ) (s : Store) (o p : Object) : Type 0 where
  pub proto : p.proto ≡ o.proto
  pub closed : p.closed ≡ o.closed
  pub still : o.closed ≡ true → p ≡ o
  pub window : IsWindow o → IsWindow p
  pub parts : parts_links p.class ≡ parts_links o.class
  pub links : all_below n (event_links o.class ++ props_links o.props) ≡ true → all_below n (event_links p.class ++ props_links p.props) ≡ true
  pub function : is_function (Some o.class) ≡ true → FunctionKept o p
  pub to_node : (j : NodeId) → o.class ≡ class.Node j → p.class ≡ class.Node j
  pub of_node : (j : NodeId) → p.class ≡ class.Node j → o.class ≡ class.Node j
  pub shape : (g : Contents) → SameKinds s (with_heap s g) → HasShape s o o.class → HasShape (with_heap s g) p p.class

pub becomes_kept : (n : ℕ) (s : Store) (o p : Object) → Kept n s.host.nodes o p → Becomes n s o p
becomes_kept n s o p kept = record {
  proto = kept.proto;
  closed = kept.closed;
  still = kept.still;
  window = kept.window;
  parts = ap parts_links kept.class;
  links = λ h. all_join n (event_links p.class) (props_links p.props)
      (subst (λ c. all_below n (event_links c) ≡ true) (sym kept.class) (all_front n (event_links o.class) (props_links o.props) h))
      (kept.small (all_back n (event_links o.class) (props_links o.props) h));
  function = λ f. record { class = kept.class; fixed = λ m h. kept.fixed m (no_list o.class f) h };
  to_node = λ j e. kept.class ∙ e;
  of_node = λ j e. sym kept.class ∙ e;
  shape = λ g f h. subst (HasShape (with_heap s g) p) (sym kept.class)
      (shape_kept s (with_heap s g) o p o.class f kept.proto (record { list = kept.list; function = kept.function; fixed = kept.fixed }) kept.free h);
}
  where
    no_list : (c : Class) → is_function (Some c) ≡ true → is_list c ≡ false
    no_list class.List g = cc g
    no_list c g = refl

module _ (n : ℕ) (s : Store) (held : IsHeld n s) (k : ℕ) (p : Object) (inside : k < length s.heap.objects)
    (kept : Becomes n s (object_at s.heap.objects k) p) where
  -- what is kept there holds at each place
  by_place : (Q : Object → Type 0) → (Q (object_at s.heap.objects k) → Q p) → (j : ℕ) → Q (object_at s.heap.objects j)
      → Q (object_at (slice_set s.heap.objects k p) j)
  by_place Q step j h = by_case (cases_eq j k)
    where
      by_case : (j ≡ k) ⊎ (j ≡ k → ⊥) → Q (object_at (slice_set s.heap.objects k p) j)
      by_case (inl here) =
          let same : object_at (slice_set s.heap.objects k p) j ≡ p =
          ap (object_at (slice_set s.heap.objects k p)) here ∙ object_set_same s.heap.objects k p inside in
          subst Q (sym same) (step (subst (λ i. Q (object_at s.heap.objects i)) here h))
      by_case (inr other) = subst Q (sym (object_set_other s.heap.objects k j p other)) h

  as_many : length (slice_set s.heap.objects k p) ≡ length s.heap.objects
  as_many = length-set s.heap.objects k p

  thing_before : (j : ℕ) → is_thing (with_heap s (with_object s.heap k p)) j ≡ true → is_thing s j ≡ true
  thing_before j h = subst (λ m. (nat_lt built_in_count j && nat_lt j m) ≡ true) as_many h

  made_same : made_links p ≡ made_links (object_at s.heap.objects k)
  made_same = (λ i. proto_links (kept.proto i) ++ kept.parts i)

  -- what holds of the two
  at_both : (Q : Object → Object → Type 0) → Q (object_at s.heap.objects k) p → ((j : ℕ) → Q (object_at s.heap.objects j) (object_at s.heap.objects j))
      → (j : ℕ) → Q (object_at s.heap.objects j) (object_at (slice_set s.heap.objects k p) j)
  at_both Q one others j = by_case (cases_eq j k)
    where
      by_case : (j ≡ k) ⊎ (j ≡ k → ⊥) → Q (object_at s.heap.objects j) (object_at (slice_set s.heap.objects k p) j)
      by_case (inl here) =
          let same : object_at (slice_set s.heap.objects k p) j ≡ p =
          ap (object_at (slice_set s.heap.objects k p)) here ∙ object_set_same s.heap.objects k p inside in
          subst (λ x. Q (object_at s.heap.objects j) x) (sym same) (subst (λ i. Q (object_at s.heap.objects i) p) (sym here) one)
      by_case (inr other) = subst (λ x. Q (object_at s.heap.objects j) x) (sym (object_set_other s.heap.objects k j p other)) (others j)

  changed_kinds : SameKinds s (with_heap s (with_object s.heap k p))
  changed_kinds = same_kinds n s (with_heap s (with_object s.heap k p)) held
      (at_both (λ o q. is_function (Some o.class) ≡ true → FunctionKept o q) kept.function (λ j f. record { class = refl; fixed = λ m h. h }))
      (λ at j e. at_both (λ o q. o.class ≡ class.Node j → q.class ≡ class.Node j) (kept.to_node j) (λ i e. e) at.0 e) (omega arith)

  changed_back : (at : ObjId) (j : NodeId) → class_at (with_heap s (with_object s.heap k p)) at ≡ class.Node j → class_at s at ≡ class.Node j
  changed_back at j e = at_both (λ o q. q.class ≡ class.Node j → o.class ≡ class.Node j) (kept.of_node j) (λ i e. e) at.0 e

  changed_shape : (j : ℕ) → HasShape s (object_at s.heap.objects j) (object_at s.heap.objects j).class
      → HasShape (with_heap s (with_object s.heap k p)) (object_at (slice_set s.heap.objects k p) j)
      (object_at (slice_set s.heap.objects k p) j).class
  changed_shape j h = at_both (λ o q. HasShape s o o.class → HasShape (with_heap s (with_object s.heap k p)) q q.class)
      (kept.shape (with_object s.heap k p) changed_kinds)
      (λ i g. shape_kept s (with_heap s (with_object s.heap k p)) (object_at s.heap.objects i) (object_at s.heap.objects i)
      (object_at s.heap.objects i).class changed_kinds refl
      (props_same (object_at s.heap.objects i).class (object_at s.heap.objects i).props) (λ free. free) g) j h

  pub changed_held : IsHeld n (with_heap s (with_object s.heap k p))
  changed_held = record {
    built_ins = λ j young old. by_place (λ x. x ≡ built_in_at j) (λ e. kept.still (ap (λ (x : Object). x.closed) e ∙ built_in_closed j young) ∙ e) j
        (held.built_ins j young old);
    window = by_place IsWindow kept.window window.0 held.window;
    all_there = subst (λ m. built_in_count < m) (sym as_many) held.all_there;
    there = λ j. by_place (λ x. all_below n (object_links x) ≡ true)
        (λ h. all_join n (made_links p) (event_links p.class ++ props_links p.props)
        (subst (λ ks. all_below n ks ≡ true) (sym made_same)
        (all_front n (made_links (object_at s.heap.objects k))
        (event_links (object_at s.heap.objects k).class ++ props_links (object_at s.heap.objects k).props) h))
        (kept.links (all_back n (made_links (object_at s.heap.objects k))
        (event_links (object_at s.heap.objects k).class ++ props_links (object_at s.heap.objects k).props) h))) j (held.there j);
    bound_there = held.bound_there;
    older = λ j thing. by_place (λ x. all_below j (made_links x) ≡ true) (λ h. subst (λ ks. all_below j ks ≡ true) (sym made_same) h) j
        (held.older j (thing_before j thing));
    made = λ j thing. changed_shape j (held.made j (thing_before j thing));
    not_closed = λ j thing. by_place (λ (x : Object). x.closed ≡ false) (λ h. kept.closed ∙ h) j (held.not_closed j (thing_before j thing));
    document = changed_shape built_in_count held.document;
    document_open = by_place (λ (x : Object). x.closed ≡ false) (λ h. kept.closed ∙ h) built_in_count held.document_open;
    host = hosted_kept s (with_object s.heap k p) changed_kinds changed_back held.host;
  }

-- an object becomes another one, where there is one
pub object_shaped : (s : Store) (k : ℕ) (p : Object) → IsShaped s → Becomes (length s.heap.objects) s (object_at s.heap.objects k) p
    → IsShaped (with_heap s (with_object s.heap k p))
object_shaped s k p h kept = by_case (cases_lt k (length s.heap.objects))
  where
    by_case : (k < length s.heap.objects) ⊎ (length s.heap.objects ≤ k) → IsShaped (with_heap s (with_object s.heap k p))
    by_case (inl there) = shaped_of (length s.heap.objects) (with_heap s (with_object s.heap k p))
        (changed_held (length s.heap.objects) s (held_of s h) k p there kept) (sym (length-set s.heap.objects k p))
    by_case (inr past) = subst (λ g. IsShaped (with_heap s g)) (sym (object_past s.heap k p past)) h

-- ---- one object more, and what may come to the host with it

pub pushed_before : (os : List Object) (o : Object) (j : ℕ) → (j ≡ length os → ⊥) → object_at (os ++ o ∷ []) j ≡ object_at os j
pushed_before os o j other = by_case (cases_order j (length os))
  where
    by_case : (j ≡ length os) ⊎ ((j < length os) ⊎ (length os < j)) → object_at (os ++ o ∷ []) j ≡ object_at os j
    by_case (inl here) = absurd (other here)
    by_case (inr (inl before)) = object_before os o j before
    by_case (inr (inr past)) =
        let long : length (os ++ o ∷ []) ≤ j = omega (arith, length-append os (o ∷ [])) in
        object_absent (os ++ o ∷ []) j long ∙ sym (object_absent os j (omega arith))

module _ (n : ℕ) (s : Store) (held : IsHeld n s) (o : Object) (h : Host) (links : all_below n (object_links o) ≡ true)
    (older : all_below (length s.heap.objects) (made_links o) ≡ true)
    (longer : length s.host.nodes ≤ length h.nodes)
    (free : (j : ℕ) → has_no_kept s (object_at s.heap.objects j) ≡ true → has_no_kept (with_host s h) (object_at s.heap.objects j) ≡ true) where
  at_new : (Q : Object → Type 0) (j : ℕ) → ((j ≡ length s.heap.objects) → Q o) → ((j ≡ length s.heap.objects → ⊥) → Q (object_at s.heap.objects j))
      → Q (object_at (s.heap.objects ++ o ∷ []) j)
  at_new Q j new old = by_case (cases_eq j (length s.heap.objects))
    where
      by_case : (j ≡ length s.heap.objects) ⊎ (j ≡ length s.heap.objects → ⊥) → Q (object_at (s.heap.objects ++ o ∷ []) j)
      by_case (inl here) = subst Q (sym (ap (object_at (s.heap.objects ++ o ∷ [])) here ∙ object_last s.heap.objects o)) (new here)
      by_case (inr other) = subst Q (sym (pushed_before s.heap.objects o j other)) (old other)

  one_more : length (s.heap.objects ++ o ∷ []) ≡ suc (length s.heap.objects)
  one_more = omega (arith, length-append s.heap.objects (o ∷ []))

  thing_old : (j : ℕ) → is_thing (with_heap s (with_new_object s.heap o)) j ≡ true → (j ≡ length s.heap.objects → ⊥) → is_thing s j ≡ true
  thing_old j e other =
      let now = thing_is (with_heap s (with_new_object s.heap o)) j e in
      let young : built_in_count < j = now.young in
      let below : j < length (s.heap.objects ++ o ∷ []) = now.there in
      is_thing_from s j (record { young = young; there = less (cases_order j (length s.heap.objects)) below })
    where
      less : (j ≡ length s.heap.objects) ⊎ ((j < length s.heap.objects) ⊎ (length s.heap.objects < j)) → j < length (s.heap.objects ++ o ∷ [])
          → j < length s.heap.objects
      less (inl here) below = absurd (other here)
      less (inr (inl before)) below = before
      less (inr (inr past)) below = omega (arith, one_more)

  functions_stay : (j : ℕ) → is_function (Some (object_at s.heap.objects j).class) ≡ true
      → FunctionKept (object_at s.heap.objects j) (object_at (s.heap.objects ++ o ∷ []) j)
  functions_stay j f = subst (λ x. FunctionKept (object_at s.heap.objects j) x)
      (sym (object_before s.heap.objects o j (function_there n s held j f))) (record { class = refl; fixed = λ m h. h })

  nodes_stay : (at : ObjId) (j : NodeId) → class_at s at ≡ class.Node j → (object_at (s.heap.objects ++ o ∷ []) at.0).class ≡ class.Node j
  nodes_stay at j e = ap (λ (x : Object). x.class) (object_before s.heap.objects o at.0 (node_there s at j e)) ∙ e

  pub grown_kinds : SameKinds s (with_both s (with_new_object s.heap o) h)
  grown_kinds = same_kinds n s (with_both s (with_new_object s.heap o) h) held functions_stay nodes_stay longer

  shape_stays : (j : ℕ) → HasShape s (object_at s.heap.objects j) (object_at s.heap.objects j).class
      → HasShape (with_both s (with_new_object s.heap o) h) (object_at s.heap.objects j) (object_at s.heap.objects j).class
  shape_stays j e =
      shape_kept s (with_both s (with_new_object s.heap o) h) (object_at s.heap.objects j) (object_at s.heap.objects j) (object_at s.heap.objects j).class
      grown_kinds refl (props_same (object_at s.heap.objects j).class (object_at s.heap.objects j).props) (free j) e

  pub pushed_held : HasShape (with_both s (with_new_object s.heap o) h) o o.class → o.closed ≡ false → IsHosted (with_both s (with_new_object s.heap o) h)
      → IsHeld n (with_both s (with_new_object s.heap o) h)
  pushed_held shape not_closed hosted = record {
    built_ins = λ j young old. pushed_before s.heap.objects o j (λ here. old_place j old here) ∙ held.built_ins j young old;
    window = subst IsWindow (sym (pushed_before s.heap.objects o window.0 (λ here. old_place window.0 zero_place here))) held.window;
    all_there = omega (arith, one_more, held.all_there);
    there = λ j. at_new (λ x. all_below n (object_links x) ≡ true) j (λ here. links) (λ other. held.there j);
    bound_there = held.bound_there;
    older = λ j thing. at_new (λ x. all_below j (made_links x) ≡ true) j (λ here. subst (λ m. all_below m (made_links o) ≡ true) (sym here) older)
        (λ other. held.older j (thing_old j thing other));
    made = λ j thing. at_new (λ (x : Object). HasShape (with_both s (with_new_object s.heap o) h) x x.class) j (λ here. shape)
        (λ other. shape_stays j (held.made j (thing_old j thing other)));
    not_closed = λ j thing. at_new (λ (x : Object). x.closed ≡ false) j (λ here. not_closed) (λ other. held.not_closed j (thing_old j thing other));
    document = at_new (λ (x : Object). HasShape (with_both s (with_new_object s.heap o) h) x x.class) built_in_count (λ here. shape)
        (λ other. shape_stays built_in_count held.document);
    document_open = at_new (λ (x : Object). x.closed ≡ false) built_in_count (λ here. not_closed) (λ other. held.document_open);
    host = hosted;
  }
    where
      old_place : (j : ℕ) → j < built_in_count → j ≡ length s.heap.objects → ⊥
      old_place j old here = omega (arith, held.all_there)

-- an object of the language
module _ (n : ℕ) (s : Store) (held : IsHeld n s) (o : Object) (links : all_below n (object_links o) ≡ true)
    (older : all_below (length s.heap.objects) (made_links o) ≡ true)
    (no_node : (j : NodeId) → o.class ≡ class.Node j → ⊥) where
  made_kinds : SameKinds s (with_heap s (with_new_object s.heap o))
  made_kinds = grown_kinds n s held o s.host links older (omega arith) (λ j h. h)

  made_back : (at : ObjId) (j : NodeId) → class_at (with_heap s (with_new_object s.heap o)) at ≡ class.Node j → class_at s at ≡ class.Node j
  made_back at j = at_new n s held o s.host links older (omega arith) (λ j h. h) (λ x. x.class ≡ class.Node j → class_at s at ≡ class.Node j) at.0
      (λ here e. absurd (no_node j e)) (λ other e. e)

  pub object_held : HasShape s o o.class → o.closed ≡ false → IsHeld n (with_heap s (with_new_object s.heap o))
  object_held shape not_closed =
      pushed_held n s held o s.host links older (omega arith) (λ j h. h)
      (shape_kept s (with_heap s (with_new_object s.heap o)) o o o.class made_kinds refl (props_same o.class o.props) (λ free. free) shape) not_closed
      (hosted_kept s (with_new_object s.heap o) made_kinds made_back held.host)

-- ---- other environments

pub environments_held : (n : ℕ) (s : Store) (es : List Environment) → IsHeld n s
    → ((e : ℕ) → all_below n (bound_links (environment_at es e).names) ≡ true)
    → IsHeld n (with_heap s (with_environments s.heap es))
environments_held n s es held names = record {
  built_ins = held.built_ins;
  window = held.window;
  all_there = held.all_there;
  there = held.there;
  bound_there = names;
  older = held.older;
  made = λ k thing. shape k (held.made k thing);
  not_closed = held.not_closed;
  document = shape built_in_count held.document;
  document_open = held.document_open;
  host = hosted_kept s (with_environments s.heap es) kinds (λ at k e. e) held.host;
}
  where
    kinds : SameKinds s (with_heap s (with_environments s.heap es))
    kinds = record { functions = λ at f. (refl, f); nodes = λ at k e. e; longer = omega arith }

    shape : (k : ℕ) → HasShape s (object_at s.heap.objects k) (object_at s.heap.objects k).class
        → HasShape (with_heap s (with_environments s.heap es)) (object_at s.heap.objects k) (object_at s.heap.objects k).class
    shape k h = shape_kept s (with_heap s (with_environments s.heap es)) (object_at s.heap.objects k) (object_at s.heap.objects k)
        (object_at s.heap.objects k).class kinds refl (props_same (object_at s.heap.objects k).class (object_at s.heap.objects k).props) (λ free. free) h
