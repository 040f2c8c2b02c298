-- A new object, and a function with its `prototype`, have their shapes.
use Rattle.std.proofs.Common.{◌≡◌, refl, sym, ap, subst, ◌∙◌, ℕ, suc, ◌+◌, ◌<◌, ◌≤◌, true, false, ◌&&◌, nat_lt, [], ◌∷◌, ◌++◌, Option, Some, None, length, length-append, arith}
use Rattle.std.proofs.lemmas.Bool.{and_from, and_parts, lt-ltb, ltb-true}
use Rattle.std.specs.Option.{ForSome}
use Rattle.js_core.specs.Tree.{Code}
use Rattle.js_values.specs.declared.ids.EnvId.{EnvId}
use Rattle.js_values.specs.declared.ids.NodeId.{NodeId}
use Rattle.js_values.specs.declared.ids.ObjId.{ObjId}
use Rattle.js_values.specs.declared.value.Value.TheVariants as value
use Rattle.object_heap.proofs.Callers.{settled_same}
use Rattle.object_heap.specs.Chain.{object_at}
use Rattle.object_heap.specs.Heap.{made, with_new_object}
use Rattle.object_heap.specs.Laws.{after_steps}
use Rattle.object_heap.specs.Object.{Object, settled, target_of}
use Rattle.object_heap.specs.declared.object.Class.{Class}
use Rattle.object_heap.specs.declared.object.Class.TheVariants as class
use Rattle.page_meaning.specs.Functions.{function_object, function_steps, prototype_object}
use Rattle.page_host.specs.Host.{Host}
use Rattle.page_meaning.specs.Classes.{is_made}
use Rattle.page_meaning.specs.Events.{new_parts}
use Rattle.page_meaning.specs.Places.{at_place, built_in_count, event_prototype_place, node_prototype_place}
use Rattle.page_meaning.specs.Steps.{event_object}
use Rattle.page_meaning.specs.Store.{Store, with_both, with_heap, with_host}
use Rattle.object_shapes.specs.Hosted.{HasParts, IsHosted, has_no_kept}
use Rattle.object_shapes.specs.Laws.{FunctionsStay, IsNew}
use Rattle.object_shapes.specs.Links.{all_below, event_links, made_links, object_links, parts_links, props_links, proto_links, value_links, values_links}
use Rattle.object_shapes.specs.Shapes.{HasShape, IsShaped}
use Rattle.object_shapes.proofs.Held.{IsHeld, held_more, held_of, shaped_of}
use Rattle.object_shapes.proofs.Lists.{all_back, all_front, all_more}
use Rattle.object_shapes.proofs.Steps.{no_node, object_held, pushed_held}

-- ---- what an object is made of is older

older_proto : (k : ℕ) (proto : Option ObjId) → all_below k (proto_links proto) ≡ true → ForSome proto (λ p. p.0 < k)
older_proto k None h p e = cc e
older_proto k (Some q) h p e =
    let same : q ≡ p = cc e in
    subst (λ (x : ObjId). x.0 < k) same (ltb-true q.0 k (and_parts (nat_lt q.0 k) true h).0)

older_target : (k : ℕ) (c : Class) → all_below k (parts_links c) ≡ true → ForSome (target_of c) (λ t. t.0 < k)
older_target k (class.Bound target this args) h t e =
    let same : target ≡ t = cc e in
    subst (λ (x : ObjId). x.0 < k) same
    (ltb-true target.0 k (and_parts (nat_lt target.0 k) (all_below k (value_links this ++ values_links args)) h).0)
older_target k c h t e = cc e

pub settled_as_it_is : (k : ℕ) (o : Object) → all_below k (made_links o) ≡ true → settled k o ≡ o
settled_as_it_is k o h = settled_same k o (older_proto k o.proto (all_front k (proto_links o.proto) (parts_links o.class) h))
    (older_target k o.class (all_back k (proto_links o.proto) (parts_links o.class) h))

pub made_as_it_is : (s : Store) (o : Object) → all_below (length s.heap.objects) (made_links o) ≡ true → made s.heap o ≡ with_new_object s.heap o
made_as_it_is s o h = ap (with_new_object s.heap) (settled_as_it_is (length s.heap.objects) o h)

-- ---- places

small_place : (k : ℕ) → built_in_count ≤ k → 2 < k
unfolding built_in_count
small_place k h = omega (arith, h)

pub event_place : event_prototype_place < built_in_count
unfolding built_in_count event_prototype_place
event_place = omega arith

pub node_place : node_prototype_place < built_in_count
unfolding built_in_count node_prototype_place
node_place = omega arith

pub one_below : (n k : ℕ) → k < n → all_below n (k ∷ []) ≡ true
one_below n k h = and_from (nat_lt k n) true (lt-ltb k n h) refl

two_below : (n j k : ℕ) → j < n → k < n → all_below n (j ∷ k ∷ []) ≡ true
two_below n j k h g = and_from (nat_lt j n) (nat_lt k n && true) (lt-ltb j n h) (one_below n k g)

-- ---- a new object

pub made_older : (n : ℕ) (o : Object) → all_below n (object_links o) ≡ true → all_below n (made_links o) ≡ true
made_older n o h = all_front n (made_links o) (event_links o.class ++ props_links o.props) h

-- where its host comes along
pub both_shaped : (s : Store) (o : Object) (h : Host) → IsShaped s → all_below (length s.heap.objects) (object_links o) ≡ true
    → length s.host.nodes ≤ length h.nodes
    → ((j : ℕ) → has_no_kept s (object_at s.heap.objects j) ≡ true → has_no_kept (with_host s h) (object_at s.heap.objects j) ≡ true)
    → HasShape (with_both s (with_new_object s.heap o) h) o o.class → o.closed ≡ false → IsHosted (with_both s (with_new_object s.heap o) h)
    → IsShaped (with_both s (made s.heap o) h)
both_shaped s o h shaped links longer free shape not_closed hosted =
    let older = made_older (length s.heap.objects) o links in
    let long : length (s.heap.objects ++ o ∷ []) ≡ suc (length s.heap.objects) = omega (arith, length-append s.heap.objects (o ∷ [])) in
    let held = held_more (length s.heap.objects) (suc (length s.heap.objects)) s (omega arith) (held_of s shaped) in
    let more = pushed_held (suc (length s.heap.objects)) s held o h
    (all_more (length s.heap.objects) (suc (length s.heap.objects)) (object_links o) (omega arith) links) older longer free shape not_closed hosted in
    subst (λ g. IsShaped (with_both s g h)) (sym (made_as_it_is s o older))
    (shaped_of (suc (length s.heap.objects)) (with_both s (with_new_object s.heap o) h) more (sym long))

pub made_shaped : (s : Store) (o : Object) → IsShaped s → IsNew s o → ((j : NodeId) → o.class ≡ class.Node j → ⊥) → IsShaped (with_heap s (made s.heap o))
made_shaped s o h new no_node =
    let older = made_older (length s.heap.objects) o new.there in
    let long : length (s.heap.objects ++ o ∷ []) ≡ suc (length s.heap.objects) = omega (arith, length-append s.heap.objects (o ∷ [])) in
    let held = held_more (length s.heap.objects) (suc (length s.heap.objects)) s (omega arith) (held_of s h) in
    let more = object_held (suc (length s.heap.objects)) s held o
    (all_more (length s.heap.objects) (suc (length s.heap.objects)) (object_links o) (omega arith) new.there) older no_node new.made new.not_closed in
    subst (λ g. IsShaped (with_heap s g)) (sym (made_as_it_is s o older))
    (shaped_of (suc (length s.heap.objects)) (with_heap s (with_new_object s.heap o)) more (sym long))

-- an event that is made is not initialised
pub event_shaped : (s : Store) → IsShaped s → IsShaped (with_heap s (made s.heap event_object))
event_shaped s h =
    let links : all_below (length s.heap.objects) (object_links event_object) ≡ true =
    one_below (length s.heap.objects) event_prototype_place (let small = event_place in let there = h.all_there in omega (arith, small, there)) in
    made_shaped s event_object h (record { there = links; made = (refl, refl, new_event s); not_closed = refl }) (λ j e. cc e)
  where
    new_event : (s : Store) → HasParts s new_parts
    new_event s = record {
      fresh = λ e. (refl, refl, refl);
      sent = refl;
      begun = λ e. cc e;
      target = refl;
      current = refl;
      phase = omega arith;
    }

-- ---- a function

-- a function and its `prototype` on top of a page
pushed_function : (s : Store) (c : Code) (env : Option EnvId) (k n : ℕ) (f p : Object) → length s.heap.objects ≡ k → n ≡ suc (suc k)
    → f ≡ function_object c env (k + 1) → p ≡ prototype_object k → IsShaped s
    → IsHeld n (with_heap s (with_new_object (with_new_object s.heap f) p))
pushed_function s c env k n f p at few is_function is_prototype h =
    let old : built_in_count ≤ k = (let there = h.all_there in omega (arith, there, at)) in
    let low = small_place k old in
    let held = held_more (length s.heap.objects) n s (omega arith) (held_of s h) in
    let f_links : all_below n (object_links f) ≡ true = subst (λ x. all_below n (object_links x) ≡ true) (sym is_function)
    (two_below n 2 (k + 1) (omega arith) (omega arith)) in
    let f_older : all_below (length s.heap.objects) (made_links f) ≡ true =
    subst (λ x. all_below (length s.heap.objects) (made_links x) ≡ true) (sym is_function) (one_below (length s.heap.objects) 2 (omega arith))
    in
    let f_shape : HasShape s f f.class = subst (λ (x : Object). HasShape s x x.class) (sym is_function)
    (refl, record { prototype = value.Object (at_place (k + 1)); writable = true; others = []; are = refl })
    in
    let f_open : f.closed ≡ false = ap (λ (x : Object). x.closed) is_function in
    let no_f : (j : NodeId) → f.class ≡ class.Node j → ⊥ = λ j. no_node f.class j (ap (λ (x : Object). is_made x.class) is_function) in
    let one = object_held n s held f f_links f_older no_f f_shape f_open in
    let long : length (s.heap.objects ++ f ∷ []) ≡ suc k = omega (arith, length-append s.heap.objects (f ∷ []), at) in
    let p_links : all_below n (object_links p) ≡ true = subst (λ x. all_below n (object_links x) ≡ true) (sym is_prototype)
    (two_below n 1 k (omega arith) (omega arith)) in
    let p_older : all_below (length (s.heap.objects ++ f ∷ [])) (made_links p) ≡ true =
    subst (λ x. all_below (length (s.heap.objects ++ f ∷ [])) (made_links x) ≡ true) (sym is_prototype)
    (one_below (length (s.heap.objects ++ f ∷ [])) 1 (omega arith))
    in
    let p_shape : HasShape (with_heap s (with_new_object s.heap f)) p p.class =
    subst (λ (x : Object). HasShape (with_heap s (with_new_object s.heap f)) x x.class) (sym is_prototype) tt in
    let p_open : p.closed ≡ false = ap (λ (x : Object). x.closed) is_prototype in
    let no_p : (j : NodeId) → p.class ≡ class.Node j → ⊥ = λ j. no_node p.class j (ap (λ (x : Object). is_made x.class) is_prototype) in
    object_held n (with_heap s (with_new_object s.heap f)) one p p_links p_older no_p p_shape p_open

-- both are made as they are
made_both : (s : Store) (c : Code) (env : Option EnvId) → IsShaped s
    → after_steps s.heap (function_steps c env (length s.heap.objects)) ≡ with_new_object
    (with_new_object s.heap (function_object c env (length s.heap.objects + 1))) (prototype_object (length s.heap.objects))
made_both s c env h =
    let there = h.all_there in
    let low = small_place (length s.heap.objects) (omega (arith, there)) in
    let one : made s.heap (function_object c env (length s.heap.objects + 1)) ≡ with_new_object s.heap
    (function_object c env (length s.heap.objects + 1)) =
    made_as_it_is s (function_object c env (length s.heap.objects + 1)) (one_below (length s.heap.objects) 2 low)
    in
    let long : length (s.heap.objects ++ function_object c env (length s.heap.objects + 1) ∷ []) ≡ suc (length s.heap.objects) =
    omega (arith, length-append s.heap.objects (function_object c env (length s.heap.objects + 1) ∷ []))
    in
    ap (λ g. made g (prototype_object (length s.heap.objects))) one
    ∙ made_as_it_is (with_heap s (with_new_object s.heap (function_object c env (length s.heap.objects + 1))))
    (prototype_object (length s.heap.objects))
    (one_below (length (s.heap.objects ++ function_object c env (length s.heap.objects + 1) ∷ [])) 1 (omega arith))

pub function_shaped : FunctionsStay
function_shaped s c env sound h =
    let f = function_object c env (length s.heap.objects + 1) in
    let p = prototype_object (length s.heap.objects) in
    let held = pushed_function s c env (length s.heap.objects) (suc (suc (length s.heap.objects))) f p refl refl refl refl h in
    let long : suc (suc (length s.heap.objects)) ≡ length ((s.heap.objects ++ f ∷ []) ++ p ∷ []) = omega
    (arith, length-append (s.heap.objects ++ f ∷ []) (p ∷ []), length-append s.heap.objects (f ∷ [])) in
    subst (λ g. IsShaped (with_heap s g)) (sym (made_both s c env h))
    (shaped_of (suc (suc (length s.heap.objects))) (with_heap s (with_new_object (with_new_object s.heap f) p)) held long)
