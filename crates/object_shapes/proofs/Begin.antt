-- A page before its scripts has its shapes: all built-in objects refer to built-in ones (section 15).
use Rattle.std.proofs.Common.{◌≡◌, ◌⊎◌, inl, inr, refl, sym, ap, subst, ◌∙◌, ℕ, zero, suc, ◌+◌, ◌-◌, ◌<◌, ◌≤◌, Bool, true, false, ◌&&◌, List, [], ◌∷◌, ◌++◌, Some, length, length-append, slice_index_or, arith}
use Rattle.std.proofs.lemmas.Bool.{and_parts, cases_lt}
use Rattle.std.proofs.lemmas.List.Elements.{All-nil}
use Rattle.dom_tree.specs.Node.{Nodes}
use Rattle.dom_tree.specs.Sound as nodes
use Rattle.object_heap.proofs.Callers.{object_absent}
use Rattle.object_heap.specs.Chain.{object_at}
use Rattle.object_heap.specs.Heap.{new_object}
use Rattle.object_heap.specs.Object.{no_object, Object}
use Rattle.object_heap.specs.declared.object.Class.TheVariants as class
use Rattle.page_host.proofs.Callers.{new_hosts_are_sound}
use Rattle.page_host.specs.Host.{no_object as no_id, object_of_node}
use Rattle.page_meaning.specs.Classes.{class_at}
use Rattle.page_meaning.specs.Places.{array_prototype_place, at_place, boolean_prototype_place, built_in_count, console_place, error_prototype_place, event_prototype_place, function_place, math_place, node_prototype, node_prototype_place, number_prototype_place, range_error_prototype_place, reference_error_prototype_place, string_prototype_place, type_error_prototype_place}
use Rattle.page_meaning.specs.Pristine.{built_ins, node_objects, places_from, pristine}
use Rattle.object_shapes.specs.Hosted.{IsHosted}
use Rattle.object_shapes.specs.Laws.{PagesBeginShaped}
use Rattle.object_shapes.specs.Links.{all_below, is_thing, made_links, object_links}
use Rattle.object_shapes.specs.Shapes.{HasShape, IsShaped, built_in_at}
use Rattle.object_shapes.proofs.Held.{thing_is}
use Rattle.object_shapes.proofs.Lists.{all_more}
use Rattle.object_shapes.proofs.Made.{node_place, one_below}
use Rattle.object_shapes.proofs.Nodes.{same_node, some_node}
use Rattle.object_shapes.proofs.Steps.{built_in_made, no_node}

-- ---- built-in objects

abbrev are_within : ℕ → List Object → Bool
are_within n [] = true
are_within n (o ∷ os) = all_below n (object_links o) && are_within n os

within_at : (n : ℕ) (os : List Object) (k : ℕ) → are_within n os ≡ true → all_below n (object_links (object_at os k)) ≡ true
within_at n [] k h = refl
within_at n (o ∷ os) zero h = (and_parts (all_below n (object_links o)) (are_within n os) h).0
within_at n (o ∷ os) (suc k) h = within_at n os k (and_parts (all_below n (object_links o)) (are_within n os) h).1

-- and to the document
all_within : are_within (suc built_in_count) built_ins ≡ true
unfolding array_prototype_place string_prototype_place number_prototype_place boolean_prototype_place math_place console_place error_prototype_place
    type_error_prototype_place range_error_prototype_place reference_error_prototype_place function_place node_prototype_place event_prototype_place built_in_count
all_within = refl

object_count : length built_ins ≡ built_in_count
unfolding built_in_count
object_count = refl

-- ---- two lists

object_front : (os us : List Object) (k : ℕ) → k < length os → object_at (os ++ us) k ≡ object_at os k
object_front [] us k h = absurd (omega (arith, h))
object_front (o ∷ os) us zero h = refl
object_front (o ∷ os) us (suc k) h = object_front os us k (omega (arith, h))

object_back : (os us : List Object) (k : ℕ) → object_at (os ++ us) (length os + k) ≡ object_at us k
object_back [] us k = let e : 0 + k ≡ k = omega arith in ap (object_at us) e
object_back (o ∷ os) us k = let e : length (o ∷ os) + k ≡ suc (length os + k) = omega arith in ap (object_at (o ∷ (os ++ us))) e ∙ object_back os us k

-- ---- objects of nodes

abbrev node_object : ℕ → Object
node_object k = new_object (class.Node (record { 0 = k })) (Some node_prototype)

nodes_long : (k : ℕ) (t : Nodes) → length (node_objects k t) ≡ length t
nodes_long k [] = refl
nodes_long k (n ∷ t) = ap suc (nodes_long (suc k) t)

places_long : (k : ℕ) (t : Nodes) → length (places_from k t) ≡ length t
places_long k [] = refl
places_long k (n ∷ t) = ap suc (places_long (suc k) t)

node_at_place : (k : ℕ) (t : Nodes) (j : ℕ) → j < length t → object_at (node_objects k t) j ≡ node_object (k + j)
node_at_place k [] j h = absurd (omega (arith, h))
node_at_place k (n ∷ t) zero h = let e : k ≡ k + 0 = omega arith in ap node_object e
node_at_place k (n ∷ t) (suc j) h = let e : suc k + j ≡ k + suc j = omega arith in node_at_place (suc k) t j (omega (arith, h)) ∙ ap node_object e

place_at : (k : ℕ) (t : Nodes) (j : ℕ) → j < length t → slice_index_or (places_from k t) j no_id ≡ at_place (k + j)
place_at k [] j h = absurd (omega (arith, h))
place_at k (n ∷ t) zero h = let e : k ≡ k + 0 = omega arith in ap at_place e
place_at k (n ∷ t) (suc j) h = let e : suc k + j ≡ k + suc j = omega arith in place_at (suc k) t j (omega (arith, h)) ∙ ap at_place e

module _ (t : Nodes) (sound : nodes.IsSound t) where
  long : length (pristine t).heap.objects ≡ built_in_count + length t
  long = let a = object_count in let b = nodes_long 0 t in let c = length-append built_ins (node_objects 0 t) in omega (arith, a, b, c)

  old : (k : ℕ) → k < built_in_count → object_at (pristine t).heap.objects k ≡ built_in_at k
  old k h = object_front built_ins (node_objects 0 t) k (let a = object_count in omega (arith, a, h))

  new : (j : ℕ) → j < length t → object_at (pristine t).heap.objects (built_in_count + j) ≡ node_object j
  new j h = ap (λ n. object_at (pristine t).heap.objects (n + j)) (sym object_count) ∙ object_back built_ins (node_objects 0 t) j ∙ node_at_place 0 t j h
      ∙ ap node_object (let e : 0 + j ≡ j = omega arith in e)

  -- an object is built in, one of a node, or not there
  data Kind (k : ℕ) : Type 0 where
    built : k < built_in_count → Kind k
    of_node : (j : ℕ) → j < length t → k ≡ built_in_count + j → Kind k
    absent : length (pristine t).heap.objects ≤ k → Kind k

  kind : (k : ℕ) → Kind k
  kind k = by_case (cases_lt k built_in_count) (cases_lt k (built_in_count + length t))
    where
      by_case : (k < built_in_count) ⊎ (built_in_count ≤ k) → (k < built_in_count + length t) ⊎ (built_in_count + length t ≤ k) → Kind k
      by_case (inl h) g = built h
      by_case (inr h) (inl g) = of_node (k - built_in_count) (omega (arith, h, g)) (omega (arith, h))
      by_case (inr h) (inr g) = absent (let e = long in omega (arith, e, g))

  at_kind : (Q : Object → Type 0) (k : ℕ) → (k < built_in_count → Q (built_in_at k)) → ((j : ℕ) → j < length t → k ≡ built_in_count + j → Q (node_object j))
      → (length (pristine t).heap.objects ≤ k → Q no_object) → Q (object_at (pristine t).heap.objects k)
  at_kind Q k f g h = by_case (kind k)
    where
      by_case : Kind k → Q (object_at (pristine t).heap.objects k)
      by_case (built b) = subst Q (sym (old k b)) (f b)
      by_case (of_node j there e) = subst Q (sym (ap (object_at (pristine t).heap.objects) e ∙ new j there)) (g j there e)
      by_case (absent a) = subst Q (sym (object_absent (pristine t).heap.objects k a)) (h a)

  enough : built_in_count < length (pristine t).heap.objects
  enough = let a = long in let b = some_node t sound in omega (arith, a, b)

  node_shape : (j : ℕ) → HasShape (pristine t) (node_object j) (node_object j).class
  node_shape j = (refl, refl)

  node_links : (n j : ℕ) → built_in_count ≤ n → all_below n (object_links (node_object j)) ≡ true
  node_links n j h = one_below n node_prototype_place (let a = node_place in omega (arith, a, h))

  thing_shape : (k : ℕ) → is_thing (pristine t) k ≡ true → HasShape (pristine t) (object_at (pristine t).heap.objects k) (object_at (pristine t).heap.objects k).class
  thing_shape k thing =
      let is = thing_is (pristine t) k thing in
      let young = is.young in
      let there = is.there in
      at_kind (λ o. HasShape (pristine t) o o.class) k (λ b. absurd (omega (arith, b, young))) (λ j h e. node_shape j) (λ a. absurd (omega (arith, a, there)))

  begin_hosted : IsHosted (pristine t)
  begin_hosted = record {
    sound = new_hosts_are_sound t (places_from built_in_count t) sound (places_long built_in_count t);
    object_of = λ k h. ap (λ at. class_at (pristine t) at) (place_at built_in_count t k h) ∙ ap (λ (o : Object). o.class) (new k h);
    node_of = λ j k. at_kind (λ o. o.class ≡ class.Node (record { 0 = k }) → (k < length t) × (object_of_node (places_from built_in_count t) (record { 0 = k }) ≡ record { 0 = j })) j
        (λ b e. absurd (no_node (built_in_at j).class (record { 0 = k }) (built_in_made j) e))
        (λ i h place e. let same = same_node i k e in let there : k < length t = subst (λ n. n < length t) same h in
        (there, place_at built_in_count t k there ∙ ap at_place (ap (λ n. built_in_count + n) (sym same) ∙ sym place)))
        (λ a e. absurd (cc e));
    document = place_at built_in_count t 0 (some_node t sound) ∙ ap at_place (let e : built_in_count + 0 ≡ built_in_count = omega arith in e);
    heard = All-nil _;
    calls = λ u i. absurd i;
  }

  begin_shaped : IsShaped (pristine t)
  begin_shaped = record {
    built_ins = λ k young small. old k small;
    window = record { others = []; props = refl; own = refl; class = refl; proto = refl; extensible = refl; closed = refl };
    all_there = enough;
    there = λ k. at_kind (λ o. all_below (length (pristine t).heap.objects) (object_links o) ≡ true) k
        (λ b. all_more (suc built_in_count) (length (pristine t).heap.objects) (object_links (built_in_at k)) (let e = enough in omega (arith, e)) (within_at (suc built_in_count) built_ins k all_within))
        (λ j h e. node_links (length (pristine t).heap.objects) j (let e = enough in omega (arith, e))) (λ a. refl);
    bound_there = λ e. refl;
    older = λ k thing. at_kind (λ o. all_below k (made_links o) ≡ true) k
        (λ b. let young = (thing_is (pristine t) k thing).young in absurd (omega (arith, b, young)))
        (λ j h e. one_below k node_prototype_place (let a = node_place in omega (arith, a, e))) (λ a. refl);
    made = thing_shape;
    not_closed = λ k thing. at_kind (λ (o : Object). o.closed ≡ false) k
        (λ b. let young = (thing_is (pristine t) k thing).young in absurd (omega (arith, b, young))) (λ j h e. refl)
        (λ a. let there = (thing_is (pristine t) k thing).there in absurd (omega (arith, a, there)));
    document = at_kind (λ o. HasShape (pristine t) o o.class) built_in_count (λ b. absurd (omega (arith, b))) (λ j h e. node_shape j)
        (λ a. let e = enough in absurd (omega (arith, a, e)));
    document_open = at_kind (λ (o : Object). o.closed ≡ false) built_in_count (λ b. absurd (omega (arith, b))) (λ j h e. refl)
        (λ a. let e = enough in absurd (omega (arith, a, e)));
    host = begin_hosted;
  }

pub pristine_shaped : PagesBeginShaped
pristine_shaped = begin_shaped
