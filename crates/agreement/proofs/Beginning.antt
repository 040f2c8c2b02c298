-- A page before its scripts agrees with itself: each built-in object names itself, and refers only to built-in ones (section 15).
use Rattle.std.proofs.Common.{◌≡◌, ap, ◌∙◌, refl, sym, subst, ℕ, zero, suc, ◌+◌, ◌-◌, ◌<◌, ◌≤◌, Bool, true, false, ◌&&◌, nat_eq, nat_le, nat_lt, List, [], ◌∷◌, ◌++◌, Option, Some, None, length, length-append, arith}
use Rattle.agreement.specs.Opened.{Demand, HasTrees, function_stands, opened_code, opening}
use Rattle.std.proofs.lemmas.Bool.{and_parts, both_ways, leb-true, ltb-true, or_right}
use Rattle.std.proofs.lemmas.Bool.Decides.{nat_tests}
use Rattle.std.proofs.lemmas.List.Elements.{All-nil}
use Rattle.dom_tree.proofs.Callers.{child_in, has_first, has_head, parent_in}
use Rattle.dom_tree.specs.Node.{Nodes, children_at, has, node_at, parent_at}
use Rattle.dom_tree.specs.Sound as nodes
use Rattle.js_core.specs.Tree as tree
use Rattle.js_values.specs.declared.ids.NodeId.{NodeId}
use Rattle.js_values.specs.declared.ids.ObjId.{ObjId}
use Rattle.js_values.specs.declared.value.Value.{Value}
use Rattle.js_values.specs.declared.value.Value.TheVariants as value
use Rattle.object_heap.specs.Chain.{object_at}
use Rattle.object_heap.specs.Heap.{IsSound, new_object}
use Rattle.object_heap.specs.Object.{Object}
use Rattle.object_heap.specs.Property.{Props}
use Rattle.object_heap.specs.declared.object.Class.{Class}
use Rattle.object_heap.specs.declared.object.Class.TheVariants as class
use Rattle.object_heap.specs.declared.property.Prop.{Prop}
use Rattle.page_meaning.specs.Places.{array_prototype_place, boolean_prototype_place, console_place, error_prototype_place, function_place, event_prototype_place, math_place, node_prototype, node_prototype_place, number_prototype_place, range_error_prototype_place, reference_error_prototype_place, string_prototype_place, type_error_prototype_place}
use Rattle.page_host.specs.Host.{new_host, object_of_node}
use Rattle.page_meaning.specs.Pristine.{built_ins, node_objects, places_from, pristine}
use Rattle.heap_relations.specs.Naming.{here, In, Named, named, Pair, pair, SlotsRel, there, World, Frame}
use Rattle.heap_relations.specs.Related.{array, ClassRel, Each, each, Entries, entry, fault, math, Maybe, native, no_entries, no_more, node, none, null, num, object, ObjectIds, ObjectRel, ObjectsRel, plain, PropRel, some, text, truth, undefined, ValueRel, window}
use Rattle.host_relations.specs.Hosts.{HostRel, IsOrderly}
use Rattle.host_relations.specs.Linked.{Linked}
use Rattle.host_relations.specs.Nodes.{NodeIds, NodeRel, NodesRel}
use Rattle.object_shapes.proofs.Callers.{pristine_shaped}
use Rattle.page_meaning.specs.Places.{built_in_count}
use Rattle.agreement.specs.Acts.{HasBuiltIns, StoreRel, clocks_of}
use Rattle.agreement.specs.Trees.{code_fits, HasEqualTrees}
use Rattle.agreement.proofs.Constants.{is_page, placed_other}
use Rattle.agreement.proofs.Unopened.{code_same}

-- ---- the naming

-- each place below this one names itself
abbrev same_below : ℕ → List Pair
same_below zero = []
same_below (suc n) = pair n n ∷ same_below n

-- with these nodes, where functions have such code on the right, and may stand so
abbrev pub pristine_of : Nodes → Bool → (ℕ → List Frame → tree.Code → tree.Code) → (ℕ → List Frame → tree.Code → Bool) → World
pristine_of t opens opened fits = record {
  opens = opens;
  opened = opened;
  fits = fits;
  before = record { one = []; two = []; one_clock = 0; two_clock = 0 };
  objects = same_below (built_in_count + length t);
  nodes = same_below (length t);
  slots = [];
  done = [];
  bases = [];
}

-- with equal trees
abbrev pub pristine_world : Nodes → World
pristine_world t = pristine_of t false (λ n fs c. c) (λ n. code_fits)

abbrev pub pristine_trees : (t : Nodes) → HasEqualTrees (pristine_world t)
pristine_trees t = record { opens = refl; opened = λ n fs c. refl; fits = λ n fs c. refl }

-- with opened trees
abbrev pub opened_world : Nodes → World
opened_world t = pristine_of t true (opened_code true) (function_stands opening)

abbrev pub opened_trees : (t : Nodes) → HasTrees (opened_world t)
opened_trees t = record { demand = opening; opens = refl; opened = λ n fs c. refl; fits = λ n fs c. refl; bases = λ e. refl; opening = λ e. refl }

-- with equal trees, of which more may be asked
abbrev pub asking_world : Nodes → Demand → World
asking_world t d = pristine_of t false (λ n fs c. c) (function_stands d)

abbrev pub asking_trees : (t : Nodes) (d : Demand) → d.opens ≡ false → HasTrees (asking_world t d)
asking_trees t d closed = record {
  demand = d;
  opens = sym closed;
  opened = λ n fs c. code_same n fs c ∙ ap (λ o. opened_code o n fs c) (sym closed);
  fits = λ n fs c. refl;
  bases = λ e. absurd (both_ways _ closed e);
  opening = λ e. absurd (both_ways _ closed e);
}

-- what is named below a place
record IsSame (n a b : ℕ) : Type 0 where
  same : a ≡ b
  below : a < n

is_same : (n a b : ℕ) → In (pair a b) (same_below n) → IsSame n a b
is_same zero a b i = elim i [ ]
is_same (suc n) a b here = record { same = refl; below = omega arith }
is_same (suc n) a b (there i) = let h = is_same n a b i in record { same = h.same; below = omega (arith, h.below) }

below_named : (n k : ℕ) → k < n → In (pair k k) (same_below n)
below_named zero k h = absurd (omega arith)
below_named (suc n) k h = by_case (nat_eq k n) refl (λ below. below_named n k below)
  where
    by_case : (b : Bool) → nat_eq k n ≡ b → (k < n → In (pair k k) (same_below n)) → In (pair k k) (pair n n ∷ same_below n)
    by_case true e up = let same : n ≡ k = grind (arith, nat_tests) in subst (λ m. In (pair k k) (pair m m ∷ same_below n)) (sym same) here
    by_case false e up = there (up (grind (arith, nat_tests)))

-- ---- what an object refers to

abbrev is_kept : Value → Bool
is_kept (value.Object o) = nat_le o.0 built_in_count
is_kept v = true

abbrev is_kept_id : Option ObjId → Bool
is_kept_id None = true
is_kept_id (Some o) = nat_le o.0 built_in_count

-- of built-in objects there are no others
abbrev is_kept_class : Class → Bool
is_kept_class class.Plain = true
is_kept_class class.List = true
is_kept_class (class.Native which) = true
is_kept_class class.Fault = true
is_kept_class class.Math = true
is_kept_class class.Window = true
is_kept_class c = false

abbrev are_kept_props : Props → Bool
are_kept_props [] = true
are_kept_props ((x, p) ∷ ps) = is_kept p.value && are_kept_props ps

-- built-in places alone
abbrev is_kept_object : Object → Bool
is_kept_object o = is_kept_class o.class && (is_kept_id o.proto && are_kept_props o.props)

abbrev are_kept : List Object → Bool
are_kept [] = true
are_kept (o ∷ os) = is_kept_object o && are_kept os

kept_at : (os : List Object) (k : ℕ) → are_kept os ≡ true → is_kept_object (object_at os k) ≡ true
kept_at [] k h = refl
kept_at (o ∷ os) zero h = (and_parts (is_kept_object o) (are_kept os) h).0
kept_at (o ∷ os) (suc k) h = kept_at os k (and_parts (is_kept_object o) (are_kept os) h).1

-- ---- such an object is related to itself

module _ {W : World} (built_ins : HasBuiltIns W) where
  value_itself : (v : Value) → is_kept v ≡ true → ValueRel (named W) v v
  value_itself value.Undefined h = undefined
  value_itself value.Null h = null
  value_itself (value.Bool b) h = truth
  value_itself (value.Num n) h = num
  value_itself (value.Text x) h = text
  value_itself (value.Object o) h = object (built_ins o.0 (leb-true o.0 built_in_count h))

  id_itself : (o : Option ObjId) → is_kept_id o ≡ true → Maybe (ObjectIds (named W)) o o
  id_itself None h = none
  id_itself (Some o) h = some (record { linked = built_ins o.0 (leb-true o.0 built_in_count h) })

  class_itself : (c : Class) → is_kept_class c ≡ true → ClassRel (named W) c c
  class_itself class.Plain h = plain
  class_itself class.List h = array
  class_itself (class.Native which) h = native
  class_itself class.Fault h = fault
  class_itself class.Math h = math
  class_itself class.Window h = window
  class_itself c h = absurd (cc h)

  prop_itself : (p : Prop) → is_kept p.value ≡ true → PropRel (named W) p p
  prop_itself p h = record { value = value_itself p.value h; writable = refl; enumerable = refl; configurable = refl }

  props_itself : (ps : Props) → are_kept_props ps ≡ true → Entries (PropRel (named W)) ps ps
  props_itself [] h = no_entries
  props_itself ((x, p) ∷ ps) h = let both = and_parts (is_kept p.value) (are_kept_props ps) h in entry (prop_itself p both.0) (props_itself ps both.1)

  object_itself : (o : Object) → is_kept_object o ≡ true → ObjectRel (named W) o o
  object_itself o h =
      let one = and_parts (is_kept_class o.class) (is_kept_id o.proto && are_kept_props o.props) h in
      let two = and_parts (is_kept_id o.proto) (are_kept_props o.props) one.1 in
      record { class = class_itself o.class one.0; proto = id_itself o.proto two.0; extensible = refl; closed = refl; props = props_itself o.props two.1 }

-- ---- what is built in

all_kept : are_kept built_ins ≡ true
unfolding built_in_count array_prototype_place string_prototype_place number_prototype_place boolean_prototype_place math_place console_place error_prototype_place type_error_prototype_place range_error_prototype_place reference_error_prototype_place node_prototype_place event_prototype_place function_place
all_kept = refl

all_there : length built_ins ≡ built_in_count
unfolding built_in_count
all_there = refl

-- each built-in object, where what is built in is named by itself
pub built_in_itself : {W : World} → HasBuiltIns W → (k : ℕ) → ObjectRel (named W) (object_at built_ins k) (object_at built_ins k)
built_in_itself built_ins_named k = object_itself built_ins_named (object_at built_ins k) (kept_at built_ins k all_kept)

-- none is a function of the page
other_class : (c : Class) → is_kept_class c ≡ true → is_page c ≡ false
other_class (class.Page c env) e = absurd (cc e)
other_class c e = refl

kept_class : (k : ℕ) → is_kept_class (object_at built_ins k).class ≡ true
kept_class k = (and_parts (is_kept_class (object_at built_ins k).class) _ (kept_at built_ins k all_kept)).0

node_place : node_prototype.0 ≤ built_in_count
unfolding built_in_count node_prototype_place
node_place = omega arith

-- ---- the objects of the page

object_left : (os ps : List Object) (k : ℕ) → k < length os → object_at (os ++ ps) k ≡ object_at os k
object_left [] ps k h = absurd (omega (arith, h))
object_left (o ∷ os) ps zero h = refl
object_left (o ∷ os) ps (suc k) h = object_left os ps k (omega (arith, h))

object_right : (os ps : List Object) (k j : ℕ) → length os + k ≡ j → object_at (os ++ ps) j ≡ object_at ps k
object_right [] ps k j e = ap (object_at ps) (omega (arith, e))
object_right (o ∷ os) ps k zero e = absurd (omega (arith, e))
object_right (o ∷ os) ps k (suc j) e = object_right os ps k j (omega (arith, e))

abbrev node_of : ℕ → Object
node_of k = new_object (class.Node (record { 0 = k })) (Some node_prototype)

node_object_at : (i k j : ℕ) (t : Nodes) → i + k ≡ j → k < length t → object_at (node_objects i t) k ≡ node_of j
node_object_at i k j [] e h = absurd (omega (arith, h))
node_object_at i zero j (n ∷ ns) e h = ap node_of (omega (arith, e))
node_object_at i (suc k) j (n ∷ ns) e h = node_object_at (suc i) k j ns (omega (arith, e)) (omega (arith, h))

node_objects_length : (i : ℕ) (t : Nodes) → length (node_objects i t) ≡ length t
node_objects_length i [] = refl
node_objects_length i (n ∷ ns) = ap suc (node_objects_length (suc i) ns)

places_length : (i : ℕ) (t : Nodes) → length (places_from i t) ≡ length t
places_length i [] = refl
places_length i (n ∷ ns) = ap suc (places_length (suc i) ns)

place_of : (i k : ℕ) (t : Nodes) → k < length t → (object_of_node (places_from i t) (record { 0 = k })).0 ≡ i + k
place_of i k [] h = absurd (omega (arith, h))
place_of i zero (n ∷ ns) h = omega arith
place_of i (suc k) (n ∷ ns) h = let e = place_of (suc i) k ns (omega (arith, h)) in omega (arith, e)

-- a built-in object, or that of a node
data Stands (t : Nodes) (o : Object) : Type 0 where
  built_in : (k : ℕ) → o ≡ object_at built_ins k → Stands t o
  of_node : (k : ℕ) → k < length t → o ≡ node_of k → Stands t o

module _ (t : Nodes) where
  abbrev all_objects : List Object
  all_objects = built_ins ++ node_objects 0 t

  all_long : length all_objects ≡ built_in_count + length t
  all_long = length-append built_ins (node_objects 0 t) ∙ ap (λ n. n + length (node_objects 0 t)) all_there ∙ ap (λ n. built_in_count + n) (node_objects_length 0 t)

  stands : (a : ℕ) → a < built_in_count + length t → Stands t (object_at all_objects a)
  stands a h = by (nat_lt a built_in_count) refl
    where
      by : (b : Bool) → nat_lt a built_in_count ≡ b → Stands t (object_at all_objects a)
      by true e =
          let small = ltb-true a built_in_count e in
          built_in a (object_left built_ins (node_objects 0 t) a (omega (arith, small, all_there)))
      by false e =
          let large : built_in_count ≤ a = grind (arith, nat_tests) in
          let k = a - built_in_count in
          let is : length built_ins + k ≡ a = omega (arith, large, all_there) in
          let small : k < length t = omega (arith, large, h) in
          of_node k small (object_right built_ins (node_objects 0 t) k a is ∙ node_object_at 0 k k t (omega arith) small)

  other : (a : ℕ) → a < built_in_count + length t → is_page (object_at all_objects a).class ≡ false
  other a h = by (stands a h)
    where
      by : {o : Object} → Stands t o → is_page o.class ≡ false
      by (built_in k e) = ap (λ (o : Object). is_page o.class) e ∙ other_class (object_at built_ins k).class (kept_class k)
      by (of_node k small e) = ap (λ (o : Object). is_page o.class) e

-- ---- the page

no_one : {A : Type 0} {x : A} → In x [] → ⊥
no_one i = elim i [ ]

module _ (t : Nodes) (good : nodes.IsSound t) (opens : Bool) (opened : ℕ → List Frame → tree.Code → tree.Code) (fits : ℕ → List Frame → tree.Code → Bool) where
  abbrev begun : World
  begun = pristine_of t opens opened fits

  linked : (k : ℕ) → k < length t → Linked begun k k
  linked k h = record { named = below_named (length t) k h }

  pub pristine_named : HasBuiltIns begun
  pristine_named k h = let one = has_first t good in record { named = below_named (built_in_count + length t) k (omega (arith, h, one)) }

  itself : {o : Object} → Stands t o → ObjectRel (named begun) o o
  itself (built_in k e) = subst (λ o. ObjectRel (named begun) o o) (sym e) (built_in_itself pristine_named k)
  itself (of_node k small e) = subst (λ o. ObjectRel (named begun) o o) (sym e) (record {
    class = node (linked k small);
    proto = some (record { linked = pristine_named node_prototype.0 node_place });
    extensible = refl;
    closed = refl;
    props = no_entries;
  })

  both_at : (a b : ℕ) → IsSame (built_in_count + length t) a b → ObjectRel (named begun) (object_at (all_objects t) a) (object_at (all_objects t) b)
  both_at a b h = subst (λ c. ObjectRel (named begun) (object_at (all_objects t) a) (object_at (all_objects t) c)) h.same (itself (stands t a h.below))

  same_objects : (a b : ℕ) → Named begun a b → IsSame (built_in_count + length t) a b
  same_objects a b i = is_same (built_in_count + length t) a b i.named

  pristine_objects : ObjectsRel (named begun) (all_objects t) (all_objects t)
  pristine_objects = record {
    at = λ a b i. both_at a b (same_objects a b i);
    inside = λ a b i.
        let h = same_objects a b i in
        (omega (arith, h.below, all_long t), omega (arith, h.below, h.same, all_long t));
    one_to_one = record { same = λ a b c d i j. rw ((same_objects a b i).same, (same_objects c d j).same) refl };
  }

  no_slots : SlotsRel begun [] [] (all_objects t)
  no_slots = record {
    at = λ s i. absurd (no_one i);
    inside = λ s i. absurd (no_one i);
    scope_inside = λ s i e. absurd (no_one i);
    one_to_one = λ s t i j. absurd (no_one i);
    one_slot = λ s t i j e. absurd (no_one i);
    one_scope = λ s t i j e f d. absurd (no_one i);
    apart = λ s i e p j. absurd (no_one i);
    bases = λ b i. absurd (no_one i);
  }

  -- ---- its nodes

  parent_itself : (k : ℕ) (o : Option NodeId) → parent_at t k ≡ o → Maybe (NodeIds (Linked begun)) o o
  parent_itself k None e = none
  parent_itself k (Some p) e = some (record { linked = linked p.0 (parent_in t good.trees k p e) })

  children_itself : (cs : List NodeId) → ((c : ℕ) → has c cs ≡ true → c < length t) → Each (NodeIds (Linked begun)) cs cs
  children_itself [] h = no_more
  children_itself (c ∷ cs) h = each (record { linked = linked c.0 (h c.0 (has_head c cs)) }) (children_itself cs (λ d i. h d (or_right (nat_eq d c.0) (has d cs) i)))

  node_itself : (k : ℕ) → NodeRel (Linked begun) (node_at t k) (node_at t k)
  node_itself k = record { content = refl; parent = parent_itself k (parent_at t k) refl; children = children_itself (children_at t k) (λ c i. child_in t good.trees k c i) }

  same_nodes : (a b : ℕ) → Linked begun a b → IsSame (length t) a b
  same_nodes a b i = is_same (length t) a b i.named

  pristine_nodes : NodesRel (Linked begun) t t
  pristine_nodes = record {
    at = λ a b i. subst (λ c. NodeRel (Linked begun) (node_at t a) (node_at t c)) (same_nodes a b i).same (node_itself a);
    inside = λ a b i. let h = same_nodes a b i in (h.below, subst (λ c. c < length t) h.same h.below);
    same = λ a b c d i j. rw ((same_nodes a b i).same, (same_nodes c d j).same) refl;
    document = linked 0 (has_first t good);
  }

  orderly : IsOrderly t (places_from built_in_count t) []
  orderly = record { trees = good.trees; objects = places_length built_in_count t; listeners = All-nil (λ l. l.node.0 < length t) }

  object_named : (a b : NodeId) → Linked begun a.0 b.0 → Named begun (object_of_node (places_from built_in_count t) a).0 (object_of_node (places_from built_in_count t) b).0
  object_named a b i =
      let h = same_nodes a.0 b.0 i in
      let k = (object_of_node (places_from built_in_count t) a).0 in
      let one : k ≡ built_in_count + a.0 = place_of built_in_count a.0 t h.below in
      let two : k ≡ (object_of_node (places_from built_in_count t) b).0 = ap (λ j. (object_of_node (places_from built_in_count t) (record { 0 = j })).0) h.same in
      subst (Named begun k) two (record { named = below_named (built_in_count + length t) k (omega (arith, one, h.below)) })

  pristine_host : HostRel (clocks_of begun) begun (new_host t (places_from built_in_count t)) (new_host t (places_from built_in_count t))
  pristine_host = record {
    nodes = pristine_nodes;
    left = orderly;
    right = orderly;
    objects = object_named;
    listeners = λ a b i. no_more;
    timers = no_more;
    clock = record { apart = refl };
  }

  pub pristine_stores : IsSound (pristine t).heap → StoreRel begun (pristine t) (pristine t)
  pristine_stores sound = record {
    heap = record { objects = pristine_objects; slots = no_slots; left = sound; right = sound };
    lines = record { more = []; one = refl; two = refl };
    host = pristine_host;
    built_ins = pristine_named;
    shaped = pristine_shaped t good;
    kept = record {
      scopes = λ z i. absurd (no_one i);
      functions = λ k l n. placed_other begun k (object_at (all_objects t) k).class (other t k (same_objects k l n).below);
      done = λ j i. absurd (no_one i);
    };
  }
