-- A thing that is as its maker left it stays so while others are made.
use Rattle.std.proofs.Common.{◌≡◌, sym, ap, subst, ◌∙◌, ℕ, ◌+◌, ◌<◌, ◌≤◌, true, List, [], ◌∷◌, ◌++◌, Option, Some, length, nat_lt, arith}
use Rattle.std.proofs.lemmas.List.Folds.{list_all-append}
use Rattle.std.proofs.lemmas.Bool.{and_parts}
use Rattle.code_table.specs.Declarations.{name_of}
use Rattle.heap_walker.specs.Things.{IsWalk, needs_of}
use Rattle.js_values.specs.declared.ids.EnvId.{EnvId}
use Rattle.js_values.specs.declared.ids.ObjId.{ObjId}
use Rattle.js_values.specs.declared.value.Value.{Value}
use Rattle.object_heap.specs.Environment.{Bound, Environment, environment_at}
use Rattle.object_heap.specs.Object.{Object}
use Rattle.object_heap.specs.declared.object.Class.{Class}
use Rattle.object_heap.specs.declared.object.Class.TheVariants as class
use Rattle.page_meaning.specs.Store.{Store}
use Rattle.rebuild_plan.specs.Compact.{maker_as, moved, moved_needs, moved_proto, moved_value, moved_values}
use Rattle.rebuild_plan.specs.Stands.{maker_names}
use Rattle.rebuild_plan.specs.declared.statement.Maker.TheVariants.{Bind}
use Rattle.rebuilding.specs.Rebuilt.{ClassIsRebuilt, bound, fault, list, page, plain, event, node}
use Rattle.rebuilding.specs.Scene.{IsBinding, IsRoundOf, Scene, bare, named, needed, none_needed}
use Rattle.rebuilding.specs.Sites.{site, sited, sited_proto, sited_value, sited_values}
use Rattle.rebuilding.proofs.Placed.{array_low, error_low, event_low, function_low, node_low, needs_stay, proto_built_in, proto_stays, site_stays, value_stays, values_stay}
use Rattle.rebuilding.proofs.Stages.{IsFresh}
use Rattle.page_meaning.specs.Places.{built_in_count}
use Rattle.object_shapes.specs.Links.{value_links, values_links, all_below}
use Rattle.object_shapes.specs.Shapes.{HasShape}
use Rattle.rebuild_plan.specs.Moved.{first_thing}

-- ---- prototypes

-- the prototype of a thing is built in, where it is not that of an ordinary object
module _ (s : Store) (things sites : List ℕ) (walk : IsWalk s things) where
  pub proto_is : (proto : Option ObjId) (at : ObjId) → proto ≡ Some at → at.0 < built_in_count
      → sited_proto sites (moved_proto things proto) ≡ Some at
  proto_is proto at is low = ap (λ p. sited_proto sites (moved_proto things p)) is ∙ proto_built_in s things sites at.0 walk low

-- so it is the same among more things
proto_same : (s : Store) (things sites : List ℕ) (place : ℕ) (o : Object) (a : Class) → IsWalk s things → HasShape s o a
    → all_below (first_thing + length sites) (maker_names (maker_as s things o.proto a)) ≡ true
    → sited_proto (sites ++ place ∷ []) (moved_proto things o.proto) ≡ sited_proto sites (moved_proto things o.proto)
proto_same s things sites place o class.Plain walk made stands = proto_stays sites place (moved_proto things o.proto) stands
proto_same s things sites place o class.List walk made stands =
    proto_is s things (sites ++ place ∷ []) walk o.proto _ made.0 array_low ∙ sym (proto_is s things sites walk o.proto _ made.0 array_low)
proto_same s things sites place o class.Fault walk made stands =
    proto_is s things (sites ++ place ∷ []) walk o.proto _ made.is (error_low made.kind)
    ∙ sym (proto_is s things sites walk o.proto _ made.is (error_low made.kind))
proto_same s things sites place o (class.Page body env) walk made stands =
    proto_is s things (sites ++ place ∷ []) walk o.proto _ made.0 function_low ∙ sym (proto_is s things sites walk o.proto _ made.0 function_low)
proto_same s things sites place o (class.Bound target this args) walk made stands =
    proto_is s things (sites ++ place ∷ []) walk o.proto _ made.0 function_low ∙ sym (proto_is s things sites walk o.proto _ made.0 function_low)
proto_same s things sites place o (class.Native which) walk made stands = absurd made
proto_same s things sites place o class.Math walk made stands = absurd made
proto_same s things sites place o class.Window walk made stands = absurd made
proto_same s things sites place o (class.Node m) walk made stands =
    proto_is s things (sites ++ place ∷ []) walk o.proto _ made.0 node_low ∙ sym (proto_is s things sites walk o.proto _ made.0 node_low)
proto_same s things sites place o (class.Event parts) walk made stands =
    proto_is s things (sites ++ place ∷ []) walk o.proto _ made.0 event_low ∙ sym (proto_is s things sites walk o.proto _ made.0 event_low)

-- ---- classes

-- the class of a bound function is the same among more things
pub bound_same : (things sites : List ℕ) (place : ℕ) (target : ObjId) (this : Value) (args : List Value)
    → all_below (first_thing + length sites) (maker_names (Bind (moved things target) (moved_value things this) (moved_values things args))) ≡ true
    → let after = sites ++ place ∷ [] in
    class.Bound (sited after (moved things target)) (sited_value after (moved_value things this)) (sited_values after (moved_values things args))
    ≡ class.Bound (sited sites (moved things target)) (sited_value sites (moved_value things this)) (sited_values sites (moved_values things args))
bound_same things sites place target this args stands =
    let split =
    sym (list_all-append (λ k. nat_lt k (first_thing + length sites)) (value_links (moved_value things this))
    (values_links (moved_values things args))) ∙ (and_parts _ _ stands).1
    in
    let at : site (sites ++ place ∷ []) (moved things target).0 ≡ site sites (moved things target).0 =
    site_stays sites place (moved things target).0 (and_parts _ _ stands).0
    in
    let own : sited_value (sites ++ place ∷ []) (moved_value things this) ≡ sited_value sites (moved_value things this) =
    value_stays sites place (moved_value things this) (and_parts _ _ split).0
    in
    let given : sited_values (sites ++ place ∷ []) (moved_values things args) ≡ sited_values sites (moved_values things args) =
    values_stay sites place (moved_values things args) (and_parts _ _ split).1
    in
    (λ i. class.Bound (record { 0 = at i }) (own i) (given i))

-- the environments es stay in fs
module _ (c : Scene) (es fs : List Environment) (more : length es ≤ length fs)
    (same : (e : ℕ) → e < length es → environment_at fs e ≡ environment_at es e) where
  pub binding_stays : {needs : Bound} {b : ℕ} → IsBinding c es needs b → IsBinding c fs needs b
  binding_stays none_needed = none_needed
  binding_stays (needed e there is) = needed e (omega (arith, there, more)) (same e there ∙ is)

  pub round_stays : {k : ℕ} {needs : Bound} {x : Option (List ℕ)} {round : Option EnvId} → IsRoundOf c es k needs x round
      → IsRoundOf c fs k needs x round
  round_stays (bare b) = bare (binding_stays b)
  round_stays (named e b there is) = named e (binding_stays b) (omega (arith, there, more)) (same e there ∙ is)

  class_stays : (s : Store) (things sites : List ℕ) (place k : ℕ) (proto : Option ObjId) {a d : Class} → ClassIsRebuilt c es s things sites k a d
      → all_below (first_thing + length sites) (maker_names (maker_as s things proto a)) ≡ true
      → ClassIsRebuilt c fs s things (sites ++ place ∷ []) k a d
  class_stays s things sites place k proto plain stands = plain
  class_stays s things sites place k proto list stands = list
  class_stays s things sites place k proto fault stands = fault
  class_stays s things sites place k proto node stands = node
  class_stays s things sites place k proto event stands = event
  class_stays s things sites place k proto (page {code = source} {env = env} {round = round} r) stands =
      page {env = env} (subst (λ ns. IsRoundOf c fs k ns (name_of source) round)
      (sym (needs_stay sites place (moved_needs things (needs_of s env source)) stands)) (round_stays r))
  class_stays s things sites place k proto (bound {target = target} {this = this} {args = args}) stands =
      subst (λ d. ClassIsRebuilt c fs s things (sites ++ place ∷ []) k (class.Bound target this args) d)
      (bound_same things sites place target this args stands) bound

  -- what it refers to from its maker on stands, so it keeps its site
  pub fresh_stays : (s : Store) (things sites : List ℕ) (place k : ℕ) (thing o : Object) → IsWalk s things → HasShape s thing thing.class
      → all_below (first_thing + length sites) (maker_names (maker_as s things thing.proto thing.class)) ≡ true
      → IsFresh c es s things sites k thing o → IsFresh c fs s things (sites ++ place ∷ []) k thing o
  fresh_stays s things sites place k thing o walk made stands fresh = record {
    class = class_stays s things sites place k thing.proto fresh.class stands;
    proto = fresh.proto ∙ sym (proto_same s things sites place thing thing.class walk made stands);
    extensible = fresh.extensible;
    closed = fresh.closed;
    props = fresh.props;
  }
