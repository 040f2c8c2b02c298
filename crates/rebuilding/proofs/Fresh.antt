-- A maker leaves a thing as it says.
use Rattle.std.proofs.Common.{◌≡◌, refl, sym, ap, subst, ◌∙◌, ℕ, suc, ◌+◌, ◌-◌, true, false, nat_lt, List, [], ◌∷◌, ◌++◌, Option, Some, length}
use Rattle.std.proofs.lemmas.Bool.{and_parts, eq-eqb}
use Rattle.std.specs.Prelude.{codes, ⊤}
use Rattle.code_table.specs.Declarations.{name_of}
use Rattle.heap_walker.specs.Things.{IsWalk, class_links, is_in, needs_of}
use Rattle.js_core.specs.Tree.{Code}
use Rattle.js_values.specs.declared.built_in.BuiltIn.TheVariants.{FunctionPrototypeBind}
use Rattle.js_values.specs.declared.ids.EnvId.{EnvId}
use Rattle.js_values.specs.declared.ids.ObjId.{ObjId}
use Rattle.js_values.specs.declared.throw.ErrorKind.{ErrorKind}
use Rattle.js_values.specs.declared.throw.ErrorKind.TheVariants as kind
use Rattle.js_values.specs.declared.value.Value.{Value}
use Rattle.js_values.specs.declared.value.Value.TheVariants.{Object as Reference}
use Rattle.object_heap.specs.Chain.{get, object_at}
use Rattle.object_heap.specs.Define.{length_name, number}
use Rattle.object_heap.specs.Environment.{Environment}
use Rattle.object_heap.specs.Heap.{Contents, new_object}
use Rattle.object_heap.specs.Object.{Object, whole_object}
use Rattle.object_heap.specs.Property.{fixed, own_property}
use Rattle.object_heap.specs.declared.object.Class.{Class}
use Rattle.object_heap.specs.declared.object.Class.TheVariants as class
use Rattle.page_meaning.specs.Elements.{length_of}
use Rattle.page_meaning.specs.Places.{array_prototype, at_place, error_prototype, error_prototype_place, function_at, function_prototype, range_error_prototype_place, reference_error_prototype_place, type_error_prototype_place, document, event_prototype, node_prototype}
use Rattle.page_meaning.specs.Properties.{class_at, is_function}
use Rattle.page_meaning.specs.Store.{Store}
use Rattle.rebuild_plan.specs.Compact.{kind_of, maker_as, moved, moved_needs, moved_proto, moved_values}
use Rattle.rebuild_plan.specs.Stands.{maker_names}
use Rattle.rebuilding.specs.Rebuilt.{ClassIsRebuilt, bound, fault, list, page, plain, event, node}
use Rattle.rebuilding.specs.Running.{CanMake, IsMade, next_node}
use Rattle.rebuilding.specs.Scene.{IsRoundOf, Scene, page_with}
use Rattle.rebuilding.specs.Sites.{site, sited, sited_proto, sited_values}
use Rattle.rebuilding.proofs.Placed.{array_low, error_low, function_low, needs_stay, proto_stays, event_low, node_low}
use Rattle.rebuilding.proofs.Stages.{IsFresh, MadeProps}
use Rattle.rebuilding.proofs.Lasting.{bound_same, proto_is}
use Rattle.object_shapes.specs.Shapes.{HasBoundLength, HasShape}
use Rattle.object_shapes.specs.Links.{all_below}
use Rattle.rebuild_plan.specs.Moved.{first_thing}
use Rattle.dom_tree.specs.Node.{is_document, kind_at}
use Rattle.dom_tree.specs.Sound.{has_folded_name}
use Rattle.dom_tree.specs.declared.content.Kind.{Kind}
use Rattle.dom_tree.specs.declared.content.Kind.TheVariants as content
use Rattle.js_values.specs.declared.ids.NodeId.{NodeId}
use Rattle.object_heap.specs.declared.object.EventParts.{EventParts}
use Rattle.page_host.specs.Host.{Host}
use Rattle.page_meaning.specs.Steps.{event_object}
use Rattle.rebuild_plan.specs.Nodes.{node_maker}
use Rattle.host_relations.proofs.Callers.{folded_is}

-- ---- what is bound

-- what a page had in this place stands, as a function of the same length
pub record IsKept (s : Store) (things : List ℕ) (h : Contents) (g : Host) (sites : List ℕ) (target : ObjId) : Type 0 where
  pub class : is_function (Some (object_at h.objects (site sites (moved things target).0)).class) ≡ true
  pub bind : get h.objects (site sites (moved things target).0) (codes "bind") ≡ Some (Reference (function_at FunctionPrototypeBind))
  pub length : length_of (sited sites (moved things target)) (page_with h g) ≡ length_of target s

-- so do all functions that this class refers to
abbrev pub AreKept : Store → List ℕ → Contents → Host → List ℕ → Class → Type 0
AreKept s things h g sites a =
    (target : ObjId) → is_in target.0 (class_links s a) ≡ true → is_function (Some (class_at s target)) ≡ true → nat_lt (moved things target).0
    (first_thing + length sites) ≡ true
    → IsKept s things h g sites target

target_in : (s : Store) (target : ObjId) (this : Value) (args : List Value) → is_in target.0 (class_links s (class.Bound target this args)) ≡ true
target_in s target this args = rw (eq-eqb target.0 target.0 refl) refl

-- ---- a thing can be made

-- a node is not the document, and its name is folded
abbrev pub IsNamed : Store → Class → Type 0
IsNamed s (class.Node m) = (is_document (kind_at s.host.nodes m.0) ≡ false) × (has_folded_name (kind_at s.host.nodes m.0) ≡ true)
IsNamed s a = ⊤

-- the document has no property of its own
abbrev pub IsEmpty : Contents → Type 0
IsEmpty h = (object_at h.objects document.0).props ≡ []

can_make_node : (h : Contents) (sites things : List ℕ) (proto : Option ObjId) (k : Kind) → IsEmpty h → is_document k ≡ false → has_folded_name k ≡ true
    → CanMake h sites (node_maker things proto k)
can_make_node h sites things proto content.Document empty other named = tt
can_make_node h sites things proto (content.Element x) empty other named = (named, folded_is x named, ap (λ ps. own_property ps (codes "createElement")) empty)
can_make_node h sites things proto (content.Text x) empty other named = ap (λ ps. own_property ps (codes "createTextNode")) empty
can_make_node h sites things proto (content.Comment x) empty other named = ap (λ ps. own_property ps (codes "createComment")) empty

pub can_make : (s : Store) (things : List ℕ) (h : Contents) (g : Host) (sites : List ℕ) (o : Object) (a : Class) → HasShape s o a
    → all_below (first_thing + length sites) (maker_names (maker_as s things o.proto a)) ≡ true → AreKept s things h g sites a → IsEmpty h → IsNamed s a
    → CanMake h sites (maker_as s things o.proto a)
can_make s things h g sites o (class.Page body env) made stands kept empty named = tt
can_make s things h g sites o (class.Bound target this args) made stands kept empty named =
    let target_stands : IsKept s things h g sites target = kept target (target_in s target this args) made.2 (and_parts _ _ stands).0 in
    (target_stands.class, target_stands.bind)
can_make s things h g sites o class.Plain made stands kept empty named = tt
can_make s things h g sites o class.List made stands kept empty named = tt
can_make s things h g sites o class.Fault made stands kept empty named = tt
can_make s things h g sites o (class.Native which) made stands kept empty named = tt
can_make s things h g sites o class.Math made stands kept empty named = tt
can_make s things h g sites o class.Window made stands kept empty named = tt
can_make s things h g sites o (class.Node m) made stands kept empty named =
    can_make_node h sites things o.proto (kind_at s.host.nodes m.0) empty named.0 named.1
can_make s things h g sites o (class.Event parts) made stands kept empty named = ap (λ ps. own_property ps (codes "createEvent")) empty

-- ---- it is as it was first

-- what is known of a thing of this class that was made
record IsBegun (c : Scene) (es : List Environment) (s : Store) (things sites : List ℕ) (k : ℕ) (a : Class) (o made : Object) : Type 0 where
  class : ClassIsRebuilt c es s things sites k a made.class
  proto : made.proto ≡ sited_proto sites (moved_proto things o.proto)
  extensible : made.extensible ≡ true
  closed : made.closed ≡ false
  props : MadeProps a o.props made.props

kind_same : (k : ErrorKind) → error_prototype (kind_of (Some (error_prototype k))) ≡ error_prototype k
unfolding error_prototype_place range_error_prototype_place reference_error_prototype_place type_error_prototype_place
kind_same kind.Plain = refl
kind_same kind.Type = refl
kind_same kind.Range = refl
kind_same kind.Reference = refl

same_count : (things sites : List ℕ) (vs : List Value) → length (sited_values sites (moved_values things vs)) ≡ length vs
same_count things sites [] = refl
same_count things sites (v ∷ vs) = ap suc (same_count things sites vs)

module _ (c : Scene) (s : Store) (things : List ℕ) (h : Contents) (g : Host) (i : Contents) (sites : List ℕ) (place : ℕ) (walk : IsWalk s things) where
  abbrev after : List ℕ
  after = sites ++ place ∷ []

  abbrev Begun : Class → Object → Object → Type 0
  Begun a o made = IsBegun c i.environments s things after place a o made

  begun_plain : (o made : Object) → all_below (first_thing + length sites) (maker_names (maker_as s things o.proto class.Plain)) ≡ true
      → made ≡ new_object class.Plain (sited_proto sites (moved_proto things o.proto)) → Begun class.Plain o made
  begun_plain o made stands is = subst (λ m. Begun class.Plain o m) (sym is) (record {
    class = plain;
    proto = sym (proto_stays sites place (moved_proto things o.proto) stands);
    extensible = refl;
    closed = refl;
    props = refl;
  })

  begun_list : (o made : Object) → o.proto ≡ Some array_prototype → made ≡ new_object class.List (Some array_prototype) → Begun class.List o made
  begun_list o made proto is = subst (λ m. Begun class.List o m) (sym is) (record {
    class = list;
    proto = sym (proto_is s things after walk o.proto array_prototype proto array_low);
    extensible = refl;
    closed = refl;
    props = refl;
  })

  begun_fault : (o made : Object) (of : ErrorKind) → o.proto ≡ Some (error_prototype of)
      → made ≡ whole_object class.Fault (Some (error_prototype (kind_of o.proto))) [] → Begun class.Fault o made
  begun_fault o made of proto is = subst (λ m. Begun class.Fault o m) (sym is) (record {
    class = fault;
    proto = ap Some (ap (λ p. error_prototype (kind_of p)) proto ∙ kind_same of)
        ∙ sym (proto_is s things after walk o.proto (error_prototype of) proto (error_low of));
    extensible = refl;
    closed = refl;
    props = refl;
  })

  begun_page : (o made : Object) (body : Code) (env : Option EnvId) → o.proto ≡ Some function_prototype
      → all_below (first_thing + length sites) (maker_names (maker_as s things o.proto (class.Page body env))) ≡ true
      → IsMade c h g i sites place (maker_as s things o.proto (class.Page body env)) made → Begun (class.Page body env) o made
  begun_page o made body env proto stands is = subst (λ m. Begun (class.Page body env) o m) (sym is.object) (record {
    class = page {env = env} (subst (λ ns. IsRoundOf c i.environments place ns (name_of body) is.round)
        (sym (needs_stay sites place (moved_needs things (needs_of s env body)) stands)) is.is_round);
    proto = sym (proto_is s things after walk o.proto function_prototype proto function_low);
    extensible = refl;
    closed = refl;
    props = record { prototype = Reference (at_place is.prototype); are = refl };
  })

  begun_bound : (o made : Object) (target : ObjId) (this : Value) (args : List Value) → o.proto ≡ Some function_prototype
      → all_below (first_thing + length sites) (maker_names (maker_as s things o.proto (class.Bound target this args))) ≡ true
      → HasBoundLength (length_of target s) (length args) o.props
      → length_of (sited sites (moved things target)) (page_with h g) ≡ length_of target s
      → IsMade c h g i sites place (maker_as s things o.proto (class.Bound target this args)) made → Begun (class.Bound target this args) o made
  begun_bound o made target this args proto stands had same is = subst (λ m. Begun (class.Bound target this args) o m) (sym is) (record {
    class = subst (λ d. ClassIsRebuilt c i.environments s things after place (class.Bound target this args) d)
        (bound_same things sites place target this args stands) bound;
    proto = sym (proto_is s things after walk o.proto function_prototype proto function_low);
    extensible = refl;
    closed = refl;
    props = record {
      count = length_of target s - length args;
      others = had.others;
      had = had.are;
      are = (λ j. (length_name, fixed (number (same j - same_count things sites args j))) ∷ []);
    };
  })

  begun_node : (o made : Object) (m : NodeId) → o.proto ≡ Some node_prototype → made ≡ next_node g → Begun (class.Node m) o made
  begun_node o made m proto is = subst (λ p. Begun (class.Node m) o p) (sym is) (record {
    class = node;
    proto = sym (proto_is s things after walk o.proto node_prototype proto node_low);
    extensible = refl;
    closed = refl;
    props = refl;
  })

  begun_event : (o made : Object) (parts : EventParts) → o.proto ≡ Some event_prototype → made ≡ event_object → Begun (class.Event parts) o made
  begun_event o made parts proto is = subst (λ p. Begun (class.Event parts) o p) (sym is) (record {
    class = event;
    proto = sym (proto_is s things after walk o.proto event_prototype proto event_low);
    extensible = refl;
    closed = refl;
    props = refl;
  })

  node_made : (k : Kind) (proto : Option ObjId) (made : Object) → is_document k ≡ false → IsMade c h g i sites place (node_maker things proto k) made
      → made ≡ next_node g
  node_made content.Document proto made other is = cc other
  node_made (content.Element x) proto made other is = is
  node_made (content.Text x) proto made other is = is
  node_made (content.Comment x) proto made other is = is

  begun : (o made : Object) (a : Class) → IsNamed s a → HasShape s o a
      → all_below (first_thing + length sites) (maker_names (maker_as s things o.proto a)) ≡ true → AreKept s things h g sites a
      → IsMade c h g i sites place (maker_as s things o.proto a) made → Begun a o made
  begun o made class.Plain free was stands kept is = begun_plain o made stands is
  begun o made class.List free was stands kept is = begun_list o made was.0 is
  begun o made class.Fault free was stands kept is = begun_fault o made was.kind was.is is
  begun o made (class.Page body env) free was stands kept is = begun_page o made body env was.0 stands is
  begun o made (class.Bound target this args) free was stands kept is =
      begun_bound o made target this args was.0 stands was.1 (kept target (target_in s target this args) was.2 (and_parts _ _ stands).0).length is
  begun o made (class.Native which) free was stands kept is = absurd was
  begun o made class.Math free was stands kept is = absurd was
  begun o made class.Window free was stands kept is = absurd was
  begun o made (class.Node m) free was stands kept is =
      begun_node o made m was.0 (node_made (kind_at s.host.nodes m.0) o.proto made free.0 is)
  begun o made (class.Event parts) free was stands kept is = begun_event o made parts was.0 is

  -- the thing that was made is as its maker left it
  pub made_fresh : (o made : Object) → IsNamed s o.class → HasShape s o o.class
      → all_below (first_thing + length sites) (maker_names (maker_as s things o.proto o.class)) ≡ true
      → AreKept s things h g sites o.class → IsMade c h g i sites place (maker_as s things o.proto o.class) made
      → IsFresh c i.environments s things after place o made
  made_fresh o made free was stands kept is =
      let b : Begun o.class o made = begun o made o.class free was stands kept is in
      record { class = b.class; proto = b.proto; extensible = b.extensible; closed = b.closed; props = b.props }
