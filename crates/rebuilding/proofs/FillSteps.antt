-- The statements for each thing succeed when the properties are defined.
use Rattle.std.proofs.Common.{◌≡◌, refl, ap, subst, ◌∙◌, ℕ, ◌+◌, ◌<◌, true, false, nat_eq, List, [], ◌++◌, length, arith, not}
use Rattle.std.proofs.lemmas.Bool.{ne_eqb}
use Rattle.std.proofs.lemmas.List.{append-nil}
use Rattle.code_table.specs.Declarations.{formals_of}
use Rattle.js_values.specs.declared.ids.ObjId.{ObjId}
use Rattle.object_heap.specs.Array.{IsProper}
use Rattle.object_heap.specs.Chain.{object_at}
use Rattle.object_heap.specs.Environment.{Environment}
use Rattle.object_heap.specs.Define.{length_name}
use Rattle.object_heap.specs.Heap.{Contents, IsSound}
use Rattle.object_heap.specs.Object.{Object, is_list, is_window, with_class, with_props}
use Rattle.object_heap.specs.Property.{HasDistinctNames, own_property}
use Rattle.object_heap.specs.declared.object.Class.{Class}
use Rattle.object_heap.specs.declared.object.Class.TheVariants as class
use Rattle.page_meaning.specs.Places.{window}
use Rattle.page_meaning.specs.Store.{Store}
use Rattle.rebuild_plan.specs.Compact.{Thing, moved_props}
use Rattle.rebuild_plan.specs.Plan.{defines, fill, thing_place, has_length, has_prototype, define_length}
use Rattle.rebuild_plan.specs.declared.statement.Rebuild.{Rebuild}
use Rattle.rebuilding.specs.Rebuilt.{ClassIsRebuilt, Succeeds, bound, fault, list, nth, page, plain, event, node}
use Rattle.rebuilding.specs.Scene.{Scene}
use Rattle.rebuilding.specs.Sites.{site}
use Rattle.rebuilding.proofs.Fills.{Later, bound_succeeds, fill_as, list_succeeds, page_succeeds, rest_succeeds, IsFree}
use Rattle.rebuilding.proofs.Going.{Allowed, Going, going_begins}
use Rattle.rebuilding.proofs.PropertyNames.{rebuilt_props}
use Rattle.rebuilding.proofs.Stages.{IsFresh, MadeProps}
use Rattle.rebuilding.proofs.EachThing.{StepSucceeds}
use Rattle.rebuilding.proofs.Placed.{site_thing, some_built_in}
use Rattle.object_shapes.specs.Shapes.{HasShape}
use Rattle.rebuild_plan.specs.Nodes.{node_maker}
use Rattle.rebuild_plan.specs.Moved.{first_thing}
use Rattle.dom_tree.specs.declared.content.Kind.TheVariants as kind
use Rattle.dom_tree.specs.declared.content.Kind.{Kind}
use Rattle.dom_tree.specs.Node.{node_at}
use Rattle.page_meaning.specs.HostNames.{is_kept}
use Rattle.page_host.specs.Host.{Host}
use Rattle.std.specs.List.{list_all}

-- ---- classes

pub class_list : {c : Scene} {es : List Environment} {s : Store} {things sites : List ℕ} {k : ℕ} {C D : Class} → ClassIsRebuilt c es s things sites k C D
    → is_list D ≡ is_list C
class_list plain = refl
class_list list = refl
class_list fault = refl
class_list (page round) = refl
class_list bound = refl
class_list node = refl
class_list event = refl

pub class_window : {c : Scene} {es : List Environment} {s : Store} {things sites : List ℕ} {k : ℕ} {C D : Class} → ClassIsRebuilt c es s things sites k C D
    → is_window D ≡ false
class_window plain = refl
class_window list = refl
class_window fault = refl
class_window (page round) = refl
class_window bound = refl
class_window node = refl
class_window event = refl

-- ---- one thing

module _ (c : Scene) (End : Contents → Host → List ℕ → Type 0) (s : Store) (things sites : List ℕ) (g : Contents) (w : Host) (at : ObjId) (thing o : Object)
    (h : Contents) (rs : List Rebuild)
    (going : Going c g h w sites (site sites at.0) o) (closed : o.closed ≡ false) (extensible : o.extensible ≡ true)
    (ordinary : is_window o.class ≡ false)
    (names : HasDistinctNames thing.props) (off : nat_eq at.0 window.0 ≡ false) (later : Later c End s things sites g w at off o thing.props rs)
    (free : IsFree c End s things sites g w at off o thing.props) where
  pub by_class : (kind : Class) → is_list o.class ≡ is_list kind → MadeProps kind thing.props o.props → HasShape s thing kind
      → IsProper (with_class thing kind)
      → Allowed (length sites) (fill_as s things thing.proto at kind thing.props ++ rs)
      → Succeeds c End h w sites (fill_as s things thing.proto at kind thing.props ++ rs)
  by_class class.Plain same props made array allowed =
      rest_succeeds c End s things sites g w at off [] thing.props thing.props
      (fill_as s things thing.proto at class.Plain thing.props) h o rs going closed extensible same props refl names free
      (append-nil (defines false false at (moved_props things thing.props))) allowed later
  by_class class.Fault same props made array allowed =
      rest_succeeds c End s things sites g w at off [] thing.props thing.props
      (fill_as s things thing.proto at class.Fault thing.props) h o rs going closed extensible same props refl names free
      (append-nil (defines false false at (moved_props things thing.props))) allowed later
  by_class class.List same props made array allowed =
      list_succeeds c End s things sites g w at off thing.proto thing.props h o rs going closed extensible same ordinary props made.1 names
      (array refl) allowed later
  by_class (class.Page body env) same props made array allowed =
      page_succeeds c End s things sites g w at off thing.proto (class.Page body env) (length (formals_of body)) thing.props h o rs going refl refl
      (λ p. refl) closed extensible same ordinary props made.1 names free allowed later
  by_class (class.Bound target this args) same props made array allowed =
      bound_succeeds c End s things sites g w at off thing.proto target this args thing.props h o rs going closed extensible same props names free allowed
      later
  by_class (class.Native which) same props made array allowed = absurd props
  by_class class.Math same props made array allowed = absurd props
  by_class class.Window same props made array allowed = absurd props
  by_class (class.Node n) same props made array allowed =
      rest_succeeds c End s things sites g w at off [] thing.props thing.props
      (fill_as s things thing.proto at (class.Node n) thing.props) h o rs going closed extensible same props refl names free
      (node_fill (node_at s.host.nodes n.0).content.kind) allowed later
    where
      node_fill : (k : Kind) → defines (has_length (node_maker things thing.proto k)) (has_prototype (node_maker things thing.proto k)) at (moved_props things thing.props)
          ++ define_length (node_maker things thing.proto k) at (own_property (moved_props things thing.props) length_name)
          ≡ defines false false at (moved_props things thing.props)
      node_fill kind.Document = append-nil (defines false false at (moved_props things thing.props))
      node_fill (kind.Element x) = append-nil (defines false false at (moved_props things thing.props))
      node_fill (kind.Text x) = append-nil (defines false false at (moved_props things thing.props))
      node_fill (kind.Comment x) = append-nil (defines false false at (moved_props things thing.props))
  by_class (class.Event parts) same props made array allowed =
      rest_succeeds c End s things sites g w at off [] thing.props thing.props
      (fill_as s things thing.proto at (class.Event parts) thing.props) h o rs going closed extensible same props refl names free
      (append-nil (defines false false at (moved_props things thing.props))) allowed later

-- ---- each thing

at_thing : (n : ℕ) → nat_eq (thing_place n).0 window.0 ≡ false
at_thing n = ne_eqb (first_thing + n) 0 (λ same. omega (arith, same, some_built_in))

-- a thing with its properties
abbrev pub filled : Contents → Store → List ℕ → List ℕ → ℕ → Object
filled g s things sites n =
    with_props (object_at g.objects (nth sites n)) (rebuilt_props sites things (object_at s.heap.objects (nth things n)).props)

abbrev pub fill_thing : ℕ → Thing → List Rebuild
fill_thing n t = fill (thing_place n) t

pub fill_step : (c : Scene) (End : Contents → Host → List ℕ → Type 0) (s : Store) (things sites : List ℕ) (g : Contents) (w : Host) → IsSound s.heap
    → ((n : ℕ) → n < length things
    → IsFresh c g.environments s things sites (nth sites n) (object_at s.heap.objects (nth things n)) (object_at g.objects (nth sites n)))
    → ((n : ℕ) → n < length things
    → HasShape s (object_at s.heap.objects (nth things n)) (object_at s.heap.objects (nth things n)).class)
    → ((n : ℕ) → n < length things
    → list_all (λ e. not (is_kept w.nodes (object_at g.objects (nth sites n)).class e.0)) (object_at s.heap.objects (nth things n)).props ≡ true)
    → StepSucceeds c End s things sites w (λ n. object_at g.objects (nth sites n)) (filled g s things sites) fill_thing
fill_step c End s things sites g w sound fresh made free n h rs inside running hosting is allowed later =
    let thing : Object = object_at s.heap.objects (nth things n) in
    let o : Object = object_at g.objects (nth sites n) in
    let young = fresh n inside in
    by_class c End s things sites h w (thing_place n) thing o h rs
    (going_begins c h w sites (site sites (thing_place n).0) o running hosting (ap (object_at h.objects) (site_thing sites n) ∙ is))
    young.closed young.extensible (class_window young.class) (sound.names (nth things n)) (at_thing n)
    (λ i now more. later i (subst (λ k. Going c h i w sites k (filled g s things sites n)) (site_thing sites n) now) more) (free n inside)
    thing.class (class_list young.class) young.props (made n inside) (sound.arrays (nth things n)) allowed
