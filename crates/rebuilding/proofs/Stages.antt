-- What stands between the phases of a plan: the things as their makers leave them.
use Rattle.std.specs.Prelude.{◌≡◌, ℕ, ◌<◌, true, false, List, [], ◌∷◌, None, length, ⊤}
use Rattle.code_table.specs.Declarations.{formals_of}
use Rattle.js_values.specs.declared.value.Value.{Value}
use Rattle.object_heap.specs.Chain.{object_at}
use Rattle.object_heap.specs.Define.{length_name, number}
use Rattle.object_heap.specs.Environment.{Environment}
use Rattle.object_heap.specs.Function.{prototype_name}
use Rattle.object_heap.specs.Heap.{Contents}
use Rattle.object_heap.specs.Object.{Object}
use Rattle.object_heap.specs.Property.{Props, fixed, lasting}
use Rattle.object_heap.specs.declared.object.Class.{Class}
use Rattle.object_heap.specs.declared.object.Class.TheVariants as class
use Rattle.dom_tree.specs.Node.{kind_at, node_at}
use Rattle.page_host.specs.Host.{Host}
use Rattle.page_meaning.specs.Events.{new_parts}
use Rattle.page_meaning.specs.Places.{document, window}
use Rattle.page_writer.specs.Frame.{bare_node}
use Rattle.page_meaning.specs.Store.{Store}
use Rattle.rebuild_plan.specs.Compact.{moved_proto}
use Rattle.rebuilding.specs.Rebuilt.{ClassIsRebuilt, nth}
use Rattle.rebuilding.specs.Running.{node_of_class}
use Rattle.rebuilding.specs.Scene.{IsCleared, IsRunning, Scene}
use Rattle.rebuilding.specs.Sites.{sited_proto}
use Rattle.object_shapes.specs.Shapes.{built_in_at, made_property}
use Rattle.rebuilding.proofs.OwnObjects.{OwnObjects}

-- a function of a page begins with its length and a `prototype`
pub record BeginsAsFunction (formals : ℕ) (made : Props) : Type 0 where
  pub prototype : Value
  pub are : made ≡ (length_name, fixed (number formals)) ∷ (prototype_name, lasting prototype) ∷ []

-- a bound function begins with the length that the thing has
pub record BeginsAsBound (thing made : Props) : Type 0 where
  pub count : ℕ
  pub others : Props
  pub had : thing ≡ (length_name, fixed (number count)) ∷ others
  pub are : made ≡ (length_name, fixed (number count)) ∷ []

-- of a thing of this class, with these properties
abbrev pub MadeProps : Class → Props → Props → Type 0
MadeProps class.Plain thing made = made ≡ []
MadeProps class.Fault thing made = made ≡ []
MadeProps class.List thing made = made ≡ (length_name, made_property (number 0) true) ∷ []
MadeProps (class.Page body env) thing made = BeginsAsFunction (length (formals_of body)) made
MadeProps (class.Bound target this args) thing made = BeginsAsBound thing made
MadeProps (class.Node k) thing made = made ≡ []
MadeProps (class.Event parts) thing made = made ≡ []
MadeProps c thing made = ⊥

-- the thing is as its maker left it
pub record IsFresh (c : Scene) (es : List Environment) (s : Store) (things sites : List ℕ) (k : ℕ) (thing o : Object) : Type 0 where
  pub class : ClassIsRebuilt c es s things sites k thing.class o.class
  pub proto : o.proto ≡ sited_proto sites (moved_proto things thing.proto)
  pub extensible : o.extensible ≡ true
  pub closed : o.closed ≡ false
  pub props : MadeProps thing.class thing.props o.props

-- a node is alone and has its kind, an event is as it was made
abbrev pub MadeHost : Store → Host → Class → Class → Type 0
MadeHost s g (class.Node k) d = node_at g.nodes (node_of_class d).0 ≡ bare_node (kind_at s.host.nodes k.0) None []
MadeHost s g (class.Event parts) d = d ≡ class.Event new_parts
MadeHost s g a d = ⊤

-- all things are made, and no global yet
pub record Made (c : Scene) (s : Store) (things : List ℕ) (h : Contents) (g : Host) (sites : List ℕ) : Type 0 where
  pub running : IsRunning c h sites
  pub cleared : IsCleared h g
  pub count : length sites ≡ length things
  pub each : (n : ℕ) → n < length things
      → IsFresh c h.environments s things sites (nth sites n) (object_at s.heap.objects (nth things n)) (object_at h.objects (nth sites n))
  pub hosted : (n : ℕ) → n < length things
      → MadeHost s g (object_at s.heap.objects (nth things n)).class (object_at h.objects (nth sites n)).class
  pub own : OwnObjects h g sites
  pub globals : (object_at h.objects window.0).props ≡ (built_in_at window.0).props
  pub document_props : (object_at h.objects document.0).props ≡ []
  pub document_extensible : (object_at h.objects document.0).extensible ≡ true
  pub document_open : (object_at h.objects document.0).closed ≡ false
