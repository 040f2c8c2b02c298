-- The shapes of objects: what each object of a page keeps from its maker on, whatever scripts do to it.
use Rattle.std.specs.Prelude.{◌≡◌, ℕ, ◌-◌, ◌<◌, Bool, true, false, ◌∷◌, ◌++◌, Option, Some, None, is_none, length, IsTrue, ⊤}
use Rattle.std.specs.List.{list_all}
use Rattle.code_table.specs.Declarations.{formals_of}
use Rattle.js_values.specs.declared.ids.ObjId.{ObjId}
use Rattle.js_values.specs.declared.throw.ErrorKind.{ErrorKind}
use Rattle.js_values.specs.declared.value.Value.{Value}
use Rattle.object_heap.specs.Chain.{object_at}
use Rattle.object_heap.specs.Define.{length_name, number}
use Rattle.object_heap.specs.Environment.{environment_at}
use Rattle.object_heap.specs.Function.{prototype_name}
use Rattle.object_heap.specs.Object.{Object}
use Rattle.object_heap.specs.Property.{Props, fixed, own_property}
use Rattle.object_heap.specs.declared.object.Class.{Class}
use Rattle.object_heap.specs.declared.object.Class.TheVariants as class
use Rattle.object_heap.specs.declared.property.Prop.{Prop}
use Rattle.page_meaning.specs.Elements.{length_of}
use Rattle.page_meaning.specs.Places.{array_prototype, built_in_count, error_prototype, event_prototype, function_prototype, node_prototype, window}
use Rattle.page_meaning.specs.Pristine.{built_ins}
use Rattle.page_meaning.specs.Properties.{class_at, is_function}
use Rattle.page_meaning.specs.Store.{Store}
use Rattle.object_shapes.specs.Hosted.{HasParts, IsHosted, has_no_kept}
use Rattle.object_shapes.specs.Links.{all_below, bound_links, is_thing, made_links, object_links}

-- ---- what each kind of thing begins with

-- one that can be written or not, and else is as it was made
abbrev pub made_property : Value → Bool → Prop
made_property v writable = record { value = v; writable = writable; enumerable = false; configurable = false }

pub record HasFunctionProps (formals : ℕ) (props : Props) : Type 0 where
  pub prototype : Value
  pub writable : Bool
  pub others : Props
  pub are : props ≡ (length_name, fixed (number formals)) ∷ (prototype_name, made_property prototype writable) ∷ others

pub record HasLength (props : Props) : Type 0 where
  pub count : ℕ
  pub writable : Bool
  pub others : Props
  pub are : props ≡ (length_name, made_property (number count) writable) ∷ others

-- that of a bound function has the formals that are left of its target's (15.3.4.5)
pub record HasBoundLength (formals bound : ℕ) (props : Props) : Type 0 where
  pub others : Props
  pub are : props ≡ (length_name, fixed (number (formals - bound))) ∷ others

pub record IsErrorPrototype (proto : Option ObjId) : Type 0 where
  pub kind : ErrorKind
  pub is : proto ≡ Some (error_prototype kind)

-- an object of this class, which scripts made, has the shape of its class
abbrev pub HasShape : Store → Object → Class → Type 0
HasShape s o class.Plain = ⊤
HasShape s o class.List = (o.proto ≡ Some array_prototype) × HasLength o.props
HasShape s o class.Fault = IsErrorPrototype o.proto
HasShape s o (class.Page c env) = (o.proto ≡ Some function_prototype) × HasFunctionProps (length (formals_of c)) o.props
HasShape s o (class.Bound target this args) = (o.proto ≡ Some function_prototype) × HasBoundLength (length_of target s)
    (length args) o.props × IsTrue (is_function (Some (class_at s target)))
HasShape s o (class.Node k) = (o.proto ≡ Some node_prototype) × IsTrue (has_no_kept s o)
HasShape s o (class.Event parts) = (o.proto ≡ Some event_prototype) × IsTrue (has_no_kept s o) × HasParts s parts
-- no other object is made by scripts
HasShape s o c = ⊥

-- ---- the page

abbrev pub built_in_at : ℕ → Object
built_in_at k = object_at built_ins k

-- the global object keeps its built-in properties, which come first, and no other has the name of one
pub record IsWindow (o : Object) : Type 0 where
  pub others : Props
  pub props : o.props ≡ (built_in_at window.0).props ++ others
  pub own : IsTrue (list_all (λ e. is_none (own_property (built_in_at window.0).props e.0)) others)
  pub class : o.class ≡ class.Window
  pub proto : o.proto ≡ None
  pub extensible : o.extensible ≡ true
  pub closed : o.closed ≡ false

-- each object has its shape, and refers to what is there
pub record IsShaped (s : Store) : Type 0 where
  -- what is built in is as it was
  pub built_ins : (k : ℕ) → 0 < k → k < built_in_count → object_at s.heap.objects k ≡ built_in_at k
  pub window : IsWindow (object_at s.heap.objects window.0)
  -- and so is the object of the document, the first after them
  pub all_there : built_in_count < length s.heap.objects
  -- objects and environments refer to what is there, and when objects were made to older ones
  pub there : (k : ℕ) → IsTrue (all_below (length s.heap.objects) (object_links (object_at s.heap.objects k)))
  pub bound_there : (e : ℕ) → IsTrue (all_below (length s.heap.objects) (bound_links (environment_at s.heap.environments e).names))
  pub older : (k : ℕ) → IsTrue (is_thing s k) → IsTrue (all_below k (made_links (object_at s.heap.objects k)))
  pub made : (k : ℕ) → IsTrue (is_thing s k) → HasShape s (object_at s.heap.objects k) (object_at s.heap.objects k).class
  pub not_closed : (k : ℕ) → IsTrue (is_thing s k) → (object_at s.heap.objects k).closed ≡ false
  -- the document's object is that of a node, too, which scripts did not make
  pub document : HasShape s (object_at s.heap.objects built_in_count) (object_at s.heap.objects built_in_count).class
  pub document_open : (object_at s.heap.objects built_in_count).closed ≡ false
  pub host : IsHosted s
