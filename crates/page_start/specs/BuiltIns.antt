-- What a page's built-in objects are made of, one after another.
use Rattle.std.specs.Prelude.{ℕ, Bool, true, not, ◌&&◌, List, [], ◌∷◌, ◌++◌, Some, false, bytes_eq, is_some, map}
use Rattle.std.specs.Borrow.{Bor}
use Rattle.js_values.specs.declared.built_in.BuiltIn.{BuiltIn}
use Rattle.js_values.specs.declared.built_in.BuiltIn.TheVariants as built_in
use Rattle.js_values.specs.declared.ids.ObjId.{ObjId}
use Rattle.js_values.specs.declared.throw.ErrorKind.TheVariants as kind
use Rattle.js_values.specs.declared.value.Value.{Value}
use Rattle.object_heap.specs.declared.property.Change.{Change}
use Rattle.object_heap.specs.declared.object.Class.TheVariants.{List as Array}
use Rattle.object_heap.specs.Chain.{object_at}
use Rattle.object_heap.specs.Define.{length_name, number}
use Rattle.object_heap.specs.Heap.{Contents, with_object, with_objects}
use Rattle.object_heap.specs.Index.{index_of}
use Rattle.object_heap.specs.Object.{Object, is_list, with_props}
use Rattle.object_heap.specs.Property.{Props, fixed, own_property}
use Rattle.page_meaning.specs.Places.{error_prototype, object_prototype}
use Rattle.page_meaning.specs.Pristine.{array_prototype_props, built, error_pair, method, method_of, prototype_is}
use Rattle.page_meaning.specs.Tables.{Method}

-- these objects are the youngest
abbrev pub beside : Contents → List Object → Contents
beside h objects = with_objects h (h.objects ++ objects)

-- what the properties of a function begin with, and those of a constructor
abbrev pub function_front : ℕ → Props
function_front formals = (length_name, fixed (number formals)) ∷ []

abbrev pub constructor_front : ObjId → Props
constructor_front p = (length_name, fixed (number 1)) ∷ prototype_is p ∷ []

-- what a table of functions says
abbrev pub rows : List (Bor (List ℕ) × BuiltIn × ℕ) → List Method
rows ms = map (λ m. (m.0.now, m.1, m.2)) ms

-- none of these names is there, and they differ
abbrev pub are_new : Props → List Method → Bool
are_new props [] = true
are_new props (m ∷ ms) = not (is_some (own_property props m.0)) && are_new (props ++ method_of m ∷ []) ms

-- ---- an array, which gets its functions one by one

abbrev pub with_method : Object → List ℕ → BuiltIn → Object
with_method o x which = with_props o (o.props ++ method x which ∷ [])

abbrev pub with_methods : Object → List Method → Object
with_methods o [] = o
with_methods o (m ∷ ms) = with_methods (with_method o m.0 m.1) ms

-- the object at the place gets this function, or these
abbrev pub method_given : Contents → ObjId → List ℕ → BuiltIn → Contents
method_given h at x which = with_object h at.0 (with_method (object_at h.objects at.0) x which)

abbrev pub methods_given : Contents → ObjId → List Method → Contents
methods_given h at ms = with_object h at.0 (with_methods (object_at h.objects at.0) ms)

-- it is an open array, and the name is new and names no element
abbrev pub takes : Object → List ℕ → Bool
takes o x =
    is_list o.class && (o.extensible && (not o.closed && (not (bytes_eq x length_name) && (not (is_some (index_of x)) && not (is_some (own_property o.props x))))))

abbrev pub takes_all : Object → List Method → Bool
takes_all o [] = true
takes_all o (m ∷ ms) = takes o m.0 && takes_all (with_method o m.0 m.1) ms

abbrev pub array_prototype_object : Object
array_prototype_object = built Array object_prototype array_prototype_props

-- a property that may be written and deleted and is not listed
abbrev pub hidden_change : Value → Change
hidden_change v = record { value = Some v; writable = Some true; enumerable = Some false; configurable = Some true }

-- the errors whose prototypes inherit from that of Error
abbrev pub native_errors : List Object
native_errors =
    error_pair built_in.TypeError kind.Type (error_prototype kind.Plain)
    ++ (error_pair built_in.RangeError kind.Range (error_prototype kind.Plain) ++ error_pair built_in.ReferenceError kind.Reference (error_prototype kind.Plain))
