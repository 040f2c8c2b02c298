-- Which objects scripts made, and what objects refer to.
use Rattle.std.specs.Prelude.{ℕ, Bool, List, [], ◌∷◌, ◌++◌, Option, Some, None, ◌&&◌, nat_lt, length}
use Rattle.std.specs.List.{list_all}
use Rattle.js_values.specs.declared.ids.ObjId.{ObjId}
use Rattle.js_values.specs.declared.value.Value.{Value}
use Rattle.js_values.specs.declared.value.Value.TheVariants.{Object as Reference}
use Rattle.object_heap.specs.Environment.{Bound}
use Rattle.object_heap.specs.Object.{Object}
use Rattle.object_heap.specs.Property.{Props}
use Rattle.object_heap.specs.declared.object.Class.{Class}
use Rattle.object_heap.specs.declared.object.Class.TheVariants.{Bound as BoundFunction, Event}
use Rattle.page_meaning.specs.Places.{built_in_count}
use Rattle.page_meaning.specs.Store.{Store}

-- a thing is an object that is neither built in nor the document's: it is there, and younger
abbrev pub is_thing : Store → ℕ → Bool
is_thing s k = nat_lt built_in_count k && nat_lt k (length s.heap.objects)

-- each of these is below the place
abbrev pub all_below : ℕ → List ℕ → Bool
all_below n ks = list_all (λ k. nat_lt k n) ks

abbrev pub value_links : Value → List ℕ
value_links (Reference at) = at.0 ∷ []
value_links v = []

abbrev pub values_links : List Value → List ℕ
values_links [] = []
values_links (v ∷ vs) = value_links v ++ values_links vs

abbrev pub props_links : Props → List ℕ
props_links [] = []
props_links (e ∷ es) = value_links e.1.value ++ props_links es

abbrev pub bound_links : Bound → List ℕ
bound_links [] = []
bound_links (e ∷ es) = value_links e.1 ++ bound_links es

abbrev pub proto_links : Option ObjId → List ℕ
proto_links None = []
proto_links (Some at) = at.0 ∷ []

-- a bound function refers to its target, its `this` and its arguments
abbrev pub parts_links : Class → List ℕ
parts_links (BoundFunction target this args) = target.0 ∷ (value_links this ++ values_links args)
parts_links c = []

-- what an object refers to from when it is made
abbrev pub made_links : Object → List ℕ
made_links o = proto_links o.proto ++ parts_links o.class

-- an event refers to its target, and while it is under dispatch to the object that it is at; both may be younger
abbrev pub event_links : Class → List ℕ
event_links (Event parts) = proto_links parts.target ++ proto_links parts.current
event_links c = []

abbrev pub object_links : Object → List ℕ
object_links o = made_links o ++ (event_links o.class ++ props_links o.props)
