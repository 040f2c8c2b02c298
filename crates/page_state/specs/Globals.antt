-- What the global object does with the names that a script declares.
use Rattle.std.specs.Prelude.{ℕ, Bool, true, false, ◌&&◌, List, Option, Some, None}
use Rattle.js_core.specs.Tree as tree
use Rattle.js_values.specs.declared.ids.ObjId.{ObjId}
use Rattle.js_values.specs.declared.value.Value.TheVariants.{Object}
use Rattle.object_heap.specs.declared.property.Prop.{Prop}
use Rattle.page_meaning.specs.Act.{Act, also, asking, bind}
use Rattle.page_meaning.specs.Functions.{take_function, make_function, own_global}
use Rattle.page_meaning.specs.Places.{window}
use Rattle.page_meaning.specs.Properties.{put_in}

-- a function that was made gets its place and is put there, before the next act
abbrev pub named_global : List ℕ → ObjId → Act → Act
named_global x k next = also (asking (own_global x) (take_function x)) (λ _. also (put_in window x (Object k)) (λ _. next))

-- a declared function is made, and gets its place, before the next act
abbrev pub declared_global : Option (List ℕ) × tree.Code → Act → Act
declared_global (None, c) next = next
declared_global (Some x, c) next = bind (make_function c None) (λ k. named_global x k next)

-- a declared function defines its property anew
abbrev pub takes_place : Option Prop → Bool
takes_place None = true
takes_place (Some p) = p.configurable

-- it may take the property as it is
abbrev pub keeps_place : Option Prop → Bool
keeps_place None = false
keeps_place (Some p) = p.writable && p.enumerable
