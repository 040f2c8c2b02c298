-- What was seen of a host name, without its value.
use Rattle.std.specs.Prelude.{◌≡◌, List, ℕ, Option, Some, None}
use Rattle.js_values.specs.declared.ids.ObjId.{ObjId}
use Rattle.object_heap.specs.declared.property.Prop.{Prop}
use Rattle.object_heap.specs.Chain.{get}
use Rattle.page_meaning.specs.Classes.{class_at}
use Rattle.page_meaning.specs.HostNames.{Seen, held, hosted}
use Rattle.page_meaning.specs.Store.{Store}
use Rattle.page_state.specs.declared.sight.Sight.{Sight}
use Rattle.page_state.specs.declared.sight.Sight.TheVariants.{Nothing, Held, Hosted}

-- a property that is seen first is the one that is got from there up
pub record IsHeld (s : Store) (at : ObjId) (x : List ℕ) (o : Option Seen) : Type 0 where
  pub prop : Prop
  pub seen : o ≡ Some (held prop)
  pub got : get s.heap.objects at.0 x ≡ Some prop.value

abbrev pub Shows : Store → ObjId → List ℕ → Option Seen → Sight → Type 0
Shows s at x o Nothing = o ≡ None
Shows s at x o Held = IsHeld s at x o
Shows s at x o (Hosted k) = o ≡ Some (hosted (class_at s k))
