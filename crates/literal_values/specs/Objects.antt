-- Objects and environments whose names and values can be written, and what is done to a heap so that they stay such.
use Rattle.std.specs.Prelude.{List, [], ◌∷◌, Option, Some, None, ⊤}
use Rattle.std.specs.List.{All}
use Rattle.js_values.specs.declared.ids.EnvId.{EnvId}
use Rattle.js_values.specs.declared.value.Value.{Value}
use Rattle.object_heap.specs.Environment.{Bound as Names}
use Rattle.object_heap.specs.Heap.{Contents}
use Rattle.object_heap.specs.Laws.{Step, adds, binds, defines, gives_parts, makes, opens, puts}
use Rattle.object_heap.specs.Object.{Object}
use Rattle.object_heap.specs.Property.{Props}
use Rattle.object_heap.specs.declared.object.Class.{Class}
use Rattle.object_heap.specs.declared.object.Class.TheVariants.{Bound, Event, Page}
use Rattle.object_heap.specs.declared.object.EventParts.{EventParts}
use Rattle.object_heap.specs.declared.property.Change.{Change}
use Rattle.object_heap.specs.declared.property.Prop.{Prop}
use Rattle.literal_values.specs.Trees.{LiteralCode}
use Rattle.literal_values.specs.Values.{AreBounded, IsBounded, IsText, MaybeBounded}

-- ---- objects

abbrev pub LiteralProps : Props → Type 0
LiteralProps [] = ⊤
LiteralProps (e ∷ es) = IsText e.0 × IsBounded e.1.value × LiteralProps es

abbrev pub MaybeProp : Option Prop → Type 0
MaybeProp None = ⊤
MaybeProp (Some p) = IsBounded p.value

abbrev pub LiteralParts : EventParts → Type 0
LiteralParts e = IsText e.kind

-- the code of a function, what a bound function has, and the type of an event
abbrev pub LiteralClass : Class → Type 0
LiteralClass (Page c env) = LiteralCode c
LiteralClass (Bound target this args) = IsBounded this × AreBounded args
LiteralClass (Event parts) = LiteralParts parts
LiteralClass c = ⊤

pub record LiteralObject (o : Object) : Type 0 where
  pub class : LiteralClass o.class
  pub props : LiteralProps o.props

-- ---- environments

abbrev pub LiteralNames : Names → Type 0
LiteralNames [] = ⊤
LiteralNames (b ∷ bs) = IsBounded b.1 × LiteralNames bs

-- a value that is bound, with its place
abbrev pub MaybeFound : Option (EnvId × Value) → Type 0
MaybeFound None = ⊤
MaybeFound (Some p) = IsBounded p.1

-- ---- heaps

pub record LiteralHeap (h : Contents) : Type 0 where
  pub objects : All LiteralObject h.objects
  pub environments : All (λ e. LiteralNames e.names) h.environments

abbrev pub LiteralChange : Change → Type 0
LiteralChange change = MaybeBounded change.value

abbrev pub LiteralHeapStep : Step → Type 0
LiteralHeapStep (puts k x v) = IsText x × IsBounded v
LiteralHeapStep (defines k x change) = IsText x × LiteralChange change
LiteralHeapStep (adds k x p) = IsText x × IsBounded p.value
LiteralHeapStep (gives_parts k f) = (e : EventParts) → LiteralParts e → LiteralParts (f e)
LiteralHeapStep (makes o fit) = LiteralObject o
LiteralHeapStep (opens outer names) = LiteralNames names
LiteralHeapStep (binds k x v) = IsBounded v
LiteralHeapStep g = ⊤

abbrev pub LiteralHeapSteps : List Step → Type 0
LiteralHeapSteps [] = ⊤
LiteralHeapSteps (g ∷ gs) = LiteralHeapStep g × LiteralHeapSteps gs
