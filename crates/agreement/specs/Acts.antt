-- When two acts agree: in pages that agree they end alike, after as many steps, and leave pages that agree for a larger naming.
use Rattle.std.specs.Prelude.{◌≡◌, ℕ, ◌<◌, ◌≤◌, true, List, ◌++◌, Option, Some, None, length, ⊤}
use Rattle.code_table.specs.Declarations.{name_of}
use Rattle.js_values.specs.declared.ids.EnvId.{EnvId}
use Rattle.js_values.specs.declared.ids.ObjId.{ObjId}
use Rattle.js_values.specs.declared.line.Line.{Line}
use Rattle.js_values.specs.declared.value.Value.{Value}
use Rattle.js_values.specs.declared.value.Value.TheVariants as values
use Rattle.object_heap.specs.Chain.{object_at}
use Rattle.object_heap.specs.Environment.{environment_at, value_of}
use Rattle.object_heap.specs.declared.object.Class.{Class}
use Rattle.object_heap.specs.declared.object.Class.TheVariants as class
use Rattle.page_meaning.specs.Act.{Act, ActOf, Calls, Outcome, Ended, Stopped}
use Rattle.page_meaning.specs.Store.{Store}
use Rattle.page_meaning.specs.declared.signal.Signal.{Signal}
use Rattle.page_meaning.specs.declared.signal.Signal.TheVariants as signal
use Rattle.heap_relations.specs.Naming.{Agree, Base, Before, Constant, env_id, In, Larger, Named, named, Sealed, Slot, World}
use Rattle.heap_relations.specs.Related.{Each, ValueRel}
use Rattle.host_relations.specs.Hosts.{HostRel}
use Rattle.host_relations.specs.Timers.{Clocks}
use Rattle.object_shapes.specs.Links.{all_below, value_links}
use Rattle.page_meaning.specs.Places.{built_in_count}
use Rattle.object_shapes.specs.Shapes.{IsShaped}

-- what is built in stands at the same places, and so does the object of the document
abbrev pub HasBuiltIns : World → Type 0
HasBuiltIns W = (k : ℕ) → k ≤ built_in_count → Named W k k

-- the clocks when the naming began
abbrev pub clocks_of : World → Clocks
clocks_of W = record { one = W.before.one_clock; two = W.before.two_clock }

-- behind what was put out before stand the same lines
pub record AddedRel (b : Before) (xs ys : List Line) : Type 0 where
  pub more : List Line
  pub one : xs ≡ b.one ++ more
  pub two : ys ≡ b.two ++ more

-- ---- closures on the left

-- the first statement of the scope does not have to set the name, or has set it
abbrev pub HasSet : World → Slot → List ℕ → Type 0
HasSet W z x = z.pending ≡ Some x → In z.one W.done

-- so it is of each name
abbrev pub IsSet : World → Slot → Type 0
IsSet W z = (x : List ℕ) → HasSet W z x

-- what is round a function: nothing, a scope that is set, or what is round one that was rebuilt
pub data IsReady (W : World) : Option EnvId → Type 0 where
  outermost : IsReady W None
  scope : (z : Slot) → In z W.slots → IsSet W z → IsReady W (Some (env_id z.one))
  rebuilt : (b : Base) → In b W.bases → IsReady W b.one

-- the name of a function expression, if it is sealed in this scope, stands for the function at the place
abbrev pub IsOwn : ℕ → Option (List ℕ) → Slot → Type 0
IsOwn k name z = (x : List ℕ) → name ≡ Some x → z.frame.keeps x ≡ Sealed → z.known x ≡ values.Object (record { 0 = k })

-- and what its constant names hold is older than the place, where a function of this name is
pub data IsOlder (W : World) (k : ℕ) (name : Option (List ℕ)) : Option EnvId → Type 0 where
  outermost_older : IsOlder W k name None
  scope_older : (z : Slot) → In z W.slots → IsSet W z → z.born ≤ k → IsOwn k name z → IsOlder W k name (Some (env_id z.one))
  rebuilt_older : (b : Base) → In b W.bases → IsOlder W k name b.one

-- a scope has its constant names from when they are set, they hold older objects, and so do those round it
pub record IsKept (W : World) (s : Store) (z : Slot) : Type 0 where
  pub round : IsOlder W z.born None (environment_at s.heap.environments z.one).outer
  pub older : (x : List ℕ) → z.frame.keeps x ≡ Constant → all_below z.born (value_links (z.known x)) ≡ true
  pub held : (x : List ℕ) → HasSet W z x → z.frame.keeps x ≡ Constant → value_of (environment_at s.heap.environments z.one).names x ≡ Some (z.known x)
  pub there : IsSet W z → z.born ≤ length s.heap.objects

-- a function of the page stands where all is set and older
abbrev pub IsPlaced : World → ℕ → Class → Type 0
IsPlaced W k (class.Page c env) = IsOlder W k (name_of c) env
IsPlaced W k c = ⊤

pub record AreKept (W : World) (s : Store) : Type 0 where
  pub scopes : (z : Slot) → In z W.slots → IsKept W s z
  pub functions : (k l : ℕ) → Named W k l → IsPlaced W k (object_at s.heap.objects k).class
  pub done : (j : ℕ) → In j W.done → j < length s.heap.environments

-- two pages agree: their heaps and what their hosts keep do, and they have put out the same lines. The objects of the left have their shapes,
-- and its scopes and functions keep what is constant
pub record StoreRel (W : World) (s t : Store) : Type 0 where
  pub heap : Agree W s.heap t.heap
  pub lines : AddedRel W.before s.lines t.lines
  pub host : HostRel (clocks_of W) W s.host t.host
  pub built_ins : HasBuiltIns W
  pub shaped : IsShaped s
  pub kept : AreKept W s

-- what is related for each naming
abbrev pub Relation : Type 0 → Type 1
Relation A = World → A → A → Type 0

abbrev pub Equal : {A : Type 0} → Relation A
Equal W a b = a ≡ b

-- objects that are named
abbrev pub Ids : Relation ObjId
Ids W a b = Named W a.0 b.0

pub data SignalRel (W : World) : Signal → Signal → Type 0 where
  value : {v w : Value} → ValueRel (named W) v w → SignalRel W (signal.Value v) (signal.Value w)
  thrown : {v w : Value} → ValueRel (named W) v w → SignalRel W (signal.Thrown v) (signal.Thrown w)
  return : {v w : Value} → ValueRel (named W) v w → SignalRel W (signal.Return v) (signal.Return w)
  break : SignalRel W signal.Break signal.Break
  continue : SignalRel W signal.Continue signal.Continue

-- for a naming that is larger than V
pub data OutcomeRel {A : Type 0} (R : Relation A) (V : World) : Outcome A → Outcome A → Type 0 where
  ended : {a b : A} {s t : Store} {n : ℕ} (W : World) → Larger V W → R W a b → StoreRel W s t → OutcomeRel R V (Ended a s n) (Ended b t n)
  stopped : {s t : Store} (W : World) → Larger V W → StoreRel W s t → OutcomeRel R V (Stopped s) (Stopped t)

-- two acts agree, for this naming and all larger ones
pub record ActRel {A : Type 0} (R : Relation A) (V : World) (p q : ActOf A) : Type 0 where
  pub run : (W : World) → Larger V W → (s t : Store) (n : ℕ) → StoreRel W s t → OutcomeRel R W (p.run s n) (q.run t n)

-- acts that end with signals
abbrev pub Agrees : World → Act → Act → Type 0
Agrees = ActRel SignalRel

-- what functions do agrees
pub record CallsRel (V : World) (c d : Calls) : Type 0 where
  pub call : (W : World) → Larger V W → {f g this that : Value} {vs ws : List Value}
      → ValueRel (named W) f g → ValueRel (named W) this that → Each (ValueRel (named W)) vs ws → Agrees W (c.call f this vs) (d.call g that ws)
  pub construct : (W : World) → Larger V W → {f g : Value} {vs ws : List Value}
      → ValueRel (named W) f g → Each (ValueRel (named W)) vs ws → Agrees W (c.construct f vs) (d.construct g ws)

-- what goes on with related values
abbrev pub Continues : World → (Value → Act) → (Value → Act) → Type 0
Continues V f g = (W : World) → Larger V W → (v w : Value) → ValueRel (named W) v w → Agrees W (f v) (g w)
