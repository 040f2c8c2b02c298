-- A naming: a one-to-one correspondence of the ids of two heaps, which grows; and when two heaps agree for it. On the right
-- some variables may be held by an object, the scope object of their environment.
use Rattle.std.specs.Prelude.{◌≡◌, ℕ, ◌<◌, ◌≤◌, ◌^◌, Bool, true, false, cond, not, ◌&&◌, ◌||◌, IsTrue, nat_eq, nat_lt, codes, List, [], ◌∷◌, ◌++◌, Option, Some, None, length, slice_index_or}
use Rattle.std.specs.Fmt.{decimal}
use Rattle.std.specs.Option.{ForSome}
use Rattle.js_core.specs.Tree.{Code}
use Rattle.js_values.specs.declared.ids.EnvId.{EnvId}
use Rattle.js_values.specs.declared.line.Line.{Line}
use Rattle.js_values.specs.declared.value.Value.{Value}
use Rattle.js_values.specs.declared.value.Value.TheVariants as value
use Rattle.object_heap.specs.Attempt.{Attempt}
use Rattle.object_heap.specs.Chain.{get, object_at}
use Rattle.object_heap.specs.Environment.{Environment, environment_at, value_of}
use Rattle.object_heap.specs.Heap.{Contents, IsSound, look_in}
use Rattle.object_heap.specs.Object.{Object}
use Rattle.object_heap.specs.Property.{own_property}
use Rattle.object_heap.specs.declared.object.Class.TheVariants as class
use Rattle.object_heap.specs.declared.property.Prop.{Prop}
use Rattle.heap_relations.specs.Related.{Links, ObjectsRel, ValueRel}

pub data In {A : Type 0} (x : A) : List A → Type 0 where
  here : {l : List A} → In x (x ∷ l)
  there : {y : A} {l : List A} → In x l → In x (y ∷ l)

pub record Pair : Type 0 where
  pub one : ℕ
  pub two : ℕ

abbrev pub pair : ℕ → ℕ → Pair
pair a b = record { one = a; two = b }

-- how the right keeps a name that a piece of code may declare: it does not declare it, it has it too, or a scope object has
-- it. A name that is never assigned, as a function expression's own one, is sealed, and a scope object may have a copy of it; so
-- are the names round a function that was rebuilt. A constant name is at most assigned by the first statement of its scope, once.
-- Or the code has no such name.
pub data Kept : Type 0 where
  Absent : Kept
  Free : Kept
  Captured : Kept
  Copied : Kept
  Sealed : Kept
  Constant : Kept
  Unused : Kept

-- a function or a catch clause: how the right keeps each name, whether there is a scope object, and its number
pub record Frame : Type 0 where
  pub keeps : List ℕ → Kept
  pub scoped : Bool
  pub number : ℕ

-- each scope object of these frames has a number below this one
abbrev pub are_below : ℕ → List Frame → Bool
are_below n [] = true
are_below n (f ∷ fs) = (not f.scoped || nat_lt f.number n) && are_below n fs

-- an environment on the left and its counterpart; of what code they are, and what code is round it; the place of the scope
-- object, if there is one; and the values of sealed, copied and constant names on the left, those of constant names from when they are set.
-- pending: the one that the first statement of the scope has to set; born: the objects that constant names hold are below this place.
pub record Slot : Type 0 where
  pub one : ℕ
  pub two : ℕ
  pub frame : Frame
  pub round : List Frame
  pub place : ℕ
  pub known : List ℕ → Value
  pub pending : Option (List ℕ)
  pub born : ℕ

-- the environments round a function that was rebuilt, which may be fewer on the right
pub record Base : Type 0 where
  pub one : Option EnvId
  pub two : Option EnvId
  pub frame : Frame

-- the lines that either page had put out when the naming began, and their clocks then
pub record Before : Type 0 where
  pub one : List Line
  pub two : List Line
  pub one_clock : ℕ
  pub two_clock : ℕ

-- opens: whether the right has scope objects, so that no name of the page begins like theirs; opened: what a function's code is on the
-- right, in these frames, where the scopes inside are numbered from here on; fits: whether code may stand in them; done: the environments on
-- the left whose first statement has set its constant name
pub record World : Type 0 where
  pub opens : Bool
  pub opened : ℕ → List Frame → Code → Code
  pub fits : ℕ → List Frame → Code → Bool
  pub before : Before
  pub objects : List Pair
  pub nodes : List Pair
  pub slots : List Slot
  pub done : List ℕ
  pub bases : List Base

pub record Named (W : World) (a b : ℕ) : Type 0 where
  pub named : In (pair a b) W.objects

pub record Nodes (W : World) (a b : ℕ) : Type 0 where
  pub named : In (pair a b) W.nodes

abbrev pub env_id : ℕ → EnvId
env_id k = record { 0 = k }

-- what is round some code, and the environments there
pub data Round (W : World) : List Frame → Option EnvId → Option EnvId → Type 0 where
  outermost : Round W [] None None
  inside : (s : Slot) → In s W.slots → Round W (s.frame ∷ s.round) (Some (env_id s.one)) (Some (env_id s.two))
  based : (b : Base) → In b W.bases → Round W (b.frame ∷ []) b.one b.two

pub record Functions (W : World) (c : Code) (e : Option EnvId) (d : Code) (f : Option EnvId) : Type 0 where
  pub frames : List Frame
  pub number : ℕ
  pub code : d ≡ W.opened number frames c
  pub fits : IsTrue (W.fits number frames c)
  pub round : Round W frames e f

-- the relations of `Related` at a naming
abbrev pub named : World → Links
named W = record { object = Named W; node = Nodes W; function = Functions W }

-- the second naming has what the first has, and round the same functions that were rebuilt
pub record Larger (V W : World) : Type 0 where
  pub opens : V.opens ≡ W.opens
  pub objects : (p : Pair) → In p V.objects → In p W.objects
  pub nodes : (p : Pair) → In p V.nodes → In p W.nodes
  pub opened : V.opened ≡ W.opened
  pub fits : V.fits ≡ W.fits
  pub before : V.before ≡ W.before
  pub slots : (s : Slot) → In s V.slots → In s W.slots
  pub done : (k : ℕ) → In k V.done → In k W.done
  -- none joins
  pub bases : V.bases ≡ W.bases

abbrev pub with_object : World → ℕ → ℕ → World
with_object W a b = record { opens = W.opens; opened = W.opened; fits = W.fits; before = W.before; objects = pair a b ∷ W.objects; nodes = W.nodes; slots = W.slots; done = W.done; bases = W.bases }

abbrev pub with_slot : World → Slot → World
with_slot W s = record { opens = W.opens; opened = W.opened; fits = W.fits; before = W.before; objects = W.objects; nodes = W.nodes; slots = s ∷ W.slots; done = W.done; bases = W.bases }

-- the first statement of the scope of an environment has set its constant name
abbrev pub with_done : World → ℕ → World
with_done W k = record { opens = W.opens; opened = W.opened; fits = W.fits; before = W.before; objects = W.objects; nodes = W.nodes; slots = W.slots; done = k ∷ W.done; bases = W.bases }

-- ---- names

-- the name of the scope object of this number
abbrev pub scope_name : ℕ → List ℕ
scope_name k = codes "$$" ++ decimal k

-- a page's own names do not begin like that
abbrev pub is_scope_name : List ℕ → Bool
is_scope_name (a ∷ b ∷ rest) = cond (nat_eq a 36) (nat_eq b 36) false
is_scope_name name = false

abbrev pub is_reserved : Bool → List ℕ → Bool
is_reserved true x = is_scope_name x
is_reserved false x = false

-- what the right reads for a name: the name, or the scope object of this number; the same, where it is never assigned; or there is
-- no such name
pub data Place : Type 0 where
  Itself : Place
  InScope : ℕ → Place
  Copy : ℕ → Place
  Fixed : Place
  Nowhere : Place

abbrev pub resolved : Kept → ℕ → Place → Place
resolved Absent k outer = outer
resolved Free k outer = Itself
resolved Captured k outer = InScope k
resolved Copied k outer = Copy k
resolved Sealed k outer = Fixed
resolved Constant k outer = Fixed
resolved Unused k outer = Nowhere

-- for code in these frames
abbrev pub resolve : List Frame → List ℕ → Place
resolve [] x = Itself
resolve (f ∷ fs) x = resolved (f.keeps x) f.number (resolve fs x)

-- ---- environments

-- a name on the left, on the right, and as a property of the scope object, if there is one
pub data NameRel (L : Links) (scoped : Bool) (known : Value) : Kept → Option Value → Option Value → Option Prop → Type 0 where
  absent : {p : Option Prop} → NameRel L scoped known Absent None None p
  free : {v w : Value} {p : Option Prop} → ValueRel L v w → NameRel L scoped known Free (Some v) (Some w) p
  captured : {v : Value} {any : Option Value} {p : Prop} → scoped ≡ true → ValueRel L v p.value → p.writable ≡ true → p.enumerable ≡ true → p.configurable ≡ true
      → NameRel L scoped known Captured (Some v) any (Some p)
  constant : {w : Value} {p : Option Prop} → ValueRel L known w → NameRel L scoped known Sealed (Some known) (Some w) p
  held : {v w : Value} {p : Option Prop} → ValueRel L v w → NameRel L scoped known Constant (Some v) (Some w) p
  copied : {any : Option Value} {p : Prop} → scoped ≡ true → ValueRel L known p.value → NameRel L scoped known Copied None any (Some p)

-- the environment round it has the name, sealed
pub record OwnName (W : World) (s : Slot) (x : List ℕ) (outer : Option EnvId) : Type 0 where
  pub slot : Slot
  pub named : In slot W.slots
  pub there : outer ≡ Some (env_id slot.one)
  pub kept : slot.frame.keeps x ≡ Sealed
  pub same : slot.known x ≡ s.known x

abbrev pub scope_at : Bool → ℕ → Option Value
scope_at true place = Some (value.Object (record { 0 = place }))
scope_at false place = None

pub record SlotRel (W : World) (s : Slot) (e f : Environment) (o : Object) : Type 0 where
  pub outer : Round W s.round e.outer f.outer
  pub names : (x : List ℕ) → is_reserved W.opens x ≡ false → NameRel (named W) s.frame.scoped (s.known x) (s.frame.keeps x) (value_of e.names x) (value_of f.names x) (own_property o.props x)
  pub scopes : W.opens ≡ true → (k : ℕ) → k < 2 ^ 64 → value_of f.names (scope_name k) ≡ scope_at (s.frame.scoped && nat_eq k s.frame.number) s.place
  -- inner scopes have larger numbers
  pub numbers : s.frame.scoped ≡ true → (s.frame.number < 2 ^ 64) × (are_below s.frame.number s.round ≡ true)
  pub own : (x : List ℕ) → s.frame.keeps x ≡ Copied → OwnName W s x e.outer
  pub plain : s.frame.scoped ≡ true → (W.opens ≡ true) × (o.class ≡ class.Plain) × (o.closed ≡ false)

-- an environment from here outwards
pub data Outward (es : List Environment) : Option EnvId → ℕ → Type 0 where
  at_once : {k : ℕ} → Outward es (Some (env_id k)) k
  further : {k j : ℕ} → Outward es (environment_at es k).outer j → Outward es (Some (env_id k)) j

-- a name round a function that was rebuilt
pub data SealedRel (L : Links) : Kept → Option (EnvId × Value) → Option (EnvId × Value) → Type 0 where
  unbound : SealedRel L Absent None None
  sealed : {e f : EnvId} {v w : Value} → ValueRel L v w → SealedRel L Sealed (Some (e, v)) (Some (f, w))
  unused : {o p : Option (EnvId × Value)} → SealedRel L Unused o p

-- no environment of the base is ever assigned: none is a slot's
pub record BaseRel (W : World) (b : Base) (es fs : List Environment) : Type 0 where
  pub names : (x : List ℕ) → is_reserved W.opens x ≡ false → SealedRel (named W) (b.frame.keeps x) (look_in es b.one x) (look_in fs b.two x)
  pub one_inside : ForSome b.one (λ e. e.0 < length es)
  pub two_inside : ForSome b.two (λ e. e.0 < length fs)
  pub one_apart : (s : Slot) → In s W.slots → Outward es b.one s.one → ⊥
  pub two_apart : (s : Slot) → In s W.slots → Outward fs b.two s.two → ⊥

pub record SlotsRel (W : World) (es fs : List Environment) (ps : List Object) : Type 0 where
  pub at : (s : Slot) → In s W.slots → SlotRel W s (environment_at es s.one) (environment_at fs s.two) (object_at ps s.place)
  pub inside : (s : Slot) → In s W.slots → (s.one < length es) × (s.two < length fs)
  pub scope_inside : (s : Slot) → In s W.slots → s.frame.scoped ≡ true → s.place < length ps
  pub one_to_one : (s t : Slot) → In s W.slots → In t W.slots → nat_eq s.one t.one ≡ nat_eq s.two t.two
  pub one_slot : (s t : Slot) → In s W.slots → In t W.slots → s.one ≡ t.one → s ≡ t
  pub one_scope : (s t : Slot) → In s W.slots → In t W.slots → s.frame.scoped ≡ true → t.frame.scoped ≡ true → s.place ≡ t.place → s ≡ t
  -- no scope object is the counterpart of an object
  pub apart : (s : Slot) → In s W.slots → s.frame.scoped ≡ true → (p : Pair) → In p W.objects → nat_eq p.two s.place ≡ false
  pub bases : (b : Base) → In b W.bases → BaseRel W b es fs

-- ---- two heaps

pub record Agree (W : World) (h g : Contents) : Type 0 where
  pub objects : ObjectsRel (named W) h.objects g.objects
  pub slots : SlotsRel W h.environments g.environments g.objects
  pub left : IsSound h
  pub right : IsSound g

-- where a name of the page is bound, from environments that are linked: as itself on both sides, or on the right in the
-- scope object of this number, which is plain. look is what the right finds by a name.
pub data FoundRel (W : World) (ps : List Object) (look : List ℕ → Option (EnvId × Value)) (x : List ℕ) : Place → Option (EnvId × Value) → Option (EnvId × Value) → Type 0 where
  nowhere : FoundRel W ps look x Itself None None
  is_free : {v w : Value} (s : Slot) → In s W.slots → s.frame.keeps x ≡ Free → ValueRel (named W) v w → FoundRel W ps look x Itself (Some (env_id s.one, v)) (Some (env_id s.two, w))
  is_captured : {v : Value} {any : Option (EnvId × Value)} (s : Slot) → In s W.slots → s.frame.keeps x ≡ Captured → W.opens ≡ true → (object_at ps s.place).class ≡ class.Plain
      → look (scope_name s.frame.number) ≡ Some (env_id s.two, value.Object (record { 0 = s.place }))
      → {p : Prop} → own_property (object_at ps s.place).props x ≡ Some p → ValueRel (named W) v p.value
      → FoundRel W ps look x (InScope s.frame.number) (Some (env_id s.one, v)) any
  is_copied : {e : EnvId} {v : Value} {any : Option (EnvId × Value)} (s : Slot) → W.opens ≡ true → (object_at ps s.place).class ≡ class.Plain
      → look (scope_name s.frame.number) ≡ Some (env_id s.two, value.Object (record { 0 = s.place }))
      → {p : Prop} → own_property (object_at ps s.place).props x ≡ Some p → ValueRel (named W) v p.value
      → FoundRel W ps look x (Copy s.frame.number) (Some (e, v)) any
  is_sealed : {e f : EnvId} {v w : Value} → ValueRel (named W) v w → FoundRel W ps look x Fixed (Some (e, v)) (Some (f, w))
  is_unused : {o p : Option (EnvId × Value)} → FoundRel W ps look x Nowhere o p

-- what a variable is that both have
pub record BothRel (W : World) (h g : Contents) (s : Slot) (x : List ℕ) : Type 0 where
  pub left : Value
  pub right : Value
  pub one : value_of (environment_at h.environments s.one).names x ≡ Some left
  pub two : value_of (environment_at g.environments s.two).names x ≡ Some right
  pub same : ValueRel (named W) left right

-- what a captured variable is, on the right as a property of the scope object, which is plain
pub record CapturedRel (W : World) (h g : Contents) (s : Slot) (x : List ℕ) : Type 0 where
  pub left : Value
  pub prop : Prop
  pub one : value_of (environment_at h.environments s.one).names x ≡ Some left
  pub own : own_property (object_at g.objects s.place).props x ≡ Some prop
  pub two : get g.objects s.place x ≡ Some prop.value
  pub same : ValueRel (named W) left prop.value
  pub plain : (object_at g.objects s.place).class ≡ class.Plain

-- the one heap is as it is, and on the other nothing is thrown
pub record Assigned (W : World) (h : Contents) (attempt : Attempt Contents) : Type 0 where
  pub after : Agree W h attempt.after
  pub thrown : attempt.thrown ≡ None

-- the second list has what the first has, where the first reaches
pub record Reaches {A : Type 0} (d : A) (xs ys : List A) : Type 0 where
  pub longer : length xs ≤ length ys
  pub at : (i : ℕ) → i < length xs → slice_index_or ys i d ≡ slice_index_or xs i d
