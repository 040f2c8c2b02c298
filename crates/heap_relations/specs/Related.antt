-- When values, properties, objects and environments of two heaps mean the same, for what links their ids.
use Rattle.std.specs.Prelude.{◌≡◌, ℕ, ℤ, ◌<◌, Bool, nat_eq, List, [], ◌∷◌, Option, Some, None, length}
use Rattle.js_core.specs.Tree.{Code}
use Rattle.js_values.specs.declared.built_in.BuiltIn.{BuiltIn}
use Rattle.js_values.specs.declared.ids.EnvId.{EnvId}
use Rattle.js_values.specs.declared.ids.NodeId.{NodeId}
use Rattle.js_values.specs.declared.ids.ObjId.{ObjId}
use Rattle.js_values.specs.declared.value.Value.{Value}
use Rattle.js_values.specs.declared.value.Value.TheVariants as value
use Rattle.object_heap.specs.Attempt.{Attempt}
use Rattle.object_heap.specs.Chain.{object_at}
use Rattle.object_heap.specs.Object.{Object}
use Rattle.object_heap.specs.declared.object.Class.{Class}
use Rattle.object_heap.specs.declared.object.Class.TheVariants as class
use Rattle.object_heap.specs.declared.object.EventParts.{EventParts}
use Rattle.object_heap.specs.declared.property.Change.{Change}
use Rattle.object_heap.specs.declared.property.Prop.{Prop}

-- what relates an id of the one heap and an id of the other. All relations below have it as a parameter.
pub record Links : Type 1 where
  pub object : ℕ → ℕ → Type 0
  pub node : ℕ → ℕ → Type 0
  -- a page's functions: their codes, and the environments round them
  pub function : Code → Option EnvId → Code → Option EnvId → Type 0

-- ---- lists and options of anything

pub data Maybe {A : Type 0} (R : A → A → Type 0) : Option A → Option A → Type 0 where
  none : Maybe R None None
  some : {a b : A} → R a b → Maybe R (Some a) (Some b)

pub data Each {A : Type 0} (R : A → A → Type 0) : List A → List A → Type 0 where
  no_more : Each R [] []
  each : {a b : A} {xs ys : List A} → R a b → Each R xs ys → Each R (a ∷ xs) (b ∷ ys)

-- the same names in the same order, with what is related
pub data Entries {A : Type 0} (R : A → A → Type 0) : List (List ℕ × A) → List (List ℕ × A) → Type 0 where
  no_entries : Entries R [] []
  entry : {name : List ℕ} {a b : A} {xs ys : List (List ℕ × A)} → R a b → Entries R xs ys → Entries R ((name, a) ∷ xs) ((name, b) ∷ ys)

-- what is left is related, and the same is thrown
pub record AttemptRel {A : Type 0} (R : A → A → Type 0) (x y : Attempt A) : Type 0 where
  pub after : R x.after y.after
  pub thrown : x.thrown ≡ y.thrown

-- ---- the parts of a heap

pub record ObjectIds (L : Links) (a b : ObjId) : Type 0 where
  pub linked : L.object a.0 b.0

pub data ValueRel (L : Links) : Value → Value → Type 0 where
  undefined : ValueRel L value.Undefined value.Undefined
  null : ValueRel L value.Null value.Null
  truth : {b : Bool} → ValueRel L (value.Bool b) (value.Bool b)
  num : {n : Option ℤ} → ValueRel L (value.Num n) (value.Num n)
  text : {units : List ℕ} → ValueRel L (value.Text units) (value.Text units)
  object : {a b : ObjId} → L.object a.0 b.0 → ValueRel L (value.Object a) (value.Object b)

pub record PropRel (L : Links) (p q : Prop) : Type 0 where
  pub value : ValueRel L p.value q.value
  pub writable : p.writable ≡ q.writable
  pub enumerable : p.enumerable ≡ q.enumerable
  pub configurable : p.configurable ≡ q.configurable

pub record ChangeRel (L : Links) (c d : Change) : Type 0 where
  pub value : Maybe (ValueRel L) c.value d.value
  pub writable : c.writable ≡ d.writable
  pub enumerable : c.enumerable ≡ d.enumerable
  pub configurable : c.configurable ≡ d.configurable

pub record EventRel (L : Links) (p q : EventParts) : Type 0 where
  pub kind : p.kind ≡ q.kind
  pub bubbles : p.bubbles ≡ q.bubbles
  pub cancelable : p.cancelable ≡ q.cancelable
  pub begun : p.begun ≡ q.begun
  pub sent : p.sent ≡ q.sent
  pub target : Maybe (ObjectIds L) p.target q.target
  pub current : Maybe (ObjectIds L) p.current q.current
  pub phase : p.phase ≡ q.phase

pub data ClassRel (L : Links) : Class → Class → Type 0 where
  plain : ClassRel L class.Plain class.Plain
  array : ClassRel L class.List class.List
  page : {c d : Code} {e f : Option EnvId} → L.function c e d f → ClassRel L (class.Page c e) (class.Page d f)
  native : {b : BuiltIn} → ClassRel L (class.Native b) (class.Native b)
  bound : {t u : ObjId} {v w : Value} {vs ws : List Value} → L.object t.0 u.0 → ValueRel L v w → Each (ValueRel L) vs ws → ClassRel L (class.Bound t v vs) (class.Bound u w ws)
  fault : ClassRel L class.Fault class.Fault
  math : ClassRel L class.Math class.Math
  window : ClassRel L class.Window class.Window
  node : {m n : NodeId} → L.node m.0 n.0 → ClassRel L (class.Node m) (class.Node n)
  event : {p q : EventParts} → EventRel L p q → ClassRel L (class.Event p) (class.Event q)

pub record ObjectRel (L : Links) (o p : Object) : Type 0 where
  pub class : ClassRel L o.class p.class
  pub proto : Maybe (ObjectIds L) o.proto p.proto
  pub extensible : o.extensible ≡ p.extensible
  pub closed : o.closed ≡ p.closed
  pub props : Entries (PropRel L) o.props p.props

-- ---- whole lists of objects

-- two ids of the one heap are the same where their counterparts are
pub record IsOneToOne (L : Links) : Type 0 where
  pub same : (a b c d : ℕ) → L.object a b → L.object c d → nat_eq a c ≡ nat_eq b d

-- objects that are not linked do not count
pub record ObjectsRel (L : Links) (os ps : List Object) : Type 0 where
  pub at : (a b : ℕ) → L.object a b → ObjectRel L (object_at os a) (object_at ps b)
  pub inside : (a b : ℕ) → L.object a b → (a < length os) × (b < length ps)
  pub one_to_one : IsOneToOne L

-- ---- larger links, and links by way of a third heap

pub record Grows (L M : Links) : Type 0 where
  pub object : (a b : ℕ) → L.object a b → M.object a b
  pub node : (a b : ℕ) → L.node a b → M.node a b
  pub function : (c d : Code) (e f : Option EnvId) → L.function c e d f → M.function c e d f

pub record Joins (L M P : Links) : Type 0 where
  pub object : (a b c : ℕ) → L.object a b → M.object b c → P.object a c
  pub node : (a b c : ℕ) → L.node a b → M.node b c → P.node a c
  pub function : (c d k : Code) (e f g : Option EnvId) → L.function c e d f → M.function d f k g → P.function c e k g

pub record Turns (L M : Links) : Type 0 where
  pub object : (a b : ℕ) → L.object a b → M.object b a
  pub node : (a b : ℕ) → L.node a b → M.node b a
  pub function : (c d : Code) (e f : Option EnvId) → L.function c e d f → M.function d f c e

-- by way of a third heap
pub record Via (R S : ℕ → ℕ → Type 0) (a c : ℕ) : Type 0 where
  pub middle : ℕ
  pub one : R a middle
  pub two : S middle c

pub record ViaCodes (L M : Links) (c : Code) (e : Option EnvId) (d : Code) (f : Option EnvId) : Type 0 where
  pub middle : Code
  pub round : Option EnvId
  pub one : L.function c e middle round
  pub two : M.function middle round d f

abbrev pub through : Links → Links → Links
through L M = record { object = Via L.object M.object; node = Via L.node M.node; function = ViaCodes L M }

-- the other way round
pub record Back (R : ℕ → ℕ → Type 0) (a b : ℕ) : Type 0 where
  pub back : R b a

pub record BackCodes (L : Links) (c : Code) (e : Option EnvId) (d : Code) (f : Option EnvId) : Type 0 where
  pub back : L.function d f c e

abbrev pub turned : Links → Links
turned L = record { object = Back L.object; node = Back L.node; function = BackCodes L }
