-- A page while the statements of a saved page run: a catch clause binds `$$` to a list, which holds the things that stand.
use Rattle.std.specs.Prelude.{◌≡◌, ℕ, suc, ◌+◌, ◌<◌, ◌≤◌, Bool, true, false, not, ◌&&◌, nat_eq, nat_le, nat_lt, List, [], ◌∷◌, Option, Some, None, length, codes, IsTrue}
use Rattle.std.specs.Fmt.{decimal}
use Rattle.std.specs.List.{list_all}
use Rattle.std.specs.List.Sorted.{IsStrictlyIncreasing}
use Rattle.js_values.specs.declared.ids.EnvId.{EnvId}
use Rattle.js_values.specs.declared.value.Value.TheVariants.{Object as Reference}
use Rattle.object_heap.specs.Chain.{object_at}
use Rattle.object_heap.specs.Define.{length_name, number}
use Rattle.object_heap.specs.Environment.{Bound, Environment, environment_at, new_environment}
use Rattle.object_heap.specs.Heap.{Contents, IsSound}
use Rattle.object_heap.specs.Object.{Object, whole_object}
use Rattle.object_heap.specs.Property.{Props}
use Rattle.object_heap.specs.declared.object.Class.TheVariants as class
use Rattle.object_heap.specs.declared.property.Prop.{Prop}
use Rattle.page_meaning.specs.Descriptors.{open_property}
use Rattle.page_meaning.specs.Names.{Here}
use Rattle.page_host.specs.Host.{Host, object_of_node}
use Rattle.page_meaning.specs.Places.{array_prototype, at_place, built_in_count, document, node_prototype, window}
use Rattle.page_meaning.specs.Store.{Store, silent}
use Rattle.dom_tree.specs.Node.{node_at}
use Rattle.dom_tree.specs.declared.content.Kind.TheVariants.{Document}
use Rattle.page_host.specs.Sound as host
use Rattle.page_writer.specs.Frame.{bare_node, frame_nodes, nth_node}
use Rattle.object_shapes.specs.Shapes.{IsWindow, built_in_at}

-- the environment of the catch clause, and the place of the list
pub record Scene : Type 0 where
  pub env : ℕ
  pub list : ℕ

abbrev pub env_at : ℕ → EnvId
env_at k = record { 0 = k }

-- where the statements run
abbrev pub inside : Scene → Here
inside c = record { env = Some (env_at c.env); this = Reference window }

-- ---- the list

abbrev pub elements : ℕ → List ℕ → Props
elements n [] = []
elements n (k ∷ ks) = (decimal n, open_property (Reference (at_place k))) ∷ elements (suc n) ks

abbrev pub list_length : ℕ → Prop
list_length n = record { value = number n; writable = true; enumerable = false; configurable = false }

abbrev pub list_of : List ℕ → Object
list_of sites = whole_object class.List (Some array_prototype) ((length_name, list_length (length sites)) ∷ elements 0 sites)

-- ---- the environments of a function

-- the environment that binds these names to these values: one in that of the catch clause, or where there are none, that itself
pub data IsBinding (c : Scene) (es : List Environment) : Bound → ℕ → Type 0 where
  none_needed : IsBinding c es [] c.env
  needed : {names : Bound} (e : ℕ) → e < length es → environment_at es e ≡ new_environment (Some (env_at c.env)) names → IsBinding c es names e

-- a function at this place stands in the environment that binds what it needs; where it has a name, one between binds the name to it
pub data IsRoundOf (c : Scene) (es : List Environment) (k : ℕ) (needs : Bound) : Option (List ℕ) → Option EnvId → Type 0 where
  bare : {b : ℕ} → IsBinding c es needs b → IsRoundOf c es k needs None (Some (env_at b))
  named : {x : List ℕ} {b : ℕ} (e : ℕ) → IsBinding c es needs b → e < length es
      → environment_at es e ≡ new_environment (Some (env_at b)) ((x, Reference (at_place k)) ∷ [])
      → IsRoundOf c es k needs (Some x) (Some (env_at e))

-- ---- the page

-- what a page begins with: the built-in objects, and those of the document, `html` and `script`
abbrev pub frame_count : ℕ
frame_count = built_in_count + length frame_nodes

-- a page with these objects, environments and nodes, which has put out nothing
abbrev pub page_with : Contents → Host → Store
page_with h g = silent h g

-- a thing stands at the place: it is younger than what a page begins with, and not the list
abbrev pub is_site : Scene → Contents → ℕ → Bool
is_site c h k = nat_le frame_count k && (nat_lt k (length h.objects) && not (nat_eq k c.list))

-- the document's object, which may have properties of its own
pub record IsDocument (o : Object) : Type 0 where
  pub class : o.class ≡ class.Node (nth_node 0)
  pub proto : o.proto ≡ Some node_prototype

-- the list holds the things at these sites, in the environment of the catch clause. It is all that is asked of a page by statements that read
-- its own elements alone
pub record IsPlaced (c : Scene) (h : Contents) (sites : List ℕ) : Type 0 where
  pub sound : IsSound h
  pub list : object_at h.objects c.list ≡ list_of sites
  pub list_young : frame_count ≤ c.list
  pub list_there : c.list < length h.objects
  pub scope : environment_at h.environments c.env ≡ new_environment None ((codes "$$", Reference (at_place c.list)) ∷ [])
  pub scope_there : c.env < length h.environments
  pub stand : IsTrue (list_all (is_site c h) sites)
  pub rising : IsStrictlyIncreasing sites
  -- no more than an array has elements
  pub few : length sites ≤ 4294967295

-- what is built in is as it was
pub record IsBuiltIn (h : Contents) : Type 0 where
  pub objects : (k : ℕ) → 0 < k → k < built_in_count → object_at h.objects k ≡ built_in_at k
  pub document : IsDocument (object_at h.objects document.0)
  pub window : IsWindow (object_at h.objects window.0)

pub record IsRunning (c : Scene) (h : Contents) (sites : List ℕ) : Type 0 where
  pub place : IsPlaced c h sites
  pub own : IsBuiltIn h

-- what the host keeps beside: each node has its object
pub record IsHosting (h : Contents) (g : Host) : Type 0 where
  pub sound : host.IsSound g
  pub objects : (k : ℕ) → k < length g.nodes → (object_at h.objects (object_of_node g.objects (nth_node k)).0).class ≡ class.Node (nth_node k)
  pub clock : g.clock ≡ 0

-- after the second line: the document is alone, nobody listens, and no timer runs
pub record IsCleared (h : Contents) (g : Host) : Type 0 where
  pub hosting : IsHosting h g
  pub alone : node_at g.nodes 0 ≡ bare_node Document None []
  pub listeners : g.listeners ≡ []
  pub timers : g.timers ≡ []
