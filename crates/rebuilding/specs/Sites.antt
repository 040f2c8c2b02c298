-- Sites: where the things of a plan stand in the page that its statements rebuild. The nth of these places is that of the thing with
-- number n; built-in objects and the document's keep theirs.
use Rattle.std.specs.Prelude.{ℕ, ◌-◌, List, [], ◌∷◌, Option, Some, None, nat_lt, slice_index_or, if◌then◌else◌}
use Rattle.heap_relations.specs.Naming.{Pair, pair}
use Rattle.js_values.specs.declared.ids.ObjId.{ObjId}
use Rattle.js_values.specs.declared.value.Value.{Value}
use Rattle.js_values.specs.declared.value.Value.TheVariants.{Object as Reference}
use Rattle.object_heap.specs.Define.{with_value}
use Rattle.object_heap.specs.Environment.{Bound}
use Rattle.object_heap.specs.Property.{Props}
use Rattle.object_heap.specs.declared.property.Prop.{Prop}
use Rattle.rebuild_plan.specs.Moved.{first_thing}

-- those at the same places of two lists, as things and their sites
abbrev pub pairs : List ℕ → List ℕ → List Pair
pairs [] js = []
pairs (k ∷ ks) [] = []
pairs (k ∷ ks) (j ∷ js) = pair k j ∷ pairs ks js

-- of what a plan names by this place
abbrev pub site : List ℕ → ℕ → ℕ
site sites k = if nat_lt k first_thing then k else slice_index_or sites (k - first_thing) 0

abbrev pub sited : List ℕ → ObjId → ObjId
sited sites at = record { 0 = site sites at.0 }

abbrev pub sited_value : List ℕ → Value → Value
sited_value sites (Reference at) = Reference (sited sites at)
sited_value sites v = v

abbrev pub sited_values : List ℕ → List Value → List Value
sited_values sites [] = []
sited_values sites (v ∷ vs) = sited_value sites v ∷ sited_values sites vs

-- names with what they hold
abbrev pub sited_needs : List ℕ → List (List ℕ × Value) → Bound
sited_needs sites [] = []
sited_needs sites (n ∷ ns) = (n.0, sited_value sites n.1) ∷ sited_needs sites ns

abbrev pub sited_proto : List ℕ → Option ObjId → Option ObjId
sited_proto sites None = None
sited_proto sites (Some at) = Some (sited sites at)

abbrev pub sited_prop : List ℕ → Prop → Prop
sited_prop sites p = with_value p (sited_value sites p.value)

abbrev pub sited_props : List ℕ → Props → Props
sited_props sites [] = []
sited_props sites (e ∷ es) = (e.0, sited_prop sites e.1) ∷ sited_props sites es
