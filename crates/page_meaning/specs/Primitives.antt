-- Meaning: the primitives. They alone touch the store; all else is put together of them.
use Rattle.std.specs.Prelude.{◌≡◌, true, refl, ℕ, zero, suc, List, [], ◌∷◌, length, Option}
use Rattle.std.proofs.Common.{le_refl}
use Rattle.std.proofs.Math.Nat.{le-suc}
use Rattle.js_values.specs.declared.line.LineKind.{LineKind}
use Rattle.js_values.specs.declared.ids.EnvId.{EnvId}
use Rattle.js_values.specs.declared.ids.ObjId.{ObjId}
use Rattle.js_values.specs.declared.throw.Throw.{Throw}
use Rattle.js_values.specs.declared.value.Value.{Value}
use Rattle.object_heap.specs.declared.property.Change.{Change}
use Rattle.object_heap.specs.Environment.{Bound}
use Rattle.object_heap.specs.Heap.{Contents, IsFit, delete, look_in, prevent_extensions}
use Rattle.object_heap.specs.Laws.{Step, deletes, prevents, makes, opens, binds, after_steps}
use Rattle.object_heap.specs.Object.{Object}
use Rattle.dom_tree.specs.declared.content.Kind.{Kind}
use Rattle.page_meaning.specs.Act.{ActOf, Outcome, Ended, Stopped, LeadsTo}
use Rattle.page_meaning.specs.Kept.{AddNone, heap_changed, keeps_all, one_step}
use Rattle.dom_tree.specs.Steps.{NodeStep}
use Rattle.page_host.specs.Steps.{HostStep, in_nodes}
use Rattle.page_meaning.specs.Classes.{is_made}
use Rattle.page_meaning.specs.Events.{EventStep}
use Rattle.page_meaning.specs.Places.{at_place}
use Rattle.page_meaning.specs.Steps as page
use Rattle.page_meaning.specs.Store.{Store, with_heap, with_line}

-- what the store tells
abbrev pub tells : {A : Type 0} → (Store → A) → ActOf A
tells f = record { run = λ s n. Ended (f s) s n; leads = λ s n. (le_refl n, keeps_all s) }

-- calls of the heap, and what they tell
abbrev pub does : {A : Type 0} → (Contents → A) → (g : Contents → List Step) → ((h : Contents) → AddNone (g h)) → ActOf A
does f g none = record {
  run = λ s n. Ended (f s.heap) (with_heap s (after_steps s.heap (g s.heap))) n;
  leads = λ s n. (le_refl n, heap_changed s (g s.heap) (none s.heap));
}

abbrev pub one_less : Store → ℕ → Outcome (Unit {0})
one_less s zero = Stopped s
one_less s (suc n) = Ended tt s n

pub one_less_leads : (s : Store) (n : ℕ) → LeadsTo s n (one_less s n)
one_less_leads s zero = keeps_all s
one_less_leads s (suc n) = (le-suc n, keeps_all s)

-- takes a step, or stops all where none is left
abbrev pub take_step : ActOf (Unit {0})
take_step = record { run = one_less; leads = one_less_leads }

-- all stops
abbrev pub stop : {A : Type 0} → ActOf A
stop = record { run = λ s n. Stopped s; leads = λ s n. keeps_all s }

-- one more line
abbrev pub put_line : LineKind → (Store → List ℕ) → ActOf (Unit {0})
put_line kind words = record {
  run = λ s n. Ended tt (with_line kind (words s) s) n;
  leads = λ s n. (le_refl n, one_step s (page.puts_out (record { kind = kind; text = words s })));
}

-- [[Put]], [[DefineOwnProperty]], [[Delete]] and the end of extensions, each with the error that is thrown
abbrev pub put_at : ObjId → List ℕ → Value → ActOf (Option Throw)
put_at at x v = record {
  run = λ s n. Ended (page.put_tried s at x v).thrown (page.after_step s (page.puts at x v)) n;
  leads = λ s n. (le_refl n, one_step s (page.puts at x v));
}

abbrev pub define_at : ObjId → List ℕ → Change → ActOf (Option Throw)
define_at at x change = record {
  run = λ s n. Ended (page.define_tried s at x change).thrown (page.after_step s (page.defines at x change)) n;
  leads = λ s n. (le_refl n, one_step s (page.defines at x change));
}

abbrev pub delete_at : ObjId → List ℕ → ActOf (Option Throw)
delete_at at x = does (λ h. (delete h at.0 x).thrown) (λ h. deletes at.0 x ∷ []) (λ h. (refl, tt))

abbrev pub prevent_at : ObjId → ActOf (Option Throw)
prevent_at at = does (λ h. (prevent_extensions h at.0).thrown) (λ h. prevents at.0 ∷ []) (λ h. (refl, tt))

-- the place of the object that is made next
abbrev pub next_place : Contents → ObjId
next_place h = at_place (length h.objects)

-- a new object
abbrev pub make : (o : Object) → IsFit o → is_made o.class ≡ true → ActOf ObjId
make o fit made = does next_place (λ h. makes o fit ∷ []) (λ h. (made, tt))

-- a new environment in which these names are bound
abbrev pub make_environment : Option EnvId → Bound → ActOf EnvId
make_environment outer names = does (λ h. record { 0 = length h.environments }) (λ h. opens outer names ∷ []) (λ h. (refl, tt))

-- where a name is bound outwards from an environment, with its value
abbrev pub find_name : Option EnvId → List ℕ → ActOf (Option (EnvId × Value))
find_name env x = tells (λ s. look_in s.heap.environments env x)

-- the name of an environment takes the value
abbrev pub bind_name : EnvId → List ℕ → Value → ActOf (Unit {0})
bind_name e x v = does (λ h. tt) (λ h. binds e.0 x v ∷ []) (λ h. (refl, tt))

-- one thing is done to the page
abbrev pub changes : page.Step → ActOf (Unit {0})
changes g = record { run = λ s n. Ended tt (page.after_step s g) n; leads = λ s n. (le_refl n, one_step s g) }

-- to an event, to what the host keeps, to the nodes
abbrev pub changes_event : ObjId → EventStep → ActOf (Unit {0})
changes_event at g = changes (page.in_event at g)

abbrev pub changes_host : HostStep → ActOf (Unit {0})
changes_host g = changes (page.in_host g)

abbrev pub changes_nodes : NodeStep → ActOf (Unit {0})
changes_nodes g = changes_host (in_nodes g)

-- a new node, alone, and its object, which is given
abbrev pub make_node : Kind → ActOf ObjId
make_node k = record {
  run = λ s n. Ended (next_place s.heap) (page.after_step s (page.makes_node k)) n;
  leads = λ s n. (le_refl n, one_step s (page.makes_node k));
}

-- a new event
abbrev pub make_event : ActOf ObjId
make_event = record {
  run = λ s n. Ended (next_place s.heap) (page.after_step s page.makes_event) n;
  leads = λ s n. (le_refl n, one_step s page.makes_event);
}
