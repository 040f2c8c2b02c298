-- What a part of a dispatch leads to, and the listeners that are left to it.
use Rattle.std.specs.Prelude.{ℕ, ◌+◌, ◌*◌, List, [], ◌∷◌, length, if◌then◌else◌}
use Rattle.js_values.specs.declared.ids.NodeId.{NodeId}
use Rattle.js_values.specs.declared.ids.ObjId.{ObjId}
use Rattle.js_values.specs.declared.value.Value.{Value}
use Rattle.page_host.specs.declared.listener.Listener.{Listener}
use Rattle.page_host.specs.declared.path.Place.{Place}
use Rattle.page_meaning.specs.Act.{Act, Calls}
use Rattle.page_meaning.specs.Calls.{calls_at}
use Rattle.page_meaning.specs.Dispatch.{deliver, is_registered, run_listener, run_listeners, visit_places}
use Rattle.page_meaning.specs.NodeRows.{on_event}
use Rattle.page_meaning.specs.Store.{Store}
use Rattle.page_frames.specs.declared.meter.Meter.{Meter}
use Rattle.page_frames.specs.declared.meter.Next.{Next}
use Rattle.page_frames.specs.Step.{Leads, Lowers}
use Rattle.page_frames.specs.Weight.{heavy, many}

-- however much is left, the act leads there, weighs no more than this, and takes neither a step nor a level of depth itself
abbrev pub Turns : ℕ → (Calls → Act) → Store → Next → Store → Type 0
Turns weight act w next w' = (m : Meter) → Leads (act (calls_at m.depth)) weight w m next w' m

-- the listeners from the next one on that is still registered
abbrev pub registered_from : Store → List Listener → List Listener
registered_from s [] = []
registered_from s (l ∷ ls) = if is_registered l s then l ∷ ls else registered_from s ls

-- the listeners that are left at a place, and then the places after it
abbrev pub left_at : ObjId → Place → List Listener → List Place → Calls → Act
left_at e p ls ps calls = run_listeners calls e p (visit_places calls e ps) ls

-- a listener, and then all that is left
abbrev pub next_at : ObjId → Place → Listener → List Listener → List Place → Calls → Act
next_at e p l ls ps calls = run_listener calls e p l (left_at e p ls ps calls)

-- what so many listeners and so many places after them weigh
abbrev pub weigh_left : List Listener → List Place → ℕ
weigh_left ls ps = length ps * many + 2 * length ls

-- the event that a value must be is dispatched
abbrev pub deliver_value : NodeId → Value → Calls → Act
deliver_value k v calls = on_event v (λ e parts. deliver calls e k)

-- a dispatch begins one level of depth down, where a step has paid for it
abbrev pub BeginsBelow : ObjId → NodeId → Meter → Next → Meter → Type 0
BeginsBelow e k m next m' = (w : Store) → Lowers heavy (λ calls. deliver calls e k) w m next w m'
