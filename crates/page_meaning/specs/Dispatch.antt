-- Meaning: the dispatch of events (DOM Level 2 Events, section 1.2).
use Rattle.std.specs.Prelude.{Bool, not, List, [], ◌∷◌, Option, Some, None}
use Rattle.js_values.specs.declared.ids.NodeId.{NodeId}
use Rattle.js_values.specs.declared.ids.ObjId.{ObjId}
use Rattle.js_values.specs.declared.throw.Throw.TheVariants.{UnspecifiedEventType}
use Rattle.js_values.specs.declared.value.Value.{Value}
use Rattle.js_values.specs.declared.value.Value.TheVariants as value
use Rattle.object_heap.specs.declared.object.EventParts.{EventParts}
use Rattle.page_host.specs.declared.listener.Listener.{Listener}
use Rattle.page_host.specs.declared.path.Place.{Place}
use Rattle.page_host.specs.Host.{object_of_node}
use Rattle.page_host.specs.Listeners as host
use Rattle.page_host.specs.Paths.{event_path}
use Rattle.page_meaning.specs.Act.{Act, Calls, bind, give, asking, choose}
use Rattle.page_meaning.specs.Classes.{class_of}
use Rattle.page_meaning.specs.Errors.{raise}
use Rattle.page_meaning.specs.Events.{arrives, begins, is_prevented, is_stopped, may_begin, new_parts, rests}
use Rattle.page_meaning.specs.Lines.{put_uncaught}
use Rattle.page_meaning.specs.NodeRows.{on_event, on_node, parts_in}
use Rattle.page_meaning.specs.ObjectRows.{argument}
use Rattle.page_meaning.specs.Primitives.{changes_event}
use Rattle.page_meaning.specs.Store.{Store}

abbrev pub parts_or_new : Option EventParts → EventParts
parts_or_new (Some parts) = parts
parts_or_new None = new_parts

-- the parts of an event
abbrev pub parts_at : Store → ObjId → EventParts
parts_at s e = parts_or_new (parts_in (class_of s (value.Object e)))

-- the listeners that a place takes
abbrev pub round : ObjId → Place → Store → List Listener
round e p s = host.round s.host.listeners (parts_at s e).kind p

abbrev pub is_registered : Listener → Store → Bool
is_registered l s = host.is_registered s.host.listeners l

abbrev pub object_of_place : NodeId → Store → ObjId
object_of_place k s = object_of_node s.host.objects k

-- a listener is called with the event, and `this` is the object of the place; what it throws is put out
abbrev pub run_listener : Calls → ObjId → Place → Listener → Act → Act
run_listener calls e p l next =
    asking (object_of_place p.node)
    (λ at. bind (calls.call (value.Object l.call) (value.Object at) (value.Object e ∷ [])) (λ given. bind (put_uncaught given) (λ _. next)))

-- the listeners of a place, each where it is still registered at its turn, and then what comes next
abbrev pub run_listeners : Calls → ObjId → Place → Act → List Listener → Act
run_listeners calls e p next [] = next
run_listeners calls e p next (l ∷ ls) =
    asking (is_registered l)
    (λ there. choose there (run_listener calls e p l (run_listeners calls e p next ls)) (run_listeners calls e p next ls))

-- the end of a dispatch gives whether no default was prevented
abbrev pub ended : ObjId → Act
ended e = asking (λ s. is_prevented (parts_at s e).phase) (λ b. bind (changes_event e rests) (λ _. give (value.Bool (not b))))

abbrev pub arrive : ObjId → Place → Act → Act
arrive e p next = asking (object_of_place p.node) (λ at. bind (changes_event e (arrives at p.phase)) (λ _. next))

-- place by place, until propagation is stopped; the listeners of a place are fixed as its turn begins
abbrev pub visit_places : Calls → ObjId → List Place → Act
visit_places calls e [] = ended e
visit_places calls e (p ∷ ps) =
    asking (λ s. is_stopped (parts_at s e).phase)
    (λ b. choose b (ended e) (arrive e p (asking (round e p) (run_listeners calls e p (visit_places calls e ps)))))

-- the path is fixed before the first listener runs
abbrev pub dispatch : Calls → ObjId → NodeId → Bool → Act
dispatch calls e k bubbles =
    asking (object_of_place k)
    (λ at. bind (changes_event e (begins at)) (λ _. asking (λ s. event_path s.host.nodes k bubbles) (visit_places calls e)))

-- the event is dispatched at the node, once
abbrev pub deliver : Calls → ObjId → NodeId → Act
deliver calls e k =
    asking (λ s. parts_at s e) (λ parts. choose (may_begin parts) (dispatch calls e k parts.bubbles) (raise UnspecifiedEventType))

abbrev pub dispatch_row : Calls → Value → List Value → Act
dispatch_row calls this vs = on_node this (λ k. on_event (argument vs 0) (λ e parts. deliver calls e k))
