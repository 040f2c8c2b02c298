-- The dispatch of events.
use Rattle.std.proofs.Common.{Bool, not, List, [], ◌∷◌}
use Rattle.js_values.specs.declared.ids.NodeId.{NodeId}
use Rattle.js_values.specs.declared.ids.ObjId.{ObjId}
use Rattle.js_values.specs.declared.throw.Throw.TheVariants.{UnspecifiedEventType}
use Rattle.js_values.specs.declared.value.Value.{Value}
use Rattle.js_values.specs.declared.value.Value.TheVariants as value
use Rattle.page_host.specs.declared.listener.Listener.{Listener}
use Rattle.page_host.specs.declared.path.Place.{Place}
use Rattle.page_host.specs.Paths.{event_path}
use Rattle.page_meaning.specs.Act.{Act, Calls}
use Rattle.page_meaning.specs.Dispatch.{arrive, deliver, dispatch, dispatch_row, ended, object_of_place, parts_at, round, run_listener, run_listeners, visit_places}
use Rattle.page_meaning.specs.Events.{arrives, begins, is_stopped, may_begin, rests}
use Rattle.page_meaning.specs.ObjectRows.{argument}
use Rattle.literal_values.specs.Values.{AreBounded, IsBounded}
use Rattle.written_pages.proofs.Acts.{asking_any, bind_is, choose_is, give_is}
use Rattle.written_pages.proofs.Lines.{put_uncaught_is}
use Rattle.written_pages.proofs.OnNodes.{on_event_is, on_node_is}
use Rattle.written_pages.proofs.Primitives.{changes_event_is, raise_is}
use Rattle.written_pages.specs.Acts.{CallsAre, Writes}

run_listener_is : {calls : Calls} {next : Act} → CallsAre calls → (e : ObjId) (p : Place) (l : Listener) → Writes next → Writes (run_listener calls e p l next)
run_listener_is c e p l h =
    asking_any (λ at. bind_is (c.call (value.Object l.call) (value.Object at) (value.Object e ∷ []) tt (tt, tt)) (λ given q. bind_is (put_uncaught_is given) (λ u r. h)))

run_listeners_is : {calls : Calls} {next : Act} → CallsAre calls → (e : ObjId) (p : Place) (ls : List Listener) → Writes next → Writes (run_listeners calls e p next ls)
run_listeners_is c e p [] h = h
run_listeners_is c e p (l ∷ ls) h =
    asking_any (λ there. choose_is there (run_listener_is c e p l (run_listeners_is c e p ls h)) (run_listeners_is c e p ls h))

ended_is : (e : ObjId) → Writes (ended e)
ended_is e = asking_any (λ b. bind_is (changes_event_is e rests tt) (λ u p. give_is (value.Bool (not b)) tt))

arrive_is : {next : Act} (e : ObjId) (p : Place) → Writes next → Writes (arrive e p next)
arrive_is e p h = asking_any (λ at. bind_is (changes_event_is e (arrives at p.phase) tt) (λ u q. h))

visit_places_is : {calls : Calls} → CallsAre calls → (e : ObjId) (ps : List Place) → Writes (visit_places calls e ps)
visit_places_is c e [] = ended_is e
visit_places_is c e (p ∷ ps) =
    asking_any {f = λ s. is_stopped (parts_at s e).phase}
    (λ b. choose_is b (ended_is e) (arrive_is e p (asking_any {f = round e p} (λ ls. run_listeners_is c e p ls (visit_places_is c e ps)))))

dispatch_is : {calls : Calls} → CallsAre calls → (e : ObjId) (k : NodeId) (bubbles : Bool) → Writes (dispatch calls e k bubbles)
dispatch_is c e k bubbles =
    asking_any {f = object_of_place k}
    (λ at. bind_is (changes_event_is e (begins at) tt) (λ u p. asking_any {f = λ s. event_path s.host.nodes k bubbles} (λ ps. visit_places_is c e ps)))

-- the event is dispatched at the node, once
pub deliver_is : {calls : Calls} → CallsAre calls → (e : ObjId) (k : NodeId) → Writes (deliver calls e k)
deliver_is c e k = asking_any {f = λ s. parts_at s e} (λ parts. choose_is (may_begin parts) (dispatch_is c e k parts.bubbles) (raise_is UnspecifiedEventType tt))

pub dispatch_row_is : {calls : Calls} → CallsAre calls → (this : Value) (vs : List Value) → IsBounded this → AreBounded vs → Writes (dispatch_row calls this vs)
dispatch_row_is c this vs h k = on_node_is this (λ n. on_event_is (argument vs 0) (λ e parts. deliver_is c e n))
