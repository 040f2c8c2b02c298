-- The dispatch of events in both pages (DOM Level 2 Events, section 1.2). What is handed on, a path or a round, keeps the naming at which it was read.
use Rattle.std.proofs.Common.{◌≡◌, refl, ap, subst, Bool, not, List, Option}
use Rattle.js_values.specs.declared.ids.NodeId.{NodeId}
use Rattle.js_values.specs.declared.ids.ObjId.{ObjId}
use Rattle.js_values.specs.declared.line.LineKind.TheVariants.{Uncaught}
use Rattle.js_values.specs.declared.throw.Throw.TheVariants.{UnspecifiedEventType}
use Rattle.js_values.specs.declared.value.Value.{Value}
use Rattle.object_heap.specs.declared.object.EventParts.{EventParts}
use Rattle.page_host.specs.declared.listener.Listener.{Listener}
use Rattle.page_host.specs.declared.path.Phase.{Phase}
use Rattle.page_host.specs.declared.path.Place.{Place}
use Rattle.page_host.specs.Listeners as host_listeners
use Rattle.page_meaning.specs.Act.{Act, Calls}
use Rattle.page_meaning.specs.Dispatch.{arrive, deliver, dispatch, dispatch_row, ended, object_of_place, parts_at, parts_or_new, round, run_listeners, visit_places}
use Rattle.page_meaning.specs.Events.{arrives, begins, is_prevented, is_stopped, may_begin, rests}
use Rattle.page_meaning.specs.Lines.{put_uncaught}
use Rattle.page_meaning.specs.Store.{Store}
use Rattle.page_meaning.specs.declared.signal.Signal.{Signal}
use Rattle.heap_relations.proofs.Callers.{larger_more, larger_same}
use Rattle.heap_relations.specs.Naming.{Larger, Named, World, named}
use Rattle.heap_relations.specs.Related.{Each, EventRel, Maybe, ValueRel, each, no_more, none, some}
use Rattle.host_relations.proofs.Callers as host
use Rattle.host_relations.proofs.Callers.{linked_up, listener_up, place_up}
use Rattle.host_relations.specs.Hosts.{ListenerRel}
use Rattle.host_relations.specs.Linked.{Linked}
use Rattle.host_relations.specs.Paths.{PlaceRel}
use Rattle.agreement.specs.Acts.{ActRel, Agrees, CallsRel, Equal, Ids, Relation, SignalRel, StoreRel, break, continue, return, thrown, value}
use Rattle.agreement.proofs.Acts.{asking_rel, bind_rel, choose_rel, ret_rel}
use Rattle.agreement.proofs.Called.{calls_up}
use Rattle.agreement.proofs.Descriptors.{truth_same}
use Rattle.agreement.proofs.Ends.{uncaught_text_same}
use Rattle.agreement.proofs.EventSteps.{EventStepRel, arrives_rel, begins_rel, changes_event_rel, rests_rel}
use Rattle.agreement.proofs.Heap.{named_up, put_line_rel, value_up, values_up}
use Rattle.agreement.proofs.NewNodes.{new_parts_rel}
use Rattle.agreement.proofs.ObjectRows.{argument_rel}
use Rattle.agreement.proofs.OnNodes.{on_event_rel, on_node_rel, parts_in_rel}
use Rattle.agreement.proofs.Properties.{class_of_rel}
use Rattle.agreement.proofs.Values.{give_rel, object_value_rel, raise_rel}

-- what a listener or a timer's function throws is put out alike
pub put_uncaught_rel : {V : World} {a b : Signal} → SignalRel V a b → ActRel (Equal {A = Unit {0}}) V (put_uncaught a) (put_uncaught b)
put_uncaught_rel (thrown h) = put_line_rel Uncaught (λ W l s t g. uncaught_text_same g (value_up l h))
put_uncaught_rel (value h) = ret_rel (λ W l. refl)
put_uncaught_rel (return h) = ret_rel (λ W l. refl)
put_uncaught_rel break = ret_rel (λ W l. refl)
put_uncaught_rel continue = ret_rel (λ W l. refl)

-- ---- what is read

parts_or_new_rel : {W : World} {o p : Option EventParts} → Maybe (EventRel (named W)) o p → EventRel (named W) (parts_or_new o) (parts_or_new p)
parts_or_new_rel none = new_parts_rel
parts_or_new_rel (some h) = h

parts_read : {W : World} {s t : Store} (e f : ObjId) → StoreRel W s t → Named W e.0 f.0 → EventRel (named W) (parts_at s e) (parts_at t f)
parts_read e f g n = parts_or_new_rel (parts_in_rel (class_of_rel g (object_value_rel e f n)))

place_object : {W : World} {s t : Store} (k l : NodeId) → StoreRel W s t → Linked W k.0 l.0 → Ids W (object_of_place k s) (object_of_place l t)
place_object k l g i = g.host.objects k l i

abbrev Places : Relation (List Place)
Places W = Each (PlaceRel W)

abbrev Heard : Relation (List Listener)
Heard W = Each (ListenerRel W)

round_rel : {W : World} {s t : Store} (e f : ObjId) (p q : Place) → StoreRel W s t → Named W e.0 f.0 → PlaceRel W p q → Heard W (round e p s) (round f q t)
round_rel {W = W} {s = s} {t = t} e f p q g n r =
    subst (λ x. Heard W (round e p s) (host_listeners.round t.host.listeners x q)) (parts_read e f g n).kind (host.round_read g.host (parts_at s e).kind {p = p} {r = q} r)

-- ---- the end, and the arrival at a place

ended_rel : {V : World} (e f : ObjId) → Named V e.0 f.0 → Agrees V (ended e) (ended f)
ended_rel e f n =
    asking_rel {R = Equal} (λ W l s t g. ap is_prevented (parts_read e f g (named_up l n)).phase) (λ W l x y same.
    bind_rel {R = Equal} (changes_event_rel e f {x = rests} {y = rests} (named_up l n) (λ X j. rests_rel)) (λ X j u v z. give_rel (truth_same (ap not same))))

arrives_same : {W : World} (a b : ObjId) (p q : Phase) → p ≡ q → Named W a.0 b.0 → EventStepRel W (arrives a p) (arrives b q)
arrives_same {W = W} a b p q e n = subst (λ x. EventStepRel W (arrives a p) (arrives b x)) e (arrives_rel n)

-- what goes on, for each larger naming
abbrev Goes : World → Act → Act → Type 0
Goes V a b = (W : World) → Larger V W → Agrees W a b

arrive_rel : {V : World} (e f : ObjId) (p q : Place) (a b : Act) → Named V e.0 f.0 → PlaceRel V p q → Goes V a b → Agrees V (arrive e p a) (arrive f q b)
arrive_rel e f p q a b n place go =
    asking_rel {R = Ids} (λ W l s t g. place_object p.node q.node g (place_up l place).node) (λ W l o r owner.
    bind_rel {R = Equal} (changes_event_rel e f {x = arrives o p.phase} {y = arrives r q.phase} (named_up l n) (λ X j. arrives_same o r p.phase q.phase place.phase (named_up j owner)))
    (λ X j u v z. go X (larger_more l j)))

-- ---- listeners

run_listeners_rel : {U V : World} → Larger U V → (c d : Calls) (e f : ObjId) (p q : Place) (a b : Act) (ls ms : List Listener) → CallsRel V c d → Named V e.0 f.0 → PlaceRel V p q
    → Goes V a b → Heard U ls ms → Agrees V (run_listeners c e p a ls) (run_listeners d f q b ms)
run_listeners_rel g c d e f p q a b _ _ calls sent place go no_more = go _ larger_same
run_listeners_rel {V = V} g c d e f p q a b _ _ calls sent place go (each {a = l} {b = m} {xs = ls} {ys = ms} h hs) =
    let here : ListenerRel V l m = listener_up g h in
    asking_rel {R = Equal} (λ W u s t r. host.registered_same r.host r.heap.objects.one_to_one {l = l} {m = m} (listener_up u here)) (λ W u x y same.
    choose_rel x y same
    (asking_rel {R = Ids} (λ X v s t r. place_object p.node q.node r (place_up (larger_more u v) place).node) (λ X v o r owner.
    let two = larger_more u v in
    bind_rel (calls.call X two (object_value_rel l.call m.call (named_up two here.call)) (object_value_rel o r owner) (each (object_value_rel e f (named_up two sent)) no_more))
    (λ Y w given other told.
    bind_rel {R = Equal} (put_uncaught_rel told) (λ Z z i j k.
    let four = larger_more two (larger_more w z) in
    run_listeners_rel (larger_more g four) c d e f p q a b ls ms (calls_up four calls) (named_up four sent) (place_up four place) (λ S n. go S (larger_more four n)) hs))))
    (run_listeners_rel (larger_more g u) c d e f p q a b ls ms (calls_up u calls) (named_up u sent) (place_up u place) (λ S n. go S (larger_more u n)) hs))

-- ---- places

visit_rel : {U V : World} → Larger U V → (c d : Calls) (e f : ObjId) (ps qs : List Place) → CallsRel V c d → Named V e.0 f.0 → Places U ps qs → Agrees V (visit_places c e ps) (visit_places d f qs)
visit_rel g c d e f _ _ calls sent no_more = ended_rel e f sent
visit_rel {V = V} g c d e f _ _ calls sent (each {a = p} {b = q} {xs = ps} {ys = qs} h hs) =
    let place : PlaceRel V p q = place_up g h in
    asking_rel {R = Equal} (λ W u s t r. ap is_stopped (parts_read e f r (named_up u sent)).phase) (λ W u x y same.
    choose_rel x y same (ended_rel e f (named_up u sent))
    (arrive_rel e f p q _ _ (named_up u sent) (place_up u place) (λ X v.
    let two = larger_more u v in
    asking_rel {R = Heard} (λ Y w s t r. let three = larger_more two w in round_rel e f p q r (named_up three sent) (place_up three place)) (λ Y w ls ms heard.
    let three = larger_more two w in
    run_listeners_rel larger_same c d e f p q (visit_places c e ps) (visit_places d f qs) ls ms (calls_up three calls) (named_up three sent) (place_up three place)
    (λ S n. let four = larger_more three n in visit_rel (larger_more g four) c d e f ps qs (calls_up four calls) (named_up four sent) hs) heard))))

-- ---- the dispatch

dispatch_rel : {V : World} (c d : Calls) (e f : ObjId) (k l : NodeId) (bubbles : Bool) → CallsRel V c d → Named V e.0 f.0 → Linked V k.0 l.0 → Agrees V (dispatch c e k bubbles) (dispatch d f l bubbles)
dispatch_rel c d e f k l bubbles calls sent linked =
    asking_rel {R = Ids} (λ W u s t g. place_object k l g (linked_up u linked)) (λ W u o r owner.
    bind_rel {R = Equal} (changes_event_rel e f {x = begins o} {y = begins r} (named_up u sent) (λ X v. begins_rel (named_up v owner))) (λ X v i j same.
    let two = larger_more u v in
    asking_rel {R = Places} (λ Y w s t g. host.path_read g.host {k = k} {l = l} bubbles (linked_up (larger_more two w) linked)) (λ Y w ps qs path.
    let three = larger_more two w in
    visit_rel larger_same c d e f ps qs (calls_up three calls) (named_up three sent) path)))

pub deliver_rel : {V : World} (c d : Calls) (e f : ObjId) (k l : NodeId) → CallsRel V c d → Named V e.0 f.0 → Linked V k.0 l.0 → Agrees V (deliver c e k) (deliver d f l)
deliver_rel c d e f k l calls sent linked =
    asking_rel {R = λ W. EventRel (named W)} (λ W u s t g. parts_read e f g (named_up u sent)) (λ W u p q h.
    choose_rel (may_begin p) (may_begin q) (rw (h.begun, h.sent) refl)
    (subst (λ b. Agrees W (dispatch c e k p.bubbles) (dispatch d f l b)) h.bubbles (dispatch_rel c d e f k l p.bubbles (calls_up u calls) (named_up u sent) (linked_up u linked)))
    (raise_rel UnspecifiedEventType))

pub dispatch_row_rel : {V : World} {this that : Value} {vs ws : List Value} (c d : Calls) → CallsRel V c d → ValueRel (named V) this that → Each (ValueRel (named V)) vs ws
    → Agrees V (dispatch_row c this vs) (dispatch_row d that ws)
dispatch_row_rel c d calls h r =
    on_node_rel h (λ W l k j i. on_event_rel (argument_rel (values_up l r) 0) (λ X m e f p q n x. deliver_rel c d e f k j (calls_up (larger_more l m) calls) n (linked_up m i)))
