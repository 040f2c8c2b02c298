-- The page once its events are dispatched: things are as fresh as before, but for the parts of events, and nothing else has changed.
use Rattle.std.proofs.Common.{◌≡◌, refl, sym, ap, subst, ◌∙◌, ℕ, ◌<◌, List, Option, Some, None, length, arith}
use Rattle.object_heap.specs.Chain.{object_at}
use Rattle.object_heap.specs.Environment.{Environment}
use Rattle.object_heap.specs.Heap.{Contents}
use Rattle.object_heap.specs.Object.{Object}
use Rattle.object_heap.specs.declared.object.Class.{Class}
use Rattle.object_heap.specs.declared.object.Class.TheVariants as class
use Rattle.page_host.specs.Host.{Host}
use Rattle.page_meaning.specs.Places.{document, window}
use Rattle.page_meaning.specs.Store.{Store}
use Rattle.page_writer.specs.Frame.{nth_node}
use Rattle.rebuild_plan.specs.Events.{SavedEvent, event_as}
use Rattle.rebuilding.specs.Rebuilt.{ClassIsRebuilt, bound, event, fault, list, node, nth, page, plain}
use Rattle.rebuilding.specs.Scene.{Scene}
use Rattle.rebuilding.proofs.EventPhase.{EventsDone, evented, is_event_class}
use Rattle.rebuilding.proofs.NodesAt.{NodesStand}
use Rattle.rebuilding.proofs.OwnObjects.{IsNodeOn, OwnObjects}
use Rattle.rebuilding.proofs.Prevents.{class_stays}
use Rattle.rebuilding.proofs.Stages.{IsFresh, Made, MadeProps}

-- ---- one object

evented_proto : (sites : List ℕ) (o : Object) (e : Option SavedEvent) → (evented sites o e).proto ≡ o.proto
evented_proto sites o None = refl
evented_proto sites o (Some e) = refl

evented_props : (sites : List ℕ) (o : Object) (e : Option SavedEvent) → (evented sites o e).props ≡ o.props
evented_props sites o None = refl
evented_props sites o (Some e) = refl

evented_extensible : (sites : List ℕ) (o : Object) (e : Option SavedEvent) → (evented sites o e).extensible ≡ o.extensible
evented_extensible sites o None = refl
evented_extensible sites o (Some e) = refl

evented_closed : (sites : List ℕ) (o : Object) (e : Option SavedEvent) → (evented sites o e).closed ≡ o.closed
evented_closed sites o None = refl
evented_closed sites o (Some e) = refl

-- what is no event stays, and an event is one
evented_class : {c : Scene} {es : List Environment} {s : Store} {things sites : List ℕ} {k : ℕ} {C D : Class} → ClassIsRebuilt c es s things sites k C D
    → (o : Object) → o.class ≡ D → ClassIsRebuilt c es s things sites k C (evented sites o (event_as things C)).class
evented_class plain o is = subst (ClassIsRebuilt _ _ _ _ _ _ class.Plain) (sym is) plain
evented_class list o is = subst (ClassIsRebuilt _ _ _ _ _ _ class.List) (sym is) list
evented_class fault o is = subst (ClassIsRebuilt _ _ _ _ _ _ class.Fault) (sym is) fault
evented_class (page {code = body} {env = env} round) o is = subst (ClassIsRebuilt _ _ _ _ _ _ (class.Page body env)) (sym is) (page round)
evented_class (bound {target = target} {this = this} {args = args}) o is = subst (ClassIsRebuilt _ _ _ _ _ _ (class.Bound target this args)) (sym is) bound
evented_class (node {a = a}) o is = subst (ClassIsRebuilt _ _ _ _ _ _ (class.Node a)) (sym is) node
evented_class event o is = event

-- a node is no event
node_stays : {c : Scene} {es : List Environment} {s : Store} {things sites : List ℕ} {k : ℕ} {C D : Class} (b : ℕ) → ClassIsRebuilt c es s things sites k C D
    → (o : Object) → o.class ≡ D → (evented sites o (event_as things C)).class ≡ class.Node (nth_node b) → evented sites o (event_as things C) ≡ o
node_stays b plain o is e = refl
node_stays b list o is e = refl
node_stays b fault o is e = refl
node_stays b (page round) o is e = refl
node_stays b bound o is e = refl
node_stays b node o is e = refl
node_stays b event o is e = absurd (cc e)

-- ---- the page

module _ (c : Scene) (s : Store) (things sites : List ℕ) (h i : Contents) (first g : Host) (made : Made c s things h first sites)
    (done : EventsDone c s things sites h g (length things) i) where
  abbrev thing : ℕ → Object
  thing n = object_at s.heap.objects (nth things n)

  abbrev before : ℕ → Object
  before n = object_at h.objects (nth sites n)

  pub object_is : (n : ℕ) → n < length things
      → object_at i.objects (nth sites n) ≡ evented sites (object_at h.objects (nth sites n)) (event_as things (object_at s.heap.objects (nth things n)).class)
  object_is n inside = done.done n inside (omega (arith, inside, made.count))

  pub fresh_still : (n : ℕ) → n < length things
      → IsFresh c i.environments s things sites (nth sites n) (object_at s.heap.objects (nth things n)) (object_at i.objects (nth sites n))
  fresh_still n inside =
      let fresh = made.each n inside in
      subst (IsFresh c i.environments s things sites (nth sites n) (thing n)) (sym (object_is n inside))
      (record {
        class = class_stays c h.environments i.environments done.more_environments done.environments (evented_class fresh.class (before n) refl);
        proto = evented_proto sites (before n) (event_as things (thing n).class) ∙ fresh.proto;
        extensible = evented_extensible sites (before n) (event_as things (thing n).class) ∙ fresh.extensible;
        closed = evented_closed sites (before n) (event_as things (thing n).class) ∙ fresh.closed;
        props = subst (MadeProps (thing n).class (thing n).props) (sym (evented_props sites (before n) (event_as things (thing n).class))) fresh.props;
      })

  -- an object of a node is as it was
  node_object : (n k : ℕ) → n < length sites → IsNodeOn i (nth sites n) k → object_at i.objects (nth sites n) ≡ object_at h.objects (nth sites n)
  node_object n k inside on =
      let low : n < length things = omega (arith, inside, made.count) in
      object_is n low ∙ node_stays k (made.each n low).class (before n) refl (sym (ap (λ (o : Object). o.class) (object_is n low)) ∙ on)

  pub node_was : (n k : ℕ) → n < length sites → IsNodeOn i (nth sites n) k → IsNodeOn h (nth sites n) k
  node_was n k inside on = ap (λ (o : Object). o.class) (sym (node_object n k inside on)) ∙ on

  pub document_stays : object_at i.objects document.0 ≡ object_at h.objects document.0
  document_stays =
      done.objects document.0 (omega (arith, made.running.place.list_young, made.running.place.list_there)) (ap is_event_class made.running.own.document.class)

  pub window_stays : object_at i.objects window.0 ≡ object_at h.objects window.0
  window_stays =
      done.objects window.0 (omega (arith, made.running.place.list_young, made.running.place.list_there)) (ap is_event_class made.running.own.window.class)

  pub nodes_stand_still : NodesStand h sites → NodesStand i sites
  nodes_stand_still nodes = record {
    proto = λ n k inside on. ap (λ (o : Object). o.proto) (node_object n k inside on) ∙ nodes.proto n k inside (node_was n k inside on);
    props = λ n k inside on. ap (λ (o : Object). o.props) (node_object n k inside on) ∙ nodes.props n k inside (node_was n k inside on);
    document_props = ap (λ (o : Object). o.props) document_stays ∙ nodes.document_props;
  }

  pub own_still : (w : Host) → OwnObjects h w sites → OwnObjects i w sites
  own_still w own = record { things = λ n k inside on. own.things n k inside (node_was n k inside on); document = own.document }
