-- Events are initialised and dispatched where they were: then each has the parts that were saved, and is not under dispatch.
use Rattle.std.proofs.Common.{◌≡◌, ◌⊎◌, inl, inr, refl, sym, ap, subst, ◌∙◌, ℕ, suc, ◌+◌, ◌<◌, ◌≤◌, Bool, true, false, nat_lt, List, [], ◌∷◌, ◌++◌, append_assoc, Option, Some, None, length, codes, if◌then◌else◌, arith}
use Rattle.std.proofs.lemmas.Bool.{and_parts, cases_eq, cases_lt}
use Rattle.std.specs.Option.{is_some}
use Rattle.js_values.specs.declared.ids.ObjId.{ObjId}
use Rattle.dom_tree.specs.Steps.{is_there}
use Rattle.object_heap.proofs.Callers.{object_absent}
use Rattle.object_heap.specs.Chain.{object_at}
use Rattle.object_heap.specs.Environment.{environment_at}
use Rattle.object_heap.specs.Heap.{Contents}
use Rattle.object_heap.specs.Object.{Object, changed_event, with_class}
use Rattle.object_heap.specs.Property.{own_property}
use Rattle.object_heap.specs.declared.object.Class.{Class}
use Rattle.object_heap.specs.declared.object.Class.TheVariants as class
use Rattle.object_heap.specs.declared.object.EventParts.{EventParts}
use Rattle.object_shapes.specs.Links.{all_below}
use Rattle.page_host.specs.Host.{Host, object_of_node}
use Rattle.page_meaning.specs.Events.{after_event, begins, initialises, may_begin, new_parts, rests}
use Rattle.page_meaning.specs.Places.{document, event_prototype}
use Rattle.page_meaning.specs.Store.{Store}
use Rattle.rebuild_plan.specs.Events.{SavedEvent, event_as}
use Rattle.rebuild_plan.specs.Moved.{first_thing}
use Rattle.rebuild_plan.specs.Compact.{Compact, things_at}
use Rattle.rebuild_plan.specs.Plan.{dispatch, each, event, thing_place, whole}
use Rattle.rebuild_plan.specs.declared.phase.Phase.TheVariants as phase
use Rattle.rebuild_plan.specs.declared.statement.Rebuild.{Rebuild}
use Rattle.rebuild_plan.specs.declared.statement.Rebuild.TheVariants.{Init, Dispatch}
use Rattle.rebuilding.specs.Rebuilt.{Succeeds, nth}
use Rattle.rebuilding.specs.Running.{IsNodeHere, Lacks, node_of_class, object_here, with_parts}
use Rattle.rebuilding.specs.Scene.{IsHosting, IsRunning, Scene}
use Rattle.rebuilding.specs.Sites.{site, sited, sited_proto}
use Rattle.rebuilding.proofs.Basics.{not_in, one_on}
use Rattle.rebuilding.proofs.Placed.{site_thing}
use Rattle.rebuilding.proofs.SitesApart.{site_there, sites_differ}
use Rattle.rebuilding.proofs.Going.{Allowed, Going, changed_next, going_begins, range_rest, stands_split}

module _ (c : Scene) (End : Contents → Host → List ℕ → Type 0) (sites : List ℕ) (g : Contents) (w : Host) where
  -- ---- one statement

  pub init_next : (h : Contents) (at : ObjId) (kind : List ℕ) (bubbles cancelable : Bool) (rs : List Rebuild) (o : Object) (parts : EventParts)
      → Going c g h w sites (site sites at.0) o → Allowed (length sites) (Init at kind bubbles cancelable ∷ rs)
      → o.class ≡ class.Event parts → o.proto ≡ Some event_prototype → Lacks o (codes "initEvent")
      → ((i : Contents) → Going c g i w sites (site sites at.0) (with_parts o (after_event (initialises kind bubbles cancelable))) → Allowed (length sites) rs → Succeeds c End i w sites rs)
      → Succeeds c End h w sites (Init at kind bubbles cancelable ∷ rs)
  init_next h at kind bubbles cancelable rs o parts going allowed is proto lacks later = (
    record {
      parts = parts;
      stands = (stands_split (length sites) (all_below (first_thing + length sites) (at.0 ∷ [])) rs allowed.stands).0;
      proto = ap (λ (q : Object). q.proto) going.object ∙ proto;
      lacks = ap (λ (q : Object). own_property q.props (codes "initEvent")) going.object ∙ lacks;
      class = ap (λ (q : Object). q.class) going.object ∙ is;
    },
    λ i j after running hosting ran. subst (λ l. Succeeds c End i j l rs) (sym ran.same) (subst (λ v. Succeeds c End i v sites rs) (sym ran.host) (later i
        (changed_next c g h i w j sites after (site sites at.0) o _ (with_parts o (after_event (initialises kind bubbles cancelable))) going running hosting ran
        (ap (λ (q : Object). with_parts q (after_event (initialises kind bubbles cancelable))) going.object))
        (record {
          stands = (stands_split (length sites) (all_below (first_thing + length sites) (at.0 ∷ [])) rs allowed.stands).1;
          in_range = range_rest (Init at kind bubbles cancelable) rs allowed.in_range;
        }))),
  )

  -- what a dispatch at the node leaves of the parts
  abbrev pub sent_at : ObjId → EventParts → EventParts
  sent_at target p = after_event rests (after_event (begins (sited sites target)) p)

  pub dispatch_next : (h : Contents) (target at : ObjId) (rs : List Rebuild) (o : Object) (parts : EventParts)
      → Going c g h w sites (site sites at.0) o → Allowed (length sites) (Dispatch target at ∷ rs)
      → IsNodeHere h w sites target → Lacks (object_here h sites target) (codes "dispatchEvent") → w.listeners ≡ []
      → o.class ≡ class.Event parts → may_begin parts ≡ true → parts.phase ≤ 3
      → ((i : Contents) → Going c g i w sites (site sites at.0) (with_parts o (sent_at target)) → Allowed (length sites) rs → Succeeds c End i w sites rs)
      → Succeeds c End h w sites (Dispatch target at ∷ rs)
  dispatch_next h target at rs o parts going allowed node lacks silent is may low later =
      let names : Bool = all_below (first_thing + length sites) (target.0 ∷ at.0 ∷ []) in
      let split = stands_split (length sites) names rs allowed.stands in (
        record {
          parts = parts;
          is = node;
          lacks = lacks;
          stands = (and_parts (nat_lt target.0 (first_thing + length sites)) (all_below (first_thing + length sites) (at.0 ∷ [])) split.0).1;
          class = ap (λ (q : Object). q.class) going.object ∙ is;
          may = may;
          inside = low;
          silent = silent;
        },
        λ i j after running hosting ran. subst (λ l. Succeeds c End i j l rs) (sym ran.same) (subst (λ v. Succeeds c End i v sites rs) (sym ran.host) (later i
            (changed_next c g h i w j sites after (site sites at.0) o _ (with_parts o (sent_at target)) going running hosting ran
            (ap (λ (q : Object). with_parts q (sent_at target)) going.object))
            (record { stands = split.1; in_range = range_rest (Dispatch target at) rs allowed.in_range }))),
      )

  -- ---- one event, as its maker left it

  -- its parts at rest, begun or not, with this target
  abbrev pub parts_as : SavedEvent → Bool → Option ObjId → EventParts
  parts_as e b t = record {
    kind = e.kind;
    bubbles = e.bubbles;
    cancelable = e.cancelable;
    begun = b;
    sent = is_some t;
    target = t;
    current = None;
    phase = 0;
  }

  -- it was initialised where it has a type or a target
  pub record IsInOrder (e : SavedEvent) : Type 0 where
    pub fresh : e.begun ≡ false → (e.kind ≡ []) × (e.bubbles ≡ false) × (e.cancelable ≡ false) × (e.target ≡ None)

  -- the object of such an event
  abbrev pub event_object : Object → SavedEvent → Object
  event_object o e = with_class o (class.Event (parts_as e e.begun (sited_proto sites e.target)))

  -- the node that it was dispatched at stood when the first event was reached
  abbrev pub IsReached : Option ObjId → Type 0
  IsReached None = Unit {0}
  IsReached (Some target) = IsNodeHere g w sites target × Lacks (object_here g sites target) (codes "dispatchEvent")

  -- what depends on one object alone
  pub node_stays : (i : Contents) (at : ObjId) → object_here i sites at ≡ object_here g sites at → IsNodeHere g w sites at → IsNodeHere i w sites at
  node_stays i at same is = record {
    stands = is.stands;
    proto = ap (λ (q : Object). q.proto) same ∙ is.proto;
    class = ap (λ (q : Object). q.class) same ∙ is.class ∙ sym (ap (λ (q : Object). class.Node (node_of_class q.class)) same);
    there = ap (λ (q : Object). is_there w.nodes (node_of_class q.class)) same ∙ is.there;
    own = ap (λ (q : Object). object_of_node w.objects (node_of_class q.class)) same ∙ is.own;
  }

  -- a node is there
  pub node_there : (at : ObjId) → IsNodeHere g w sites at → site sites at.0 < length g.objects
  node_there at is = by (cases_lt (site sites at.0) (length g.objects))
    where
      by : (site sites at.0 < length g.objects) ⊎ (length g.objects ≤ site sites at.0) → site sites at.0 < length g.objects
      by (inl low) = low
      by (inr high) = let none = ap (λ (q : Object). q.class) (object_absent g.objects (site sites at.0) high) in cc (sym none ∙ is.class)

  module _ (at : ObjId) (o : Object) (first : object_at g.objects (site sites at.0) ≡ o) (made : o.class ≡ class.Event new_parts)
      (proto : o.proto ≡ Some event_prototype) (bare : o.props ≡ []) (silent : w.listeners ≡ []) where
    -- it is no event
    apart : (target : ObjId) → IsNodeHere g w sites target → site sites target.0 ≡ site sites at.0 → ⊥
    apart target is same =
        let both = sym is.class ∙ ap (λ k. (object_at g.objects k).class) same ∙ ap (λ (q : Object). q.class) first ∙ made in cc both

    target_stays : (i : Contents) (p : Object) (target : ObjId) → Going c g i w sites (site sites at.0) p → IsNodeHere g w sites target
        → object_here i sites target ≡ object_here g sites target
    target_stays i p target going is =
        going.stays.objects (site sites target.0) (node_there target is) (not_in (site sites target.0) (site sites at.0) (apart target is))

    pub event_succeeds : (h : Contents) (e : SavedEvent) (rs : List Rebuild) → IsInOrder e → IsReached e.target → Going c g h w sites (site sites at.0) o
        → Allowed (length sites) (event at (Some e) ++ rs)
        → ((i : Contents) → Going c g i w sites (site sites at.0) (event_object o e) → Allowed (length sites) rs → Succeeds c End i w sites rs)
        → Succeeds c End h w sites (event at (Some e) ++ rs)
    event_succeeds h e rs order reached going allowed later = by e.begun refl allowed
      where
        first_parts : with_parts o (after_event (initialises e.kind e.bubbles e.cancelable)) ≡ with_class o (class.Event (parts_as e true None))
        first_parts = ap (λ d. with_class o (changed_event (after_event (initialises e.kind e.bubbles e.cancelable)) d)) made

        sent : e.begun ≡ true → (t : Option ObjId) → e.target ≡ t → IsReached t → (i : Contents) → Going c g i w sites (site sites at.0) (with_class o (class.Event (parts_as e true None)))
            → Allowed (length sites) (dispatch at t ++ rs) → Succeeds c End i w sites (dispatch at t ++ rs)
        sent begun None is none i now more =
            later i (subst (Going c g i w sites (site sites at.0))
            (ap (λ b. with_class o (class.Event (parts_as e b None))) (sym begun) ∙ ap (λ t. with_class o (class.Event (parts_as e e.begun (sited_proto sites t)))) (sym is)) now) more
        sent begun (Some target) is node i now more =
            let here = target_stays i (with_class o (class.Event (parts_as e true None))) target now node.0 in
            dispatch_next i target at rs (with_class o (class.Event (parts_as e true None))) (parts_as e true None) now more (node_stays i target here node.0)
            (ap (λ (q : Object). own_property q.props (codes "dispatchEvent")) here ∙ node.1) silent refl refl (omega arith)
            (λ j done rest. later j (subst (Going c g j w sites (site sites at.0))
            (ap (λ b. with_class o (class.Event (parts_as e b (Some (sited sites target))))) (sym begun)
            ∙ ap (λ t. with_class o (class.Event (parts_as e e.begun (sited_proto sites t)))) (sym is)) done) rest)

        by : (b : Bool) → e.begun ≡ b → Allowed (length sites) (((if b then Init at e.kind e.bubbles e.cancelable ∷ [] else []) ++ dispatch at e.target) ++ rs)
            → Succeeds c End h w sites (((if b then Init at e.kind e.bubbles e.cancelable ∷ [] else []) ++ dispatch at e.target) ++ rs)
        by true begun ok =
            init_next h at e.kind e.bubbles e.cancelable (dispatch at e.target ++ rs) o new_parts going ok made proto
            (ap (λ ps. own_property ps (codes "initEvent")) bare)
            (λ i now more. sent begun e.target refl reached i (subst (Going c g i w sites (site sites at.0)) first_parts now) more)
        by false fresh ok =
            let was = order.fresh fresh in
            let same : o ≡ event_object o e = fresh_object was in
            subst (λ t. Succeeds c End h w sites (dispatch at t ++ rs)) (sym was.3)
            (later h (subst (Going c g h w sites (site sites at.0)) same going) (subst (λ t. Allowed (length sites) (dispatch at t ++ rs)) was.3 ok))
          where
            fresh_object : (e.kind ≡ []) × (e.bubbles ≡ false) × (e.cancelable ≡ false) × (e.target ≡ None) → o ≡ event_object o e
            fresh_object was =
                ap (λ d. with_class o d) made
                ∙ sym (
                ap (λ t. with_class o (class.Event (parts_as e e.begun (sited_proto sites t)))) was.3
                ∙ ap (λ b. with_class o (class.Event (parts_as e b None))) fresh
                ∙ ap (λ k. with_class o (class.Event (record { kind = k; bubbles = e.bubbles; cancelable = e.cancelable; begun = false; sent = false; target = None; current = None; phase = 0 }))) was.0
                ∙ ap (λ b. with_class o (class.Event (record { kind = []; bubbles = b; cancelable = e.cancelable; begun = false; sent = false; target = None; current = None; phase = 0 }))) was.1
                ∙ ap (λ b. with_class o (class.Event (record { kind = []; bubbles = false; cancelable = b; begun = false; sent = false; target = None; current = None; phase = 0 }))) was.2)

-- ---- all events, one after another

abbrev pub is_event_class : Class → Bool
is_event_class (class.Event parts) = true
is_event_class c = false

abbrev pub evented : List ℕ → Object → Option SavedEvent → Object
evented sites o None = o
evented sites o (Some e) = with_class o (class.Event (record {
  kind = e.kind;
  bubbles = e.bubbles;
  cancelable = e.cancelable;
  begun = e.begun;
  sent = is_some (sited_proto sites e.target);
  target = sited_proto sites e.target;
  current = None;
  phase = 0;
}))

-- since the page was g, only objects of events have changed, and the thing with the number m is as it is to be where m is below n
pub record EventsDone (c : Scene) (s : Store) (things sites : List ℕ) (g : Contents) (w : Host) (n : ℕ) (h : Contents) : Type 0 where
  pub running : IsRunning c h sites
  pub hosting : IsHosting h w
  pub more : length g.objects ≤ length h.objects
  pub objects : (k : ℕ) → k < length g.objects → is_event_class (object_at g.objects k).class ≡ false → object_at h.objects k ≡ object_at g.objects k
  pub more_environments : length g.environments ≤ length h.environments
  pub environments : (k : ℕ) → k < length g.environments → environment_at h.environments k ≡ environment_at g.environments k
  pub done : (m : ℕ) → m < n → m < length sites
      → object_at h.objects (nth sites m) ≡ evented sites (object_at g.objects (nth sites m)) (event_as things (object_at s.heap.objects (nth things m)).class)
  pub others : (m : ℕ) → n ≤ m → m < length sites → object_at h.objects (nth sites m) ≡ object_at g.objects (nth sites m)

module _ (c : Scene) (End : Contents → Host → List ℕ → Type 0) (s : Store) (things sites : List ℕ) (g : Contents) (w : Host) (count : length sites ≡ length things)
    (silent : w.listeners ≡ []) where
  abbrev pub saved : ℕ → Option SavedEvent
  saved n = event_as things (object_at s.heap.objects (nth things n)).class

  abbrev pub first : ℕ → Object
  first n = object_at g.objects (nth sites n)

  -- an event as its maker left it
  pub record IsReady (n : ℕ) (e : SavedEvent) : Type 0 where
    pub made : (first n).class ≡ class.Event new_parts
    pub proto : (first n).proto ≡ Some event_prototype
    pub bare : (first n).props ≡ []
    pub order : IsInOrder c End sites g w e
    pub reached : IsReached c End sites g w e.target

  -- what was reached is reached still
  reached_stays : (n : ℕ) (h : Contents) → EventsDone c s things sites g w n h → (t : Option ObjId) → IsReached c End sites g w t → IsReached c End sites h w t
  reached_stays n h so None is = tt
  reached_stays n h so (Some target) is =
      let same : object_here h sites target ≡ object_here g sites target =
      so.objects (site sites target.0) (node_there c End sites g w target is.0) (ap is_event_class is.0.class) in (
        node_stays c End sites g w h target same is.0,
        ap (λ (q : Object). own_property q.props (codes "dispatchEvent")) same ∙ is.1,
      )

  -- the next thing is as it is to be, and nothing else has changed but it
  done_next : (n : ℕ) (h i : Contents) → EventsDone c s things sites g w n h → n < length sites → is_event_class (first n).class ≡ true
      → Going c h i w sites (nth sites n) (evented sites (first n) (saved n)) → EventsDone c s things sites g w (n + 1) i
  done_next n h i so inside event now = record {
    running = now.running;
    hosting = now.hosting;
    more = omega (arith, so.more, now.stays.more);
    objects = λ k low other. now.stays.objects k (omega (arith, low, so.more)) (not_in k (nth sites n) (λ same. kept k other same)) ∙ so.objects k low other;
    more_environments = omega (arith, so.more_environments, now.stays.more_environments);
    environments = λ k low. now.stays.environments k (omega (arith, low, so.more_environments)) ∙ so.environments k low;
    done = λ m low within. by m within low (cases_eq m n);
    others = λ m high within. moves m within (λ e. omega (arith, e, high)) ∙ so.others m (omega (arith, high)) within;
  }
    where
      kept : (k : ℕ) → is_event_class (object_at g.objects k).class ≡ false → k ≡ nth sites n → ⊥
      kept k other same = let both : true ≡ false = sym event ∙ ap (λ j. is_event_class (object_at g.objects j).class) (sym same) ∙ other in cc both

      moves : (m : ℕ) → m < length sites → (m ≡ n → ⊥) → object_at i.objects (nth sites m) ≡ object_at h.objects (nth sites m)
      moves m within apart =
          now.stays.objects (nth sites m) (site_there c h sites m so.running within).1
          (not_in (nth sites m) (nth sites n) (sites_differ sites m n so.running.place.rising within inside apart))

      by : (m : ℕ) → m < length sites → m < n + 1 → (m ≡ n) ⊎ (m ≡ n → ⊥)
          → object_at i.objects (nth sites m) ≡ evented sites (first m) (saved m)
      by m within low (inl same) =
          ap (λ j. object_at i.objects (nth sites j)) same ∙ now.object ∙ ap (λ j. evented sites (first j) (saved j)) (sym same)
      by m within low (inr apart) = moves m within apart ∙ so.done m (omega (arith, low, apart)) within

  -- a thing that is no event
  done_past : (n : ℕ) (h : Contents) → EventsDone c s things sites g w n h → saved n ≡ None → EventsDone c s things sites g w (n + 1) h
  done_past n h so none = record {
    running = so.running;
    hosting = so.hosting;
    more = so.more;
    objects = so.objects;
    more_environments = so.more_environments;
    environments = so.environments;
    done = λ m low within. by m within low (cases_eq m n);
    others = λ m high within. so.others m (omega (arith, high)) within;
  }
    where
      by : (m : ℕ) → m < length sites → m < n + 1 → (m ≡ n) ⊎ (m ≡ n → ⊥)
          → object_at h.objects (nth sites m) ≡ evented sites (first m) (saved m)
      by m within low (inl same) =
          so.others m (omega (arith, same)) within ∙ ap (evented sites (first m)) (sym (ap saved same ∙ none))
      by m within low (inr apart) = so.done m (omega (arith, low, apart)) within

  -- ---- the phase

  abbrev pub After : List Rebuild → Type 0
  After rs = (i : Contents) → EventsDone c s things sites g w (length things) i → Allowed (length sites) rs → Succeeds c End i w sites rs

  abbrev pub AreReady : Type 0
  AreReady = (n : ℕ) → n < length things → (e : SavedEvent) → saved n ≡ Some e → IsReady n e

  one_event : (n : ℕ) (h : Contents) (o : Option SavedEvent) (rest : List Rebuild) → n < length sites → EventsDone c s things sites g w n h → saved n ≡ o
      → ((e : SavedEvent) → o ≡ Some e → IsReady n e) → Allowed (length sites) (event (thing_place n) o ++ rest)
      → ((i : Contents) → EventsDone c s things sites g w (n + 1) i → Allowed (length sites) rest → Succeeds c End i w sites rest)
      → Succeeds c End h w sites (event (thing_place n) o ++ rest)
  one_event n h None rest inside so is ready allowed later = later h (done_past n h so is) allowed
  one_event n h (Some e) rest inside so is ready allowed later =
      let own = ready e refl in
      let at : site sites (thing_place n).0 ≡ nth sites n = site_thing sites n in
      let here : object_at h.objects (site sites (thing_place n).0) ≡ first n = ap (object_at h.objects) at ∙ so.others n (omega arith) inside in
      event_succeeds c End sites h w (thing_place n) (first n) here own.made own.proto own.bare silent h e rest (record { fresh = own.order.fresh })
      (reached_stays n h so e.target own.reached) (going_begins c h w sites (site sites (thing_place n).0) (first n) so.running so.hosting here) allowed
      (λ i now more. later i (done_next n h i so inside (ap is_event_class own.made)
      (subst (λ t. Going c h i w sites (nth sites n) (evented sites (first n) t)) (sym is)
      (subst (λ k. Going c h i w sites k (evented sites (first n) (Some e))) at now))) more)

  each_event : (ks : List ℕ) (n : ℕ) (h : Contents) (rs : List Rebuild) → AreReady → n + length ks ≡ length things
      → ((j : ℕ) → j < length ks → nth ks j ≡ nth things (n + j)) → EventsDone c s things sites g w n h
      → Allowed (length sites) (each phase.Events n (things_at s things ks) ++ rs) → After rs
      → Succeeds c End h w sites (each phase.Events n (things_at s things ks) ++ rs)
  each_event [] n h rs ready total at so allowed later =
      let same : n ≡ length things = omega (arith, total) in
      later h (subst (λ m. EventsDone c s things sites g w m h) same so) allowed
  each_event (k ∷ ks) n h rs ready total at so allowed later =
      let others : List Rebuild = each phase.Events (suc n) (things_at s things ks) in
      let own : Option SavedEvent = event_as things (object_at s.heap.objects k).class in
      let none_more : n + 0 ≡ n = omega arith in
      let here : k ≡ nth things n = at 0 (omega arith) ∙ ap (nth things) none_more in
      let inside : n < length things = omega (arith, total) in
      let is : saved n ≡ own = ap saved_at (sym here) in
      let are : (event (thing_place n) own ++ others) ++ rs ≡ event (thing_place n) own ++ (others ++ rs) = append_assoc (event (thing_place n) own) others rs in
      let next : n + 1 ≡ suc n = omega arith in
      subst (Succeeds c End h w sites) (sym are)
      (one_event n h own (others ++ rs) (omega (arith, inside, count)) so is (λ e found. ready n inside e (is ∙ found)) (subst (Allowed (length sites)) are allowed)
      (λ i done more. each_event ks (suc n) i rs ready (omega (arith, total)) (λ j there. at (suc j) (omega (arith, there)) ∙ ap (nth things) (one_on n j))
      (subst (λ m. EventsDone c s things sites g w m i) next done) more later))
    where
      saved_at : ℕ → Option SavedEvent
      saved_at j = event_as things (object_at s.heap.objects j).class

  -- from the page as the phase finds it; the document is no event
  pub events_succeed : (rs : List Rebuild) (p : Compact) → p.things ≡ things_at s things things → p.document.event ≡ None → AreReady → IsRunning c g sites → IsHosting g w
      → Allowed (length sites) (whole phase.Events p ++ rs) → After rs → Succeeds c End g w sites (whole phase.Events p ++ rs)
  events_succeed rs p are none ready running hosting allowed later =
      let same : whole phase.Events p ≡ each phase.Events 0 (things_at s things things) =
      ap (λ o. event document o ++ each phase.Events 0 p.things) none ∙ ap (each phase.Events 0) are in
      let zero_more : 0 + length things ≡ length things = omega arith in
      subst (λ xs. Succeeds c End g w sites (xs ++ rs)) (sym same)
      (each_event things 0 g rs ready zero_more (λ j there. ap (nth things) (zero_on j))
      (record {
        running = running;
        hosting = hosting;
        more = omega arith;
        objects = λ k low other. refl;
        more_environments = omega arith;
        environments = λ k low. refl;
        done = λ m low within. absurd (omega (arith, low));
        others = λ m high within. refl;
      })
      (subst (λ xs. Allowed (length sites) (xs ++ rs)) same allowed) later)
    where
      zero_on : (j : ℕ) → j ≡ 0 + j
      zero_on j = omega arith
