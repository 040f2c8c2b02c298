-- What is related for the naming of a page that was saved and the one that was rebuilt: values, properties and whole things.
use Rattle.std.specs.Prelude.{unwrap_or}
use Rattle.std.specs.Option.{option_map}
use Rattle.std.proofs.Common.{◌≡◌, inl, inr, refl, sym, ap, subst, suc, is_some, ◌∙◌, ℕ, ◌<◌, Bool, true, false, bytes_eq, List, [], ◌∷◌, ◌++◌, Option, Some, None, length, arith}
use Rattle.std.proofs.lemmas.Slice.Eq.{bytes_eq-Decides}
use Rattle.js_core.specs.Tree.{Code}
use Rattle.js_values.specs.declared.ids.EnvId.{EnvId}
use Rattle.js_values.specs.declared.ids.ObjId.{ObjId}
use Rattle.js_values.specs.declared.value.Value.{Value}
use Rattle.js_values.specs.declared.value.Value.TheVariants as value
use Rattle.object_heap.specs.Chain.{object_at}
use Rattle.object_heap.specs.Heap.{Contents}
use Rattle.object_heap.specs.Object.{Object}
use Rattle.object_heap.specs.Property.{Props}
use Rattle.object_heap.specs.declared.object.Class.{Class}
use Rattle.object_heap.specs.declared.object.Class.TheVariants as class
use Rattle.object_heap.specs.declared.object.EventParts.{EventParts}
use Rattle.page_host.specs.Host.{Host}
use Rattle.page_meaning.specs.Store.{Store}
use Rattle.scope_analysis.specs.Needs.{needed_variables}
use Rattle.scope_analysis.specs.Names.{is_among}
use Rattle.heap_relations.proofs.Callers.{is_some_same}
use Rattle.heap_relations.specs.Naming.{based, Named, named, World}
use Rattle.heap_relations.specs.Related.{array, bound, ClassRel, Each, each, Entries, entry, event, EventRel, fault, Maybe, no_entries, no_more, node, none, null, num, object, ObjectIds, ObjectRel, page, plain, PropRel, some, text, truth, undefined, ValueRel}
use Rattle.agreement.specs.Trees.{code_fits}
use Rattle.heap_walker.specs.Still.{IsFunctionAtRest, IsQuiet, Still}
use Rattle.heap_walker.specs.Things.{bound_value, bound_values, class_links, host_links, is_in, IsWalk, needs_links}
use Rattle.rebuild_plan.specs.Events.{event_as, event_of}
use Rattle.rebuild_plan.specs.Compact.{moved_props, moved_proto, moved_value, moved_values, place_of}
use Rattle.rebuilding.specs.Frames.{round_frame}
use Rattle.rebuilding.specs.Rebuilt as rebuilt
use Rattle.rebuilding.specs.Rebuilt.{ClassIsRebuilt, HostIsRebuilt, IsRebuiltAs, IsRested, nth, sited_event}
use Rattle.rebuilding.specs.Scene.{Scene}
use Rattle.rebuilding.specs.Sites.{site, sited_props, sited_proto, sited_value, sited_values}
use Rattle.heap_walker.proofs.Callers.{among_left, among_right, host_among, links_in_walk, made_among, props_among}
use Rattle.rebuilding.proofs.ByPlaces.{nothing_same}
use Rattle.rebuilding.proofs.Known.{AreKnown, IsKnown, head_in}
use Rattle.rebuilding.proofs.Naming.{based_at, built_in_paired, nodes_paired, rebuilt_world, site_of_built_in, thing_at, thing_paired}
use Rattle.rebuilding.proofs.Placed.{is_thing_at, place_in, thing_inside, young_walk}
use Rattle.page_meaning.specs.Places.{document}
use Rattle.object_shapes.specs.Shapes.{HasShape}
use Rattle.object_shapes.specs.Links.{props_links, proto_links, value_links, values_links}

-- ---- things

pub there_at : (s : Store) (things : List ℕ) → IsWalk s things → (n : ℕ) → n < length things → nth things n < length s.heap.objects
there_at s things walk n below = (thing_inside s (nth things n) (is_thing_at s things n walk below)).1

-- a function among them is at rest
pub rest_at : (s : Store) (things : List ℕ) → Still s → IsWalk s things → (n : ℕ) → n < length things → (source : Code) (env : Option EnvId)
    → (object_at s.heap.objects (nth things n)).class ≡ class.Page source env → IsFunctionAtRest s (nth things n) source env
rest_at s things still walk n below source env is = still.functions (nth things n) source env (walk.sound (nth things n) (place_in things n below)) is

-- ---- what is named

-- what its needed variables hold is known
need_linked : (s : Store) (env : Option EnvId) (xs : List (List ℕ)) (x : List ℕ) (j : ℕ) → is_among x xs ≡ true
    → is_in j (value_links (bound_value s env x)) ≡ true → is_in j (needs_links (bound_values s env xs)) ≡ true
need_linked s env [] x j among h = cc among
need_linked s env (y ∷ ys) x j among h = by (bytes_eq x y) refl (λ more. need_linked s env ys x j more h)
  where
    by : (b : Bool) → bytes_eq x y ≡ b → (is_among x ys ≡ true → is_in j (needs_links (bound_values s env ys)) ≡ true)
        → is_in j (needs_links (bound_values s env (y ∷ ys))) ≡ true
    by true same later =
        among_left j (value_links (bound_value s env y)) (needs_links (bound_values s env ys))
        (subst (λ z. is_in j (value_links (bound_value s env z)) ≡ true) ((bytes_eq-Decides x y).0 same) h)
    by false other later =
        among_right j (value_links (bound_value s env y)) (needs_links (bound_values s env ys)) (later (rw other at among))

pub need_known : (s : Store) (things : List ℕ) → Still s → IsWalk s things → (n : ℕ) → n < length things → (source : Code) (env : Option EnvId)
    → (object_at s.heap.objects (nth things n)).class ≡ class.Page source env → (x : List ℕ) → is_among x (needed_variables source) ≡ true
    → (j : ℕ) → is_in j (value_links (bound_value s env x)) ≡ true → IsKnown things j
need_known s things still walk n below source env is x among j h =
    let k : ℕ = nth things n in
    let o : Object = object_at s.heap.objects k in
    let linked : is_in j (class_links s o.class) ≡ true =
    subst (λ d. is_in j (class_links s d) ≡ true) (sym is) (need_linked s env (needed_variables source) x j among h)
    in
    links_in_walk s things still walk k (place_in things n below) j (made_among s k j (among_right j (proto_links o.proto) (class_links s o.class) linked))

-- an event among them is not under dispatch, and its target is known
record IsKeptEvent (things : List ℕ) (p : EventParts) : Type 0 where
  quiet : IsQuiet p
  sent : p.sent ≡ is_some p.target
  known : (j : ℕ) → is_in j (proto_links p.target) ≡ true → IsKnown things j

pub shaped_sent : (s : Store) (o : Object) (c : Class) (p : EventParts) → c ≡ class.Event p → HasShape s o c → p.sent ≡ is_some p.target
shaped_sent s o (class.Event q) p e shape = let same : q ≡ p = cc e in subst (λ (r : EventParts). r.sent ≡ is_some r.target) same shape.2.sent
shaped_sent s o class.Plain p e shape = absurd (cc e)
shaped_sent s o class.List p e shape = absurd (cc e)
shaped_sent s o class.Fault p e shape = absurd (cc e)
shaped_sent s o class.Math p e shape = absurd (cc e)
shaped_sent s o class.Window p e shape = absurd (cc e)
shaped_sent s o (class.Native which) p e shape = absurd (cc e)
shaped_sent s o (class.Page c env) p e shape = absurd (cc e)
shaped_sent s o (class.Bound target this args) p e shape = absurd (cc e)
shaped_sent s o (class.Node k) p e shape = absurd (cc e)

event_kept : (s : Store) (things : List ℕ) → Still s → IsWalk s things → (n : ℕ) → n < length things → (p : EventParts)
    → (object_at s.heap.objects (nth things n)).class ≡ class.Event p → IsKeptEvent things p
event_kept s things still walk n below p is =
    let k : ℕ = nth things n in
    let o : Object = object_at s.heap.objects k in
    record {
      quiet = still.events k p is;
      sent = shaped_sent s o o.class p is (still.shaped.made k (is_thing_at s things n walk below));
      known = λ j i. links_in_walk s things still walk k (place_in things n below) j (host_among s k j (subst (λ d. is_in j (host_links s.host d) ≡ true) (sym is) i));
    }

module _ (s : Store) (h : Contents) (things sites : List ℕ) (walk : IsWalk s things) (count : length sites ≡ length things) where
  abbrev W : World
  W = rebuilt_world s h things sites

  pub named_site : (k : ℕ) → IsKnown things k → Named (rebuilt_world s h things sites) k (site sites (place_of things k))
  named_site k (inl low) =
      let same : site sites (place_of things k) ≡ k = site_of_built_in things sites k low (young_walk s things walk) in
      subst (λ j. Named W k j) (sym same) (record { named = built_in_paired things sites k (omega (arith, low)) })
  named_site k (inr found) =
      let t = thing_at things sites k found in
      let pair : Named W (nth things t.place) (nth sites t.place) = record { named = thing_paired things sites count t.place t.below } in
      subst (λ j. Named W k j) (sym t.two) (subst (λ i. Named W i (nth sites t.place)) (sym t.one) pair)

  pub value_rel : (v : Value) → AreKnown things (value_links v)
      → ValueRel (named (rebuilt_world s h things sites)) v (sited_value sites (moved_value things v))
  value_rel value.Undefined known = undefined
  value_rel value.Null known = null
  value_rel (value.Bool b) known = truth
  value_rel (value.Num n) known = num
  value_rel (value.Text t) known = text
  value_rel (value.Object at) known = object (named_site at.0 (known at.0 (head_in at.0 [])))

  values_rel : (vs : List Value) → AreKnown things (values_links vs)
      → Each (ValueRel (named W)) vs (sited_values sites (moved_values things vs))
  values_rel [] known = no_more
  values_rel (v ∷ vs) known =
      each (value_rel v (λ j g. known j (among_left j (value_links v) (values_links vs) g)))
      (values_rel vs (λ j g. known j (among_right j (value_links v) (values_links vs) g)))

  proto_rel : (proto : Option ObjId) → AreKnown things (proto_links proto)
      → Maybe (ObjectIds (named W)) proto (sited_proto sites (moved_proto things proto))
  proto_rel None known = none
  proto_rel (Some at) known = some (record { linked = named_site at.0 (known at.0 (head_in at.0 [])) })

  pub props_rel : (ps : Props) → AreKnown things (props_links ps)
      → Entries (PropRel (named (rebuilt_world s h things sites))) ps (sited_props sites (moved_props things ps))
  props_rel [] known = no_entries
  props_rel ((x, p) ∷ ps) known =
      let first : ValueRel (named W) p.value (sited_value sites (moved_value things p.value)) =
      value_rel p.value (λ j g. known j (among_left j (value_links p.value) (props_links ps) g))
      in
      entry (record { value = first; writable = refl; enumerable = refl; configurable = refl })
      (props_rel ps (λ j g. known j (among_right j (value_links p.value) (props_links ps) g)))

  -- ---- events

  target_rel : (t u : Option ObjId) → AreKnown things (proto_links t) → moved_proto [] u ≡ sited_proto sites (moved_proto things t)
      → Maybe (ObjectIds (named W)) t u
  target_rel None None known e = none
  target_rel None (Some b) known e = absurd (cc e)
  target_rel (Some a) None known e = absurd (cc e)
  target_rel (Some a) (Some b) known e =
      let same : site sites (place_of things a.0) ≡ b.0 = ap (λ o. (unwrap_or o a).0) (sym e) in
      some (record { linked = subst (λ j. Named W a.0 j) same (named_site a.0 (known a.0 (head_in a.0 []))) })

  event_rel : (p q : EventParts) → IsKeptEvent things p → IsRested (class.Event q) → event_of [] q ≡ sited_event sites (event_of things p) → EventRel (named W) p q
  event_rel p q left right same =
      let target : Maybe (ObjectIds (named W)) p.target q.target = target_rel p.target q.target left.known (ap (λ x. x.target) same) in
      record {
        kind = sym (ap (λ x. x.kind) same);
        bubbles = sym (ap (λ x. x.bubbles) same);
        cancelable = sym (ap (λ x. x.cancelable) same);
        begun = sym (ap (λ x. x.begun) same);
        sent = left.sent ∙ is_some_same target ∙ sym right.0;
        target = target;
        current = nothing_same (named W) p.current q.current left.quiet.current right.1;
        phase = left.quiet.phase ∙ sym right.2;
      }

  -- ---- the things

  class_rel : (c : Scene) (n : ℕ) → n < length things → (a b : Class) → (object_at s.heap.objects (nth things n)).class ≡ a
      → (object_at h.objects (nth sites n)).class ≡ b
      → ((j : ℕ) → is_in j (class_links s a) ≡ true → IsKnown things j)
      → ((source : Code) (env : Option EnvId) → a ≡ class.Page source env → code_fits (round_frame source ∷ []) source ≡ true)
      → ((p : EventParts) → a ≡ class.Event p → IsKeptEvent things p) → event_as [] b ≡ option_map (sited_event sites) (event_as things a) → IsRested b
      → ClassIsRebuilt c h.environments s things sites (nth sites n) a b → ClassRel (named W) a b
  class_rel c n below a b one two known fits kept parts rested rebuilt.plain = plain
  class_rel c n below a b one two known fits kept parts rested rebuilt.list = array
  class_rel c n below a b one two known fits kept parts rested rebuilt.fault = fault
  class_rel c n below a b one two known fits kept parts rested (rebuilt.page {code = source} {env = env} {round = round} r) =
      page (record {
        frames = round_frame source ∷ [];
        number = 0;
        code = refl;
        fits = fits source env refl;
        round = based (record { one = env; two = round; frame = round_frame source })
            (based_at s.heap.objects h.objects things sites n below count source source env round one two);
      })
  class_rel c n below a b one two known fits kept parts rested (rebuilt.bound {target = target} {this = this} {args = args}) =
      let others : (j : ℕ) → is_in j (value_links this ++ values_links args) ≡ true → IsKnown things j =
      λ j g. known j (among_right j (target.0 ∷ []) (value_links this ++ values_links args) g)
      in
      bound (named_site target.0 (known target.0 (among_left target.0 (target.0 ∷ []) (value_links this ++ values_links args) (head_in target.0 []))))
      (value_rel this (λ j g. others j (among_left j (value_links this) (values_links args) g)))
      (values_rel args (λ j g. others j (among_right j (value_links this) (values_links args) g)))
  class_rel c n below a b one two known fits kept parts rested (rebuilt.node {a = k} {b = j}) =
      node (record { named = nodes_paired s.heap.objects h.objects (document.0 ∷ things) (document.0 ∷ sites) (suc n) (omega (arith, below)) (ap suc count) k j one two })
  class_rel c n below a b one two known fits kept parts rested (rebuilt.event {a = p} {b = q}) =
      let none : event_of [] q ≡ sited_event sites (event_of things p) = cc parts in
      event (event_rel p q (kept p refl) rested none)

  pub thing_rel : (c : Scene) (g : Host) (n : ℕ) → n < length things → Still s
      → ((source : Code) (env : Option EnvId) → (object_at s.heap.objects (nth things n)).class ≡ class.Page source env
      → code_fits (round_frame source ∷ []) source ≡ true)
      → IsRebuiltAs c h.environments s things sites (nth sites n) (object_at s.heap.objects (nth things n)) (object_at h.objects (nth sites n))
      → HostIsRebuilt s things g sites (nth sites n) (object_at s.heap.objects (nth things n)) (object_at h.objects (nth sites n))
      → ObjectRel (named (rebuilt_world s h things sites)) (object_at s.heap.objects (nth things n)) (object_at h.objects (nth sites n))
  thing_rel c g n below still fits is hosted =
      let k : ℕ = nth things n in
      let o : Object = object_at s.heap.objects k in
      let p : Object = object_at h.objects (nth sites n) in
      let linked : (j : ℕ) → is_in j (proto_links o.proto ++ class_links s o.class) ≡ true → IsKnown things j =
      λ j i. links_in_walk s things still walk k (place_in things n below) j (made_among s k j i)
      in
      let held : (j : ℕ) → is_in j (props_links o.props) ≡ true → IsKnown things j =
      λ j i. links_in_walk s things still walk k (place_in things n below) j (props_among s k j i)
      in
      let above : Maybe (ObjectIds (named W)) o.proto (sited_proto sites (moved_proto things o.proto)) =
      proto_rel o.proto (λ j i. linked j (among_left j (proto_links o.proto) (class_links s o.class) i))
      in
      record {
        class = class_rel c n below o.class p.class refl refl
            (λ j i. linked j (among_right j (proto_links o.proto) (class_links s o.class) i)) fits (event_kept s things still walk n below) hosted.event hosted.rested is.class;
        proto = subst (λ q. Maybe (ObjectIds (named W)) o.proto q) (sym is.proto) above;
        extensible = sym is.extensible;
        closed = still.shaped.not_closed k (is_thing_at s things n walk below) ∙ sym is.closed;
        props = subst (λ qs. Entries (PropRel (named W)) o.props qs) (sym is.props) (props_rel o.props held);
      }
