-- What a bound function calls stands, as a function of the same length.
use Rattle.std.proofs.Common.{◌≡◌, ◌⊎◌, inl, inr, refl, sym, ap, subst, ◌∙◌, ℕ, zero, suc, ◌+◌, ◌<◌, Bool, true, false, ◌||◌, not, nat_lt, List, Option, Some, None, length, unwrap_or, arith, ◌≤◌}
use Rattle.std.proofs.lemmas.Bool.{cases_lt, ltb-true}
use Rattle.std.specs.List.{list_all}
use Rattle.std.specs.Option.{option_map}
use Rattle.code_table.specs.Declarations.{formals_of}
use Rattle.heap_walker.proofs.Callers.{thing_of}
use Rattle.heap_walker.specs.Still.{Still}
use Rattle.heap_walker.specs.Things.{IsWalk, is_in}
use Rattle.js_values.specs.declared.ids.NodeId.{NodeId}
use Rattle.js_values.specs.declared.ids.ObjId.{ObjId}
use Rattle.js_values.specs.declared.value.Value.TheVariants.{Undefined}
use Rattle.object_heap.proofs.Callers.{property_on}
use Rattle.object_heap.specs.Chain.{AreOlder, first_found, get, get_property, object_at}
use Rattle.object_heap.specs.Define.{length_name, number, number_in}
use Rattle.object_heap.specs.Environment.{Environment}
use Rattle.object_heap.specs.Heap.{Contents}
use Rattle.object_heap.specs.Object.{Object}
use Rattle.object_heap.specs.Property.{fixed, own_property}
use Rattle.object_heap.specs.declared.object.Class.{Class}
use Rattle.object_heap.specs.declared.object.Class.TheVariants as class
use Rattle.object_heap.specs.declared.property.Prop.{Prop}
use Rattle.page_meaning.specs.Elements.{length_of}
use Rattle.page_meaning.specs.Places.{document, function_prototype}
use Rattle.rebuild_plan.proofs.Callers.{document_class}
use Rattle.page_meaning.specs.Pristine.{built_ins}
use Rattle.page_meaning.specs.Properties.{class_at, is_function}
use Rattle.page_meaning.specs.Store.{Store}
use Rattle.rebuild_plan.specs.Compact.{moved, place_of}
use Rattle.rebuilding.specs.Rebuilt.{ClassIsRebuilt, bound, fault, list, nth, page, plain, event, node}
use Rattle.rebuilding.specs.Scene.{IsRunning, Scene, page_with}
use Rattle.rebuilding.specs.Sites.{site, sited}
use Rattle.rebuilding.proofs.Binds.{bind_name, bind_value, built_in_bind, inherited, own_none}
use Rattle.rebuilding.proofs.Fresh.{IsKept}
use Rattle.rebuilding.proofs.Placed.{at_or, function_low, number_at, place_built_in, site_built_in, site_thing}
use Rattle.rebuilding.proofs.BuiltIns.{IsBuiltAt, as_made, is_fixed}
use Rattle.rebuilding.proofs.Stages.{IsFresh, MadeProps}
use Rattle.rebuilding.proofs.Lasting.{proto_is}
use Rattle.object_shapes.specs.Shapes.{HasShape, built_in_at}
use Rattle.page_meaning.specs.Places.{built_in_count}
use Rattle.rebuild_plan.specs.Moved.{first_thing}
use Rattle.page_host.specs.Host.{Host}

-- ---- a length of its own

abbrev own_length : Object → Option Prop
own_length o = own_property o.props length_name

found_own : (objects : List Object) (k : ℕ) (p : Prop) → AreOlder objects → own_length (object_at objects k) ≡ Some p
    → get_property objects k length_name ≡ Some p
found_own objects k p ages own =
    property_on objects k length_name ages ∙ ap (λ o. first_found o (object_at objects k).proto (λ q. get_property objects q length_name)) own

-- two objects that have the same own length, in two heaps
same_length : (s t : Store) (at to : ObjId) (p : Prop) → AreOlder s.heap.objects → AreOlder t.heap.objects
    → own_length (object_at s.heap.objects at.0) ≡ Some p → own_length (object_at t.heap.objects to.0) ≡ Some p → length_of at s ≡ length_of to t
same_length s t at to p older_s older_t one two =
    ap (λ o. number_in (unwrap_or (option_map (λ (q : Prop). q.value) o) Undefined))
    (found_own s.heap.objects at.0 p older_s one ∙ sym (found_own t.heap.objects to.0 p older_t two))

-- ---- built-in functions have one

abbrev has_fixed : Option Prop → Bool
has_fixed None = false
has_fixed (Some p) = is_fixed p

-- one that can neither be written nor configured
abbrev has_own_length : Object → Bool
has_own_length o = not (is_function (Some o.class)) || has_fixed (own_length o)

all_have : list_all has_own_length built_ins ≡ true
all_have = refl

abbrev HasFixed : Option Prop → Type 0
HasFixed own = (p : Prop) × (own ≡ Some p) × (is_fixed p ≡ true)

of_function : (o : Object) → has_own_length o ≡ true → is_function (Some o.class) ≡ true → HasFixed (own_length o)
of_function o has is = by (own_length o) refl
  where
    by : (own : Option Prop) → own_length o ≡ own → HasFixed (own_length o)
    by (Some p) e = (p, e, rw (is, e) at has)
    by None e = cc (rw (is, e) at has)

built_in_length : (k : ℕ) → is_function (Some (built_in_at k).class) ≡ true → HasFixed (own_length (built_in_at k))
built_in_length k is = of_function (built_in_at k) (at_or has_own_length built_ins k all_have refl) is

-- ---- things that are functions have one

own_of_made : (s : Store) (o : Object) (a : Class) (made : Object) → is_function (Some a) ≡ true → HasShape s o a
    → MadeProps a o.props made.props
    → (p : Prop) × (own_length o ≡ Some p) × (own_length made ≡ Some p)
own_of_made s o (class.Page body env) made is was begins =
    (fixed (number (length (formals_of body))), ap (λ ps. own_property ps length_name) was.1.are, ap (λ ps. own_property ps length_name) begins.are)
own_of_made s o (class.Bound target this args) made is was begins =
    (fixed (number begins.count), ap (λ ps. own_property ps length_name) begins.had, ap (λ ps. own_property ps length_name) begins.are)
own_of_made s o class.Plain made is was begins = cc is
own_of_made s o class.List made is was begins = cc is
own_of_made s o class.Fault made is was begins = cc is
own_of_made s o (class.Native which) made is was begins = absurd was
own_of_made s o class.Math made is was begins = cc is
own_of_made s o class.Window made is was begins = cc is
own_of_made s o (class.Node m) made is was begins = cc is
own_of_made s o (class.Event parts) made is was begins = cc is

function_again : {c : Scene} {es : List Environment} {s : Store} {things sites : List ℕ} {k : ℕ} {a d : Class} → ClassIsRebuilt c es s things sites k a d
    → is_function (Some a) ≡ true → is_function (Some d) ≡ true
function_again plain is = is
function_again list is = is
function_again fault is = is
function_again (page round) is = refl
function_again bound is = refl
function_again node is = is
function_again event is = is

-- a node is no function
no_node_function : (a : Class) (k : NodeId) → is_function (Some a) ≡ true → a ≡ class.Node k → ⊥
no_node_function a k is e = cc (is, e)

-- ---- targets

module _ (c : Scene) (s : Store) (things : List ℕ) (h : Contents) (g : Host) (sites : List ℕ) (still : Still s) (walk : IsWalk s things)
    (running : IsRunning c h sites)
    (fresh : (n : ℕ) → n < length sites → IsFresh c h.environments s things sites (nth sites n) (object_at s.heap.objects (nth things n))
    (object_at h.objects (nth sites n))) where
  prototype_same : object_at h.objects function_prototype.0 ≡ built_in_at function_prototype.0
  prototype_same = running.own.objects function_prototype.0 (omega arith) function_low

  not_window : (k : ℕ) → is_function (Some (object_at s.heap.objects k).class) ≡ true → 0 < k
  not_window zero is = cc (sym is ∙ ap (λ a. is_function (Some a)) still.shaped.window.class)
  not_window (suc k) is = omega arith

  built_in_kept : (target : ObjId) → is_function (Some (class_at s target)) ≡ true → target.0 < built_in_count → IsKept s things h g sites target
  built_in_kept target is low =
      let past : 0 < target.0 = not_window target.0 is in
      let was : IsBuiltAt things target.0 (object_at s.heap.objects target.0) =
      as_made things target.0 (object_at s.heap.objects target.0) past (still.shaped.built_ins target.0 past low)
      in
      let now : object_at h.objects target.0 ≡ built_in_at target.0 = running.own.objects target.0 past low in
      let at : site sites (place_of things target.0) ≡ target.0 =
      ap (site sites) (place_built_in s things target.0 walk low) ∙ site_built_in sites target.0 low
      in
      let there : object_at h.objects (site sites (place_of things target.0)) ≡ built_in_at target.0 = ap (object_at h.objects) at ∙ now in
      let here : is_function (Some (built_in_at target.0).class) ≡ true = subst (λ d. is_function (Some d) ≡ true) was.class is in
      let own : HasFixed (own_length (built_in_at target.0)) = built_in_length target.0 here in
      record {
        class = subst (λ (o : Object). is_function (Some o.class) ≡ true) (sym there) here;
        bind = subst (λ k. get h.objects k bind_name ≡ Some bind_value) (sym at)
            (built_in_bind h.objects running.place.sound.prototypes prototype_same target.0 now here);
        length = same_length (page_with h g) s
            (sited sites (moved things target)) target own.0 running.place.sound.prototypes still.sound.prototypes (ap own_length there ∙ own.1)
            (was.fixed length_name own.0 own.1 own.2);
      }

  thing_kept : (target : ObjId) → is_function (Some (class_at s target)) ≡ true → is_in target.0 things ≡ true
      → nat_lt (place_of things target.0) (first_thing + length sites) ≡ true → IsKept s things h g sites target
  thing_kept target is found stands = by (number_at things target.0 found)
    where
      by : (i : ℕ) × (place_of things target.0 ≡ first_thing + i) × (i < length things) × (nth things i ≡ target.0)
          → IsKept s things h g sites target
      by (i, place, inside, same) =
          let below : i < length sites = omega (arith, place, ltb-true (place_of things target.0) (first_thing + length sites) stands) in
          let o : Object = object_at s.heap.objects target.0 in
          let made : Object = object_at h.objects (nth sites i) in
          let f : IsFresh c h.environments s things sites (nth sites i) o made =
          subst (λ k. IsFresh c h.environments s things sites (nth sites i) (object_at s.heap.objects k) made) same (fresh i below)
          in
          let was : HasShape s o o.class = still.shaped.made target.0 (thing_of s target.0 (walk.sound target.0 found)) in
          let own : (p : Prop) × (own_length o ≡ Some p) × (own_length made ≡ Some p) = own_of_made s o o.class made is was f.props in
          let at : site sites (place_of things target.0) ≡ nth sites i = ap (site sites) place ∙ site_thing sites i in
          let there : object_at h.objects (site sites (place_of things target.0)) ≡ made = ap (object_at h.objects) at in
          let no_bind = own_none s o o.class made is was f.props in
          let proto : made.proto ≡ Some function_prototype =
          f.proto ∙ proto_is s things sites walk o.proto function_prototype no_bind.1 function_low
          in
          record {
            class = subst (λ (m : Object). is_function (Some m.class) ≡ true) (sym there) (function_again f.class is);
            bind = subst (λ k. get h.objects k bind_name ≡ Some bind_value) (sym at)
                (inherited h.objects running.place.sound.prototypes prototype_same (nth sites i) no_bind.0 proto);
            length = same_length (page_with h g) s
                (sited sites (moved things target)) target own.0 running.place.sound.prototypes still.sound.prototypes (ap own_length there ∙ own.2) own.1;
          }

  -- what is built in, or a thing that stands, is kept
  pub target_kept : (target : ObjId) → (target.0 < first_thing) ⊎ (is_in target.0 things ≡ true) → is_function (Some (class_at s target)) ≡ true
      → nat_lt (place_of things target.0) (first_thing + length sites) ≡ true → IsKept s things h g sites target
  target_kept target (inl low) is stands = by (cases_lt target.0 built_in_count)
    where
      by : (target.0 < built_in_count) ⊎ (built_in_count ≤ target.0) → IsKept s things h g sites target
      by (inl below) = built_in_kept target is below
      by (inr past) =
          let same : target.0 ≡ document.0 = omega (arith, low, past) in
          absurd (no_node_function (class_at s target) (record { 0 = 0 }) is (ap (λ k. (object_at s.heap.objects k).class) same ∙ document_class s still))
  target_kept target (inr found) is stands = thing_kept target is found stands
