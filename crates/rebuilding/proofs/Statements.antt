-- Each statement that can run does, and leaves the page that is wanted.
use Rattle.std.proofs.Common.{◌≡◌, refl, sym, ap, subst, ◌∙◌, ℕ, suc, ◌+◌, ◌<◌, ◌≤◌, Bool, true, false, ◌&&◌, nat_eq, nat_lt, List, [], ◌∷◌, ◌++◌, None, Ok, length, add-one, length-set, lt_of_lt_of_le, bytes_eq, arith, inl, inr, codes, nat_le, Some}
use Rattle.std.proofs.lemmas.Bool.{and_from, and_parts, and_right, lt-ltb, leb-true}
use Rattle.std.specs.Fmt.{decimal}
use Rattle.std.specs.List.{All}
use Rattle.built_in_paths.specs.Laws.{EachHasPath, PathsLead}
use Rattle.code_table.specs.Declarations.{name_of}
use Rattle.js_core.specs.Tree as tree
use Rattle.js_core.specs.Tree.{expr}
use Rattle.js_values.specs.declared.built_in.BuiltIn.TheVariants as built_in
use Rattle.js_values.specs.declared.ids.ObjId.{ObjId}
use Rattle.js_values.specs.declared.value.Value.{Value}
use Rattle.js_values.specs.declared.value.Value.TheVariants.{Object as Reference}
use Rattle.object_heap.proofs.Callers.{object_before, object_set_other, object_set_same}
use Rattle.object_heap.specs.Chain.{object_at}
use Rattle.object_heap.specs.Define as object
use Rattle.object_heap.specs.Define.{length_name, number, prevented}
use Rattle.object_heap.specs.Function.{prototype_name}
use Rattle.object_heap.specs.Heap.{Contents, define_own, prevent_extensions, with_object}
use Rattle.object_heap.specs.Object.{Object, is_list, changed_event}
use Rattle.object_heap.specs.Property.{HasDistinctNames, Props}
use Rattle.object_heap.specs.declared.object.Class.TheVariants as class
use Rattle.object_heap.specs.declared.property.Change.{Change}
use Rattle.object_heap.specs.declared.property.Prop.{Prop}
use Rattle.page_meaning.specs.Act.{Ended, Outcome, done, nothing}
use Rattle.page_meaning.specs.Calls.{calls_at}
use Rattle.page_meaning.specs.Descriptors.{change_in, define_in, descriptor_props}
use Rattle.page_meaning.specs.Expressions.{assigned, eval}
use Rattle.page_meaning.specs.Places.{at_place, window, document, function_at, function_place}
use Rattle.page_meaning.specs.Primitives.{next_place}
use Rattle.page_meaning.specs.Properties.{class_at, is_length_of}
use Rattle.page_meaning.specs.HostPuts.{put_member}
use Rattle.page_meaning.specs.Statements.{exec}
use Rattle.page_meaning.specs.Store.{Store, with_heap, with_both}
use Rattle.page_meaning.specs.declared.signal.Signal.{Signal}
use Rattle.page_meaning.specs.declared.signal.Signal.TheVariants.{Value as Val}
use Rattle.page_writer.specs.Literals.{IsLiteral, maker_values}
use Rattle.page_writer.specs.Statements.{define_expr, maker_expr, short_descriptor, statement, whole_descriptor}
use Rattle.rebuild_plan.specs.Stands.{maker_names}
use Rattle.rebuild_plan.specs.declared.statement.Maker.{Maker}
use Rattle.rebuild_plan.specs.declared.statement.Maker.TheVariants.{Plain, List as Array, Fault, Func, Bind, Element, Text, Comment, Event}
use Rattle.rebuild_plan.specs.declared.statement.Rebuild.{Rebuild}
use Rattle.rebuild_plan.specs.declared.statement.Rebuild.TheVariants.{Make, Define, DefinePrototype, DefineLength, Prevent, Append, Attribute, SetValue, Init, Dispatch, Listen, Filler, Clear, Timeout, Interval}
use Rattle.rebuilding.specs.Running.{CanBeMade, CanDefine, CanMake, CanPrevent, CanRun, HasChanged, IsMade, Runs, StatementsRun, short_change, whole_change, HasRun, Stand, object_here, with_parts}
use Rattle.rebuilding.specs.Scene.{IsRoundOf, IsRunning, Scene, frame_count, inside, is_site, list_of, IsHosting}
use Rattle.rebuilding.proofs.Ordinary.{kind_defined, kind_prevented}
use Rattle.rebuilding.specs.Sites.{site, sited, sited_needs, sited_prop, sited_value}
use Rattle.rebuilding.proofs.Calling.{also_on}
use Rattle.rebuilding.proofs.Changing.{IsChanged, defined_at, prevented_at, parts_at}
use Rattle.rebuilding.proofs.List.{list_grown, with_thing}
use Rattle.rebuilding.proofs.Literals.{literal_object, literal_running, short_asks, short_fields, short_names, short_read, whole_asks, whole_names, whole_read, with_literal}
use Rattle.rebuilding.proofs.Making.{Makes, array_made, bound_made, error_made, plain_made}
use Rattle.rebuilding.proofs.Needs.{function_made, needy_function_made}
use Rattle.rebuilding.proofs.Reading.{thing_assigned, thing_put_and_given, reference_read}
use Rattle.rebuilding.proofs.Rows.{define_ran, length_defined, other_defined, prevent_ran}
use Rattle.rebuilding.proofs.Staying.{all_through, site_stands, site_there, stands_site, stays_changed, stays_made, stays_on, hosting_changed}
use Rattle.rebuilding.proofs.WindowStays.{is_built}
use Rattle.object_shapes.specs.Links.{value_links, all_below}
use Rattle.rebuild_plan.specs.Moved.{first_thing}
use Rattle.built_in_paths.specs.Paths.{held_by}
use Rattle.object_heap.specs.Laws.{IsSameKind}
use Rattle.object_heap.specs.declared.object.EventParts.{EventParts}
use Rattle.page_host.specs.Host.{Host}
use Rattle.page_meaning.specs.Events.{after_event, begins, initialises, rests}
use Rattle.page_meaning.specs.HostNames.{is_kept}
use Rattle.page_meaning.specs.Pristine.{built_ins}
use Rattle.page_writer.specs.References.{document_expr, reference}
use Rattle.rebuilding.proofs.HostCalls.{Reads}
use Rattle.rebuilding.proofs.HostRuns.{Takes}
use Rattle.rebuilding.proofs.HostRuns as host
use Rattle.rebuilding.proofs.NodeMakes.{comment_made, element_made, event_made, text_made}
use Rattle.rebuilding.proofs.Paths.{name_read}

length_not_built : is_built length_name ≡ false
unfolding is_built
length_not_built = refl

-- a statement ends, and has changed the object at the place so
record Changes (c : Scene) (s : Store) (sites : List ℕ) (n k : ℕ) (o : Object) (out : Outcome Signal) : Type 0 where
  after : Contents
  ends : out ≡ Ended nothing (with_heap s after) n
  changed : (g : Host) → HasChanged s.heap g after g sites sites k o
  running : IsRunning c after sites

-- what was made is so in a heap with the same environments
made_still : (c : Scene) (h : Contents) (g : Host) (i j : Contents) (sites : List ℕ) (k : ℕ) (o : Object) (m : Maker) → i.environments ≡ j.environments
    → IsMade c h g i sites k m o → IsMade c h g j sites k m o
made_still c h g i j sites k o (Plain proto) same f = f
made_still c h g i j sites k o Array same f = f
made_still c h g i j sites k o (Fault kind) same f = f
made_still c h g i j sites p o (Func k needs) same f = record {
  round = f.round;
  prototype = f.prototype;
  object = f.object;
  is_round = subst (λ es. IsRoundOf c es p (sited_needs sites needs) (name_of k) f.round) same f.is_round;
}
made_still c h g i j sites k o (Bind target this args) same f = f
made_still c h g i j sites k o (Element x) same f = f
made_still c h g i j sites k o (Text x) same f = f
made_still c h g i j sites k o (Comment x) same f = f
made_still c h g i j sites k o Event same f = f

module _ (c : Scene) (s : Store) (sites : List ℕ) (r : IsRunning c s.heap sites) (hosting : IsHosting s.heap s.host) (lead : PathsLead) (each : EachHasPath) (d n : ℕ) where
  -- what a statement names, by this name
  held : (x : List ℕ) (j : ℕ) → held_by built_ins window.0 x ≡ Some j → Reads (inside c) d s n (tree.name x) (Reference (at_place j))
  held x j is = name_read c s sites r (calls_at (suc d)) (suc n) x j is

  document_read : Reads (inside c) d s n document_expr (Reference document)
  document_read = held (codes "document") document.0 refl

  read : (at : ObjId) → Stand sites (at.0 ∷ []) → Reads (inside c) d s n (reference at) (Reference (sited sites at))
  read at stands = reference_read c s sites r (calls_at (suc d)) (suc n) lead each at stands

  -- ---- a thing is made

  makes_so : (m : Maker) → all_below (first_thing + length sites) (maker_names m) ≡ true → CanMake s.heap sites m → All IsLiteral (maker_values m)
      → Makes c s sites m (suc n) ((eval (calls_at (suc d)) (inside c) (maker_expr m)).run s (suc n))
  makes_so (Plain proto) stands able range = plain_made c s sites r lead each d n proto stands
  makes_so Array stands able range = array_made c s sites r (suc d) (suc n)
  makes_so (Fault kind) stands able range = error_made c s sites r d n kind
  makes_so (Func k []) stands able range = function_made c s sites r k (calls_at (suc d)) (suc n)
  makes_so (Func k (x ∷ xs)) stands able range = needy_function_made c s sites r k (x ∷ xs) d n lead each stands range
  makes_so (Bind target this args) stands able range = bound_made c s sites r lead each d n target this args stands range able
  makes_so (Element x) stands able range = element_made c s sites r n d hosting document_read x able
  makes_so (Text x) stands able range = text_made c s sites r n d hosting document_read x able
  makes_so (Comment x) stands able range = comment_made c s sites r n d hosting document_read x able
  makes_so Event stands able range = event_made c s sites r n d hosting document_read able

  make_runs : (number : ℕ) (m : Maker) → CanBeMade s.heap sites number m
      → Runs c s sites (Make number m) (suc n) ((exec (calls_at (suc d)) (inside c) (statement (Make number m))).run s (suc n))
  make_runs number m can =
      let calls = calls_at (suc d) in
      let makes = makes_so m can.stands can.able can.in_range in
      let k = makes.place in
      let i = with_thing c makes.after sites k in
      let t = with_both s makes.after makes.host in
      let other : k ≡ c.list → ⊥ = λ e. omega (arith, e, makes.young, r.place.list_there) in
      let young : frame_count ≤ k = omega (arith, makes.young, r.place.list_there, r.place.list_young) in
      let below : all_below k sites ≡ true = all_through (is_site c s.heap) (λ j. nat_lt j k) sites
      (λ j e. lt-ltb j k (lt_of_lt_of_le (site_stands c s.heap j e).there makes.young)) r.place.stand
      in
      record {
        after = i;
        host = makes.host;
        new_sites = sites ++ k ∷ [];
        left = makes.left;
        steps = makes.steps;
        ends = also_on (λ _. done) (thing_assigned c s sites r calls (suc n) number (maker_expr m)
            ∙ also_on (assigned (put_member calls (Reference (at_place c.list)) (decimal number))) makes.ends
            ∙ thing_put_and_given c t sites makes.running calls makes.left number k can.next can.index);
        has_run = record {
          place = k;
          joins = refl;
          young = makes.young;
          host = makes.has_host;
          there = subst (λ l. k < l) (sym (length-set makes.after.objects c.list (list_of (sites ++ k ∷ [])))) makes.there;
          object = made_still c s.heap s.host makes.after i sites k (object_at i.objects k) m refl
              (subst (λ o. IsMade c s.heap s.host makes.after sites k m o)
              (sym (object_set_other makes.after.objects c.list k (list_of (sites ++ k ∷ [])) other)) makes.object);
          stays = stays_on s.heap makes.after i (c.list ∷ []) makes.stays (stays_changed makes.after c.list (list_of (sites ++ k ∷ [])));
        };
        hosting = hosting_changed makes.after i makes.host c.list (stays_changed makes.after c.list (list_of (sites ++ k ∷ [])))
            (inl (ap (λ (o : Object). o.class) (object_set_same makes.after.objects c.list (list_of (sites ++ k ∷ [])) makes.running.place.list_there)
            ∙ sym (ap (λ (o : Object). o.class) makes.running.place.list)))
            (makes.hosting hosting);
        running = list_grown c makes.after sites makes.running k (subst (λ l. l < 4294967295) can.next can.index)
            (stands_site c makes.after k (record { young = young; there = makes.there; other = other })) below;
      }

  -- ---- an object is changed

  -- `Object.defineProperty` with a descriptor that has these fields and is read as this change
  module _ (at : ObjId) (x : List ℕ) (e : tree.Expr) (props : Props) (change : Change) (names : HasDistinctNames props)
      (stands : all_below (first_thing + length sites) (at.0 ∷ []) ≡ true)
      (own : nat_eq at.0 window.0 && is_built x ≡ false)
      (thrown : (object.define_own (object_at s.heap.objects (site sites at.0)) x change).thrown ≡ None) where
    below : nat_lt at.0 (first_thing + length sites) ≡ true
    below = (and_parts (nat_lt at.0 (first_thing + length sites)) true stands).0

    same_object : object_at (with_literal s.heap props).objects (site sites at.0) ≡ object_at s.heap.objects (site sites at.0)
    same_object = object_before s.heap.objects (literal_object props) (site sites at.0) (site_there c s.heap sites r at.0 below)

    defined_thing : IsChanged c (with_literal s.heap props) sites (site sites at.0)
        (define_own (with_literal s.heap props) (site sites at.0) x change)
        (object.define_own (object_at s.heap.objects (site sites at.0)) x change).after
    defined_thing =
        let g = with_literal s.heap props in
        let k = site sites at.0 in
        subst (λ (o : Object). IsChanged c g sites k (define_own g k x change) (object.define_own o x change).after) same_object
        (defined_at c g sites (literal_running c s.heap sites r props names) at.0 below x change own
        (subst (λ (o : Object). (object.define_own o x change).thrown ≡ None) (sym same_object) thrown))

    define_runs : (eval (calls_at (suc d)) (inside c) e).run s (suc n)
        ≡ Ended (Val (Reference (next_place s.heap))) (with_heap s (with_literal s.heap props)) (suc n)
        → change_in (with_heap s (with_literal s.heap props)) (Reference (next_place s.heap)) ≡ Ok change
        → ((define_own (with_literal s.heap props) (site sites at.0) x change).thrown ≡ None
        → (define_in (sited sites at) x change).run (with_heap s (with_literal s.heap props)) n
        ≡ Ended nothing (with_heap s (define_own (with_literal s.heap props) (site sites at.0) x change).after) n)
        → Changes c s sites n (site sites at.0) (object.define_own (object_at s.heap.objects (site sites at.0)) x change).after
        ((exec (calls_at (suc d)) (inside c) (expr (define_expr at x e))).run s (suc n))
    define_runs read asks ends =
        let g = with_literal s.heap props in
        let k = site sites at.0 in
        let i = (define_own g k x change).after in
        let done = defined_thing in
        record {
          after = i;
          ends = define_ran c s sites r lead each d n at stands x e props change i (literal_running c s.heap sites r props names) read asks
              (ends done.thrown);
          changed = λ a. record {
            same = refl;
            host = refl;
            object = (done.changed a).object;
            stays = stays_on s.heap g i (k ∷ [])
                (stays_made s.heap (literal_object props)) (done.changed a).stays;
          };
          running = done.running;
        }

  -- beside the literal the object is what it was
  free_still : (at : ObjId) (x : List ℕ) (props : Props) → nat_lt at.0 (first_thing + length sites) ≡ true
      → is_kept s.host.nodes (object_at s.heap.objects (site sites at.0)).class x ≡ false
      → is_kept s.host.nodes (class_at (with_heap s (with_literal s.heap props)) (sited sites at)) x ≡ false
  free_still at x props below free =
      ap (λ (o : Object). is_kept s.host.nodes o.class x)
      (object_before s.heap.objects (literal_object props) (site sites at.0) (site_there c s.heap sites r at.0 below)) ∙ free

  no_length : (at : ObjId) (x : List ℕ) (props : Props) → (nat_lt at.0 (first_thing + length sites) ≡ true)
      → is_list (object_at s.heap.objects (site sites at.0)).class && bytes_eq x length_name ≡ false
      → is_length_of (with_heap s (with_literal s.heap props)) (sited sites at) x ≡ false
  no_length at x props below other =
      ap (λ (o : Object). is_list o.class && bytes_eq x length_name)
      (object_before s.heap.objects (literal_object props) (site sites at.0) (site_there c s.heap sites r at.0 below)) ∙ other

  defines_whole : (at : ObjId) (x : List ℕ) (p : Prop) → CanDefine s.heap s.host sites at x p.value (whole_change sites p)
      → Changes c s sites n (site sites at.0) (object.define_own (object_at s.heap.objects (site sites at.0)) x (whole_change sites p)).after
      ((exec (calls_at (suc d)) (inside c) (expr (define_expr at x (whole_descriptor p)))).run s (suc n))
  unfolding is_built
  defines_whole at x p can =
      let parts = and_parts (nat_lt at.0 (first_thing + length sites))
      (all_below (first_thing + length sites) (value_links p.value)) can.stands in
      let props = descriptor_props (sited_prop sites p) in
      let change = whole_change sites p in
      let one = and_from (nat_lt at.0 (first_thing + length sites)) true parts.0 refl in
      define_runs at x (whole_descriptor p) props change (whole_names (sited_prop sites p)) one can.own can.defined
      (whole_read c s sites r (calls_at (suc d)) (suc n) lead each p can.in_range parts.1) (whole_asks c s sites r p)
      (λ fine. other_defined (sited sites at) x change (with_heap s (with_literal s.heap props)) n (free_still at x props parts.0 can.free) (no_length at x props parts.0 can.other) fine)

  defines_short : (at : ObjId) (x : List ℕ) (v : Value) (writable : Bool) → CanDefine s.heap s.host sites at x v (short_change sites v writable)
      → Changes c s sites n (site sites at.0) (object.define_own (object_at s.heap.objects (site sites at.0)) x
      (short_change sites v writable)).after
      ((exec (calls_at (suc d)) (inside c) (expr (define_expr at x (short_descriptor v writable)))).run s (suc n))
  unfolding is_built
  defines_short at x v writable can =
      let parts = and_parts (nat_lt at.0 (first_thing + length sites)) (all_below (first_thing + length sites) (value_links v)) can.stands in
      let props = short_fields (sited_value sites v) writable in
      let change = short_change sites v writable in
      let one = and_from (nat_lt at.0 (first_thing + length sites)) true parts.0 refl in
      define_runs at x (short_descriptor v writable) props change (short_names (sited_value sites v) writable) one can.own can.defined
      (short_read c s sites r (calls_at (suc d)) (suc n) lead each v writable can.in_range parts.1) (short_asks c s sites r v writable)
      (λ fine. other_defined (sited sites at) x change (with_heap s (with_literal s.heap props)) n (free_still at x props parts.0 can.free) (no_length at x props parts.0 can.other) fine)

  -- the name of a length is none of the built-in ones
  length_own : (at : ObjId) → nat_eq at.0 window.0 && is_built length_name ≡ false
  length_own at = and_right (nat_eq at.0 window.0) (is_built length_name) length_not_built

  defines_length : (at : ObjId) (count : ℕ) (writable : Bool) → all_below (first_thing + length sites) (at.0 ∷ []) ≡ true
      → IsLiteral (number count) → is_kept s.host.nodes (object_at s.heap.objects (site sites at.0)).class length_name ≡ false
      → (object.define_own (object_at s.heap.objects (site sites at.0)) length_name (short_change sites (number count) writable)).thrown ≡ None
      → Changes c s sites n (site sites at.0) (object.define_own (object_at s.heap.objects (site sites at.0)) length_name
      (short_change sites (number count) writable)).after
      ((exec (calls_at (suc d)) (inside c) (expr (define_expr at length_name (short_descriptor (number count) writable)))).run s (suc n))
  defines_length at count writable stands range free defined =
      let props = short_fields (number count) writable in
      define_runs at length_name (short_descriptor (number count) writable) props (short_change sites (number count) writable)
      (short_names (number count) writable) stands (length_own at) defined
      (short_read c s sites r (calls_at (suc d)) (suc n) lead each (number count) writable range refl)
      (short_asks c s sites r (number count) writable)
      (λ fine. length_defined (sited sites at) count writable sites (with_heap s (with_literal s.heap props)) n
      (free_still at length_name props (and_parts (nat_lt at.0 (first_thing + length sites)) true stands).0 free) fine)

  prevents : (at : ObjId) → CanPrevent s.heap sites at
      → Changes c s sites n (site sites at.0) (prevented (object_at s.heap.objects (site sites at.0))).after
      ((exec (calls_at (suc d)) (inside c) (statement (Prevent at))).run s (suc n))
  prevents at can =
      let below = (and_parts (nat_lt at.0 (first_thing + length sites)) true can.stands).0 in
      let done = prevented_at c s.heap sites r at.0 below can.done in
      record {
        after = (prevent_extensions s.heap (site sites at.0)).after;
        ends = prevent_ran c s sites r lead each d n at can.stands done.thrown;
        changed = done.changed;
        running = done.running;
      }

  -- ---- each statement

  -- no object becomes one of another kind where a property is defined, or none may be added any more
  changes_run : (q : Rebuild) (k : ℕ) (o : Object) → IsSameKind o.class (object_at s.heap.objects k).class
      → Changes c s sites n k o ((exec (calls_at (suc d)) (inside c) (statement q)).run s (suc n))
      → ((i : Contents) → HasChanged s.heap s.host i s.host sites sites k o → HasRun c s.heap s.host i s.host sites sites q)
      → Runs c s sites q (suc n) ((exec (calls_at (suc d)) (inside c) (statement q)).run s (suc n))
  changes_run q k o same f give =
      let g = f.changed s.host in
      record {
        after = f.after;
        host = s.host;
        new_sites = sites;
        left = n;
        steps = omega arith;
        ends = f.ends;
        has_run = give f.after g;
        running = f.running;
        hosting = hosting_changed s.heap f.after s.host k g.stays (subst (λ (p : Object). IsSameKind p.class (object_at s.heap.objects k).class) (sym g.object) same) hosting;
      }

  -- an event gets other parts
  takes_parts : (at : ObjId) (parts : EventParts) (f : EventParts → EventParts) → Stand sites (at.0 ∷ []) → (object_here s.heap sites at).class ≡ class.Event parts
      → Takes c s sites r hosting d n read (site sites at.0) (with_parts (object_here s.heap sites at) f)
  takes_parts at parts f stands is =
      let k = site sites at.0 in
      let o = object_here s.heap sites at in
      let below = (and_parts (nat_lt at.0 (first_thing + length sites)) true stands).0 in
      let changed = parts_at c s.heap sites r at.0 below parts f is in
      let g = changed.changed s.host in
      record {
        changed = g;
        running = changed.running;
        hosting = hosting_changed s.heap (with_object s.heap k (with_parts o f)) s.host k g.stays
            (subst (λ (p : Object). IsSameKind p.class o.class) (sym g.object)
            (subst (λ a. IsSameKind (changed_event f a) a) (sym is) (inr (refl, refl)))) hosting;
      }

  timeout_is : Reads (inside c) d s n (tree.name (codes "setTimeout")) (Reference (function_at built_in.SetTimeout))
  unfolding function_place
  timeout_is = held (codes "setTimeout") (function_place built_in.SetTimeout) refl

  interval_is : Reads (inside c) d s n (tree.name (codes "setIntervalFrom")) (Reference (function_at built_in.SetIntervalFrom))
  unfolding function_place
  interval_is = held (codes "setIntervalFrom") (function_place built_in.SetIntervalFrom) refl

  clear_is : Reads (inside c) d s n (tree.name (codes "clearTimeout")) (Reference (function_at built_in.ClearTimeout))
  unfolding function_place
  clear_is = held (codes "clearTimeout") (function_place built_in.ClearTimeout) refl

  filler_is : Reads (inside c) d s n (tree.name (codes "Object")) (Reference (function_at built_in.Object))
  unfolding function_place
  filler_is = held (codes "Object") (function_place built_in.Object) refl

  runs : (q : Rebuild) → CanRun s.heap s.host sites q → Runs c s sites q (suc n) ((exec (calls_at (suc d)) (inside c) (statement q)).run s (suc n))
  runs (Make number m) can = make_runs number m can
  runs (Append at to) can = host.appended c s sites r hosting d n read at to can
  runs (Attribute at x v) can = host.attribute_set c s sites r hosting d n read at x v can
  runs (SetValue at t) can = host.value_set c s sites r hosting d n read at t can
  runs (Init at x bubbles cancelable) can =
      host.initialised c s sites r hosting d n read at x bubbles cancelable can
      (takes_parts at can.parts (after_event (initialises x bubbles cancelable)) can.stands can.class)
  runs (Dispatch at event) can =
      host.dispatched c s sites r hosting d n read at event can
      (site_there c s.heap sites r event.0 (and_parts (nat_lt event.0 (first_thing + length sites)) true can.stands).0)
      (takes_parts event can.parts (λ p. after_event rests (after_event (begins (sited sites at)) p)) can.stands can.class)
  runs (Listen at x f capture) can = host.listener_added c s sites r hosting d n read at x f capture can
  runs (Define at x p) can =
      changes_run (Define at x p) (site sites at.0) _ (kind_defined (object_here s.heap sites at) x (whole_change sites p)) (defines_whole at x p can) (λ i f. f)
  runs (DefinePrototype at v writable) can =
      changes_run (DefinePrototype at v writable) (site sites at.0) _ (kind_defined (object_here s.heap sites at) prototype_name (short_change sites v writable))
      (defines_short at prototype_name v writable can) (λ i f. f)
  runs (DefineLength at v writable) can =
      subst (λ w. Runs c s sites (DefineLength at w writable) (suc n)
      ((exec (calls_at (suc d)) (inside c) (statement (DefineLength at w writable))).run s (suc n))) (sym can.is)
      (changes_run (DefineLength at (number can.count) writable) (site sites at.0) _
      (kind_defined (object_here s.heap sites at) length_name (short_change sites (number can.count) writable))
      (defines_length at can.count writable can.stands (subst IsLiteral can.is can.in_range) can.free
      (subst (λ w. (object.define_own (object_at s.heap.objects (site sites at.0)) length_name (short_change sites w writable)).thrown
      ≡ None) can.is can.defined)) (λ i f. f))
  runs Filler can = host.filled c s sites r hosting d n read timeout_is interval_is clear_is filler_is can
  runs (Clear id) can = host.cleared c s sites r hosting d n read timeout_is interval_is clear_is filler_is id
  runs (Timeout f rest) (stands, can) = host.timeout_begun c s sites r hosting d n read timeout_is interval_is clear_is filler_is f rest stands can
  runs (Interval f rest period) (stands, can) =
      host.interval_begun c s sites r hosting d n read timeout_is interval_is clear_is filler_is f rest period
      (leb-true 1 period (and_parts (nat_le 1 period) _ can.period_fits).0) stands can
  runs (Prevent at) can =
      changes_run (Prevent at) (site sites at.0) _ (kind_prevented (object_here s.heap sites at)) (prevents at can) (λ i f. f)

-- by what the paths of built-in objects lead to
pub statements_run : PathsLead → EachHasPath → StatementsRun
statements_run lead each c s sites q depth n r hosting can =
    subst (λ k. Runs c s sites q k ((exec (calls_at (depth + 1)) (inside c) (statement q)).run s k)) (sym (add-one n))
    (subst (λ d. Runs c s sites q (suc n) ((exec (calls_at d) (inside c) (statement q)).run s (suc n))) (sym (add-one depth))
    (runs c s sites r hosting lead each depth n q can))
