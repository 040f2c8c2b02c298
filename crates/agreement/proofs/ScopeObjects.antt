-- Names that the right has in scope objects (sections 8.7, 10.2.2.1 and 11.2.1).
use Rattle.std.proofs.Common.{◌≡◌, refl, sym, ap, ◌∙◌, ℕ, ◌&&◌, true, false, List, Option, Some, None, Ok, unwrap_or, bytes_eq}
use Rattle.page_meaning.specs.declared.signal.Signal.{Signal}
use Rattle.js_core.specs.Tree.{member, name}
use Rattle.js_values.specs.declared.ids.EnvId.{EnvId}
use Rattle.js_values.specs.declared.ids.ObjId.{ObjId}
use Rattle.js_values.specs.declared.value.Value.{Value}
use Rattle.js_values.specs.declared.value.Value.TheVariants as value
use Rattle.object_heap.proofs.Callers.{lookup_on}
use Rattle.object_heap.specs.Attempt.{Attempt}
use Rattle.object_heap.specs.Chain.{object_at}
use Rattle.object_heap.specs.Define.{length_name}
use Rattle.object_heap.specs.Environment.{AreInside, environment_at}
use Rattle.object_heap.specs.Heap.{Contents, first_bound, look_in, lookup, put}
use Rattle.object_heap.specs.Laws.{binds}
use Rattle.object_heap.specs.Object.{is_list}
use Rattle.object_heap.specs.Property.{own_property}
use Rattle.object_heap.specs.declared.object.Class.TheVariants as class
use Rattle.object_heap.specs.declared.property.Prop.{Prop}
use Rattle.page_host.specs.declared.host_name.HostName.{HostName}
use Rattle.page_host.specs.HostNames.{host_name}
use Rattle.page_meaning.specs.Act.{Act, Calls, Ended, also, bind, choose, give, on_value, then_on}
use Rattle.page_meaning.specs.Expressions.{eval}
use Rattle.page_meaning.specs.Names.{Here, held, read, resolve as resolve_here, resolved, write}
use Rattle.page_meaning.specs.Convert.{number_of}
use Rattle.page_meaning.specs.Errors.{on_refusal, settle}
use Rattle.page_meaning.specs.HostNames.{held as shown}
use Rattle.page_meaning.specs.HostPuts.{put_member, put_named, put_seen}
use Rattle.page_meaning.specs.Properties.{get_member, named_at, put_in, seen_at, seen_value, stored}
use Rattle.page_meaning.specs.Store.{Store, with_heap}
use Rattle.page_meaning.specs.declared.reference.Reference.{Reference}
use Rattle.page_meaning.specs.declared.reference.Reference.TheVariants.{Environment}
use Rattle.page_meaning.specs.declared.signal.Signal.TheVariants as signal
use Rattle.page_meaning.specs.Steps.{in_heap}
use Rattle.object_shapes.proofs.Callers as shapes
use Rattle.heap_relations.proofs.Callers as heap
use Rattle.heap_relations.specs.Naming.{Captured, FoundRel, Frame, In, InScope, Larger, Place, Slot, World, env_id, is_captured, is_copied, is_free, is_reserved, is_sealed, is_unused, named, nowhere as unbound, resolve, scope_name}
use Rattle.heap_relations.specs.Related.{ValueRel}
use Rattle.instrumenter.specs.Around.{Around}
use Rattle.agreement.proofs.Constants.{kept_set}
use Rattle.agreement.proofs.Linked.{value_below}
use Rattle.agreement.proofs.Names.{GoesOn, here_up, own_name, reserved_up, value_at}
use Rattle.agreement.proofs.PlainPuts.{put_plain}
use Rattle.agreement.specs.Acts.{ActRel, Agrees, Continues, OutcomeRel, Relation, SignalRel, StoreRel, ended, value as given}
use Rattle.agreement.specs.Opened.{HereRel, field_at, name_stands}

abbrev pub scope_value : ℕ → Value
scope_value place = value.Object (record { 0 = place })

-- ---- the right alone

-- a name that is bound is read
pub name_run : (d : Calls) (b : Here) (t : Store) (n : ℕ) (z : List ℕ) (e : EnvId) (v : Value) → AreInside t.heap.environments → look_in t.heap.environments b.env z ≡ Some (e, v)
    → (eval d b (name z)).run t n ≡ Ended (signal.Value v) t n
name_run d b t n z e v ages found =
    ap (λ o. then_on ((resolved z o).run t n) (read z)) found
    ∙ value_at z (read z) give t n b.env e v (λ f u m. refl) ages found

-- an own property of a plain object is what is seen first, also where its name is one of the host's
module _ (t : Store) (place : ℕ) (x : List ℕ) (p : Prop) (plain : (object_at t.heap.objects place).class ≡ class.Plain) (own : own_property (object_at t.heap.objects place).props x ≡ Some p) where
  own_seen : (m : HostName) → seen_at t (record { 0 = place }) x m ≡ Some (shown p)
  own_seen m = rw (plain, own) refl

  own_named : (o : Option HostName) → named_at t (record { 0 = place }) x o ≡ Ok p.value
  own_named None = ap (λ q. Ok (unwrap_or q value.Undefined)) (heap.get_own t.heap.objects place x p own)
  own_named (Some m) = ap (seen_value t m) (own_seen m)

  -- and where it is put
  own_put : (d : Calls) (n : ℕ) (w : Value) (o : Option HostName) → (put_named d (record { 0 = place }) x w o).run t n ≡ (put_in (record { 0 = place }) x w).run t n
  own_put d n w None = refl
  own_put d n w (Some m) = ap (λ q. (put_seen d (record { 0 = place }) x m w q).run t n) (own_seen m)

-- a property of the object that a name has
pub member_run : (d : Calls) (b : Here) (t : Store) (n : ℕ) (z x : List ℕ) (e : EnvId) (place : ℕ) (p : Prop) → AreInside t.heap.environments
    → look_in t.heap.environments b.env z ≡ Some (e, scope_value place) → (object_at t.heap.objects place).class ≡ class.Plain
    → own_property (object_at t.heap.objects place).props x ≡ Some p → (eval d b (member (name z) x)).run t n ≡ Ended (signal.Value p.value) t n
member_run d b t n z x e place p ages found plain own =
    ap (λ o. then_on o (on_value (λ base. get_member base x))) (name_run d b t n z e (scope_value place) ages found)
    ∙ ap (λ r. (settle r).run t n) (own_named t place x p plain own (host_name x))

-- ---- a name is read at once

module _ {W : World} {s t : Store} (n : ℕ) (g : StoreRel W s t) (x : List ℕ) (f : Reference → Act) (p : Value → Act) (goes : GoesOn x f p) (go : Continues W p p) (d : Calls) (a b : Here) (m : ℕ)
    (q : Act) (then : (w : Value) → (eval d b (member (name (scope_name m)) x)).run t n ≡ Ended (signal.Value w) t n → q.run t n ≡ (p w).run t n) where
  both_read : {v : Value} {r : Prop} {e k : EnvId} (i place : ℕ) → look_in s.heap.environments a.env x ≡ Some (e, v) → look_in t.heap.environments b.env (scope_name i) ≡ Some (k, scope_value place) → i ≡ m
      → (object_at t.heap.objects place).class ≡ class.Plain → own_property (object_at t.heap.objects place).props x ≡ Some r → ValueRel (named W) v r.value
      → OutcomeRel SignalRel W ((bind (resolve_here a x) f).run s n) (q.run t n)
  both_read {v = v} {r = u} {e = e} {k = k} i place left right same plain own r =
      let there : look_in t.heap.environments b.env (scope_name m) ≡ Some (k, scope_value place) = ap (λ j. look_in t.heap.environments b.env (scope_name j)) (sym same) ∙ right in
      let one : (bind (resolve_here a x) f).run s n ≡ (p v).run s n =
      ap (λ o. then_on ((resolved x o).run s n) f) left ∙ value_at x f p s n a.env e v goes g.heap.left.environments left
      in
      let two : q.run t n ≡ (p u.value).run t n = then u.value (member_run d b t n (scope_name m) x k place u g.heap.right.environments there plain own) in
      rw (one, two) ((go W heap.larger_same v u.value r).run W heap.larger_same s t n g)

  field_found : {P : Place} {o u : Option (EnvId × Value)} → FoundRel W t.heap.objects (look_in t.heap.environments b.env) x P o u → field_at P ≡ Some m
      → look_in s.heap.environments a.env x ≡ o → OutcomeRel SignalRel W ((bind (resolve_here a x) f).run s n) (q.run t n)
  field_found unbound e left = absurd (cc e)
  field_found (is_free z k free r) e left = absurd (cc e)
  field_found (is_captured z k keeps opens plain look {p = v} own r) e left = both_read {r = v} z.frame.number z.place left look (cc e) plain own r
  field_found (is_copied z opens plain look {p = v} own r) e left = both_read {r = v} z.frame.number z.place left look (cc e) plain own r
  field_found (is_sealed r) e left = absurd (cc e)
  field_found is_unused e left = absurd (cc e)

-- f goes on with a reference as p does with its value
pub field_rel : {V : World} (d : Calls) (k : Around) (fs : List Frame) (a b : Here) (x : List ℕ) (m : ℕ) (f : Reference → Act) (p : Value → Act) (q : Act) → (h : HereRel V k fs a b)
    → name_stands h.trees.demand false fs x ≡ true → field_at (resolve fs x) ≡ Some m → GoesOn x f p → Continues V p p
    → ((t : Store) (n : ℕ) (w : Value) → (eval d b (member (name (scope_name m)) x)).run t n ≡ Ended (signal.Value w) t n → q.run t n ≡ (p w).run t n)
    → Agrees V (bind (resolve_here a x) f) q
field_rel d k fs a b x m f p q h stands at goes go then = record {
  run = λ W l s t n g.
      let i = here_up l h in
      field_found n g x f p goes (λ X j. go X (heap.larger_more l j)) d a b m q (then t n) (heap.name_found g.heap x i.round (own_name false x i stands)) at refl;
}

-- ---- a captured name is resolved

-- the variable of an environment, and on the right a property of this object
pub record IsField (W : World) (x : List ℕ) (s : Slot) : Type 0 where
  pub there : In s W.slots
  pub held : s.frame.keeps x ≡ Captured
  pub own : is_reserved W.opens x ≡ false

pub is_field_up : {V W : World} {x : List ℕ} {s : Slot} → Larger V W → IsField V x s → IsField W x s
is_field_up {x = x} {s = s} l i = record { there = l.slots s i.there; held = i.held; own = reserved_up x l i.own }

in_scope_found : {R : Relation Signal} {W : World} {s t : Store} {P : Place} {o u : Option (EnvId × Value)} (n : ℕ) (d : Calls) (a b : Here) (x : List ℕ) (m : ℕ) (f : Reference → Act) (q : Value → Act)
    → StoreRel W s t → is_reserved W.opens x ≡ false → FoundRel W t.heap.objects (look_in t.heap.environments b.env) x P o u → P ≡ InScope m → look_in s.heap.environments a.env x ≡ o
    → ((z : Slot) → IsField W x z → ActRel R W (f (Environment (env_id z.one))) (q (scope_value z.place)))
    → OutcomeRel R W ((bind (resolve_here a x) f).run s n) ((also (eval d b (name (scope_name m))) q).run t n)
in_scope_found n d a b x m f q g own unbound e left go = absurd (cc e)
in_scope_found n d a b x m f q g own (is_free z k free r) e left go = absurd (cc e)
in_scope_found {s = s} {t = t} n d a b x m f q g own (is_captured z k keeps opens plain look p r) e left go =
    let same : z.frame.number ≡ m = cc e in
    let there : look_in t.heap.environments b.env (scope_name m) ≡ Some (env_id z.two, scope_value z.place) =
    ap (λ j. look_in t.heap.environments b.env (scope_name j)) (sym same) ∙ look
    in
    let one : (bind (resolve_here a x) f).run s n ≡ (f (Environment (env_id z.one))).run s n = ap (λ o. then_on ((resolved x o).run s n) f) left in
    let two : (also (eval d b (name (scope_name m))) q).run t n ≡ (q (scope_value z.place)).run t n =
    ap (λ o. then_on o (on_value q)) (name_run d b t n (scope_name m) (env_id z.two) (scope_value z.place) g.heap.right.environments there)
    in
    rw (one, two) ((go z (record { there = k; held = keeps; own = own })).run _ heap.larger_same s t n g)
in_scope_found n d a b x m f q g own (is_copied z opens plain look p r) e left go = absurd (cc e)
in_scope_found n d a b x m f q g own (is_sealed r) e left go = absurd (cc e)
in_scope_found n d a b x m f q g own is_unused e left go = absurd (cc e)

-- what goes on with the reference, and with the object
pub in_scope_rel : {R : Relation Signal} {V : World} (d : Calls) (k : Around) (fs : List Frame) (a b : Here) (x : List ℕ) (m : ℕ) (f : Reference → Act) (q : Value → Act) → (h : HereRel V k fs a b)
    → name_stands h.trees.demand true fs x ≡ true → resolve fs x ≡ InScope m
    → ((W : World) → Larger V W → (z : Slot) → IsField W x z → ActRel R W (f (Environment (env_id z.one))) (q (scope_value z.place)))
    → ActRel R V (bind (resolve_here a x) f) (also (eval d b (name (scope_name m))) q)
in_scope_rel d k fs a b x m f q h stands at go = record {
  run = λ W l s t n g.
      let i = here_up l h in
      in_scope_found n d a b x m f q g (own_name true x i stands) (heap.name_found g.heap x i.round (own_name true x i stands)) at refl (go W l);
}

-- it is read
pub read_field_rel : {V : World} (x : List ℕ) (z : Slot) → IsField V x z → Agrees V (read x (Environment (env_id z.one))) (get_member (scope_value z.place) x)
read_field_rel x z i = record {
  run = λ W l s t n g.
      let j = is_field_up l i in
      let r = heap.captured_read g.heap z x j.there j.own j.held in
      let found : lookup s.heap.environments z.one x ≡ Some (env_id z.one, r.left) =
      lookup_on s.heap.environments z.one x g.heap.left.environments
      ∙ ap (λ o. first_bound z.one o (environment_at s.heap.environments z.one).outer (λ y. lookup s.heap.environments y x)) r.one
      in
      let one : (read x (Environment (env_id z.one))).run s n ≡ Ended (signal.Value r.left) s n = ap (λ o. Ended (signal.Value (held o)) s n) found in
      let two : (get_member (scope_value z.place) x).run t n ≡ Ended (signal.Value r.prop.value) t n =
      ap (λ q. (settle q).run t n) (own_named t z.place x r.prop r.plain r.own (host_name x))
      in
      rw (one, two) (ended W heap.larger_same (given r.same) g);
}

-- it takes a value
pub write_field_rel : {V : World} {v w : Value} (d : Calls) (x : List ℕ) (z : Slot) → IsField V x z → ValueRel (named V) v w
    → Agrees V (write x (Environment (env_id z.one)) v) (put_member d (scope_value z.place) x w)
write_field_rel {v = v} {w = w} d x z i h = record {
  run = λ W l s t n g.
      let j = is_field_up l i in
      let r = heap.captured_read g.heap z x j.there j.own j.held in
      let m = heap.captured_set g.heap z x j.there j.own j.held (heap.value_up l h) in
      let at : ObjId = record { 0 = z.place } in
      let put_there : (put_in at x w).run t n ≡ Ended (signal.Value w) (with_heap t (put t.heap z.place x w).after) n =
      ap (λ c. (choose (is_list c && bytes_eq x length_name) (also (settle (number_of w)) (stored at x)) (stored at x w)).run t n) r.plain
      ∙ ap (λ (a : Attempt Contents). (on_refusal (give w) a.thrown).run (with_heap t a.after) n) (put_plain t at x r.plain w)
      ∙ ap (λ o. (on_refusal (give w) o).run (with_heap t (put t.heap z.place x w).after) n) m.thrown
      in
      let two : (put_member d (scope_value z.place) x w).run t n ≡ Ended (signal.Value w) (with_heap t (put t.heap z.place x w).after) n =
      own_put t z.place x r.prop r.plain r.own d n w (host_name x) ∙ put_there
      in
      rw two (ended W heap.larger_same (given (heap.value_up l h)) (record {
        heap = m.after;
        lines = g.lines;
        host = g.host;
        built_ins = g.built_ins;
        shaped = shapes.step_shaped s (in_heap (binds z.one x v) refl) g.heap.left g.shaped (value_below g (heap.value_up l h));
        kept = kept_set g.kept g.heap z j.there x v (λ c. absurd (cc (sym j.held ∙ c)));
      }));
}
