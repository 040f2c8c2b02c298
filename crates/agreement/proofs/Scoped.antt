-- The right enters a scope that has an object: it makes an environment and the object alone (sections 10.5, 11.1.5 and 12.14).
use Rattle.std.proofs.Common.{◌≡◌, inl, inr, refl, sym, ap, ◌∙◌, ℕ, ◌<◌, ◌^◌, Bool, true, false, nat_eq, nat_lt, List, [], ◌∷◌, Option, Some, None, length, length-append, arith, if◌then◌else◌, subst}
use Rattle.std.specs.Prelude.{IsTrue}
use Rattle.agreement.proofs.HostsUp.{host_up}
use Rattle.agreement.proofs.ScopeObjects.{name_run}
use Rattle.std.proofs.lemmas.Bool.{and_parts, eq-eqb, ltb-true}
use Rattle.js_core.specs.Tree as tree
use Rattle.js_core.specs.Tree.{assign, expr, literal, name, no_fields, then_field}
use Rattle.js_values.specs.declared.ids.EnvId.{EnvId}
use Rattle.js_values.specs.declared.ids.ObjId.{ObjId}
use Rattle.js_values.specs.declared.value.Value.{Value}
use Rattle.object_heap.proofs.Callers.{environment_last, kinds_steps, lookup_on, object_last, sound_opened}
use Rattle.object_heap.specs.Attempt.{Attempt}
use Rattle.object_heap.specs.Chain.{object_at}
use Rattle.object_heap.specs.Define.{whole_property}
use Rattle.object_heap.specs.Environment.{AreInside, Bound, Environment, environment_at, inside as inside_older, new_environment, value_of}
use Rattle.object_heap.specs.Heap.{Contents, IsSound, define_own, first_bound, look_in, lookup, made, new_object, opened, set}
use Rattle.object_heap.specs.Laws.{IsSameKind, defines, opens}
use Rattle.object_heap.specs.Object.{Object, is_event, settled}
use Rattle.object_heap.specs.declared.object.Class.{Class}
use Rattle.object_heap.specs.declared.property.Change.{Change}
use Rattle.object_heap.specs.declared.object.Class.TheVariants as class
use Rattle.page_meaning.specs.Act.{Act, Calls, Ended, also, bind, done, give, nothing, on_value, then_on}
use Rattle.page_meaning.specs.Errors.{on_refusal}
use Rattle.page_meaning.specs.Expressions.{assigned, eval, eval_fields}
use Rattle.page_meaning.specs.Names.{Here, resolved, write}
use Rattle.page_meaning.specs.Places.{object_prototype}
use Rattle.page_meaning.specs.Primitives.{make_environment}
use Rattle.page_meaning.specs.Properties.{define_member}
use Rattle.page_meaning.specs.Statements.{exec}
use Rattle.page_meaning.specs.Store.{Store, with_heap}
use Rattle.page_meaning.specs.declared.reference.Reference.TheVariants as reference
use Rattle.page_meaning.specs.declared.signal.Signal.TheVariants as signal
use Rattle.page_meaning.specs.Steps.{in_heap}
use Rattle.heap_relations.proofs.Callers as heap
use Rattle.heap_relations.proofs.Callers.{larger_same, scope_value}
use Rattle.heap_relations.specs.Naming.{Constant, Copied, Frame, Larger, OwnName, Round, World, are_below, env_id, is_scope_name, named, scope_name, with_slot}
use Rattle.heap_relations.specs.Scope.{AreFresh, EntryRel, IsFillable, entered, filled, scoped_slot}
use Rattle.object_shapes.proofs.Callers as shapes
use Rattle.object_shapes.specs.Links.{all_below, bound_links}
use Rattle.instrumenter.specs.Around.{var_of}
use Rattle.scope_analysis.specs.Names.{is_among}
use Rattle.agreement.proofs.Acts.{outcome_up}
use Rattle.agreement.proofs.Constants.{define_rest, kept_opened, not_done, older_now, ready_up}
use Rattle.agreement.proofs.Entries.{Enters, enters}
use Rattle.agreement.proofs.Made.{object_place}
use Rattle.agreement.proofs.PlainPuts.{define_plain}
use Rattle.agreement.specs.Acts.{Agrees, IsReady, StoreRel}
use Rattle.agreement.specs.Opened.{is_numbered, kept_in, scope_frame}

-- ---- an object literal, whose values need no more than the environments

pub data FieldsHave (d : Calls) (b : Here) (es : List Environment) : tree.Fields → Bound → Type 0 where
  no_more_fields : FieldsHave d b es no_fields []
  field : {x : List ℕ} {e : tree.Expr} {v : Value} {fs : tree.Fields} {vs : Bound} → ((t : Store) (n : ℕ) → t.heap.environments ≡ es → (eval d b e).run t n ≡ Ended (signal.Value v) t n)
      → FieldsHave d b es fs vs → FieldsHave d b es (then_field x e fs) ((x, v) ∷ vs)

abbrev at_place : ℕ → ObjId
at_place k = record { 0 = k }

-- the object stays a plain one
still_plain : (h : Contents) (k : ℕ) (x : List ℕ) (c : Change) → k < length h.objects → (object_at h.objects k).class ≡ class.Plain → (object_at (define_own h k x c).after.objects k).class ≡ class.Plain
still_plain h k x c there plain = by (kinds_steps h (defines k x c ∷ []) k there).0 plain
  where
    by : {d e : Class} → IsSameKind d e → e ≡ class.Plain → d ≡ class.Plain
    by (inl same) is = same ∙ is
    by (inr both) is = absurd (never both.1 is)
      where
        never : {e : Class} → IsTrue (is_event e) → e ≡ class.Plain → ⊥
        never event is = let wrong : is_event class.Plain ≡ true = ap is_event (sym is) ∙ event in cc wrong

fields_run : (d : Calls) (b : Here) (es : List Environment) (fs : tree.Fields) (vs : Bound) (t : Store) (n k : ℕ) → t.heap.environments ≡ es → FieldsHave d b es fs vs → IsFillable t.heap k vs
    → k < length t.heap.objects → (object_at t.heap.objects k).class ≡ class.Plain
    → (eval_fields d b fs (at_place k)).run t n ≡ Ended (signal.Value (scope_value k)) (with_heap t (filled t.heap k vs)) n
unfolding define_own
fields_run d b es _ _ t n k same no_more_fields fill there plain = refl
fields_run d b es _ _ t n k same (field {x = x} {e = e} {v = v} {fs = fs} {vs = vs} run rest) fill there plain =
    let after = with_heap t (define_own t.heap k x (whole_property v)).after in
    ap (λ o. then_on o (on_value (λ u. also (define_member (at_place k) x u) (λ w. eval_fields d b fs (at_place k))))) (run t n same)
    ∙ ap (λ (a : Attempt Contents). then_on ((on_refusal (give v) a.thrown).run (with_heap t a.after) n) (on_value (λ w. eval_fields d b fs (at_place k)))) (define_plain t (at_place k) x plain (whole_property v))
    ∙ ap (λ o. then_on ((on_refusal (give v) o).run after n) (on_value (λ w. eval_fields d b fs (at_place k)))) fill.0
    ∙ fields_run d b es fs vs after n k same rest fill.1 (omega (arith, there, (define_rest t.heap k x (whole_property v)).1)) (still_plain t.heap k x (whole_property v) there plain)

-- the object is the youngest
abbrev filled_heap : Contents → Bound → Contents
filled_heap h vs = filled (made h (new_object class.Plain (Some object_prototype))) (length h.objects) vs

abbrev with_plain : Contents → Contents
with_plain h = made h (new_object class.Plain (Some object_prototype))

made_there : (h : Contents) → length h.objects < length (with_plain h).objects
made_there h = omega (arith, length-append h.objects (settled (length h.objects) (new_object class.Plain (Some object_prototype)) ∷ []))

made_plain : (h : Contents) → (object_at (with_plain h).objects (length h.objects)).class ≡ class.Plain
made_plain h = ap (λ (o : Object). o.class) (object_last h.objects (settled (length h.objects) (new_object class.Plain (Some object_prototype))))

literal_run : (d : Calls) (b : Here) (fs : tree.Fields) (vs : Bound) (t : Store) (n : ℕ) → FieldsHave d b t.heap.environments fs vs → AreFresh [] vs
    → (eval d b (literal fs)).run t n ≡ Ended (signal.Value (scope_value (length t.heap.objects))) (with_heap t (filled_heap t.heap vs)) n
literal_run d b fs vs t n have fresh =
    fields_run d b t.heap.environments fs vs (with_heap t (made t.heap (new_object class.Plain (Some object_prototype)))) n (length t.heap.objects) refl have
    (heap.scope_fillable t.heap (Some object_prototype) vs fresh) (made_there t.heap) (made_plain t.heap)

-- ---- the first statement of the scope, which binds the object to a name

pub data Begins (z : List ℕ) (fs : tree.Fields) : tree.Stmt → Type 0 where
  by_var : Begins z fs (var_of z (literal fs))
  by_assignment : Begins z fs (expr (assign None (name z) (literal fs)))

begins_run : (d : Calls) (b : Here) (z : List ℕ) (fs : tree.Fields) (vs : Bound) (s : tree.Stmt) (t : Store) (n : ℕ) (q : EnvId) (old : Value) → Begins z fs s
    → look_in t.heap.environments b.env z ≡ Some (q, old) → FieldsHave d b t.heap.environments fs vs → AreFresh [] vs
    → (exec d b s).run t n ≡ Ended nothing (with_heap t (set (filled_heap t.heap vs) q.0 z (scope_value (length t.heap.objects)))) n
begins_run d b z fs vs _ t n q old by_var found have fresh =
    ap (λ o. then_on (then_on ((resolved z o).run t n) (λ r. also (eval d b (literal fs)) (write z r))) (on_value (λ u. done))) found
    ∙ ap (λ o. then_on (then_on o (on_value (write z (reference.Environment q)))) (on_value (λ u. done))) (literal_run d b fs vs t n have fresh)
begins_run d b z fs vs _ t n q old by_assignment found have fresh =
    ap (λ o. then_on (then_on ((resolved z o).run t n) (λ r. also (eval d b (literal fs)) (assigned (write z r)))) (on_value (λ u. done))) found
    ∙ ap (λ o. then_on (then_on o (on_value (assigned (write z (reference.Environment q))))) (on_value (λ u. done))) (literal_run d b fs vs t n have fresh)

-- ---- both enter

never_constant : (b c : Bool) → kept_in b c false ≡ Constant → ⊥
never_constant true true e = cc e
never_constant true false e = cc e
never_constant false true e = cc e
never_constant false false e = cc e

-- what the literal has in these pages, where the left binds names, and the right others
pub record Filling (W : World) (s t : Store) (d : Calls) (this : Value) (fields : List (List ℕ)) (n : ℕ) (bound : List ℕ → Bool) (fs : List Frame) (e f : Option EnvId) (names others : Bound) (lit : tree.Fields) : Type 0 where
  pub values : Bound
  pub known : List ℕ → Value
  pub have : FieldsHave d (record { env = Some (env_id (length t.heap.environments)); this = this }) (opened t.heap f others).environments lit values
  pub fresh : AreFresh [] values
  pub same : (x : List ℕ) → is_scope_name x ≡ false → EntryRel (named W) (known x) (kept_in (is_among x fields) (bound x) false) (value_of names x) (value_of others x) (value_of values x)
  pub own : (x : List ℕ) → kept_in (is_among x fields) (bound x) false ≡ Copied → OwnName W (scoped_slot s.heap t.heap (λ y. kept_in (is_among y fields) (bound y) false) n fs known) x e

-- a name that a new environment binds
pub found_new : (h : Contents) → IsSound h → (f : Option EnvId) (others : Bound) (z : List ℕ) (old : Value) → value_of others z ≡ Some old
    → look_in (opened h f others).environments (Some (env_id (length h.environments))) z ≡ Some (env_id (length h.environments), old)
found_new h sound f others z old there =
    let es = (opened h f others).environments in
    let k = length h.environments in
    let now = environment_last h.environments (new_environment (inside_older k f) others) in
    lookup_on es k z (sound_opened h sound f others).environments
    ∙ ap (λ (o : Option Value). first_bound k o (environment_at es k).outer (λ y. lookup es y z)) (ap (λ (i : Environment). value_of i.names z) now ∙ there)

-- it is read wherever the environments are these
pub new_name_run : (d : Calls) (this : Value) (h : Contents) (f : Option EnvId) (others : Bound) (z : List ℕ) (v : Value) → IsSound h → value_of others z ≡ Some v
    → (u : Store) (m : ℕ) → u.heap.environments ≡ (opened h f others).environments
    → (eval d (record { env = Some (env_id (length h.environments)); this = this }) (name z)).run u m ≡ Ended (signal.Value v) u m
new_name_run d this h f others z v sound there u m same =
    let k = env_id (length h.environments) in
    name_run d (record { env = Some k; this = this }) u m z k v (subst AreInside (sym same) (sound_opened h sound f others).environments)
    (ap (λ es. look_in es (Some k) z) same ∙ found_new h sound f others z v there)

pub enter_scoped : {V : World} (d : Calls) (this : Value) (y : List ℕ) (ys : List (List ℕ)) (n : ℕ) (bound : List ℕ → Bool) (fs : List Frame) (e f : Option EnvId) (names others : Bound) (old : Value) (lit : tree.Fields) (begin : tree.Stmt)
    (L R : EnvId → Act) (Q : Act) → V.opens ≡ true → Begins (scope_name n) lit begin → Round V fs e f → IsReady V e → is_numbered n (y ∷ ys) fs ≡ true
    → ((k : ℕ) → k < 2 ^ 64 → value_of others (scope_name k) ≡ (if nat_eq k n then Some old else None))
    → ((W : World) → Larger V W → (s t : Store) → StoreRel W s t → all_below (length s.heap.objects) (bound_links names) ≡ true)
    → ((W : World) → Larger V W → (s t : Store) → StoreRel W s t → Filling W s t d this (y ∷ ys) n bound fs e f names others lit)
    → ((W : World) → Larger V W → (p q : EnvId) → Enters W (scope_frame (y ∷ ys) n bound (λ z. false)) fs p q → Agrees W (L p) (R q))
    → ((t u : Store) (m : ℕ) → (exec d (record { env = Some (env_id (length t.heap.environments)); this = this }) begin).run (with_heap t (opened t.heap f others)) m ≡ Ended nothing u m
    → Q.run t m ≡ (R (env_id (length t.heap.environments))).run u m)
    → Agrees V (bind (make_environment e names) L) Q
enter_scoped {V = V} d this y ys n bound fs e f names others old lit begin L R Q opened_there begins o ready numbered hidden below filling go rest = record {
  run = λ W l s t m g.
      let z = filling W l s t g in
      let parts = and_parts (nat_lt n 18446744073709551616) (are_below n fs) numbered in
      let small : n < 2 ^ 64 = omega (arith, ltb-true n 18446744073709551616 parts.0) in
      let slot = scoped_slot s.heap t.heap (λ x. kept_in (is_among x (y ∷ ys)) (bound x) false) n fs z.known in
      let up = heap.larger_slot {W = W} slot in
      let p = env_id (length s.heap.environments) in
      let q = env_id (length t.heap.environments) in
      let there = with_heap t (opened t.heap f others) in
      let after = with_heap t (entered t.heap f others (Some object_prototype) n z.values) in
      let found = found_new t.heap g.heap.right f others (scope_name n) old (hidden n small ∙ ap (λ c. if c then Some old else None) (eq-eqb n n refl)) in
      let ran : (exec d (record { env = Some q; this = this }) begin).run there m ≡ Ended nothing after m =
      begins_run d (record { env = Some q; this = this }) (scope_name n) lit z.values begin there m q old begins found z.have z.fresh
      in
      let right : Q.run t m ≡ (R q).run after m = rest t after m ran in
      let stores : StoreRel (with_slot W slot) (with_heap s (opened s.heap e names)) after = record {
        heap = heap.scope_entered W s.heap t.heap e f names others (Some object_prototype) (λ x. kept_in (is_among x (y ∷ ys)) (bound x) false) n fs z.values old z.known g.heap (sym l.opens ∙ opened_there) (heap.round_up l o) small parts.1
            (λ a i. prototype_there a i (heap.there g.heap (g.built_ins object_prototype.0 object_place)).1) z.fresh z.same z.own hidden;
        lines = g.lines;
        host = host_up up refl g.host;
        built_ins = λ k few. heap.named_up up (g.built_ins k few);
        shaped = shapes.step_shaped s (in_heap (opens e names) refl) g.heap.left g.shaped (below W l s t g);
        kept = kept_opened g.kept g.heap slot e names refl (heap.round_there g.heap (heap.round_up l o)).0 (older_now g.kept (ready_up l ready))
            (λ x c. absurd (never_constant (is_among x (y ∷ ys)) (bound x) c)) (λ x p c. absurd (never_constant (is_among x (y ∷ ys)) (bound x) c)) (λ p. omega arith) (not_done g.kept);
      }
      in
      rw right (outcome_up up ((go (with_slot W slot) (heap.larger_more l up) p q (enters slot (heap.named_slot W slot) (λ x p. absurd (cc p)))).run (with_slot W slot) larger_same (with_heap s (opened s.heap e names)) after m stores));
}
  where
    prototype_there : {k : ℕ} (a : ObjId) → Some object_prototype ≡ Some a → object_prototype.0 < k → a.0 < k
    prototype_there a i h = let same : object_prototype ≡ a = cc in rw (← same) h
