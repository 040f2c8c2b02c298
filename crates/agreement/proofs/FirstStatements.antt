-- A scope is entered whose first statement sets its constant, to an object literal of names and `void 0` (sections 10.5, 11.1.5 and 12.14). The
-- literal is older than all that its parts make, so its place is known when the scope is entered.
use Rattle.std.proofs.Common.{◌≡◌, refl, sym, ap, subst, ◌∙◌, ℕ, suc, Bool, true, false, not, List, ◌∷◌, Option, Some, is_some, length, bytes_eq, arith, if◌then◌else◌}
use Rattle.std.proofs.lemmas.Bool.{and_from, and_parts, lt-ltb}
use Rattle.std.proofs.lemmas.Slice.Eq.{bytes_eq-Decides}
use Rattle.js_core.specs.declared.operators.UnaryOp.TheVariants.{Void}
use Rattle.js_core.specs.Tree as tree
use Rattle.js_core.specs.Tree.{assign, expr, literal, name, no_fields, num, then_field, then_stmt, unary}
use Rattle.js_values.specs.declared.ids.EnvId.{EnvId}
use Rattle.js_values.specs.declared.ids.ObjId.{ObjId}
use Rattle.js_values.specs.declared.value.Value.{Value}
use Rattle.js_values.specs.declared.value.Value.TheVariants.{Object}
use Rattle.object_heap.proofs.Callers.{environment_set_same, value_set, value_set_other}
use Rattle.object_heap.specs.Environment.{Bound, Environment, environment_at, value_of, with_bound}
use Rattle.object_heap.specs.Heap.{look_in, opened, set}
use Rattle.object_heap.specs.Laws.{binds, opens}
use Rattle.object_shapes.proofs.Callers as shapes
use Rattle.object_shapes.proofs.Callers.{below_more}
use Rattle.object_shapes.specs.Links.{all_below, bound_links, value_links}
use Rattle.page_meaning.specs.Act.{Act, Calls, Ended, Outcome, Stopped, also, bind, done, on_value, then_on}
use Rattle.page_meaning.specs.Expressions.{assigned, eval, eval_fields}
use Rattle.page_meaning.specs.Names.{Here, resolved, write}
use Rattle.page_meaning.specs.Primitives.{make_environment}
use Rattle.page_meaning.specs.Statements.{exec, exec_all}
use Rattle.page_meaning.specs.Store.{Store, with_heap}
use Rattle.page_meaning.specs.declared.reference.Reference.TheVariants as reference
use Rattle.page_meaning.specs.declared.signal.Signal.{Signal}
use Rattle.page_meaning.specs.declared.signal.Signal.TheVariants as signal
use Rattle.page_meaning.specs.Steps.{in_heap}
use Rattle.script_rules.specs.Form.{are_plain_fields, is_plain_value, is_zero}
use Rattle.heap_relations.proofs.Callers as heap
use Rattle.heap_relations.proofs.Callers.{larger_more, larger_same}
use Rattle.heap_relations.specs.Laws.{free_slot}
use Rattle.heap_relations.specs.Naming.{Constant, Frame, In, Kept, Larger, Named, Round, Slot, World, env_id, here, inside, is_reserved, named, resolve, with_done, with_slot}
use Rattle.heap_relations.specs.Related as related
use Rattle.heap_relations.specs.Related.{Entries, ValueRel, object, undefined}
use Rattle.agreement.proofs.HostsUp.{host_up}
use Rattle.agreement.proofs.Acts.{also_rel, bind_rel, outcome_up, ret_rel}
use Rattle.agreement.proofs.Closures.{among_same}
use Rattle.agreement.proofs.Constants.{kept_done, kept_opened, kept_set, not_done, older_later, older_now, ready_up}
use Rattle.agreement.proofs.Entries.{bound_name, constant_bound, held_some, names_up, not_copied, plain_frame, value_held, value_of_below}
use Rattle.agreement.proofs.Heap.{named_up, value_up}
use Rattle.agreement.proofs.Linked.{names_below}
use Rattle.agreement.proofs.Made.{new_plain_rel}
use Rattle.agreement.proofs.Names.{read_round_rel}
use Rattle.agreement.proofs.Properties.{define_member_rel}
use Rattle.agreement.proofs.Scoped.{Begins, by_assignment, by_var, found_new}
use Rattle.agreement.proofs.Unopened.{reached_use}
use Rattle.agreement.proofs.Values.{give_rel}
use Rattle.agreement.specs.Acts.{ActRel, Agrees, HasSet, Ids, IsReady, OutcomeRel, SignalRel, StoreRel, break, continue, ended, return, scope, stopped, thrown, value as given}
use Rattle.agreement.specs.Opened.{Demand, expr_stands, fields_stand, may_use}
use Rattle.agreement.specs.Trees.{bound_where}

-- ---- an object literal, which ends as itself

abbrev is_value : Signal → Bool
is_value (signal.Value v) = true
is_value s = false

data FilledRel (o p : ObjId) (W : World) : Signal → Signal → Type 0 where
  filled : FilledRel o p W (signal.Value (Object o)) (signal.Value (Object p))
  ended_so : {a b : Signal} → is_value a ≡ false → SignalRel W a b → FilledRel o p W a b

also_filled : {V : World} {p q : Act} {f g : Value → Act} (o r : ObjId) → Agrees V p q
    → ((W : World) → Larger V W → (v w : Value) → ValueRel (named W) v w → ActRel (FilledRel o r) W (f v) (g w)) → ActRel (FilledRel o r) V (also p f) (also q g)
also_filled {V = V} {f = f} {g = g} o r m h = bind_rel m (λ W l a b e. by W l e)
  where
    by : (W : World) → Larger V W → {a b : Signal} → SignalRel W a b → ActRel (FilledRel o r) W (on_value f a) (on_value g b)
    by W l (given e) = h W l _ _ e
    by W l (thrown e) = ret_rel (λ X j. ended_so refl (thrown (value_up j e)))
    by W l (return e) = ret_rel (λ X j. ended_so refl (return (value_up j e)))
    by W l break = ret_rel (λ X j. ended_so refl break)
    by W l continue = ret_rel (λ X j. ended_so refl continue)

void_rel : {V : World} (c d : Calls) (a b : Here) (e : tree.Expr) → is_zero e ≡ true → Agrees V (eval c a (unary Void e)) (eval d b (unary Void e))
void_rel c d a b (num (Some z)) q = also_rel (give_rel related.num) (λ W l v w r. give_rel undefined)
void_rel c d a b e q = absurd (cc q)

plain_value_rel : {V : World} (c d : Calls) (D : Demand) (n : ℕ) (fs : List Frame) (a b : Here) (e : tree.Expr) → D.opens ≡ false → V.opens ≡ false
    → Round V fs a.env b.env → is_plain_value e ≡ true → expr_stands D n fs e ≡ true → Agrees V (eval c a e) (eval d b e)
plain_value_rel c d D n fs a b (name x) closed shut o q stands =
    read_round_rel fs a b x o (ap (λ k. is_reserved k x) shut)
    (reached_use false (resolve fs x) ∙ ap (λ k. may_use k false (resolve fs x)) (sym closed) ∙ (and_parts (not (is_reserved D.opens x)) (may_use D.opens false (resolve fs x)) stands).1)
plain_value_rel c d D n fs a b (unary Void e) closed shut o q stands = void_rel c d a b e q
plain_value_rel c d D n fs a b e closed shut o q stands = absurd (cc q)

plain_fields_rel : {V : World} (c d : Calls) (D : Demand) (n : ℕ) (fs : List Frame) (a b : Here) (es : tree.Fields) (o p : ObjId) → D.opens ≡ false → V.opens ≡ false
    → Round V fs a.env b.env → are_plain_fields es ≡ true → fields_stand D n fs es ≡ true → Named V o.0 p.0 → ActRel (FilledRel o p) V (eval_fields c a es o) (eval_fields d b es p)
plain_fields_rel c d D n fs a b no_fields o p closed shut r q stands i = ret_rel (λ W l. filled)
plain_fields_rel {V = V} c d D n fs a b (then_field x e es) o p closed shut r q stands i =
    let plain = and_parts (is_plain_value e) (are_plain_fields es) q in
    let both = and_parts _ _ stands in
    also_filled o p (plain_value_rel c d D n fs a b e closed shut r plain.0 both.0) (λ W l v w h.
    also_filled o p (define_member_rel o p (named_up l i) x h) (λ X j y z k.
    let more = larger_more l j in
    plain_fields_rel {V = X} c d D _ fs a b es o p closed (sym more.opens ∙ shut) (heap.round_up more r) plain.1 both.1 (named_up more i)))

-- ---- the first statement, from what its literal ends with

data Writes (q : EnvId) (z : List ℕ) : (Value → Act) → Type 0 where
  by_write : Writes q z (write z (reference.Environment q))
  by_assigned : Writes q z (assigned (write z (reference.Environment q)))

abbrev finish : Act → (Value → Act) → Outcome Signal → Outcome Signal
finish rest w o = then_on (then_on (then_on o (on_value w)) (on_value (λ u. done))) (on_value (λ u. rest))

record Finishes (c : Calls) (b : Here) (z : List ℕ) (lit : tree.Fields) (s : tree.Stmt) (q : EnvId) (t : Store) (n : ℕ) (rest : Act) : Type 0 where
  writing : Value → Act
  writes : Writes q z writing
  run : (also (exec c b s) (λ u. rest)).run t n ≡ finish rest writing ((eval c b (literal lit)).run t n)

finishes : (c : Calls) (b : Here) (z : List ℕ) (lit : tree.Fields) (s : tree.Stmt) (t : Store) (n : ℕ) (q : EnvId) (old : Value) (rest : Act) → Begins z lit s
    → look_in t.heap.environments b.env z ≡ Some (q, old) → Finishes c b z lit s q t n rest
finishes c b z lit _ t n q old rest by_var found = record {
  writing = write z (reference.Environment q);
  writes = by_write;
  run = ap (λ o. then_on (then_on (then_on ((resolved z o).run t n) (λ r. also (eval c b (literal lit)) (write z r))) (on_value (λ u. done))) (on_value (λ u. rest))) found;
}
finishes c b z lit _ t n q old rest by_assignment found = record {
  writing = assigned (write z (reference.Environment q));
  writes = by_assigned;
  run = ap (λ o. then_on (then_on (then_on ((resolved z o).run t n) (λ r. also (eval c b (literal lit)) (assigned (write z r)))) (on_value (λ u. done))) (on_value (λ u. rest))) found;
}

-- the place of an object that is made
abbrev place_of : ℕ → Outcome ObjId → ℕ
place_of i (Ended o s n) = o.0
place_of i (Stopped s) = i

finish_value : (rest : Act) (q : EnvId) (z : List ℕ) (v : Value) (s : Store) (n : ℕ) {w : Value → Act} → Writes q z w
    → finish rest w (Ended (signal.Value v) s n) ≡ rest.run (with_heap s (set s.heap q.0 z v)) n
finish_value rest q z v s n by_write = refl
finish_value rest q z v s n by_assigned = refl

-- ---- the scope

-- what both goes on with when the constant is set
abbrev GoesOn : World → List Frame → (EnvId → Act) → (EnvId → Act) → Type 0
GoesOn V fs L R = (W : World) → Larger V W → (p q : EnvId) → Round W fs (Some p) (Some q) → IsReady W (Some p) → Agrees W (L p) (R q)

module _ (bound constant : List ℕ → Bool) (z : List ℕ) (is_bound : bound z ≡ true) (is_constant : constant z ≡ true) (round : List Frame) where
  abbrev keeps : List ℕ → Kept
  keeps x = bound_where (bound x) (constant x)

  z_constant : keeps z ≡ Constant
  z_constant = λ j. bound_where (is_bound j) (is_constant j)

  -- the place of the object is that of the next one
  abbrev known_at : ℕ → Bound → List ℕ → Value
  known_at i names x = if bytes_eq x z then Object (record { 0 = i }) else value_held (value_of names x)

  z_known : (i : ℕ) (names : Bound) → known_at i names z ≡ Object (record { 0 = i })
  z_known i names = ap (λ b. if b then Object (record { 0 = i }) else value_held (value_of names z)) (among_same z)

  known_below : (i : ℕ) (names : Bound) (x : List ℕ) → all_below i (bound_links names) ≡ true → all_below (suc i) (value_links (known_at i names x)) ≡ true
  known_below i names x h = by_case (bytes_eq x z)
    where
      by_case : (b : Bool) → all_below (suc i) (value_links (if b then Object (record { 0 = i }) else value_held (value_of names x))) ≡ true
      by_case true = and_from _ true (lt-ltb i (suc i) (omega arith)) refl
      by_case false = below_more i (suc i) (value_links (value_held (value_of names x))) (omega arith) (value_of_below i names x h)

  known_held : (i : ℕ) (names : Bound) (x : List ℕ) → (Some z ≡ Some x → ⊥) → is_some (value_of names x) ≡ true → value_of names x ≡ Some (known_at i names x)
  known_held i names x far there = by_case (bytes_eq x z) refl
    where
      by_case : (b : Bool) → bytes_eq x z ≡ b → value_of names x ≡ Some (if b then Object (record { 0 = i }) else value_held (value_of names x))
      by_case true e = absurd (far (ap Some (sym ((bytes_eq-Decides x z).0 e))))
      by_case false e = held_some (value_of names x) there

  module _ {V : World} (c d : Calls) (this that : Value) (D : Demand) (n : ℕ) (lit : tree.Fields) (first : tree.Stmt) (rest : tree.Stmts) (begins : Begins z lit first)
      (closed : D.opens ≡ false) (shut : V.opens ≡ false) (plain : are_plain_fields lit ≡ true)
      (stands : fields_stand D n (plain_frame bound constant ∷ round) lit ≡ true)
      (go : GoesOn V (plain_frame bound constant ∷ round) (λ p. exec_all c (record { env = Some p; this = this }) rest) (λ q. exec_all d (record { env = Some q; this = that }) rest)) where
    abbrev left_here : EnvId → Here
    left_here p = record { env = Some p; this = this }

    abbrev right_here : EnvId → Here
    right_here q = record { env = Some q; this = that }

    -- in two pages where the scope is entered, and its slot is this
    module _ {W : World} (l : Larger V W) (s t : Store) (names : Bound) (slot : Slot) (there : In slot W.slots) (frame : slot.frame ≡ plain_frame bound constant)
        (outer : slot.round ≡ round) (known : slot.known ≡ known_at (length s.heap.objects) names) (pending : slot.pending ≡ Some z) (born : slot.born ≡ suc (length s.heap.objects)) where
      abbrev i : ℕ
      i = length s.heap.objects

      kept_z : slot.frame.keeps z ≡ Constant
      kept_z = ap (λ (f : Frame). f.keeps z) frame ∙ z_constant

      known_z : slot.known z ≡ Object (record { 0 = i })
      known_z = ap (λ (f : List ℕ → Value). f z) known ∙ z_known i names

      own : {X : World} → Larger W X → is_reserved X.opens z ≡ false
      own j = ap (λ k. is_reserved k z) (sym j.opens ∙ sym l.opens ∙ shut)

      -- the object is there: it is bound to the name
      set_run : {X : World} (j : Larger W X) (s3 t3 : Store) (m : ℕ) (o : ObjId) → StoreRel X s3 t3 → Named X i o.0
          → OutcomeRel SignalRel X ((exec_all c (left_here (env_id slot.one)) rest).run (with_heap s3 (set s3.heap slot.one z (Object (record { 0 = i })))) m)
          ((exec_all d (right_here (env_id slot.two)) rest).run (with_heap t3 (set t3.heap slot.two z (Object o))) m)
      set_run {X = X} j s3 t3 m o g named_there =
          let v : Value = Object (record { 0 = i }) in
          let in_x : In slot X.slots = j.slots slot there in
          let r : ValueRel (named X) v (Object o) = object named_there in
          let s4 = with_heap s3 (set s3.heap slot.one z v) in
          let t4 = with_heap t3 (set t3.heap slot.two z (Object o)) in
          let after : StoreRel X s4 t4 = record {
            heap = heap.constant_set g.heap slot z in_x (own j) kept_z r;
            lines = g.lines;
            host = g.host;
            built_ins = g.built_ins;
            shaped = shapes.step_shaped s3 (in_heap (binds slot.one z v) refl) g.heap.left g.shaped (and_from _ true (lt-ltb i (length s3.heap.objects) (heap.there g.heap named_there).0) refl);
            kept = kept_set g.kept g.heap slot in_x z v (λ e. sym known_z);
          }
          in
          let inside_x = (g.heap.slots.inside slot in_x).0 in
          let up = heap.larger_done {W = X} slot.one in
          let now = environment_set_same s3.heap slot.one z v inside_x in
          let before = heap.constant_read g.heap slot z in_x (own j) kept_z in
          let held : (x : List ℕ) → slot.frame.keeps x ≡ Constant → value_of (environment_at s4.heap.environments slot.one).names x ≡ Some (slot.known x) =
          λ x e. ap (λ (y : Environment). value_of y.names x) now ∙ held_there x e before.left before.one ((g.kept.scopes slot in_x).held x)
          in
          let ready : IsReady (with_done X slot.one) (Some (env_id slot.one)) = scope slot in_x (λ x e. here) in
          let full : StoreRel (with_done X slot.one) s4 t4 = record {
            heap = heap.agree_same up refl refl after.heap;
            lines = after.lines;
            host = host_up up refl after.host;
            built_ins = λ k small. named_up up (after.built_ins k small);
            shaped = after.shaped;
            kept = kept_done after.kept slot in_x (λ y k e. after.heap.slots.one_slot y slot k in_x e) held
                (let small = (heap.there after.heap named_there).0 in omega (arith, born, small)) (after.heap.slots.inside slot in_x).0;
          }
          in
          let more : Larger V (with_done X slot.one) = larger_more l (larger_more j up) in
          let stands_there : Round (with_done X slot.one) (plain_frame bound constant ∷ round) (Some (env_id slot.one)) (Some (env_id slot.two)) =
          subst (λ fs. Round (with_done X slot.one) fs (Some (env_id slot.one)) (Some (env_id slot.two))) (λ k. frame k ∷ outer k) (inside slot in_x)
          in
          outcome_up up ((go (with_done X slot.one) more (env_id slot.one) (env_id slot.two) stands_there ready).run (with_done X slot.one) larger_same s4 t4 m full)
        where
          held_there : (x : List ℕ) → slot.frame.keeps x ≡ Constant → (old : Value) → value_of (environment_at s3.heap.environments slot.one).names z ≡ Some old
              → (HasSet X slot x → slot.frame.keeps x ≡ Constant → value_of (environment_at s3.heap.environments slot.one).names x ≡ Some (slot.known x))
              → value_of (with_bound (environment_at s3.heap.environments slot.one) z (Object (record { 0 = i }))).names x ≡ Some (slot.known x)
          held_there x e old was kept = by_case (bytes_eq x z) refl
            where
              by_case : (b : Bool) → bytes_eq x z ≡ b → value_of (with_bound (environment_at s3.heap.environments slot.one) z (Object (record { 0 = i }))).names x ≡ Some (slot.known x)
              by_case true q =
                  let same : x ≡ z = (bytes_eq-Decides x z).0 q in
                  ap (value_of (with_bound (environment_at s3.heap.environments slot.one) z (Object (record { 0 = i }))).names) same
                  ∙ value_set (environment_at s3.heap.environments slot.one).names z old (Object (record { 0 = i })) was
                  ∙ ap Some (sym known_z ∙ ap slot.known (sym same))
              by_case false q =
                  value_set_other (environment_at s3.heap.environments slot.one).names z x (Object (record { 0 = i })) q
                  ∙ kept (λ p. absurd (far q (sym pending ∙ p))) e
                where
                  far : bytes_eq x z ≡ false → Some z ≡ Some x → ⊥
                  far f p = let same : z ≡ x = cc in let wrong : true ≡ false = sym ((bytes_eq-Decides x z).1 (sym same)) ∙ f in cc wrong

      -- however the literal ends
      ends_run : {X : World} (j : Larger W X) (o : ObjId) {w y : Value → Act} {u v : Outcome Signal} → Writes (env_id slot.one) z w → Writes (env_id slot.two) z y
          → Named X i o.0 → OutcomeRel (FilledRel (record { 0 = i }) o) X u v
          → OutcomeRel SignalRel W (finish (exec_all c (left_here (env_id slot.one)) rest) w u) (finish (exec_all d (right_here (env_id slot.two)) rest) y v)
      ends_run j o {w = w} {y = y} a b named_there (ended {s = s3} {t = t3} {n = m} Y k filled g) =
          let more = larger_more j k in
          rw (
            finish_value (exec_all c (left_here (env_id slot.one)) rest) (env_id slot.one) z (Object (record { 0 = i })) s3 m a,
            finish_value (exec_all d (right_here (env_id slot.two)) rest) (env_id slot.two) z (Object o) t3 m b,
          ) (outcome_up more (set_run more s3 t3 m o g (named_up k named_there)))
      ends_run j o {w = w} {y = y} a b named_there (ended {s = s3} {t = t3} {n = m} Y k (ended_so is r) g) = by is r
        where
          by : {p q : Signal} → is_value p ≡ false → SignalRel Y p q
              → OutcomeRel SignalRel W (finish (exec_all c (left_here (env_id slot.one)) rest) w (Ended p s3 m)) (finish (exec_all d (right_here (env_id slot.two)) rest) y (Ended q t3 m))
          by is (given h) = absurd (cc is)
          by is (thrown h) = ended Y (larger_more j k) (thrown h) g
          by is (return h) = ended Y (larger_more j k) (return h) g
          by is break = ended Y (larger_more j k) break g
          by is continue = ended Y (larger_more j k) continue g
      ends_run j o a b named_there (stopped Y k g) = stopped Y (larger_more j k) g

      first_run : (m : ℕ) (old older : Value) → StoreRel W s t
          → look_in s.heap.environments (Some (env_id slot.one)) z ≡ Some (env_id slot.one, old) → look_in t.heap.environments (Some (env_id slot.two)) z ≡ Some (env_id slot.two, older)
          → OutcomeRel SignalRel W ((exec_all c (left_here (env_id slot.one)) (then_stmt first rest)).run s m) ((exec_all d (right_here (env_id slot.two)) (then_stmt first rest)).run t m)
      first_run m old older g found around =
          let a = left_here (env_id slot.one) in
          let b = right_here (env_id slot.two) in
          let one = finishes c a z lit first s m (env_id slot.one) old (exec_all c a rest) begins found in
          let two = finishes d b z lit first t m (env_id slot.two) older (exec_all d b rest) begins around in
          rw (one.run, two.run) (made one.writes two.writes ((new_plain_rel {V = W}).run W larger_same s t m g) refl)
        where
          made : {w y : Value → Act} {u v : Outcome ObjId} → Writes (env_id slot.one) z w → Writes (env_id slot.two) z y → OutcomeRel Ids W u v → place_of i u ≡ i
              → OutcomeRel SignalRel W (finish (exec_all c (left_here (env_id slot.one)) rest) w (then_on u (eval_fields c (left_here (env_id slot.one)) lit)))
              (finish (exec_all d (right_here (env_id slot.two)) rest) y (then_on v (eval_fields d (right_here (env_id slot.two)) lit)))
          made a b (ended {a = p} {b = o} {s = s2} {t = t2} {n = k} X j id g2) is =
              let same : p ≡ record { 0 = i } = λ r. record { 0 = is r } in
              let stands_there : Round X (plain_frame bound constant ∷ round) (Some (env_id slot.one)) (Some (env_id slot.two)) =
              subst (λ fs. Round X fs (Some (env_id slot.one)) (Some (env_id slot.two))) (λ r. frame r ∷ outer r) (inside slot (j.slots slot there))
              in
              let fields = (plain_fields_rel c d D n (plain_frame bound constant ∷ round) (left_here (env_id slot.one)) (right_here (env_id slot.two)) lit p o closed
              (sym j.opens ∙ sym l.opens ∙ shut) stands_there plain stands id).run X larger_same s2 t2 k g2
              in
              ends_run j o a b (subst (λ q. Named X q.0 o.0) same id)
              (subst (λ q. OutcomeRel (FilledRel q o) X ((eval_fields c (left_here (env_id slot.one)) lit p).run s2 k) ((eval_fields d (right_here (env_id slot.two)) lit o).run t2 k)) same fields)
          made a b (stopped X j g2) is = stopped X j g2

    -- ---- both enter

    pub first_statement_rel : (e f : Option EnvId) (names others : Bound) → Round V round e f → IsReady V e → Entries (ValueRel (named V)) names others
        → ((x : List ℕ) → is_some (value_of names x) ≡ bound x)
        → Agrees V (bind (make_environment e names) (λ p. exec_all c (left_here p) (then_stmt first rest))) (bind (make_environment f others) (λ q. exec_all d (right_here q) (then_stmt first rest)))
    first_statement_rel e f names others o ready h same = record {
      run = λ W l s t m g.
          let i = length s.heap.objects in
          let known = known_at i names in
          let born = suc i in
          let slot = free_slot s.heap t.heap keeps round known (Some z) born in
          let up = heap.larger_slot {W = W} slot in
          let related = names_up l h in
          let small = names_below g related in
          let s1 = with_heap s (opened s.heap e names) in
          let t1 = with_heap t (opened t.heap f others) in
          let bound_left = held_some (value_of names z) (same z ∙ is_bound) in
          let bound_right = held_some (value_of others z) (sym (heap.is_some_same (heap.entry_found (bytes_eq z) related)) ∙ same z ∙ is_bound) in
          let now : StoreRel (with_slot W slot) s1 t1 = record {
            heap = heap.environments_opened W s.heap t.heap e f names others keeps round known (Some z) born g.heap (heap.round_up l o)
                (λ x own p. bound_name (known x) (bound x) (constant x) (same x) (heap.entry_found (bytes_eq x) related))
                (λ x k. not_copied (bound x) (constant x) k)
                (λ q. absurd (cc (sym shut ∙ l.opens ∙ q)));
            lines = g.lines;
            host = host_up up refl g.host;
            built_ins = λ k few. named_up up (g.built_ins k few);
            shaped = shapes.step_shaped s (in_heap (opens e names) refl) g.heap.left g.shaped small;
            kept = kept_opened g.kept g.heap slot e names refl (heap.round_there g.heap (heap.round_up l o)).0 (older_later (older_now g.kept (ready_up l ready)))
                (λ x k. known_below i names x small)
                (λ x p k. known_held i names x p (same x ∙ constant_bound (bound x) (constant x) k))
                (λ p. absurd (cc p))
                (not_done g.kept);
          }
          in
          outcome_up up (first_run (larger_more l up) s1 t1 names slot (heap.named_slot W slot) refl refl refl refl refl m (value_held (value_of names z)) (value_held (value_of others z)) now
          (found_new s.heap g.heap.left e names z (value_held (value_of names z)) bound_left) (found_new t.heap g.heap.right f others z (value_held (value_of others z)) bound_right));
    }
