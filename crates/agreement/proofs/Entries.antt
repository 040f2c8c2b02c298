-- What functions and catch clauses bind when they are entered, and their environments in both pages (sections 10.2.1.1 and 10.5).
use Rattle.std.proofs.Common.{◌≡◌, refl, sym, ap, ◌∙◌, ℕ, ◌||◌, Bool, true, false, cond, List, [], ◌∷◌, ◌++◌, Option, Some, None, is_some, bytes_eq, if◌then◌else◌, subst, ◌<◌, ◌^◌, length, arith}
use Rattle.page_meaning.specs.Store.{Store}
use Rattle.object_shapes.specs.Links.{all_below, bound_links, value_links}
use Rattle.std.proofs.lemmas.Slice.Eq.{bytes_eq-Decides}
use Rattle.code_table.specs.Declarations.{functions_of, variables_of}
use Rattle.js_core.specs.Tree as tree
use Rattle.js_values.specs.declared.ids.EnvId.{EnvId}
use Rattle.js_values.specs.declared.value.Value.{Value}
use Rattle.js_values.specs.declared.value.Value.TheVariants.{Undefined}
use Rattle.object_heap.specs.Environment.{Bound, value_of}
use Rattle.object_heap.specs.declared.property.Prop.{Prop}
use Rattle.page_meaning.specs.Functions.{entry_names, function_names, with_arguments, with_names}
use Rattle.page_meaning.specs.Primitives.{bind_name, make_environment}
use Rattle.page_meaning.specs.Steps.{in_heap}
use Rattle.scope_analysis.specs.Names.{is_among}
use Rattle.heap_relations.proofs.Callers.{is_some_same}
use Rattle.heap_relations.proofs.Callers as heap
use Rattle.heap_relations.specs.Laws.{free_slot}
use Rattle.heap_relations.specs.Naming.{Constant, Copied, Frame, Free, held, In, Kept, Larger, NameRel, Round, Slot, World, absent, env_id, free, here, inside, is_reserved, named, there, with_slot, scope_name}
use Rattle.heap_relations.specs.Related.{Each, Entries, Links, Maybe, ValueRel, each, entry, no_entries, no_more, none, some, undefined}
use Rattle.object_heap.specs.Laws.{binds, opens}
use Rattle.object_shapes.proofs.Callers as shapes
use Rattle.object_shapes.proofs.Callers.{below_parts}
use Rattle.agreement.proofs.HostsUp.{host_up}
use Rattle.agreement.proofs.Constants.{not_done, kept_opened, kept_set, older_now, ready_up, set_up}
use Rattle.agreement.proofs.Linked.{names_below, value_below}
use Rattle.agreement.specs.Acts.{ActRel, Equal, ended, IsReady, IsSet, scope, StoreRel}
use Rattle.agreement.specs.Trees.{bound_where, entry_frame, frame_of, free_where}

-- ---- lists of names, with related values

module _ {R : Value → Value → Type 0} (r : R Undefined Undefined) where
  pub arguments_rel : (xs : List (List ℕ)) (vs ws : List Value) → Each R vs ws → Entries R (with_arguments xs vs) (with_arguments xs ws)
  arguments_rel [] vs ws h = no_entries
  arguments_rel (x ∷ xs) [] [] h = entry r (arguments_rel xs [] [] no_more)
  arguments_rel (x ∷ xs) (v ∷ vs) (w ∷ ws) (each h hs) = entry h (arguments_rel xs vs ws hs)
  arguments_rel (x ∷ xs) [] (w ∷ ws) h = elim h [ ]
  arguments_rel (x ∷ xs) (v ∷ vs) [] h = elim h [ ]

  one_more : {b c : Bound} (x : List ℕ) (p q : Bool) → p ≡ q → Entries R b c → Entries R (if p then b else b ++ (x, Undefined) ∷ []) (if q then c else c ++ (x, Undefined) ∷ [])
  one_more x true true e h = h
  one_more x false false e h = heap.entries_append h (entry r no_entries)
  one_more x true false e h = absurd (cc e)
  one_more x false true e h = absurd (cc e)

  names_rel : (xs : List (List ℕ)) (b c : Bound) → Entries R b c → Entries R (with_names b xs) (with_names c xs)
  names_rel [] b c h = h
  names_rel (x ∷ xs) b c h =
      names_rel xs (if is_some (value_of b x) then b else b ++ (x, Undefined) ∷ []) (if is_some (value_of c x) then c else c ++ (x, Undefined) ∷ [])
      (one_more x (is_some (value_of b x)) (is_some (value_of c x)) (is_some_same (heap.entry_found (bytes_eq x) h)) h)

  all_names_rel : (formals : List (List ℕ)) (body : tree.Stmts) (vs ws : List Value) → Entries R (with_arguments formals vs) (with_arguments formals ws) → Entries R (entry_names formals body vs) (entry_names formals body ws)
  all_names_rel formals body vs ws h =
      let names = function_names (functions_of body) in
      names_rel (variables_of body) (with_names (with_arguments formals vs) names) (with_names (with_arguments formals ws) names) (names_rel names (with_arguments formals vs) (with_arguments formals ws) h)

pub entry_names_rel : {V : World} (formals : List (List ℕ)) (body : tree.Stmts) (vs ws : List Value) → Each (ValueRel (named V)) vs ws
    → Entries (ValueRel (named V)) (entry_names formals body vs) (entry_names formals body ws)
entry_names_rel formals body vs ws h = all_names_rel undefined formals body vs ws (arguments_rel undefined formals vs ws h)

-- the names do not depend on the values
record Any (v w : Value) : Type 0 where

any_arguments : (xs : List (List ℕ)) (vs : List Value) → Entries Any (with_arguments xs vs) (with_arguments xs [])
any_arguments [] vs = no_entries
any_arguments (x ∷ xs) [] = entry (record {}) (any_arguments xs [])
any_arguments (x ∷ xs) (v ∷ vs) = entry (record {}) (any_arguments xs vs)

pub entry_names_same : (formals : List (List ℕ)) (body : tree.Stmts) (vs : List Value) (x : List ℕ) → is_some (value_of (entry_names formals body vs) x) ≡ is_some (value_of (entry_names formals body []) x)
entry_names_same formals body vs x =
    is_some_same (heap.entry_found (bytes_eq x) (all_names_rel {R = Any} (record {}) formals body vs [] (any_arguments formals vs)))

-- ---- which names are bound

found_longer : (b c : Bound) (x : List ℕ) → is_some (value_of b x) ≡ true → is_some (value_of (b ++ c) x) ≡ true
found_longer [] c x h = cc h
found_longer (e ∷ b) c x h = by_case (bytes_eq x e.0) (found_longer b c x) h
  where
    by_case : (t : Bool) → (is_some (value_of b x) ≡ true → is_some (value_of (b ++ c) x) ≡ true) → is_some (cond t (Some e.1) (value_of b x)) ≡ true → is_some (cond t (Some e.1) (value_of (b ++ c) x)) ≡ true
    by_case true more k = refl
    by_case false more k = more k

found_last : (b : Bound) (x : List ℕ) (v : Value) → is_some (value_of (b ++ (x, v) ∷ []) x) ≡ true
found_last [] x v = rw ((bytes_eq-Decides x x).1 refl) refl
found_last (e ∷ b) x v = by_case (bytes_eq x e.0) (found_last b x v)
  where
    by_case : (t : Bool) → is_some (value_of (b ++ (x, v) ∷ []) x) ≡ true → is_some (cond t (Some e.1) (value_of (b ++ (x, v) ∷ []) x)) ≡ true
    by_case true k = refl
    by_case false k = k

names_keep : (b : Bound) (xs : List (List ℕ)) (x : List ℕ) → is_some (value_of b x) ≡ true → is_some (value_of (with_names b xs) x) ≡ true
names_keep b [] x h = h
names_keep b (y ∷ ys) x h = names_keep (if is_some (value_of b y) then b else b ++ (y, Undefined) ∷ []) ys x (by_case (is_some (value_of b y)))
  where
    by_case : (t : Bool) → is_some (value_of (if t then b else b ++ (y, Undefined) ∷ []) x) ≡ true
    by_case true = h
    by_case false = found_longer b ((y, Undefined) ∷ []) x h

names_bind : (b : Bound) (xs : List (List ℕ)) (x : List ℕ) → In x xs → is_some (value_of (with_names b xs) x) ≡ true
names_bind b (y ∷ xs) x here = names_keep (if is_some (value_of b x) then b else b ++ (x, Undefined) ∷ []) xs x (by_case (is_some (value_of b x)) refl)
  where
    by_case : (t : Bool) → is_some (value_of b x) ≡ t → is_some (value_of (if t then b else b ++ (x, Undefined) ∷ []) x) ≡ true
    by_case true e = e
    by_case false e = found_last b x Undefined
names_bind b [] x i = elim i [ ]
names_bind b (y ∷ xs) x (there i) = names_bind (if is_some (value_of b y) then b else b ++ (y, Undefined) ∷ []) xs x i

-- a function declares the names of its functions
pub entry_free : (formals : List (List ℕ)) (body : tree.Stmts) (x : List ℕ) → In x (function_names (functions_of body)) → (entry_frame formals body).keeps x ≡ Free
entry_free formals body x i = ap free_where (names_keep (with_names (with_arguments formals []) (function_names (functions_of body))) (variables_of body) x (names_bind (with_arguments formals []) (function_names (functions_of body)) x i))

-- one name alone
pub one_name_same : (x : List ℕ) (v : Value) (y : List ℕ) → is_some (value_of ((x, v) ∷ []) y) ≡ is_among y (x ∷ [])
one_name_same x v y = by_case (bytes_eq y x)
  where
    by_case : (t : Bool) → is_some (cond t (Some v) None) ≡ (t || false)
    by_case true = refl
    by_case false = refl

pub own_name_free : (x : List ℕ) → (frame_of (x ∷ [])).keeps x ≡ Free
own_name_free x = rw ((bytes_eq-Decides x x).1 refl) refl

-- ---- environments

-- two environments of one frame, with others round it
pub data Enters (W : World) : Frame → List Frame → EnvId → EnvId → Type 0 where
  enters : (s : Slot) → In s W.slots → IsSet W s → Enters W s.frame s.round (env_id s.one) (env_id s.two)

pub enters_up : {V W : World} {f : Frame} {fs : List Frame} {a b : EnvId} → Larger V W → Enters V f fs a b → Enters W f fs a b
enters_up l (enters s i h) = enters s (l.slots s i) (set_up l s h)

pub enters_round : {V : World} {f : Frame} {fs : List Frame} {a b : EnvId} → Enters V f fs a b → Round V (f ∷ fs) (Some a) (Some b)
enters_round (enters s i h) = inside s i

pub enters_ready : {V : World} {f : Frame} {fs : List Frame} {a b : EnvId} → Enters V f fs a b → IsReady V (Some a)
enters_ready (enters s i h) = scope s i h

-- undefined, where there is none
abbrev pub value_held : Option Value → Value
value_held None = Undefined
value_held (Some v) = v

pub bound_name : {L : Links} {o p : Option Value} {q : Option Prop} (known : Value) (b c : Bool) → is_some o ≡ b → Maybe (ValueRel L) o p → NameRel L false known (bound_where b c) o p q
bound_name known true true e (some h) = held h
bound_name known true false e (some h) = free h
bound_name known false c e none = absent
bound_name known false c e (some h) = absurd (cc e)
bound_name known true c e none = absurd (cc e)

pub not_copied : (b c : Bool) → bound_where b c ≡ Copied → ⊥
not_copied true true e = cc e
not_copied true false e = cc e
not_copied false c e = cc e

-- a constant name is bound
pub constant_bound : (b c : Bool) → bound_where b c ≡ Constant → b ≡ true
constant_bound true c e = refl
constant_bound false c e = absurd (cc e)

-- what it holds is there
pub value_of_below : (n : ℕ) (names : Bound) (x : List ℕ) → all_below n (bound_links names) ≡ true → all_below n (value_links (value_held (value_of names x))) ≡ true
value_of_below n [] x h = refl
value_of_below n (e ∷ es) x h =
    let parts = below_parts n (value_links e.1) (bound_links es) h in
    by_case (bytes_eq x e.0) parts.0 (value_of_below n es x parts.1)
  where
    by_case : (b : Bool) → all_below n (value_links e.1) ≡ true → all_below n (value_links (value_held (value_of es x))) ≡ true
        → all_below n (value_links (value_held (cond b (Some e.1) (value_of es x)))) ≡ true
    by_case true p q = p
    by_case false p q = q

pub held_some : (o : Option Value) → is_some o ≡ true → o ≡ Some (value_held o)
held_some (Some v) e = refl
held_some None e = absurd (cc e)

pub names_up : {V W : World} {b c : Bound} → Larger V W → Entries (ValueRel (named V)) b c → Entries (ValueRel (named W)) b c
names_up l no_entries = no_entries
names_up l (entry h r) = entry (heap.value_up l h) (names_up l r)

-- the frame of an environment without a scope object
abbrev pub plain_frame : (List ℕ → Bool) → (List ℕ → Bool) → Frame
plain_frame bound constant = record { keeps = λ x. bound_where (bound x) (constant x); scoped = false; number = 0 }

-- an environment is made on both sides, on the right maybe with more names, or in another order; it has no scope object. Its constants are
-- what it is made with
pub environment_rel : {V : World} (bound constant : List ℕ → Bool) (fs : List Frame) (e f : Option EnvId) (names others : Bound) → Round V fs e f → IsReady V e
    → ((x : List ℕ) → is_reserved V.opens x ≡ false → Maybe (ValueRel (named V)) (value_of names x) (value_of others x)) → ((x : List ℕ) → is_some (value_of names x) ≡ bound x)
    → (V.opens ≡ true → (k : ℕ) → k < 2 ^ 64 → value_of others (scope_name k) ≡ None)
    → ((W : World) → Larger V W → (s t : Store) → StoreRel W s t → all_below (length s.heap.objects) (bound_links names) ≡ true)
    → ActRel (λ W. Enters W (plain_frame bound constant) fs) V (make_environment e names) (make_environment f others)
environment_rel bound constant fs e f names others o ready h same hidden below = record {
  run = λ W l s t n g.
      let keeps : List ℕ → Kept = λ x. bound_where (bound x) (constant x) in
      let known : List ℕ → Value = λ x. value_held (value_of names x) in
      let slot = free_slot s.heap t.heap keeps fs known None (length s.heap.objects) in
      let up = heap.larger_slot {W = W} slot in
      let small = below W l s t g in
      ended (with_slot W slot) up (enters slot (heap.named_slot W slot) (λ x p. absurd (cc p))) (record {
        heap = heap.environments_opened W s.heap t.heap e f names others keeps fs known None (length s.heap.objects) g.heap (heap.round_up l o)
            (λ x own p. bound_name (known x) (bound x) (constant x) (same x) (heap.some_value_up l (h x (subst (λ b. is_reserved b x ≡ false) (sym l.opens) own))))
            (λ x k. not_copied (bound x) (constant x) k)
            (λ q. hidden (l.opens ∙ q));
        lines = g.lines;
        host = host_up up refl g.host;
        built_ins = λ k few. heap.named_up up (g.built_ins k few);
        shaped = shapes.step_shaped s (in_heap (opens e names) refl) g.heap.left g.shaped small;
        kept = kept_opened g.kept g.heap slot e names refl (heap.round_there g.heap (heap.round_up l o)).0 (older_now g.kept (ready_up l ready))
            (λ x c. value_of_below (length s.heap.objects) names x small)
            (λ x p c. held_some (value_of names x) (same x ∙ constant_bound (bound x) (constant x) c))
            (λ p. omega arith)
            (not_done g.kept);
      });
}

-- with the same names, of which none is a scope object's
pub opened_rel : {V : World} (bound constant : List ℕ → Bool) (fs : List Frame) (e f : Option EnvId) (names others : Bound)
    → (V.opens ≡ true → (k : ℕ) → k < 2 ^ 64 → value_of others (scope_name k) ≡ None) → Round V fs e f → IsReady V e
    → Entries (ValueRel (named V)) names others → ((x : List ℕ) → is_some (value_of names x) ≡ bound x)
    → ActRel (λ W. Enters W (plain_frame bound constant) fs) V (make_environment e names) (make_environment f others)
opened_rel bound constant fs e f names others hidden o ready h same =
    environment_rel bound constant fs e f names others o ready (λ x own. heap.entry_found (bytes_eq x) h) same hidden (λ W l s t g. names_below g (names_up l h))

-- a name of it takes the value
pub bound_rel : {V : World} {f : Frame} {fs : List Frame} {a b : EnvId} {v w : Value} (x : List ℕ) → is_reserved V.opens x ≡ false → Enters V f fs a b → f.keeps x ≡ Free → ValueRel (named V) v w
    → ActRel (Equal {A = Unit {0}}) V (bind_name a x v) (bind_name b x w)
bound_rel {v = v} x own (enters s i h) is_free r = record {
  run = λ W l t u n g.
      ended W heap.larger_same refl (record {
        heap = heap.name_set g.heap s x (l.slots s i) (subst (λ b. is_reserved b x ≡ false) l.opens own) is_free (heap.value_up l r);
        lines = g.lines;
        host = g.host;
        built_ins = g.built_ins;
        shaped = shapes.step_shaped t (in_heap (binds s.one x v) refl) g.heap.left g.shaped (value_below g (heap.value_up l r));
        kept = kept_set g.kept g.heap s (l.slots s i) x v (λ c. absurd (cc (sym is_free ∙ c)));
      });
}
