-- Declared functions (section 10.5): the left makes them when it enters, the right by its first statements.
use Rattle.std.proofs.Common.{◌≡◌, refl, sym, ap, ◌∙◌, ℕ, ◌+◌, Bool, true, false, ◌||◌, List, [], ◌∷◌, Option, Some, None, if◌then◌else◌}
use Rattle.agreement.proofs.Declared.{right_among}
use Rattle.std.proofs.lemmas.Bool.{and_parts}
use Rattle.code_table.specs.Declarations.{functions_of}
use Rattle.js_core.specs.Tree as tree
use Rattle.js_core.specs.Tree.{assign, code, expr, func, function, name, no_stmts, then_stmt}
use Rattle.js_values.specs.declared.ids.EnvId.{EnvId}
use Rattle.js_values.specs.declared.value.Value.{Value}
use Rattle.js_values.specs.declared.value.Value.TheVariants.{Object}
use Rattle.object_heap.proofs.Callers.{lookup_on}
use Rattle.object_heap.specs.Environment.{environment_at}
use Rattle.object_heap.specs.Heap.{first_bound, look_in, lookup}
use Rattle.page_meaning.specs.Act.{Act, Calls, Ended, Outcome, also, bind, done, on_value, then_on}
use Rattle.page_meaning.specs.Expressions.{assigned, eval}
use Rattle.page_meaning.specs.Functions.{Declared, declare_functions, function_names, make_function}
use Rattle.page_meaning.specs.Names.{Here, resolved, write}
use Rattle.page_meaning.specs.Primitives.{bind_name}
use Rattle.page_meaning.specs.HostPuts.{put_member}
use Rattle.page_meaning.specs.Properties.{with_properties}
use Rattle.page_meaning.specs.Statements.{exec, exec_all}
use Rattle.page_meaning.specs.Store.{Store}
use Rattle.page_meaning.specs.declared.reference.Reference.TheVariants as reference
use Rattle.page_meaning.specs.declared.signal.Signal.{Signal}
use Rattle.page_meaning.specs.declared.signal.Signal.TheVariants as signal
use Rattle.heap_relations.proofs.Callers as heap
use Rattle.heap_relations.proofs.Callers.{larger_more, larger_same, scope_value}
use Rattle.heap_relations.specs.Naming.{Captured, Frame, Free, Larger, World, env_id, inside, is_reserved, resolve, scope_name}
use Rattle.scope_analysis.specs.Names.{is_among}
use Rattle.instrumenter.specs.Around.{Around, field_or_name, var_of}
use Rattle.instrumenter.specs.Counting.{stmt_scopes}
use Rattle.instrumenter.specs.Opening.{open_declarations}
use Rattle.agreement.proofs.Acts.{also_rel, outcome_up}
use Rattle.agreement.proofs.Closures.{declared_code, among_same}
use Rattle.agreement.proofs.Dropped.{act_from}
use Rattle.agreement.proofs.Entries.{Enters, enters, enters_up}
use Rattle.agreement.proofs.EqualTrees.{trees_up}
use Rattle.agreement.proofs.Constants.{set_up}
use Rattle.agreement.proofs.Functions.{all_older, make_function_rel, plain_one}
use Rattle.agreement.proofs.Heap.{value_up}
use Rattle.agreement.proofs.Made.{made_rel}
use Rattle.agreement.proofs.Names.{bound, reserved_up, write_rel}
use Rattle.agreement.proofs.ScopeObjects.{IsField, name_run, write_field_rel}
use Rattle.agreement.proofs.Values.{done_rel, give_rel}
use Rattle.agreement.specs.Acts.{Agrees, OutcomeRel, SignalRel, break, continue, ended, return, scope, stopped, thrown, value as given}
use Rattle.agreement.specs.Opened.{HasTrees, are_plain, function_stands, opened_at, opened_code, stmt_stands, stmts_stand}

-- ---- acts that end with a value

abbrev pub Gives : Outcome Signal → Type 0
Gives (Ended (signal.Value v) s n) = Unit {0}
Gives o = ⊥

pub declares_gives : (p : EnvId) (cs : Declared) (s : Store) (n : ℕ) → Gives ((declare_functions p cs).run s n)
declares_gives p [] s n = tt
declares_gives p ((None, c) ∷ cs) s n = declares_gives p cs s n
declares_gives p ((Some x, c) ∷ cs) s n = declares_gives p cs _ n

-- such an act goes first on the left, and on the right in what f takes the end of
pub first_done_rel : {V : World} (p q l r : Act) (f : Signal → Act) → Agrees V p q → ((s : Store) (n : ℕ) → Gives (p.run s n)) → ((W : World) → Larger V W → Agrees W l (bind r f))
    → Agrees V (also p (λ v. l)) (bind (also q (λ v. r)) f)
first_done_rel {V = V} p q l r f m gives h = record { run = λ W j s t n g. by_case W j (m.run W j s t n g) (gives s n) }
  where
    by_case : (W : World) → Larger V W → {o u : Outcome Signal} → OutcomeRel SignalRel W o u → Gives o → OutcomeRel SignalRel W (then_on o (on_value (λ v. l))) (then_on (then_on u (on_value (λ v. r))) f)
    by_case W j (ended {s = s} {t = t} {n = n} X i (given k) g) is = outcome_up i ((h X (larger_more j i)).run X larger_same s t n g)
    by_case W j (ended X i (thrown k) g) is = absurd is
    by_case W j (ended X i (return k) g) is = absurd is
    by_case W j (ended X i break g) is = absurd is
    by_case W j (ended X i continue g) is = absurd is
    by_case W j (stopped X i g) is = absurd is

-- ---- one function

-- a declared name as a field, or as a variable
pub data DeclaredAt (f : Frame) (x : List ℕ) : Bool → Option ℕ → Type 0 where
  as_field : f.keeps x ≡ Captured → f.scoped ≡ true → DeclaredAt f x true (Some f.number)
  as_variable : f.keeps x ≡ Free → DeclaredAt f x false None

abbrev declared_stmt : Bool → Option ℕ → List ℕ → tree.Expr → tree.Stmt
declared_stmt own o x e = if own then expr (assign None (field_or_name o x) e) else var_of x e

one_declared_rel : {V : World} {f : Frame} {gs : List Frame} {p q : EnvId} {own : Bool} {o : Option ℕ} (d : Calls) (that : Value) (n : ℕ) (x : List ℕ) (formals : List (List ℕ)) (body opened : tree.Stmts) → (trees : HasTrees V)
    → DeclaredAt f x own o → Enters V f gs p q → is_reserved V.opens x ≡ false → V.opens ≡ true
    → code None formals opened ≡ opened_code trees.demand.opens n (f ∷ gs) (code None formals body) → function_stands trees.demand n (f ∷ gs) (code None formals body) ≡ true
    → Agrees V (bind (make_function (code None formals body) (Some p)) (λ j. bind (bind_name p x (Object j)) (λ u. done)))
    (exec d (record { env = Some q; this = that }) (declared_stmt own o x (func (code None formals opened))))
one_declared_rel d that n x formals body opened trees (as_field keeps scoped) (enters s i ready) own opens same stands = record {
  run = λ W l t u m g.
      let b : Here = record { env = Some (env_id s.two); this = that } in
      let k = l.slots s i in
      let field : IsField W x s = record { there = k; held = keeps; own = reserved_up x l own } in
      let mk = make_function_rel n (s.frame ∷ s.round) None formals body opened (Some (env_id s.one)) (Some (env_id s.two)) (trees_up l trees) same (inside s k) (all_older (scope s k (set_up l s ready))) stands in
      let both = also_rel {f = λ v. done} {g = λ v. done} (also_rel {f = assigned (write x (reference.Environment (env_id s.one)))} {g = assigned (put_member d (scope_value s.place) x)} (made_rel mk)
      (λ X j v w r. also_rel (write_field_rel d x s (record { there = j.slots s k; held = keeps; own = reserved_up x j field.own }) r) (λ Y z a c e. give_rel (value_up z r)))) (λ X j v w r. done_rel)
      in
      let found = heap.scope_found g.heap s k scoped (sym l.opens ∙ opens) in
      let right = ap (λ a. then_on (then_on a (on_value (λ base. also (with_properties base) (λ y. also (eval d b (func (code None formals opened))) (assigned (put_member d y x)))))) (on_value (λ v. done)))
      (name_run d b u m (scope_name s.frame.number) (env_id s.two) (scope_value s.place) g.heap.right.environments found)
      in
      rw right (both.run W larger_same t u m g);
}
one_declared_rel d that n x formals body opened trees (as_variable keeps) (enters s i ready) own opens same stands = record {
  run = λ W l t u m g.
      let b : Here = record { env = Some (env_id s.two); this = that } in
      let k = l.slots s i in
      let plain = reserved_up x l own in
      let mk = make_function_rel n (s.frame ∷ s.round) None formals body opened (Some (env_id s.one)) (Some (env_id s.two)) (trees_up l trees) same (inside s k) (all_older (scope s k (set_up l s ready))) stands in
      let both = also_rel {f = λ v. done} {g = λ v. done} (also_rel {f = write x (reference.Environment (env_id s.one))} {g = write x (reference.Environment (env_id s.two))} (made_rel mk)
      (λ X j v w r. write_rel x (bound s (j.slots s k) keeps (reserved_up x j plain)) r)) (λ X j v w r. done_rel)
      in
      let here = heap.free_read g.heap s x k plain keeps in
      let found : look_in u.heap.environments (Some (env_id s.two)) x ≡ Some (env_id s.two, here.right) =
      lookup_on u.heap.environments s.two x g.heap.right.environments
      ∙ ap (λ a. first_bound s.two a (environment_at u.heap.environments s.two).outer (λ y. lookup u.heap.environments y x)) here.two
      in
      let right = ap (λ a. then_on (then_on ((resolved x a).run u m) (λ r. also (eval d b (func (code None formals opened))) (write x r))) (on_value (λ v. done))) found in
      rw right (both.run W larger_same t u m g);
}

-- ---- all of them

pub among_first : (x : List ℕ) (xs : List (List ℕ)) → is_among x (x ∷ xs) ≡ true
among_first x xs = ap (λ b. b || is_among x xs) (among_same x)

pub among_later : (y x : List ℕ) (xs : List (List ℕ)) → is_among y xs ≡ true → is_among y (x ∷ xs) ≡ true
among_later y x xs i = right_among y (x ∷ []) xs i

pub hoisted_rel : {V : World} {f : Frame} {gs : List Frame} {p q : EnvId} (ss : tree.Stmts) (n : ℕ) (d : Calls) (that : Value) (k : Around) → (trees : HasTrees V)
    → V.opens ≡ true → k.opens ≡ trees.demand.opens → k.fields ≡ (λ y. opened_at trees.demand.opens (resolve (f ∷ gs) y)) → Enters V f gs p q
    → ((x : List ℕ) → is_among x (function_names (functions_of ss)) ≡ true → DeclaredAt f x (k.own x) (k.fields x))
    → stmts_stand trees.demand n (f ∷ gs) ss ≡ true
    → Agrees V (declare_functions p (functions_of ss)) (exec_all d (record { env = Some q; this = that }) (open_declarations k n ss))
hoisted_rel no_stmts n d that k trees opens same fields m at stands = done_rel
hoisted_rel {f = f} {gs = gs} (then_stmt (function (code None formals body)) ss) n d that k trees opens same fields m at stands =
    hoisted_rel ss (n + stmt_scopes (function (code None formals body))) d that k trees opens same fields m at
    (and_parts (stmt_stands trees.demand n (f ∷ gs) (function (code None formals body))) (stmts_stand trees.demand (n + stmt_scopes (function (code None formals body))) (f ∷ gs) ss) stands).1
hoisted_rel {f = f} {gs = gs} {p = p} (then_stmt (function (code (Some x) formals body)) ss) n d that k trees opens same fields m at stands =
    let c = function (code (Some x) formals body) in
    let both = and_parts (stmt_stands trees.demand n (f ∷ gs) c) (stmts_stand trees.demand (n + stmt_scopes c) (f ∷ gs) ss) stands in
    let one = and_parts (are_plain trees.demand.opens (x ∷ [])) (function_stands trees.demand n (f ∷ gs) (code None formals body)) both.0 in
    let truth : trees.demand.opens ≡ true = sym trees.opens ∙ opens in
    let plain : is_reserved true x ≡ false = plain_one x (ap (λ o. are_plain o (x ∷ [])) (sym truth) ∙ one.0) in
    act_from _ (λ s m. refl)
    (also_rel (one_declared_rel d that n x formals body _ trees (at x (among_first x (function_names (functions_of ss)))) m (ap (λ o. is_reserved o x) opens ∙ plain) opens
    (declared_code k n trees.demand.opens (f ∷ gs) formals body same fields) one.1)
    (λ W l v w r. hoisted_rel ss (n + stmt_scopes c) d that k (trees_up l trees) (sym l.opens ∙ opens) same fields (enters_up l m) (λ y i. at y (among_later y x (function_names (functions_of ss)) i)) both.1))
hoisted_rel {f = f} {gs = gs} (then_stmt s ss) n d that k trees opens same fields m at stands =
    hoisted_rel ss (n + stmt_scopes s) d that k trees opens same fields m at (and_parts (stmt_stands trees.demand n (f ∷ gs) s) (stmts_stand trees.demand (n + stmt_scopes s) (f ∷ gs) ss) stands).1
