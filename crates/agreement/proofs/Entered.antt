-- What calling a function of the page does (sections 10.4.3 and 13.2.1), in both pages.
use Rattle.std.proofs.Common.{◌≡◌, refl, sym, ap, subst, ◌∙◌, ℕ, ◌+◌, ◌<◌, ◌^◌, Bool, true, false, ◌||◌, ◌&&◌, nat_eq, nat_lt, List, [], ◌∷◌, length, Option, Some, None, arith, if◌then◌else◌}
use Rattle.std.proofs.lemmas.Bool.{and_parts, both_ways, ltb-true}
use Rattle.code_table.specs.Declarations.{functions_of}
use Rattle.js_core.specs.Tree as tree
use Rattle.js_core.specs.Tree.{code, function, literal, no_stmts, then_stmt}
use Rattle.js_values.specs.declared.ids.EnvId.{EnvId}
use Rattle.js_values.specs.declared.value.Value.{Value}
use Rattle.js_values.specs.declared.value.Value.TheVariants.{Undefined}
use Rattle.object_heap.specs.Environment.{value_of}
use Rattle.object_heap.specs.Heap.{opened}
use Rattle.page_meaning.specs.Act.{Act, Calls, also, bind, on_value, ret, then_on}
use Rattle.page_meaning.specs.Functions.{call_end, declare_functions, enter, entry_names, function_names}
use Rattle.page_meaning.specs.Names.{Here}
use Rattle.page_meaning.specs.Primitives.{make_environment}
use Rattle.page_meaning.specs.Statements.{exec_all}
use Rattle.page_meaning.specs.Store.{Store, with_heap}
use Rattle.scope_analysis.specs.Names.{is_among, own_name}
use Rattle.heap_relations.proofs.Callers as heap
use Rattle.heap_relations.proofs.Callers.{larger_more}
use Rattle.heap_relations.specs.Naming.{Frame, Free, Larger, Round, World, env_id, named, resolve, scope_name, are_below, is_reserved}
use Rattle.heap_relations.specs.Related.{Each, ValueRel}
use Rattle.instrumenter.specs.Around.{Around, in_function, literal_fields, next_number, valued_names, var_of, append}
use Rattle.instrumenter.specs.Counting.{stmt_scopes}
use Rattle.instrumenter.specs.Fields.{expression_fields}
use Rattle.instrumenter.specs.Opening.{open_declarations, open_stmts}
use Rattle.agreement.proofs.Acts.{also_rel, bind_rel, ret_rel}
use Rattle.agreement.proofs.SparedCalls.{page_calls_up}
use Rattle.agreement.proofs.Constants.{ready_up}
use Rattle.agreement.proofs.Dropped.{act_as, act_from, append_run}
use Rattle.agreement.proofs.EntryNames.{first_some}
use Rattle.agreement.proofs.Entering.{Asked, asked, both_bind, declared_plain, declared_scoped, inner_among, inner_body, inner_passed, inside_fields, inside_of, no_argument_scope, no_body_scope, no_field_scope, others_value, whole_body, whole_passed}
use Rattle.agreement.proofs.Entries.{Enters, bound_rel, enters_ready, enters_round, enters_up, entry_names_rel, entry_names_same, environment_rel, names_up, opened_rel, plain_frame}
use Rattle.agreement.proofs.EqualTrees.{trees_up}
use Rattle.agreement.proofs.FirstSets.{declared_free, first_set}
use Rattle.agreement.proofs.FirstStatements.{first_statement_rel}
use Rattle.agreement.proofs.FunctionEntry.{function_filling}
use Rattle.agreement.proofs.Functions.{all_older, call_end_rel, make_function_rel}
use Rattle.agreement.proofs.Heap.{value_up, values_up}
use Rattle.agreement.proofs.Hoisted.{declares_gives, first_done_rel, hoisted_rel, DeclaredAt, among_first, among_later}
use Rattle.agreement.proofs.Linked.{names_below}
use Rattle.agreement.proofs.Scoped.{by_var, enter_scoped}
use Rattle.agreement.proofs.Statements.{exec_all_rel}
use Rattle.agreement.proofs.Unset.{unset_body, unset_frame}
use Rattle.agreement.proofs.Unopened.{IsClosed, closed_function, code_same, stmts_same}
use Rattle.agreement.proofs.Values.{done_rel, object_value_rel}
use Rattle.agreement.specs.Acts.{Agrees, IsReady}
use Rattle.agreement.specs.Opened.{Demand, HasTrees, are_plain, are_sure, around_of, begins_with_set, body_stands, code_stands, function_stands, is_bound, is_constant, may_open, opened_at, opened_code, opening, rest_stands, stmt_stands, stmts_stand, PageCallsRel}

-- ---- where nothing is opened

declared_rel : {V : World} {f : Frame} {fs : List Frame} {a b : EnvId} (ss : tree.Stmts) (n : ℕ) (trees : HasTrees V) → trees.demand.opens ≡ false → Enters V f fs a b
    → ((x : List ℕ) → is_among x (function_names (functions_of ss)) ≡ true → f.keeps x ≡ Free)
    → stmts_stand trees.demand n (f ∷ fs) ss ≡ true → Agrees V (declare_functions a (functions_of ss)) (declare_functions b (functions_of ss))
declared_rel no_stmts n trees closed m free stands = done_rel
declared_rel {f = f} {fs = fs} (then_stmt (function (code None formals body)) ss) n trees closed m free stands =
    let c = function (code None formals body) in
    declared_rel ss (n + stmt_scopes c) trees closed m free (and_parts (stmt_stands trees.demand n (f ∷ fs) c) (stmts_stand trees.demand (n + stmt_scopes c) (f ∷ fs) ss) stands).1
declared_rel {V = V} {f = f} {fs = fs} {a = a} {b = b} (then_stmt (function (code (Some x) formals body)) ss) n trees closed m free stands =
    let c = function (code (Some x) formals body) in
    let both = and_parts (stmt_stands trees.demand n (f ∷ fs) c) (stmts_stand trees.demand (n + stmt_scopes c) (f ∷ fs) ss) stands in
    let one = and_parts (are_plain trees.demand.opens (x ∷ [])) (function_stands trees.demand n (f ∷ fs) (code None formals body)) both.0 in
    let shut : V.opens ≡ false = trees.opens ∙ closed in
    let same : code None formals body ≡ opened_code trees.demand.opens n (f ∷ fs) (code None formals body) =
    code_same n (f ∷ fs) (code None formals body) ∙ ap (λ o. opened_code o n (f ∷ fs) (code None formals body)) (sym closed)
    in
    bind_rel (make_function_rel n (f ∷ fs) None formals body body (Some a) (Some b) trees same (enters_round m) (all_older (enters_ready m)) one.1) (λ W l k u o.
    bind_rel (bound_rel x (ap (λ q. is_reserved q x) (sym l.opens ∙ shut)) (enters_up l m) (free x (among_first x (function_names (functions_of ss)))) (object_value_rel k u o)) (λ X j v w r.
    declared_rel ss (n + stmt_scopes c) (trees_up (larger_more l j) trees) closed (enters_up (larger_more l j) m) (λ y i. free y (among_later y x (function_names (functions_of ss)) i)) both.1))
declared_rel {f = f} {fs = fs} (then_stmt s ss) n trees closed m free stands =
    declared_rel ss (n + stmt_scopes s) trees closed m free (and_parts (stmt_stands trees.demand n (f ∷ fs) s) (stmts_stand trees.demand (n + stmt_scopes s) (f ∷ fs) ss) stands).1

-- the frame of a function where nothing is opened
abbrev closed_frame : Demand → List (List ℕ) → tree.Stmts → Frame
closed_frame d formals body = plain_frame (is_bound formals body) (d.seals formals body)

-- what is asked there
abbrev closed : Demand → Demand
closed d = record { opens = false; names = d.names; seals = d.seals; boxes = d.boxes; spares = d.spares; asks = d.asks }

closed_entered : {V : World} {this that : Value} {vs ws : List Value} (c d : Calls) (n : ℕ) (fs : List Frame) (x : Option (List ℕ)) (formals : List (List ℕ)) (body : tree.Stmts) (e f : Option EnvId)
    → PageCallsRel V c d → (trees : HasTrees V) → trees.demand.opens ≡ false → Round V fs e f → IsReady V e
    → code_stands (closed trees.demand) n fs (code x formals body) ≡ true → ValueRel (named V) this that → Each (ValueRel (named V)) vs ws
    → Agrees V (enter (exec_all c) (code x formals body) e this vs) (enter (exec_all d) (code x formals body) f that ws)
closed_entered {V = V} {this = this} {that = that} {vs = vs} {ws = ws} c d n fs x formals body e f calls trees shut o ready stands t h =
    let both = and_parts (are_sure (trees.demand.seals formals body) formals body) (body_stands (begins_with_set (is_constant trees.demand formals body) body) (closed trees.demand) n (closed_frame trees.demand formals body ∷ fs) body) stands in
    by_first (begins_with_set (is_constant trees.demand formals body) body) refl both.0 both.1
  where
    is : trees.demand ≡ closed trees.demand
    is = λ i. record { opens = shut i; names = trees.demand.names; seals = trees.demand.seals; boxes = trees.demand.boxes; spares = trees.demand.spares; asks = trees.demand.asks }

    around : Around
    around = in_function (around_of false fs) n [] None (code x formals body)

    none_here : IsClosed around
    none_here = closed_function n None (code x formals body) (record { opens = refl; fields = λ y. refl; own = λ y. refl })

    goes : (m : ℕ) (ss : tree.Stmts) → stmts_stand (closed trees.demand) m (closed_frame trees.demand formals body ∷ fs) ss ≡ true → (X : World) → Larger V X → (p q : EnvId) → Round X (closed_frame trees.demand formals body ∷ fs) (Some p) (Some q)
        → IsReady X (Some p) → Agrees X (exec_all c (record { env = Some p; this = this }) ss) (exec_all d (record { env = Some q; this = that }) ss)
    goes m ss inside X more p q k ready_here =
        subst (λ us. Agrees X (exec_all c (record { env = Some p; this = this }) ss) (exec_all d (record { env = Some q; this = that }) us)) (stmts_same m ss none_here)
        (exec_all_rel c d around m (closed_frame trees.demand formals body ∷ fs) (record { env = Some p; this = this }) (record { env = Some q; this = that }) ss (page_calls_up more calls)
        (record {
          trees = trees_up more trees;
          opens = sym shut;
          fields = (λ i y. none_here.fields y i) ∙ (λ i y. opened_at ((sym shut) i) (resolve (closed_frame trees.demand formals body ∷ fs) y));
          own = λ e y. none_here.own y;
          round = k;
          ready = ready_here;
          this = value_up more t;
        }) (ap (λ z. stmts_stand z m (closed_frame trees.demand formals body ∷ fs) ss) is ∙ inside))

    ends : {p q : Act} → Agrees V p q → Agrees V (bind p (λ s. ret (call_end s))) (bind q (λ s. ret (call_end s)))
    ends m = bind_rel m (λ Y k p q s. ret_rel (λ Z z. call_end_rel z s))

    entered_run : (c : Calls) (e : Option EnvId) (this : Value) (vs : List Value) {us : tree.Stmts} → body ≡ us → functions_of body ≡ [] → (s : Store) (m : ℕ)
        → (enter (exec_all c) (code x formals body) e this vs).run s m
        ≡ (bind (bind (make_environment e (entry_names formals body vs)) (λ p. exec_all c (record { env = Some p; this = this }) us)) (λ s. ret (call_end s))).run s m
    entered_run c e this vs whole none s m =
        λ i. (bind (make_environment e (entry_names formals body vs)) (λ p. also (declare_functions p (none i)) (λ u. bind (exec_all c (record { env = Some p; this = this }) (whole i)) (λ s. ret (call_end s))))).run s m

    by_stmts : (us : tree.Stmts) → body ≡ us → begins_with_set (is_constant trees.demand formals body) us ≡ true → rest_stands (closed trees.demand) n (closed_frame trees.demand formals body ∷ fs) us ≡ true
        → Agrees V (enter (exec_all c) (code x formals body) e this vs) (enter (exec_all d) (code x formals body) f that ws)
    by_stmts no_stmts whole first inside = absurd (cc first)
    by_stmts (then_stmt u us) whole first inside =
        let k = first_set (is_constant trees.demand formals body) (closed trees.demand) n (closed_frame trees.demand formals body ∷ fs) u us first inside in
        let z = and_parts (is_bound formals body k.name) (trees.demand.seals formals body k.name) k.constant_name in
        let none = ap functions_of whole ∙ k.none in
        act_from _ (entered_run c e this vs whole none) (act_as _ (entered_run d f that ws whole none)
        (ends (first_statement_rel (is_bound formals body) (trees.demand.seals formals body) k.name z.0 z.1 fs c d this that (closed trees.demand) n k.fields u us k.begins refl (trees.opens ∙ shut) k.plain k.stands
        (λ X more p q r m. goes (n + stmt_scopes u) us k.goes_on X more p q r m) e f (entry_names formals body vs) (entry_names formals body ws) o ready (entry_names_rel formals body vs ws h) (entry_names_same formals body vs))))

    by_first : (first : Bool) → begins_with_set (is_constant trees.demand formals body) body ≡ first → are_sure (trees.demand.seals formals body) formals body ≡ true
        → body_stands first (closed trees.demand) n (closed_frame trees.demand formals body ∷ fs) body ≡ true → Agrees V (enter (exec_all c) (code x formals body) e this vs) (enter (exec_all d) (code x formals body) f that ws)
    by_first false first sure inside =
        bind_rel (opened_rel (is_bound formals body) (trees.demand.seals formals body) fs e f (entry_names formals body vs) (entry_names formals body ws) (λ e. absurd (both_ways _ (trees.opens ∙ shut) e)) o ready
        (entry_names_rel formals body vs ws h) (entry_names_same formals body vs)) (λ W l a b m.
        also_rel (declared_rel body n (trees_up l trees) shut m (λ y i. declared_free (trees.demand.seals formals body) formals body y sure i) (ap (λ z. stmts_stand z n (closed_frame trees.demand formals body ∷ fs) body) is ∙ inside)) (λ X j v w r.
        bind_rel (goes n body inside X (larger_more l j) a b (heap.round_up j (enters_round m)) (ready_up j (enters_ready m))) (λ Y k p q s. ret_rel (λ Z z. call_end_rel z s))))
    by_first true first sure inside = by_stmts body refl first inside

-- ---- where scopes are opened

-- what both go on with
goes_on : {V : World} {this that : Value} (c d : Calls) (n : ℕ) (gs : List Frame) (F : List (List ℕ)) (x : Option (List ℕ)) (formals : List (List ℕ)) (body : tree.Stmts)
    → PageCallsRel V c d → (trees : HasTrees V) → trees.demand.opens ≡ true → Asked n gs (own_name (code x formals body)) F formals body
    → ((y : List ℕ) → is_among y (function_names (functions_of body)) ≡ true
    → DeclaredAt (unset_frame F n formals body) y ((inside_of n gs F (code x formals body)).own y) ((inside_of n gs F (code x formals body)).fields y))
    → stmts_stand trees.demand (next_number F n) (unset_frame F n formals body ∷ gs) body ≡ true → ValueRel (named V) this that
    → (p q : EnvId) → Enters V (unset_frame F n formals body) gs p q
    → Agrees V (also (declare_functions p (functions_of body)) (λ u. bind (exec_all c (record { env = Some p; this = this }) body) (λ s. ret (call_end s))))
    (bind (also (exec_all d (record { env = Some q; this = that }) (open_declarations (inside_of n gs F (code x formals body)) (next_number F n) body))
    (λ u. exec_all d (record { env = Some q; this = that }) (open_stmts (inside_of n gs F (code x formals body)) (next_number F n) body))) (λ s. ret (call_end s)))
goes_on {V = V} {this = this} {that = that} c d n gs F x formals body calls trees opens a at stands t p q m =
    let k = inside_of n gs F (code x formals body) in
    let here : Here = record { env = Some p; this = this } in
    let there : Here = record { env = Some q; this = that } in
    let fields = inside_fields n gs F x formals body a ∙ (λ i y. opened_at ((sym opens) i) (resolve (unset_frame F n formals body ∷ gs) y)) in
    first_done_rel (declare_functions p (functions_of body)) (exec_all d there (open_declarations k (next_number F n) body)) (bind (exec_all c here body) (λ s. ret (call_end s))) (exec_all d there (open_stmts k (next_number F n) body)) (λ s. ret (call_end s))
    (hoisted_rel body (next_number F n) d that k trees (trees.opens ∙ opens) (sym opens) fields m at stands)
    (declares_gives p (functions_of body))
    (λ W l. bind_rel (exec_all_rel c d k (next_number F n) (unset_frame F n formals body ∷ gs) here there body (page_calls_up l calls)
    (record { trees = trees_up l trees; opens = sym opens; fields = fields; own = λ e. absurd (cc (sym opens ∙ e)); round = heap.round_up l (enters_round m); ready = ready_up l (enters_ready m); this = value_up l t }) stands)
    (λ X j y z s. ret_rel (λ Y z. call_end_rel z s)))

-- the right runs its declarations and then its statements
body_run : (d : Calls) (b : Here) (ds ss : tree.Stmts) (t : Store) (n : ℕ)
    → (bind (exec_all d b (append ds ss)) (λ s. ret (call_end s))).run t n ≡ (bind (also (exec_all d b ds) (λ u. exec_all d b ss)) (λ s. ret (call_end s))).run t n
body_run d b ds ss t n = ap (λ o. then_on o (λ s. ret (call_end s))) (append_run d b ds ss t n)

opened_entered : {V : World} {this that : Value} {vs ws : List Value} (c d : Calls) (n : ℕ) (gs : List Frame) (F : List (List ℕ)) (x : Option (List ℕ)) (formals : List (List ℕ)) (body : tree.Stmts) (e f : Option EnvId)
    → PageCallsRel V c d → (trees : HasTrees V) → trees.demand.opens ≡ true → Round V gs e f → IsReady V e → may_open true n gs (own_name (code x formals body)) F formals body ≡ true
    → stmts_stand trees.demand (next_number F n) (unset_frame F n formals body ∷ gs) body ≡ true → ValueRel (named V) this that → Each (ValueRel (named V)) vs ws
    → Agrees V (enter (exec_all c) (code x formals body) e this vs) (enter (exec_all d) (code x formals (whole_body n gs F x formals body)) f that ws)
opened_entered {V = V} {this = this} {that = that} {vs = vs} {ws = ws} c d n gs [] x formals body e f calls trees opens o ready may stands t h =
    let a = asked n gs (own_name (code x formals body)) [] formals body may in
    let k = inside_of n gs [] (code x formals body) in
    bind_rel (environment_rel (is_bound formals body) (λ y. false) gs e f (entry_names formals body vs) (entry_names formals (whole_body n gs [] x formals body) ws) o ready
    (λ y own. both_bind n gs [] x formals body vs ws y h (inner_among n gs [] x formals body y refl)) (entry_names_same formals body vs)
    (λ q j small. others_value n gs [] x formals body ws (scope_name j)
    ∙ (λ i. first_some (no_argument_scope n gs [] x formals body a j ws i) ((inner_among n gs [] x formals body (scope_name j) refl ∙ no_body_scope n gs [] x formals body a j) i)))
    (λ W l s u g. names_below g (names_up l (entry_names_rel formals body vs ws h)))) (λ W l p q m.
    act_as _ (λ u j. ap (λ fs. (also (declare_functions q fs) (λ v. bind (exec_all d (record { env = Some q; this = that }) (inner_body n gs [] x formals body)) (λ s. ret (call_end s)))).run u j) (inner_passed n gs [] x formals body)
    ∙ body_run d (record { env = Some q; this = that }) (open_declarations k n body) (open_stmts k n body) u j)
    (goes_on c d n gs [] x formals body (page_calls_up l calls) (trees_up l trees) opens a (declared_plain n gs x formals body a) stands (value_up l t) p q m))
opened_entered {V = V} {this = this} {that = that} {vs = vs} {ws = ws} c d n gs (z ∷ zs) x formals body e f calls trees opens o ready may stands t h =
    let F = z ∷ zs in
    let a = asked n gs (own_name (code x formals body)) F formals body may in
    let k = inside_of n gs F (code x formals body) in
    let lit = literal_fields (valued_names (own_name (code x formals body)) (code x formals body)) F in
    let open_there : V.opens ≡ true = trees.opens ∙ opens in
    enter_scoped d that z zs n (is_bound formals body) gs e f (entry_names formals body vs) (entry_names formals (whole_body n gs F x formals body) ws) Undefined lit (var_of (scope_name n) (literal lit)) _ _ _
    open_there by_var o ready a.numbered (hidden a)
    (λ W l s u g. names_below g (names_up l (entry_names_rel formals body vs ws h)))
    (λ W l s u g. function_filling n gs z zs x formals body a e f (heap.round_up l o) (sym l.bases ∙ trees.bases opens) (sym l.opens ∙ open_there) s u g (values_up l h) d that)
    (λ W l p q m. goes_on c d n gs F x formals body (page_calls_up l calls) (trees_up l trees) opens a (declared_scoped n gs z zs x formals body a) stands (value_up l t) p q m)
    (λ u v j ran. ap (λ fs. (also (declare_functions (env_id (length u.heap.environments)) fs) (λ w. bind (exec_all d (record { env = Some (env_id (length u.heap.environments)); this = that }) (whole_body n gs F x formals body)) (λ s. ret (call_end s)))).run
    (with_heap u (opened u.heap f (entry_names formals (whole_body n gs F x formals body) ws))) j) (whole_passed n gs F x formals body)
    ∙ ap (λ y. then_on (then_on y (on_value (λ w. exec_all d (record { env = Some (env_id (length u.heap.environments)); this = that }) (inner_body n gs F x formals body)))) (λ s. ret (call_end s))) ran
    ∙ body_run d (record { env = Some (env_id (length u.heap.environments)); this = that }) (open_declarations k (next_number F n) body) (open_stmts k (next_number F n) body) v j)
  where
    few : Asked n gs (own_name (code x formals body)) (z ∷ zs) formals body → n < 2 ^ 64
    few a = omega (arith, ltb-true n 18446744073709551616 (and_parts (nat_lt n 18446744073709551616) (are_below n gs) a.numbered).0)

    hidden : Asked n gs (own_name (code x formals body)) (z ∷ zs) formals body
        → (j : ℕ) → j < 2 ^ 64 → value_of (entry_names formals (whole_body n gs (z ∷ zs) x formals body) ws) (scope_name j) ≡ (if nat_eq j n then Some Undefined else None)
    hidden a j small =
        others_value n gs (z ∷ zs) x formals body ws (scope_name j)
        ∙ (λ i. first_some (no_argument_scope n gs (z ∷ zs) x formals body a j ws i) (heap.scope_name_eq j n small (few a) i
        || (inner_among n gs (z ∷ zs) x formals body (scope_name j) (no_field_scope n gs (z ∷ zs) x formals body a j) ∙ no_body_scope n gs (z ∷ zs) x formals body a j) i))
        ∙ as_if (nat_eq j n)
      where
        as_if : (b : Bool) → first_some None (b || false) ≡ (if b then Some Undefined else None)
        as_if true = refl
        as_if false = refl

-- ---- either

pub entered_code : {V : World} {this that : Value} {vs ws : List Value} (c d : Calls) (n : ℕ) (gs : List Frame) (k : tree.Code) (e f : Option EnvId)
    → PageCallsRel V c d → (trees : HasTrees V) → Round V gs e f → IsReady V e → code_stands trees.demand n gs k ≡ true → ValueRel (named V) this that → Each (ValueRel (named V)) vs ws
    → Agrees V (enter (exec_all c) k e this vs) (enter (exec_all d) (opened_code trees.demand.opens n gs k) f that ws)
entered_code {V = V} {this = this} {that = that} {vs = vs} {ws = ws} c d n gs (code x formals body) e f calls trees o ready stands t h = by_case trees.demand.opens refl
  where
    by_case : (b : Bool) → trees.demand.opens ≡ b → Agrees V (enter (exec_all c) (code x formals body) e this vs) (enter (exec_all d) (opened_code trees.demand.opens n gs (code x formals body)) f that ws)
    by_case false q =
        let D = trees.demand in
        let is : D ≡ closed D = λ i. record { opens = q i; names = D.names; seals = D.seals; boxes = D.boxes; spares = D.spares; asks = D.asks } in
        subst (λ m. Agrees V (enter (exec_all c) (code x formals body) e this vs) (enter (exec_all d) m f that ws))
        (code_same n gs (code x formals body) ∙ ap (λ b. opened_code b n gs (code x formals body)) (sym q))
        (closed_entered c d n gs x formals body e f calls trees q o ready (ap (λ z. code_stands z n gs (code x formals body)) (sym is) ∙ stands) t h)
    by_case true q =
        let F = expression_fields (code x formals body) in
        let E = opening in
        let is : trees.demand ≡ E = trees.opening q in
        let all : code_stands E n gs (code x formals body) ≡ true = ap (λ z. code_stands z n gs (code x formals body)) (sym is) ∙ stands in
        let one = and_parts (may_open true n gs (own_name (code x formals body)) F formals body) (are_sure (λ y. false) formals body && body_stands (begins_with_set (λ y. is_bound formals body y && false) body) E (next_number F n) (unset_frame F n formals body ∷ gs) body) all in
        let inside : stmts_stand E (next_number F n) (unset_frame F n formals body ∷ gs) body ≡ true = sym (unset_body formals (is_bound formals body) body E (next_number F n) (unset_frame F n formals body ∷ gs)) ∙ one.1 in
        subst (λ b. Agrees V (enter (exec_all c) (code x formals body) e this vs) (enter (exec_all d) (opened_code b n gs (code x formals body)) f that ws)) (sym q)
        (opened_entered c d n gs F x formals body e f calls trees q o ready one.0 (ap (λ z. stmts_stand z (next_number F n) (unset_frame F n formals body ∷ gs) body) is ∙ inside) t h)
