-- The tests that no node of an opened piece passes: the early rules, whether a scope is out of form, and whether it declares a function.
-- What they say of the small pieces that opening puts in.
use Rattle.std.proofs.Common.{◌≡◌, refl, ap, ◌∙◌, ℕ, ◌+◌, Bool, true, false, not, ◌&&◌, ◌||◌, List, [], ◌∷◌, ◌++◌, Option, Some, None, if◌then◌else◌}
use Rattle.std.specs.List.{list_any}
use Rattle.std.specs.Prelude.{is_some}
use Rattle.std.proofs.lemmas.Bool.{or_from, or_parts}
use Rattle.std.proofs.lemmas.List.Folds.{list_any-append}
use Rattle.js_core.specs.Tree as tree
use Rattle.js_core.specs.Tree.{name, num, text, bool, null, this, list, literal, func, member, index, call, construct, unary, update, binary, logical_and, logical_or, conditional, assign, comma, no_exprs, then_expr, no_expr, one_expr, no_holes, then_hole, no_fields, then_field, code, var, function, expr, empty, block, if_else, do_while, while, for, for_in, continue, break, return, throw, try, switch, no_stmts, then_stmt, no_body, one_body, no_declarators, then_declarator, no_init, init_var, init_expr, no_catch, one_catch, no_cases, then_case}
use Rattle.js_core.specs.declared.operators.UnaryOp.{UnaryOp}
use Rattle.js_core.specs.declared.operators.UnaryOp.TheVariants.{Delete}
use Rattle.js_grammar.specs.Syntax.{AreStmts}
use Rattle.early_rules.specs.declared.jump.Jump.TheVariants as jump
use Rattle.early_rules.specs.EarlyRules.{assigns_own, assigns_own_name, deletes_name, field_names, has_bad_target, has_restricted_name, has_stray_jump, is_name, is_target, repeats_field, repeats_formal, repeats_name}
use Rattle.early_rules.specs.FormNodes.{has_reserved_identifier, is_declaration}
use Rattle.script_rules.specs.Form.{scope_out_of_form}
use Rattle.scope_analysis.specs.Identifiers.{is_reserved, is_restricted}
use Rattle.early_rules.specs.Jumps.{leaves, strays}
use Rattle.scope_analysis.specs.Names.{declarator_names, declared_names, has_repeat, init_names, is_among, maybe_name, own_name}
use Rattle.scope_analysis.specs.Nodes.{Node, catch_any, clause, declarators_any, expr_any, expression, exprs_any, fields_any, init_any, maybe_expr_any, statement, stmt_any, stmts_any}
use Rattle.scope_analysis.specs.Uses.{Use, stmts_uses}
use Rattle.instrumenter.specs.Around.{Around, append, as_init, as_statements, before_for_in, callee, clause_object, declaration, field_inside, field_or_name, literal_fields, next_number, parameter, plain_names, scope_name, scope_object, single, valued_names, var_of, var_where_any, void_zero, without_this}
use Rattle.instrumenter.specs.Counting.{expr_scopes}
use Rattle.instrumenter.specs.Fields.{clause_fields, fields_in}
use Rattle.instrumenter.specs.Opening.{open_expr, open_fields, open_stmts}
use Rattle.instrumenter.proofs.Each.{Among, Each, Fails, each_among, each_at, each_both, each_fails, none_passes}
use Rattle.instrumenter.proofs.FormScopes.{after, block_after, clause_in_form, declaration_in_form, expression_after, expression_in_form, own_stays_unassigned}
use Rattle.instrumenter.proofs.Jumps.{inside_jumps}
use Rattle.instrumenter.proofs.NamedUses.{stmts_undeclared, stmts_unnamed}
use Rattle.instrumenter.proofs.NodeTests.{narrow, passes}
use Rattle.instrumenter.proofs.OpenedNames.{no_init_names, opening}

-- ---- the tests

-- those that no node of the script passes
abbrev pub kept_tests : List (Node → Bool)
kept_tests = repeats_formal ∷ repeats_field ∷ deletes_name ∷ has_restricted_name ∷ has_stray_jump ∷ has_bad_target ∷ assigns_own_name ∷ has_reserved_identifier ∷ []

-- those that no node passes once it is opened, and none inside a function of its top
abbrev pub opened_tests : List (Node → Bool)
opened_tests = repeats_formal ∷ repeats_field ∷ deletes_name ∷ has_restricted_name ∷ has_stray_jump ∷ has_bad_target ∷ assigns_own_name ∷ scope_out_of_form ∷ []

abbrev pub inner_tests : List (Node → Bool)
inner_tests = is_declaration ∷ opened_tests

abbrev pub kept : Node → Bool
kept n = passes kept_tests n

abbrev pub inner : Node → Bool
inner n = passes inner_tests n

pub pair : {a b c d : Bool} → (a ≡ false → b ≡ false) → (c ≡ false → d ≡ false) → (a || c) ≡ false → (b || d) ≡ false
pair {a = a} {b = b} {c = c} {d = d} one more h = or_from b d (one (or_parts a c h).0) (more (or_parts a c h).1)

-- ---- names

object_is_free : (k : ℕ) → is_restricted (scope_name k) ≡ false
object_is_free k = refl

pub name_node : (d : Bool) (x : List ℕ) → is_restricted x ≡ false → expr_any inner d (name x) ≡ false
name_node d x e = or_from _ _ (or_from _ _ e refl) refl

pub reference_node : (d : Bool) (o : Option ℕ) (x : List ℕ) → is_restricted x ≡ false → expr_any inner d (field_or_name o x) ≡ false
reference_node d None x e = name_node d x e
reference_node d (Some k) x e = name_node false (scope_name k) refl

pub callee_node : (a : Around) (g e : tree.Expr) → ((d : Bool) → expr_any inner d e ≡ false) → expr_any inner true (callee a g e) ≡ false
callee_node a (name x) e h = by (a.fields x)
  where
    by : (o : Option ℕ) → expr_any inner true (without_this o e) ≡ false
    by None = h true
    by (Some k) = or_from _ _ (h false) refl
callee_node a g e h = h true

-- ---- targets

pub still_no_name : (a : Around) (n : ℕ) (e : tree.Expr) → is_name e ≡ false → is_name (open_expr a n e) ≡ false
still_no_name a n (name x) h = cc h
still_no_name a n (func (code x formals body)) h = refl
still_no_name a n e h = refl

pub unary_node : (c d : Bool) (op : UnaryOp) (e t : tree.Expr) → (is_name e ≡ false → is_name t ≡ false) → kept (expression c (unary op e)) ≡ false → inner (expression d (unary op t)) ≡ false
unary_node c d Delete e t so h = or_from _ _ (so (or_parts (is_name e) false h).0) refl
unary_node c d op e t so h = refl

pub still_target : (a : Around) (n : ℕ) (e : tree.Expr) → not (is_target e) ≡ false → not (is_target (open_expr a n e)) ≡ false
still_target a n (name x) h = by (a.fields x)
  where
    by : (o : Option ℕ) → not (is_target (field_or_name o x)) ≡ false
    by None = refl
    by (Some k) = refl
still_target a n (member e x) h = refl
still_target a n (index d e) h = refl
still_target a n e h = cc h

-- ---- literals

pub same_fields : (a : Around) (n : ℕ) (fs : tree.Fields) → field_names (open_fields a n fs) ≡ field_names fs
same_fields a n no_fields = refl
same_fields a n (then_field x e fs) = ap (λ xs. x ∷ xs) (same_fields a (n + expr_scopes e) fs)

pub literal_names : (valued xs : List (List ℕ)) → field_names (literal_fields valued xs) ≡ xs
literal_names valued [] = refl
literal_names valued (x ∷ xs) = ap (λ ys. x ∷ ys) (literal_names valued xs)

pub value_nodes : (valued xs : List (List ℕ)) → Each (Fails is_restricted) valued → fields_any inner (literal_fields valued xs) ≡ false
value_nodes valued [] h = refl
value_nodes valued (x ∷ xs) h = or_from _ _ (by (is_among x valued) refl) (value_nodes valued xs h)
  where
    by : (b : Bool) → is_among x valued ≡ b → expr_any inner false (if b then name x else void_zero) ≡ false
    by true there = name_node false x (each_at (Fails is_restricted) valued x h there)
    by false away = refl

-- ---- statements

pub any_append : (test : Node → Bool) (s t : tree.Stmts) → stmts_any test s ≡ false → stmts_any test t ≡ false → stmts_any test (append s t) ≡ false
any_append test no_stmts t h k = k
any_append test (then_stmt s ss) t h k = or_from _ _ (or_parts _ _ h).0 (any_append test ss t (or_parts _ _ h).1 k)

pub alone : (s : tree.Stmt) → stmt_any inner s ≡ false → stmts_any inner (single s) ≡ false
alone s h = or_from _ _ h refl

statement_nodes : (es : tree.Exprs) → exprs_any inner es ≡ false → stmts_any inner (as_statements es) ≡ false
statement_nodes no_exprs h = refl
statement_nodes (then_expr e es) h = or_from _ _ (or_parts _ _ h).0 (statement_nodes es (or_parts _ _ h).1)

init_nodes : (es : tree.Exprs) → exprs_any inner es ≡ false → init_any inner (as_init es) ≡ false
init_nodes no_exprs h = refl
init_nodes (then_expr e no_exprs) h = (or_parts (expr_any inner false e) false h).0
init_nodes (then_expr e (then_expr d es)) h = h

plain_free : (a : Around) (ds : tree.Declarators) → list_any is_restricted (declarator_names ds) ≡ false → list_any is_restricted (declarator_names (plain_names a ds)) ≡ false
plain_free a no_declarators h = refl
plain_free a (then_declarator x e ds) h = by (a.own x) (plain_free a ds (or_parts _ _ h).1)
  where
    by : (b : Bool) → list_any is_restricted (declarator_names (plain_names a ds)) ≡ false
        → list_any is_restricted (declarator_names (if b then plain_names a ds else then_declarator x no_expr (plain_names a ds))) ≡ false
    by true more = more
    by false more = or_from _ _ (or_parts _ _ h).0 more

plain_nodes : (a : Around) (ds : tree.Declarators) → declarators_any inner (plain_names a ds) ≡ false
plain_nodes a no_declarators = refl
plain_nodes a (then_declarator x e ds) = by (a.own x) (plain_nodes a ds)
  where
    by : (b : Bool) → declarators_any inner (plain_names a ds) ≡ false → declarators_any inner (if b then plain_names a ds else then_declarator x no_expr (plain_names a ds)) ≡ false
    by true more = more
    by false more = more

pub var_node : (ds : tree.Declarators) → list_any is_restricted (declarator_names ds) ≡ false → declarators_any inner ds ≡ false → stmt_any inner (var ds) ≡ false
var_node ds h k = or_from _ _ (or_from _ _ h refl) k

where_any : (a : Around) (ds : tree.Declarators) (ss : tree.Stmts) → list_any is_restricted (declarator_names ds) ≡ false → stmts_any inner ss ≡ false
    → stmts_any inner (var_where_any (plain_names a ds) ss) ≡ false
where_any a ds ss h k = by (plain_names a ds) (plain_free a ds h) (plain_nodes a ds)
  where
    by : (plain : tree.Declarators) → list_any is_restricted (declarator_names plain) ≡ false → declarators_any inner plain ≡ false → stmts_any inner (var_where_any plain ss) ≡ false
    by no_declarators e d = k
    by (then_declarator x v plain) e d = or_from _ _ (var_node (then_declarator x v plain) e d) k

pub var_nodes : (a : Around) (ds opened : tree.Declarators) (b : Bool) (es : tree.Exprs) → list_any is_restricted (declarator_names ds) ≡ false → exprs_any inner es ≡ false
    → list_any is_restricted (declarator_names opened) ≡ false → declarators_any inner opened ≡ false
    → stmts_any inner (if b then var_where_any (plain_names a ds) (as_statements es) else single (var opened)) ≡ false
var_nodes a ds opened true es h k r t = where_any a ds (as_statements es) h (statement_nodes es k)
var_nodes a ds opened false es h k r t = alone (var opened) (var_node opened r t)

pub loop_node : (i : tree.ForInit) (t s : tree.MaybeExpr) (body : tree.Stmts) → list_any is_restricted (init_names i) ≡ false → init_any inner i ≡ false
    → (maybe_expr_any inner t || (maybe_expr_any inner s || stmts_any inner body)) ≡ false → stmts_any inner (single (for i t s body)) ≡ false
loop_node i t s body h k r = alone (for i t s body) (or_from _ _ (or_from _ _ h refl) (or_from _ _ k r))

pub for_var_nodes : (a : Around) (ds opened : tree.Declarators) (b : Bool) (es : tree.Exprs) (t s : tree.MaybeExpr) (body : tree.Stmts)
    → list_any is_restricted (declarator_names ds) ≡ false → exprs_any inner es ≡ false
    → list_any is_restricted (declarator_names opened) ≡ false → declarators_any inner opened ≡ false
    → (maybe_expr_any inner t || (maybe_expr_any inner s || stmts_any inner body)) ≡ false
    → stmts_any inner (if b then var_where_any (plain_names a ds) (single (for (if b then as_init es else init_var opened) t s body))
    else single (for (if b then as_init es else init_var opened) t s body)) ≡ false
for_var_nodes a ds opened true es t s body h k r q m =
    where_any a ds (single (for (as_init es) t s body)) h (loop_node (as_init es) t s body (ap (λ xs. list_any is_restricted xs) (no_init_names es)) (init_nodes es k) m)
for_var_nodes a ds opened false es t s body h k r q m = loop_node (init_var opened) t s body r q m

pub before_nodes : (a : Around) (declared : Bool) (t : tree.Expr) (ss : tree.Stmts) → expr_any kept false t ≡ false → stmts_any inner ss ≡ false → stmts_any inner (before_for_in a declared t ss) ≡ false
before_nodes a true (name x) ss h k = by (is_some (a.fields x) && not (a.own x))
  where
    by : (b : Bool) → stmts_any inner (if b then then_stmt (var (then_declarator x no_expr no_declarators)) ss else ss) ≡ false
    by true = or_from _ _ (var_node (then_declarator x no_expr no_declarators) (or_parts (is_restricted x || false) _ h).0 refl) k
    by false = k
before_nodes a true t ss h k = k
before_nodes a false t ss h k = k

-- ---- functions

-- what the tests say of a function that keeps the rules
pub record KeptFunction (x : Option (List ℕ)) (formals : List (List ℕ)) (body : tree.Stmts) : Type 0 where
  pub formals_apart : has_repeat formals ≡ false
  pub name_unrestricted : list_any is_restricted (maybe_name x) ≡ false
  pub formals_unrestricted : list_any is_restricted formals ≡ false
  pub jumps : strays body ≡ false
  pub name_free : list_any is_reserved (maybe_name x) ≡ false
  pub formals_free : list_any is_reserved formals ≡ false
  pub declared_free : Each (Fails is_reserved) (declared_names body)
  pub uses_free : Each (λ (u : Use). is_reserved u.name ≡ false) (stmts_uses body)

function_parts : (x : Option (List ℕ)) (formals : List (List ℕ)) (body : tree.Stmts) → has_repeat formals ≡ false → list_any is_restricted (maybe_name x ++ formals) ≡ false
    → strays body ≡ false → list_any is_reserved (maybe_name x ++ formals) ≡ false → stmts_any kept body ≡ false → KeptFunction x formals body
function_parts x formals body apart restricted jumps reserved h =
    let one = or_parts (list_any is_restricted (maybe_name x)) (list_any is_restricted formals) (rw (list_any-append is_restricted (maybe_name x) formals) at restricted) in
    let two = or_parts (list_any is_reserved (maybe_name x)) (list_any is_reserved formals) (rw (list_any-append is_reserved (maybe_name x) formals) at reserved) in
    let free : stmts_any has_reserved_identifier body ≡ false =
    narrow kept_tests has_reserved_identifier (λ n e. (each_fails (λ (t : Node → Bool). t n) kept_tests e).1.1.1.1.1.1.1.0) body h in
    record {
      formals_apart = apart;
      name_unrestricted = one.0;
      formals_unrestricted = one.1;
      jumps = jumps;
      name_free = two.0;
      formals_free = two.1;
      declared_free = stmts_undeclared is_reserved body free;
      uses_free = stmts_unnamed is_reserved body free;
    }

pub kept_expression : (c : Bool) (x : Option (List ℕ)) (formals : List (List ℕ)) (body : tree.Stmts) → expr_any kept c (func (code x formals body)) ≡ false
    → KeptFunction x formals body × (assigns_own (code x formals body) ≡ false)
kept_expression c x formals body h =
    let parts = or_parts (kept (expression c (func (code x formals body)))) (stmts_any kept body) h in
    let facts = each_fails (λ (t : Node → Bool). t (expression c (func (code x formals body)))) kept_tests parts.0 in
    (function_parts x formals body facts.0 facts.1.1.1.0 facts.1.1.1.1.0 facts.1.1.1.1.1.1.1.0 parts.1, facts.1.1.1.1.1.1.0)

pub kept_declaration : (x : Option (List ℕ)) (formals : List (List ℕ)) (body : tree.Stmts) → stmt_any kept (function (code x formals body)) ≡ false → KeptFunction x formals body
kept_declaration x formals body h =
    let parts = or_parts (kept (statement (function (code x formals body)))) (stmts_any kept body) h in
    let facts = each_fails (λ (t : Node → Bool). t (statement (function (code x formals body)))) kept_tests parts.0 in
    function_parts x formals body facts.0 facts.1.1.1.0 facts.1.1.1.1.0 facts.1.1.1.1.1.1.1.0 parts.1

no_strays : (f : List ℕ → Option ℕ) (n : ℕ) (own x : Option (List ℕ)) (formals : List (List ℕ)) (body : tree.Stmts) → strays body ≡ false → strays (after f n own x formals body) ≡ false
no_strays f n own x formals body h =
    let parts = or_parts (leaves jump.Break body) (leaves jump.Continue body) h in
    let fields : List (List ℕ) = fields_in own (code x formals body) in
    or_from _ _ (inside_jumps jump.Break f n fields own x formals body ∙ parts.0) (inside_jumps jump.Continue f n fields own x formals body ∙ parts.1)

free_names : (x : Option (List ℕ)) (formals : List (List ℕ)) → list_any is_restricted (maybe_name x) ≡ false → list_any is_restricted formals ≡ false
    → list_any is_restricted (maybe_name x ++ formals) ≡ false
free_names x formals e h = list_any-append is_restricted (maybe_name x) formals ∙ or_from _ _ e h

pub expression_node : (f : List ℕ → Option ℕ) (n : ℕ) (d : Bool) (x : Option (List ℕ)) (formals : List (List ℕ)) (body : tree.Stmts) → AreStmts true body
    → KeptFunction x formals body × (assigns_own (code x formals body) ≡ false)
    → inner (expression d (func (code x formals (expression_after f n x formals body)))) ≡ false
expression_node f n d x formals body is (h, own) =
    none_passes (λ (t : Node → Bool). t (expression d (func (code x formals (expression_after f n x formals body))))) inner_tests (
      refl,
      (
        h.formals_apart,
        (
          refl,
          (
            refl,
            (
              free_names x formals h.name_unrestricted h.formals_unrestricted,
              (
                no_strays f n (own_name (code x formals body)) x formals body h.jumps,
                (
                  refl,
                  (
                    own_stays_unassigned f n x formals body is h.name_free own,
                    (expression_in_form f n x formals body is h.uses_free h.formals_free h.declared_free h.name_free, tt),
                  ),
                ),
              ),
            ),
          ),
        ),
      ),
    )

-- a declared function, as the expression that is assigned
pub declared_node : (f : List ℕ → Option ℕ) (n : ℕ) (d : Bool) (x : Option (List ℕ)) (formals : List (List ℕ)) (body : tree.Stmts) → AreStmts true body → KeptFunction x formals body
    → inner (expression d (func (code None formals (after f n None x formals body)))) ≡ false
declared_node f n d x formals body is h =
    none_passes (λ (t : Node → Bool). t (expression d (func (code None formals (after f n None x formals body))))) inner_tests (
      refl,
      (
        h.formals_apart,
        (
          refl,
          (
            refl,
            (
              h.formals_unrestricted,
              (
                no_strays f n None x formals body h.jumps,
                (
                  refl,
                  (
                    refl,
                    ((declaration_in_form f n x formals body is h.uses_free h.formals_free h.declared_free).0, tt),
                  ),
                ),
              ),
            ),
          ),
        ),
      ),
    )

-- and one that stays at the top of the script
pub top_node : (f : List ℕ → Option ℕ) (n : ℕ) (x : Option (List ℕ)) (formals : List (List ℕ)) (body : tree.Stmts) → AreStmts true body → KeptFunction x formals body
    → passes opened_tests (statement (function (code x formals (after f n None x formals body)))) ≡ false
top_node f n x formals body is h =
    none_passes (λ (t : Node → Bool). t (statement (function (code x formals (after f n None x formals body))))) opened_tests (
      h.formals_apart,
      (
        refl,
        (
          refl,
          (
            free_names x formals h.name_unrestricted h.formals_unrestricted,
            (
              no_strays f n None x formals body h.jumps,
              (
                refl,
                (
                  refl,
                  ((declaration_in_form f n x formals body is h.uses_free h.formals_free h.declared_free).1, tt),
                ),
              ),
            ),
          ),
        ),
      ),
    )

-- the names that have a value at the start of a function
pub valued_free : (own x : Option (List ℕ)) (formals : List (List ℕ)) (body : tree.Stmts) → KeptFunction x formals body
    → ((y : List ℕ) → Among y (maybe_name own) → Among y (maybe_name x)) → Each (Fails is_restricted) (valued_names own (code x formals body))
valued_free own x formals body h so =
    each_both (Fails is_restricted) formals (maybe_name own) (each_fails is_restricted formals h.formals_unrestricted)
    (each_among (Fails is_restricted) (maybe_name own)
    (λ y there. each_at (Fails is_restricted) (maybe_name x) y (each_fails is_restricted (maybe_name x) h.name_unrestricted) (so y there)))

pub object_nodes : (n : ℕ) (valued fields : List (List ℕ)) (ss : tree.Stmts) → Each (Fails is_restricted) valued → has_repeat fields ≡ false → stmts_any inner ss ≡ false
    → stmts_any inner (scope_object n valued fields ss) ≡ false
object_nodes n valued [] ss free apart h = h
object_nodes n valued (x ∷ xs) ss free apart h =
    let fs : tree.Fields = literal_fields valued (x ∷ xs) in
    let named : repeats_name fs ≡ false = ap has_repeat (literal_names valued (x ∷ xs)) ∙ apart in
    let whole : expr_any inner false (literal fs) ≡ false = or_from _ _ (or_from _ _ named refl) (value_nodes valued (x ∷ xs) free) in
    or_from _ _ (var_node (then_declarator (scope_name n) (one_expr (literal fs)) no_declarators) refl (or_from _ _ whole refl)) h

pub assigned_node : (o : Option ℕ) (x : List ℕ) (e : tree.Expr) → is_restricted x ≡ false → expr_any inner false e ≡ false → expr_any inner false (assign None (field_or_name o x) e) ≡ false
assigned_node None x e h k = or_from _ _ (name_node false x h) k
assigned_node (Some j) x e h k = k

declared_nodes : (a : Around) (x : List ℕ) (e : tree.Expr) (b : Bool) → is_restricted x ≡ false → expr_any inner false e ≡ false
    → stmt_any inner (if b then expr (assign None (field_or_name (a.fields x) x) e) else var_of x e) ≡ false
declared_nodes a x e true h k = assigned_node (a.fields x) x e h k
declared_nodes a x e false h k = var_node (then_declarator x (one_expr e) no_declarators) (or_from _ _ h refl) (or_from _ _ k refl)

pub declaration_nodes : (a : Around) (x : Option (List ℕ)) (e : tree.Expr) (ss : tree.Stmts) → list_any is_restricted (maybe_name x) ≡ false → expr_any inner false e ≡ false
    → stmts_any inner ss ≡ false → stmts_any inner (declaration a x e ss) ≡ false
declaration_nodes a None e ss h k r = r
declaration_nodes a (Some x) e ss h k r = or_from _ _ (declared_nodes a x e (a.own x) (or_parts (is_restricted x) false h).0 k) r

-- ---- catch clauses

pub clause_nodes : (f : List ℕ → Option ℕ) (w : List ℕ → Bool) (n : ℕ) (x : List ℕ) (ss : tree.Stmts) → AreStmts false ss → catch_any kept (one_catch x ss) ≡ false
    → stmts_any inner (open_stmts (opening (field_inside (clause_fields x ss) (x ∷ []) n f) w) (next_number (clause_fields x ss) n) ss) ≡ false
    → catch_any inner (one_catch (parameter n (clause_fields x ss) x) (block_after f w n x (clause_fields x ss) ss)) ≡ false
clause_nodes f w n x ss is h k =
    let parts = or_parts (kept (clause x ss)) (stmts_any kept ss) h in
    let facts = each_fails (λ (t : Node → Bool). t (clause x ss)) kept_tests parts.0 in
    let free : stmts_any has_reserved_identifier ss ≡ false =
    narrow kept_tests has_reserved_identifier (λ m e. (each_fails (λ (t : Node → Bool). t m) kept_tests e).1.1.1.1.1.1.1.0) ss parts.1 in
    or_from _ _ (none_passes (λ (t : Node → Bool). t (clause (parameter n (clause_fields x ss) x) (block_after f w n x (clause_fields x ss) ss))) inner_tests (
      refl,
      (
        refl,
        (
          refl,
          (
            refl,
            (
              named (clause_fields x ss) (or_parts (is_restricted x) false facts.1.1.1.0).0,
              (
                refl,
                (
                  refl,
                  (
                    refl,
                    (clause_in_form f w n x ss is (stmts_unnamed is_reserved ss free) (or_parts (is_reserved x) false facts.1.1.1.1.1.1.1.0).0, tt),
                  ),
                ),
              ),
            ),
          ),
        ),
      ),
    )) (boxed (clause_fields x ss) _ k)
  where
    named : (fields : List (List ℕ)) → is_restricted x ≡ false → (is_restricted (parameter n fields x) || false) ≡ false
    named [] e = or_from _ _ e refl
    named (y ∷ ys) e = refl

    boxed : (fields : List (List ℕ)) (ts : tree.Stmts) → stmts_any inner ts ≡ false → stmts_any inner (clause_object n fields ts) ≡ false
    boxed [] ts e = e
    boxed (y ∷ ys) ts e = e
