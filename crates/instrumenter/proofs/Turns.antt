-- One turn of the loops over statements.
use Rattle.std.proofs.Common.{◌≡◌, ◌<◌, ◌+◌, ◌^◌, ℕ, Bool, true, not, ◌&&◌, List, [], ◌∷◌, ◌++◌, Option, Some, None, Result, Ok, Err, IfOk, OnOk, Global, length, refl, sym, ap, ◌∙◌, arith}
use Rattle.std.proofs.Common as lists
use Rattle.std.proofs.lemmas.List.{append-nil}
use Rattle.std.specs.declared.rc.Rc.{Rc}
use Rattle.js_core.specs.Tree as tree
use Rattle.js_core.specs.Tree.{empty, exprs_of, for, for_in, function, maybe_expr, no_stmts, stmts_of, then_case, then_declarator, then_stmt}
use Rattle.js_core.specs.Views.{cases_of, declarators_of, stmt_of}
use Rattle.js_core.specs.declared.syntax.Case.{Case}
use Rattle.js_core.specs.declared.syntax.Code.{Code}
use Rattle.js_core.specs.declared.syntax.Declarator.{Declarator}
use Rattle.js_core.specs.declared.syntax.StmtNode.{StmtNode}
use Rattle.js_core.specs.declared.syntax.StmtNode.TheVariants as snode
use Rattle.instrumenter.specs.Around.{Around, append, as_statements, assignments, before_for, before_for_in, is_changed, opened_var, plain_names, single, target_is_field, var_where_any}
use Rattle.instrumenter.specs.Counting.{expr_scopes, init_scopes, maybe_expr_scopes, scripts_scopes, stmt_scopes, stmts_scopes}
use Rattle.instrumenter.specs.Levels.{assigned}
use Rattle.instrumenter.specs.Opening.{open_cases, open_declarations, open_declarators, open_expr, open_from, open_init, open_maybe, open_script, open_stmt, open_stmts, open_tops}
use Rattle.instrumenter.proofs.Appended.{after_cases, any_behind, append_assoc, append_nothing, case_pushed, cases_end, declarations_behind, for_behind, for_in_behind}

-- the next statement is opened behind these
pub stmts_turn : (a : Around) (n m : ℕ) (s : tree.Stmt) (ss after : List tree.Stmt) (xs ys whole : tree.Stmts) → ss ≡ s ∷ after → m ≡ n + stmt_scopes s
    → ys ≡ append xs (open_stmt a n s) → append xs (open_stmts a n (stmts_of ss)) ≡ whole
    → append ys (open_stmts a m (stmts_of after)) ≡ whole
stmts_turn a n m s ss after xs ys whole e f g h =
    ap (λ y. append y (open_stmts a m (stmts_of after))) g
    ∙ append_assoc xs (open_stmt a n s) (open_stmts a m (stmts_of after))
    ∙ ap (λ k. append xs (append (open_stmt a n s) (open_stmts a k (stmts_of after)))) f
    ∙ ap (λ z. append xs (open_stmts a n (stmts_of z))) (sym e)
    ∙ h

-- the declarations of the next one are opened behind these
pub declarations_turn : (a : Around) (n m : ℕ) (s : tree.Stmt) (ss after : List tree.Stmt) (xs ys whole : tree.Stmts) → ss ≡ s ∷ after
    → m ≡ n + stmt_scopes s → ys ≡ append xs (open_declarations a n (then_stmt s no_stmts)) → append xs (open_declarations a n (stmts_of ss)) ≡ whole
    → append ys (open_declarations a m (stmts_of after)) ≡ whole
declarations_turn a n m s ss after xs ys whole e f g h =
    ap (λ y. append y (open_declarations a m (stmts_of after))) g
    ∙ append_assoc xs (open_declarations a n (then_stmt s no_stmts)) (open_declarations a m (stmts_of after))
    ∙ ap (λ k. append xs (append (open_declarations a n (then_stmt s no_stmts)) (open_declarations a k (stmts_of after)))) f
    ∙ ap (append xs) (sym (declarations_behind a n s (stmts_of after)))
    ∙ ap (λ z. append xs (open_declarations a n (stmts_of z))) (sym e)
    ∙ h

pub cases_turn : (a : Around) (n k m : ℕ) (c d : Case) (cs after xs new : List Case) (whole : tree.Cases) → cs ≡ c ∷ after
    → maybe_expr d.test ≡ open_maybe a n (maybe_expr c.test) → stmts_of d.body.items ≡ open_stmts a k (stmts_of c.body.items)
    → k ≡ n + maybe_expr_scopes (maybe_expr c.test) → m ≡ k + stmts_scopes (stmts_of c.body.items) → new ≡ xs ++ d ∷ []
    → after_cases (cases_of xs) (open_cases a n (cases_of cs)) ≡ whole
    → after_cases (cases_of new) (open_cases a m (cases_of after)) ≡ whole
cases_turn a n k m c d cs after xs new whole e test body first second put h =
    ap (λ z. after_cases (cases_of z) (open_cases a m (cases_of after))) put
    ∙ case_pushed xs d (open_cases a m (cases_of after))
    ∙ ap (λ z. after_cases (cases_of xs) (then_case z (stmts_of d.body.items) (open_cases a m (cases_of after)))) test
    ∙ ap (λ z. after_cases (cases_of xs) (then_case (open_maybe a n (maybe_expr c.test)) z (open_cases a m (cases_of after)))) body
    ∙ ap (λ z. after_cases (cases_of xs) (then_case (open_maybe a n (maybe_expr c.test)) (open_stmts a k (stmts_of c.body.items)) (open_cases a z (cases_of after)))) second
    ∙ ap (λ z. after_cases (cases_of xs) (then_case (open_maybe a n (maybe_expr c.test)) (open_stmts a z (stmts_of c.body.items))
    (open_cases a (z + stmts_scopes (stmts_of c.body.items)) (cases_of after)))) first
    ∙ ap (λ z. after_cases (cases_of xs) (open_cases a n (cases_of z))) (sym e)
    ∙ h

assigned_first : (a : Around) (n : ℕ) (x : List ℕ) (v : Option tree.Expr) (ds : tree.Declarators)
    → as_statements (assignments a (then_declarator x (open_maybe a n (maybe_expr v)) ds))
    ≡ append (as_statements (exprs_of (assigned a n x v))) (as_statements (assignments a ds))
assigned_first a n x None ds = refl
assigned_first a n x (Some e) ds = refl

pub assignments_turn : (a : Around) (n m : ℕ) (d : Declarator) (ds after : List Declarator) (xs ys whole : tree.Stmts) → ds ≡ d ∷ after
    → m ≡ n + maybe_expr_scopes (maybe_expr d.value) → ys ≡ append xs (as_statements (exprs_of (assigned a n d.name d.value)))
    → append xs (as_statements (assignments a (open_declarators a n (declarators_of ds)))) ≡ whole
    → append ys (as_statements (assignments a (open_declarators a m (declarators_of after)))) ≡ whole
assignments_turn a n m d ds after xs ys whole e f g h =
    ap (λ y. append y (as_statements (assignments a (open_declarators a m (declarators_of after))))) g
    ∙ append_assoc xs (as_statements (exprs_of (assigned a n d.name d.value))) (as_statements (assignments a (open_declarators a m (declarators_of after))))
    ∙ ap (append xs) (sym (assigned_first a n d.name d.value (open_declarators a m (declarators_of after))))
    ∙ ap (λ k. append xs (as_statements (assignments a (then_declarator d.name (open_maybe a n (maybe_expr d.value)) (open_declarators a k (declarators_of after)))))) f
    ∙ ap (λ z. append xs (as_statements (assignments a (open_declarators a n (declarators_of z))))) (sym e)
    ∙ h

-- ---- their ends

pub list_end : {X Y : Type 0} (f : List Y → List X) (xs ys : List X) (rest : List Y) → length rest < 1 → f [] ≡ [] → xs ++ f rest ≡ ys → xs ≡ ys
list_end f xs ys [] none e h = sym (append-nil xs) ∙ ap (λ z. xs ++ z) (sym e) ∙ h
list_end f xs ys (y ∷ rest) none e h = absurd (omega arith)

pub stmts_end : {Y : Type 0} (f : List Y → tree.Stmts) (xs ys : tree.Stmts) (rest : List Y) → length rest < 1 → f [] ≡ no_stmts → append xs (f rest) ≡ ys → xs ≡ ys
stmts_end f xs ys [] none e h = sym (append_nothing xs) ∙ ap (append xs) (sym e) ∙ h
stmts_end f xs ys (y ∷ rest) none e h = absurd (omega arith)

pub cases_rest : (a : Around) (n : ℕ) (xs ys : tree.Cases) (rest : List Case) → length rest < 1 → after_cases xs (open_cases a n (cases_of rest)) ≡ ys → xs ≡ ys
cases_rest a n xs ys [] none h = sym (cases_end xs) ∙ h
cases_rest a n xs ys (y ∷ rest) none h = absurd (omega arith)

-- ---- results

pub ok_is : {V W E : Type 0} (r : Result V E) (f : V → W) {x y : W} → x ≡ y → IfOk r (λ v. f v ≡ x) → IfOk r (λ v. f v ≡ y)
ok_is (Ok v) f e h = h ∙ e
ok_is (Err x) f e h = tt

pub on_ok : {V E : Type 0} (r : Result V E) (z : tree.Stmts) {x y : tree.Stmts} → x ≡ y → OnOk r (z ≡ x) → OnOk r (z ≡ y)
on_ok (Ok v) z e h = h ∙ e
on_ok (Err x) z e h = tt

pub on_any : {V E : Type 0} (r : Result V E) {x y : tree.Stmts} → x ≡ y → OnOk r (x ≡ y)
on_any (Ok v) e = e
on_any (Err x) e = tt

-- ---- statements that become several

pub for_opened : (a : Around) (n n1 n2 n3 : ℕ) (i i' : tree.ForInit) (t t' s s' : tree.MaybeExpr) (body body' old out : tree.Stmts)
    → i' ≡ open_init a n i → n1 ≡ n + init_scopes i → t' ≡ open_maybe a n1 t → n2 ≡ n1 + maybe_expr_scopes t → s' ≡ open_maybe a n2 s
    → n3 ≡ n2 + maybe_expr_scopes s → body' ≡ open_stmts a n3 body → out ≡ append old (before_for a i no_stmts)
    → append out (single (for i' t' s' body')) ≡ append old (open_stmt a n (for i t s body))
for_opened a n n1 n2 n3 i i' t t' s s' body body' old out e1 c1 e2 c2 e3 c3 e4 h =
    let whole : for i' t' s' body'
    ≡ for (open_init a n i) (open_maybe a (n + init_scopes i) t) (open_maybe a ((n + init_scopes i) + maybe_expr_scopes t) s)
    (open_stmts a (((n + init_scopes i) + maybe_expr_scopes t) + maybe_expr_scopes s) body) = cc in
    ap (λ z. append z (single (for i' t' s' body'))) h
    ∙ append_assoc old (before_for a i no_stmts) (single (for i' t' s' body'))
    ∙ ap (append old) (sym (for_behind a i (single (for i' t' s' body'))) ∙ ap (λ z. before_for a i (single z)) whole)

pub for_in_opened : (a : Around) (n n1 n2 : ℕ) (d d' : Bool) (t t' e e' : tree.Expr) (body body' old out : tree.Stmts)
    → d' ≡ (d && not (target_is_field a t)) → t' ≡ open_expr a n t → n1 ≡ n + expr_scopes t → e' ≡ open_expr a n1 e → n2 ≡ n1 + expr_scopes e
    → body' ≡ open_stmts a n2 body → out ≡ append old (before_for_in a d t no_stmts)
    → append out (single (for_in d' t' e' body')) ≡ append old (open_stmt a n (for_in d t e body))
for_in_opened a n n1 n2 d d' t t' e e' body body' old out e0 e1 c1 e2 c2 e3 h =
    let whole : for_in d' t' e' body'
    ≡ for_in (d && not (target_is_field a t)) (open_expr a n t) (open_expr a (n + expr_scopes t) e)
    (open_stmts a ((n + expr_scopes t) + expr_scopes e) body) = cc in
    ap (λ z. append z (single (for_in d' t' e' body'))) h
    ∙ append_assoc old (before_for_in a d t no_stmts) (single (for_in d' t' e' body'))
    ∙ ap (append old) (sym (for_in_behind a d t (single (for_in d' t' e' body'))) ∙ ap (λ z. before_for_in a d t (single z)) whole)

pub changed_opened : (a : Around) (ds opened : tree.Declarators) (old out : tree.Stmts) → is_changed a ds ≡ true
    → out ≡ append old (var_where_any (plain_names a ds) no_stmts)
    → append out (as_statements (assignments a opened)) ≡ append old (opened_var a ds opened)
changed_opened a ds opened old out changed h =
    let whole : opened_var a ds opened ≡ var_where_any (plain_names a ds) (as_statements (assignments a opened)) = rw (changed) refl in
    ap (λ z. append z (as_statements (assignments a opened))) h
    ∙ append_assoc old (var_where_any (plain_names a ds) no_stmts) (as_statements (assignments a opened))
    ∙ ap (append old) (sym (any_behind (plain_names a ds) (as_statements (assignments a opened))) ∙ sym whole)

-- ---- statements that are no function declarations

pub undeclared : (a : Around) (n : ℕ) (node : StmtNode) (s : tree.Stmt) → ((c : Rc Code Global) → node ≡ snode.Function c → ⊥) → stmt_of node ≡ s
    → open_declarations a n (then_stmt s no_stmts) ≡ no_stmts
undeclared a n (snode.Function c) s h e = absurd (h c refl)
undeclared a n (snode.Empty) s h e = ap (λ z. open_declarations a n (then_stmt z no_stmts)) (sym e)
undeclared a n node s h e = ap (λ z. open_declarations a n (then_stmt z no_stmts)) (sym e)

pub top_opened : (a : Around) (n : ℕ) (node : StmtNode) (s : tree.Stmt) → ((c : Rc Code Global) → node ≡ snode.Function c → ⊥) → stmt_of node ≡ s
    → open_stmt a n s ≡ open_tops a n (then_stmt s no_stmts)
top_opened a n (snode.Function c) s h e = absurd (h c refl)
top_opened a n (snode.Empty) s h e = sym (append_nothing (open_stmt a n s)) ∙ ap (λ z. append (open_stmt a n z) no_stmts) (sym e) ∙ ap (λ z. open_tops a n (then_stmt z no_stmts)) e
top_opened a n node s h e = sym (append_nothing (open_stmt a n s)) ∙ ap (λ z. append (open_stmt a n z) no_stmts) (sym e) ∙ ap (λ z. open_tops a n (then_stmt z no_stmts)) e

tops_behind : (a : Around) (n : ℕ) (s : tree.Stmt) (ss : tree.Stmts)
    → open_tops a n (then_stmt s ss) ≡ append (open_tops a n (then_stmt s no_stmts)) (open_tops a (n + stmt_scopes s) ss)
tops_behind a n (function c) ss = refl
tops_behind a n (empty) ss = refl
tops_behind a n s ss = ap (λ z. append z (open_tops a (n + stmt_scopes s) ss)) (sym (append_nothing (open_stmt a n s)))

pub tops_turn : (a : Around) (n m : ℕ) (s : tree.Stmt) (ss after : List tree.Stmt) (xs ys whole : tree.Stmts) → ss ≡ s ∷ after
    → m ≡ n + stmt_scopes s → ys ≡ append xs (open_tops a n (then_stmt s no_stmts)) → append xs (open_tops a n (stmts_of ss)) ≡ whole
    → append ys (open_tops a m (stmts_of after)) ≡ whole
tops_turn a n m s ss after xs ys whole e f g h =
    ap (λ y. append y (open_tops a m (stmts_of after))) g
    ∙ append_assoc xs (open_tops a n (then_stmt s no_stmts)) (open_tops a m (stmts_of after))
    ∙ ap (λ k. append xs (append (open_tops a n (then_stmt s no_stmts)) (open_tops a k (stmts_of after)))) f
    ∙ ap (append xs) (sym (tops_behind a n s (stmts_of after)))
    ∙ ap (λ z. append xs (open_tops a n (stmts_of z))) (sym e)
    ∙ h

-- the next script is opened behind these
pub scripts_turn : (n m : ℕ) (s o : tree.Stmts) (ss after xs new whole : List tree.Stmts) → ss ≡ s ∷ after → m ≡ n + stmts_scopes s → o ≡ open_script n s
    → new ≡ xs ++ o ∷ [] → xs ++ open_from n ss ≡ whole → new ++ open_from m after ≡ whole
scripts_turn n m s o ss after xs new whole e f g put h =
    ap (λ z. z ++ open_from m after) put
    ∙ lists.append_assoc xs (o ∷ []) (open_from m after)
    ∙ ap (λ z. xs ++ (z ∷ open_from m after)) g
    ∙ ap (λ k. xs ++ (open_script n s ∷ open_from k after)) f
    ∙ ap (λ z. xs ++ open_from n z) (sym e)
    ∙ h

-- ---- how many objects there are

pub counted_turn : (n m k : ℕ) (script : tree.Stmts) (rest after : List tree.Stmts) → rest ≡ script ∷ after → m ≡ n + stmts_scopes script
    → n + scripts_scopes rest ≡ k → m + scripts_scopes after ≡ k
counted_turn n m k script rest after whole more counted =
    let split : scripts_scopes rest ≡ stmts_scopes script + scripts_scopes after = ap scripts_scopes whole in
    omega (arith, split, more, counted)

-- none is left, and the next number is one of the program
pub all_counted : (n k : ℕ) (rest : List tree.Stmts) → length rest < 1 → n < 2 ^ 64 → n + scripts_scopes rest ≡ 1 + k → 1 + k < 2 ^ 64
all_counted n k [] none fits counted = omega (arith, fits, counted)
all_counted n k (x ∷ xs) none fits counted = absurd (omega (arith, none))
