-- Where scopes are not opened, a tree stays as it is, and equal trees are a case of opened ones.
use Rattle.std.proofs.Common.{◌≡◌, refl, sym, ap, ◌∙◌, ℕ, ◌+◌, Bool, true, false, not, ◌&&◌, List, [], ◌∷◌, ◌++◌, Option, Some, None, is_some, if◌then◌else◌}
use Rattle.std.proofs.Math.Bool.{and-true}
use Rattle.std.proofs.lemmas.Bool.{false≢true}
use Rattle.instrumenter.specs.Counting.{stmt_scopes}
use Rattle.js_core.specs.declared.operators.UnaryOp.{UnaryOp}
use Rattle.js_core.specs.declared.operators.UnaryOp.TheVariants.{Delete}
use Rattle.js_core.specs.Tree as tree
use Rattle.js_core.specs.Tree.{name, num, text, bool, null, this, list, literal, func, member, index, call, construct, unary, update, binary, logical_and, logical_or, conditional, assign, comma, no_exprs, then_expr, no_expr, one_expr, no_holes, then_hole, no_fields, then_field, code, var, function, expr, empty, block, if_else, do_while, while, for, for_in, continue, break, return, throw, try, switch, no_stmts, then_stmt, no_body, one_body, no_declarators, then_declarator, no_init, init_var, init_expr, no_catch, one_catch, no_cases, then_case}
use Rattle.scope_analysis.specs.Names.{bound_names, is_among, maybe_name}
use Rattle.instrumenter.specs.Around.{Around, append, before_for, before_for_in, callee, field_or_name, in_clause, in_function, is_changed, next_number, opened_body, opened_clause, opened_fields, opened_init, opened_var, single, target_is_field, without_this, top}
use Rattle.instrumenter.specs.Fields.{clause_fields}
use Rattle.instrumenter.specs.Opening.{open_cases, open_catch, open_declarations, open_declarators, open_expr, open_exprs, open_fields, open_function, open_holes, open_init, open_maybe, open_maybe_body, open_stmt, open_stmts, open_tops}
use Rattle.heap_relations.specs.Naming.{Copy, Fixed, Frame, InScope, Itself, Nowhere, Place, World, resolve}
use Rattle.agreement.specs.Opened.{HasTrees, are_sure, around_of, begins_with_set, body_stands, equal, is_bound, is_constant, cases_stand, catch_stands, declarator_stands, declarators_stand, deletes_no_field, expr_stands, exprs_stand, fields_stand, frames_round, function_stands, holes_stand, init_stands, are_plain, maybe_body_stands, maybe_stands, may_use, opened_code, stmt_stands, stmts_stand, target_stands}
use Rattle.agreement.proofs.Spared.{unspared_same}
use Rattle.agreement.proofs.Unset.{unset_body}
use Rattle.agreement.specs.Trees.{HasEqualTrees, cases_fit, catch_fits, code_fits, declarator_fits, declarators_fit, entry_frame, expr_fits, exprs_fit, fields_fit, holes_fit, init_fits, is_reached, maybe_body_fits, maybe_fits, own_frames, stmt_fits, stmts_fit, target_fits}

-- no scope is opened, and no name is a field
pub record IsClosed (a : Around) : Type 0 where
  pub opens : a.opens ≡ false
  pub fields : (x : List ℕ) → a.fields x ≡ None
  pub own : (x : List ℕ) → a.own x ≡ false

none_or_none : (b : Bool) (o : Option ℕ) → o ≡ None → (if b then None else o) ≡ None
none_or_none true o e = refl
none_or_none false o e = e

pub closed_function : {a : Around} (n : ℕ) (own : Option (List ℕ)) (c : tree.Code) → IsClosed a → IsClosed (in_function a n [] own c)
closed_function {a = a} n own c h = record {
  opens = h.opens;
  fields = λ x. none_or_none (is_among x (maybe_name own ++ bound_names c)) (a.fields x) (h.fields x);
  own = λ x. refl;
}

pub closed_clause : {a : Around} (n : ℕ) (x : List ℕ) → IsClosed a → IsClosed (in_clause a n [] x)
closed_clause {a = a} n x h = record {
  opens = h.opens;
  fields = λ y. none_or_none (is_among y (x ∷ [])) (a.fields y) (h.fields y);
  own = h.own;
}

-- ---- the pieces that opening puts in

callee_same : {a : Around} (f e : tree.Expr) → IsClosed a → callee a f e ≡ e
callee_same (name x) e h = ap (λ o. without_this o e) (h.fields x)
callee_same f e h = refl

not_changed : {a : Around} (ds : tree.Declarators) → IsClosed a → is_changed a ds ≡ false
not_changed no_declarators h = refl
not_changed (then_declarator x no_expr ds) h = rw (h.own x) (not_changed ds h)
not_changed (then_declarator x (one_expr e) ds) h = rw (h.own x, h.fields x) (not_changed ds h)

var_same : {a : Around} (ds opened : tree.Declarators) → IsClosed a → opened ≡ ds → opened_var a ds opened ≡ single (var ds)
var_same ds opened h e = rw (not_changed ds h, e) refl

init_same : {a : Around} (ds opened : tree.Declarators) → IsClosed a → opened ≡ ds → opened_init a ds opened ≡ init_var ds
init_same ds opened h e = rw (not_changed ds h, e) refl

before_for_same : {a : Around} (i : tree.ForInit) (ss : tree.Stmts) → IsClosed a → before_for a i ss ≡ ss
before_for_same no_init ss h = refl
before_for_same (init_var ds) ss h = rw (not_changed ds h) refl
before_for_same (init_expr e) ss h = refl

before_for_in_same : {a : Around} (declared : Bool) (t : tree.Expr) (ss : tree.Stmts) → IsClosed a → before_for_in a declared t ss ≡ ss
before_for_in_same true (name x) ss h = rw (h.fields x) refl
before_for_in_same declared t ss h = refl

no_field : {a : Around} (t : tree.Expr) → IsClosed a → target_is_field a t ≡ false
no_field (name x) h = ap is_some (h.fields x)
no_field t h = refl

declared_same : {a : Around} (declared : Bool) (t : tree.Expr) → IsClosed a → (declared && not (target_is_field a t)) ≡ declared
declared_same declared t h = ap (λ b. declared && not b) (no_field t h) ∙ and-true declared

no_fields_opened : {a : Around} (fields : List (List ℕ)) → IsClosed a → opened_fields a.opens fields ≡ []
no_fields_opened fields h = ap (λ o. opened_fields o fields) h.opens

body_same : {a : Around} (n : ℕ) (own : Option (List ℕ)) (x : Option (List ℕ)) (formals : List (List ℕ)) (body : tree.Stmts) (fields : List (List ℕ)) → IsClosed a → fields ≡ []
    → open_stmts (in_function a n [] own (code x formals body)) n body ≡ body → open_function a n fields own (code x formals body) ≡ body
body_same {a = a} n own x formals body [] h e same =
    ap (λ o. opened_body o (open_declarations (in_function a n [] own (code x formals body)) n body) (open_stmts (in_function a n [] own (code x formals body)) n body)) h.opens ∙ same
body_same n own x formals body (y ∷ ys) h e same = absurd (cc e)

clause_same : (a : Around) (n : ℕ) (x : List ℕ) (ss : tree.Stmts) (fields : List (List ℕ)) → fields ≡ [] → open_stmts (in_clause a n [] x) n ss ≡ ss
    → opened_clause n fields x (open_stmts (in_clause a n fields x) (next_number fields n) ss) ≡ one_catch x ss
clause_same a n x ss [] e same = ap (λ z. one_catch x z) same
clause_same a n x ss (y ∷ ys) e same = absurd (cc e)

-- ---- trees

at_two : {A B C : Type 0} (f : A → B → C) {a b : A} {c d : B} → a ≡ b → c ≡ d → f a c ≡ f b d
at_two f p q = λ i. f (p i) (q i)

at_three : {A B C D : Type 0} (f : A → B → C → D) {a b : A} {c d : B} {e g : C} → a ≡ b → c ≡ d → e ≡ g → f a c e ≡ f b d g
at_three f p q r = λ i. f (p i) (q i) (r i)

at_four : {A B C D E : Type 0} (f : A → B → C → D → E) {a b : A} {c d : B} {e g : C} {h k : D} → a ≡ b → c ≡ d → e ≡ g → h ≡ k → f a c e h ≡ f b d g k
at_four f p q r s = λ i. f (p i) (q i) (r i) (s i)

mutual
  pub expr_same : {a : Around} (n : ℕ) (e : tree.Expr) → IsClosed a → open_expr a n e ≡ e
  expr_same n (name x) h = ap (λ o. field_or_name o x) (h.fields x)
  expr_same n (num k) h = refl
  expr_same n (text x) h = refl
  expr_same n (bool b) h = refl
  expr_same n null h = refl
  expr_same n this h = refl
  expr_same n (list es) h = ap list (holes_same _ es h)
  expr_same n (literal es) h = ap literal (fields_same _ es h)
  expr_same {a = a} n (func (code x formals body)) h =
      ap (λ b. func (code x formals b)) (body_same n _ x formals body _ h (no_fields_opened _ h) (stmts_same _ body (closed_function n _ (code x formals body) h)))
  expr_same n (member e x) h = ap (λ z. member z x) (expr_same _ e h)
  expr_same n (index d e) h = at_two index (expr_same _ d h) (expr_same _ e h)
  expr_same n (call f es) h = at_two call (callee_same f _ h ∙ expr_same _ f h) (exprs_same _ es h)
  expr_same n (construct f es) h = at_two construct (expr_same _ f h) (exprs_same _ es h)
  expr_same n (unary op e) h = ap (unary op) (expr_same _ e h)
  expr_same n (update up prefix e) h = ap (update up prefix) (expr_same _ e h)
  expr_same n (binary op d e) h = at_two (binary op) (expr_same _ d h) (expr_same _ e h)
  expr_same n (logical_and d e) h = at_two logical_and (expr_same _ d h) (expr_same _ e h)
  expr_same n (logical_or d e) h = at_two logical_or (expr_same _ d h) (expr_same _ e h)
  expr_same n (conditional d e f) h = at_three conditional (expr_same _ d h) (expr_same _ e h) (expr_same _ f h)
  expr_same n (assign op d e) h = at_two (assign op) (expr_same _ d h) (expr_same _ e h)
  expr_same n (comma es) h = ap comma (exprs_same _ es h)

  exprs_same : {a : Around} (n : ℕ) (es : tree.Exprs) → IsClosed a → open_exprs a n es ≡ es
  exprs_same n no_exprs h = refl
  exprs_same n (then_expr e es) h = at_two then_expr (expr_same _ e h) (exprs_same _ es h)

  maybe_same : {a : Around} (n : ℕ) (e : tree.MaybeExpr) → IsClosed a → open_maybe a n e ≡ e
  maybe_same n no_expr h = refl
  maybe_same n (one_expr e) h = ap one_expr (expr_same _ e h)

  holes_same : {a : Around} (n : ℕ) (es : tree.Holes) → IsClosed a → open_holes a n es ≡ es
  holes_same n no_holes h = refl
  holes_same n (then_hole e es) h = at_two then_hole (maybe_same _ e h) (holes_same _ es h)

  fields_same : {a : Around} (n : ℕ) (es : tree.Fields) → IsClosed a → open_fields a n es ≡ es
  fields_same n no_fields h = refl
  fields_same n (then_field x e es) h = at_two (then_field x) (expr_same _ e h) (fields_same _ es h)

  -- one statement stays one
  stmt_same : {a : Around} (n : ℕ) (s : tree.Stmt) → IsClosed a → open_stmt a n s ≡ single s
  stmt_same n (var ds) h = var_same ds _ h (declarators_same _ ds h)
  stmt_same n (function c) h = ap (λ o. if o then no_stmts else single (function c)) h.opens
  stmt_same n (expr e) h = ap (λ z. single (expr z)) (expr_same _ e h)
  stmt_same n empty h = refl
  stmt_same n (block ss) h = ap (λ z. single (block z)) (stmts_same _ ss h)
  stmt_same n (if_else e s t) h = at_three (λ x y z. single (if_else x y z)) (expr_same _ e h) (stmts_same _ s h) (maybe_body_same _ t h)
  stmt_same n (do_while body e) h = at_two (λ x y. single (do_while x y)) (stmts_same _ body h) (expr_same _ e h)
  stmt_same n (while e body) h = at_two (λ x y. single (while x y)) (expr_same _ e h) (stmts_same _ body h)
  stmt_same n (for i t s body) h =
      before_for_same i _ h ∙ at_four (λ x y z w. single (for x y z w)) (init_all_same _ i h) (maybe_same _ t h) (maybe_same _ s h) (stmts_same _ body h)
  stmt_same n (for_in declared t e body) h =
      before_for_in_same declared t _ h ∙ at_four (λ x y z w. single (for_in x y z w)) (declared_same declared t h) (expr_same _ t h) (expr_same _ e h) (stmts_same _ body h)
  stmt_same n continue h = refl
  stmt_same n break h = refl
  stmt_same n (return e) h = ap (λ z. single (return z)) (maybe_same _ e h)
  stmt_same n (throw e) h = ap (λ z. single (throw z)) (expr_same _ e h)
  stmt_same n (try b c l) h = at_three (λ x y z. single (try x y z)) (stmts_same _ b h) (catch_same _ c h) (maybe_body_same _ l h)
  stmt_same n (switch e cs) h = at_two (λ x y. single (switch x y)) (expr_same _ e h) (cases_same _ cs h)

  pub stmts_same : {a : Around} (n : ℕ) (ss : tree.Stmts) → IsClosed a → open_stmts a n ss ≡ ss
  stmts_same n no_stmts h = refl
  stmts_same n (then_stmt s ss) h = at_two append (stmt_same _ s h) (stmts_same _ ss h)

  maybe_body_same : {a : Around} (n : ℕ) (ss : tree.MaybeStmts) → IsClosed a → open_maybe_body a n ss ≡ ss
  maybe_body_same n no_body h = refl
  maybe_body_same n (one_body ss) h = ap one_body (stmts_same _ ss h)

  declarators_same : {a : Around} (n : ℕ) (ds : tree.Declarators) → IsClosed a → open_declarators a n ds ≡ ds
  declarators_same n no_declarators h = refl
  declarators_same n (then_declarator x e ds) h = at_two (then_declarator x) (maybe_same _ e h) (declarators_same _ ds h)

  init_all_same : {a : Around} (n : ℕ) (t : tree.ForInit) → IsClosed a → open_init a n t ≡ t
  init_all_same n no_init h = refl
  init_all_same n (init_var ds) h = init_same ds _ h (declarators_same _ ds h)
  init_all_same n (init_expr e) h = ap init_expr (expr_same _ e h)

  catch_same : {a : Around} (n : ℕ) (c : tree.MaybeCatch) → IsClosed a → open_catch a n c ≡ c
  catch_same n no_catch h = refl
  catch_same {a = a} n (one_catch x ss) h = clause_same a n x ss _ (no_fields_opened (clause_fields x ss) h) (stmts_same _ ss (closed_clause n x h))

  cases_same : {a : Around} (n : ℕ) (cs : tree.Cases) → IsClosed a → open_cases a n cs ≡ cs
  cases_same n no_cases h = refl
  cases_same n (then_case e ss cs) h = at_three then_case (maybe_same _ e h) (stmts_same _ ss h) (cases_same _ cs h)

-- ---- scripts

top_closed : IsClosed (top false)
top_closed = record { opens = refl; fields = λ y. refl; own = λ y. refl }

top_same : (n : ℕ) (s : tree.Stmt) (ss : tree.Stmts) → open_tops (top false) (n + stmt_scopes s) ss ≡ ss → open_tops (top false) n (then_stmt s ss) ≡ then_stmt s ss
top_same n (function (code x formals body)) ss h =
    at_two (λ b us. then_stmt (function (code x formals b)) us) (body_same n None x formals body [] top_closed refl (stmts_same n body (closed_function n None (code x formals body) top_closed))) h
top_same n s ss h = at_two append (stmt_same n s top_closed) h

pub tops_same : (n : ℕ) (ss : tree.Stmts) → open_tops (top false) n ss ≡ ss
tops_same n no_stmts = refl
tops_same n (then_stmt s ss) = top_same n s ss (tops_same (n + stmt_scopes s) ss)

-- ---- what may stand where, if nothing is opened

pub reached_use : (assigns : Bool) (p : Place) → is_reached assigns p ≡ may_use false assigns p
reached_use assigns Itself = refl
reached_use assigns (InScope n) = refl
reached_use assigns (Copy n) = refl
reached_use assigns Fixed = refl
reached_use assigns Nowhere = refl

target_use : (fs : List Frame) (e : tree.Expr) (b c : Bool) → b ≡ c → target_fits fs e b ≡ target_stands equal fs e c
target_use fs (name x) b c h = reached_use true (resolve fs x)
target_use fs e b c h = h

-- deleting is not asked about
deleted : (fs : List Frame) (op : UnaryOp) (e : tree.Expr) {b c : Bool} → b ≡ c → b ≡ (deletes_no_field false op fs e && c)
deleted fs Delete (name x) h = h
deleted fs op e h = h

own_round : (x : Option (List ℕ)) (fs : List Frame) → own_frames x fs ≡ frames_round false x fs
own_round None fs = refl
own_round (Some x) fs = refl

all_plain : (xs : List (List ℕ)) → are_plain false xs ≡ true
all_plain [] = refl
all_plain (x ∷ xs) = all_plain xs

func_stands : (x : Option (List ℕ)) (c d : Bool) → c ≡ d → c ≡ (are_plain false (maybe_name x) && (true && (true && d)))
func_stands x c d k = rw (all_plain (maybe_name x)) k

-- the body of a function
body_use : (n : ℕ) (fs : List Frame) (formals : List (List ℕ)) (body : tree.Stmts) {b : Bool} → b ≡ stmts_stand equal n fs body
    → b ≡ (are_sure (λ x. false) formals body && body_stands (begins_with_set (is_constant equal formals body) body) equal n fs body)
body_use n fs formals body h = h ∙ sym (unset_body formals (is_bound formals body) body equal n fs)

mutual
  pub expr_use : (n : ℕ) (fs : List Frame) (e : tree.Expr) → expr_fits fs e ≡ expr_stands equal n fs e
  expr_use n fs (name x) = reached_use false (resolve fs x)
  expr_use n fs (num k) = refl
  expr_use n fs (text x) = refl
  expr_use n fs (bool b) = refl
  expr_use n fs null = refl
  expr_use n fs this = refl
  expr_use n fs (list es) = holes_use _ fs es
  expr_use n fs (literal es) = fields_use _ fs es
  expr_use n fs (func (code x formals body)) =
      func_stands x _ _ (body_use _ _ formals body (ap (λ gs. stmts_fit (entry_frame formals body ∷ gs) body) (own_round x fs) ∙ stmts_use _ _ body))
  expr_use n fs (member e x) = expr_use _ fs e
  expr_use n fs (index a b) = at_two ◌&&◌ (expr_use _ fs a) (expr_use _ fs b)
  expr_use n fs (call e es) = at_two ◌&&◌ (expr_use _ fs e ∙ unspared_same equal (λ k. refl) n fs e) (exprs_use _ fs es)
  expr_use n fs (construct e es) = at_two ◌&&◌ (expr_use _ fs e) (exprs_use _ fs es)
  expr_use n fs (unary op a) = deleted fs op a (expr_use _ fs a)
  expr_use n fs (update up prefix a) = target_use fs a _ _ (expr_use _ fs a)
  expr_use n fs (binary op a b) = at_two ◌&&◌ (expr_use _ fs a) (expr_use _ fs b)
  expr_use n fs (logical_and a b) = at_two ◌&&◌ (expr_use _ fs a) (expr_use _ fs b)
  expr_use n fs (logical_or a b) = at_two ◌&&◌ (expr_use _ fs a) (expr_use _ fs b)
  expr_use n fs (conditional a b c) = at_two ◌&&◌ (expr_use _ fs a) (at_two ◌&&◌ (expr_use _ fs b) (expr_use _ fs c))
  expr_use n fs (assign op a b) = at_two ◌&&◌ (target_use fs a _ _ (expr_use _ fs a)) (expr_use _ fs b)
  expr_use n fs (comma es) = exprs_use _ fs es

  exprs_use : (n : ℕ) (fs : List Frame) (es : tree.Exprs) → exprs_fit fs es ≡ exprs_stand equal n fs es
  exprs_use n fs no_exprs = refl
  exprs_use n fs (then_expr e es) = at_two ◌&&◌ (expr_use _ fs e) (exprs_use _ fs es)

  maybe_use : (n : ℕ) (fs : List Frame) (e : tree.MaybeExpr) → maybe_fits fs e ≡ maybe_stands equal n fs e
  maybe_use n fs no_expr = refl
  maybe_use n fs (one_expr e) = expr_use _ fs e

  holes_use : (n : ℕ) (fs : List Frame) (es : tree.Holes) → holes_fit fs es ≡ holes_stand equal n fs es
  holes_use n fs no_holes = refl
  holes_use n fs (then_hole e es) = at_two ◌&&◌ (maybe_use _ fs e) (holes_use _ fs es)

  fields_use : (n : ℕ) (fs : List Frame) (es : tree.Fields) → fields_fit fs es ≡ fields_stand equal n fs es
  fields_use n fs no_fields = refl
  fields_use n fs (then_field x e es) = at_two ◌&&◌ (expr_use _ fs e) (fields_use _ fs es)

  stmt_use : (n : ℕ) (fs : List Frame) (s : tree.Stmt) → stmt_fits fs s ≡ stmt_stands equal n fs s
  stmt_use n fs (var ds) = declarators_use _ fs ds
  stmt_use n fs (function (code x formals body)) = func_stands x _ _ (body_use _ _ formals body (stmts_use _ _ body))
  stmt_use n fs (expr e) = expr_use _ fs e
  stmt_use n fs empty = refl
  stmt_use n fs (block ss) = stmts_use _ fs ss
  stmt_use n fs (if_else e a b) = at_two ◌&&◌ (expr_use _ fs e) (at_two ◌&&◌ (stmts_use _ fs a) (maybe_body_use _ fs b))
  stmt_use n fs (do_while body e) = at_two ◌&&◌ (stmts_use _ fs body) (expr_use _ fs e)
  stmt_use n fs (while e body) = at_two ◌&&◌ (expr_use _ fs e) (stmts_use _ fs body)
  stmt_use n fs (for i t s body) =
      at_two ◌&&◌ (init_use _ fs i) (at_two ◌&&◌ (maybe_use _ fs t) (at_two ◌&&◌ (maybe_use _ fs s) (stmts_use _ fs body)))
  stmt_use n fs (for_in declared t e body) =
      at_two ◌&&◌ (target_use fs t _ _ (expr_use _ fs t)) (at_two ◌&&◌ (expr_use _ fs e) (stmts_use _ fs body))
  stmt_use n fs continue = refl
  stmt_use n fs break = refl
  stmt_use n fs (return e) = maybe_use _ fs e
  stmt_use n fs (throw e) = expr_use _ fs e
  stmt_use n fs (try b c l) = at_two ◌&&◌ (stmts_use _ fs b) (at_two ◌&&◌ (catch_use _ fs c) (maybe_body_use _ fs l))
  stmt_use n fs (switch e cs) = at_two ◌&&◌ (expr_use _ fs e) (cases_use _ fs cs)

  pub stmts_use : (n : ℕ) (fs : List Frame) (ss : tree.Stmts) → stmts_fit fs ss ≡ stmts_stand equal n fs ss
  stmts_use n fs no_stmts = refl
  stmts_use n fs (then_stmt s ss) = at_two ◌&&◌ (stmt_use _ fs s) (stmts_use _ fs ss)

  maybe_body_use : (n : ℕ) (fs : List Frame) (ss : tree.MaybeStmts) → maybe_body_fits fs ss ≡ maybe_body_stands equal n fs ss
  maybe_body_use n fs no_body = refl
  maybe_body_use n fs (one_body ss) = stmts_use _ fs ss

  declarators_use : (n : ℕ) (fs : List Frame) (ds : tree.Declarators) → declarators_fit fs ds ≡ declarators_stand equal n fs ds
  declarators_use n fs no_declarators = refl
  declarators_use n fs (then_declarator x e ds) = at_two ◌&&◌ (declarator_use _ fs x e) (declarators_use _ fs ds)

  declarator_use : (n : ℕ) (fs : List Frame) (x : List ℕ) (e : tree.MaybeExpr) → declarator_fits fs x e ≡ declarator_stands equal n fs x e
  declarator_use n fs x no_expr = refl
  declarator_use n fs x (one_expr e) = at_two ◌&&◌ (reached_use true (resolve fs x)) (expr_use _ fs e)

  init_use : (n : ℕ) (fs : List Frame) (t : tree.ForInit) → init_fits fs t ≡ init_stands equal n fs t
  init_use n fs no_init = refl
  init_use n fs (init_var ds) = declarators_use _ fs ds
  init_use n fs (init_expr e) = expr_use _ fs e

  catch_use : (n : ℕ) (fs : List Frame) (c : tree.MaybeCatch) → catch_fits fs c ≡ catch_stands equal n fs c
  catch_use n fs no_catch = refl
  catch_use n fs (one_catch x ss) = stmts_use _ _ ss

  cases_use : (n : ℕ) (fs : List Frame) (cs : tree.Cases) → cases_fit fs cs ≡ cases_stand equal n fs cs
  cases_use n fs no_cases = refl
  cases_use n fs (then_case e ss cs) = at_two ◌&&◌ (maybe_use _ fs e) (at_two ◌&&◌ (stmts_use _ fs ss) (cases_use _ fs cs))

pub function_use : (n : ℕ) (fs : List Frame) (c : tree.Code) → code_fits fs c ≡ function_stands equal n fs c
function_use n fs (code x formals body) = (body_use _ _ formals body (stmts_use _ _ body))

-- ---- equal trees

pub code_same : (n : ℕ) (fs : List Frame) (c : tree.Code) → c ≡ opened_code false n fs c
code_same n fs (code x formals body) =
    let h : IsClosed (around_of false fs) = record { opens = refl; fields = λ y. refl; own = λ y. refl } in
    ap (λ b. code x formals b) (sym (body_same n _ x formals body [] h refl (stmts_same n body (closed_function n _ (code x formals body) h))))

abbrev pub equal_trees : {W : World} → HasEqualTrees W → HasTrees W
equal_trees h = record {
  demand = equal;
  opens = h.opens;
  opened = λ n fs c. h.opened n fs c ∙ code_same n fs c;
  fits = λ n fs c. h.fits n fs c ∙ function_use n fs c;
  bases = λ e. absurd (false≢true e);
  opening = λ e. absurd (false≢true e);
}
