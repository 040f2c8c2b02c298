-- What the nodes of a saved page do not pass, if its functions do not, no part of it passes.
use Rattle.std.proofs.Common.{◌≡◌, refl, ℕ, ℤ, pos, negsuc, ◌-◌, Bool, true, false, ◌||◌, All, List, [], ◌∷◌, Option, Some, None, codes, nat_eq}
use Rattle.std.specs.Prelude.{if◌then◌else◌}
use Rattle.std.proofs.lemmas.Bool.{or_from}
use Rattle.std.proofs.lemmas.List.Elements.{All-head, All-tail}
use Rattle.built_in_paths.specs.Paths.{names_of, path_of}
use Rattle.page_meaning.specs.Places.{document}
use Rattle.js_core.specs.Tree as tree
use Rattle.js_core.specs.Tree.{name, num, text, bool, null, list, literal, member, index, call, construct, unary, assign, no_holes, expr, then_stmt, throw, try}
use Rattle.js_core.specs.declared.operators.UnaryOp.TheVariants.{Minus, Void}
use Rattle.js_values.specs.Throw.{kind_name}
use Rattle.js_values.specs.declared.ids.ObjId.{ObjId}
use Rattle.js_values.specs.declared.value.Value.{Value}
use Rattle.js_values.specs.declared.value.Value.TheVariants as value
use Rattle.object_heap.specs.declared.property.Prop.{Prop}
use Rattle.rebuild_plan.specs.declared.statement.Maker.{Maker}
use Rattle.rebuild_plan.specs.declared.statement.Maker.TheVariants as made
use Rattle.rebuild_plan.specs.declared.statement.Rebuild.{Rebuild}
use Rattle.rebuild_plan.specs.declared.statement.Rebuild.TheVariants.{Make, Append, Attribute, SetValue, Init, Dispatch, Listen, Define, DefinePrototype, DefineLength, Filler, Clear, Timeout, Interval, Prevent}
use Rattle.early_rules.specs.EarlyRules.{repeats_name}
use Rattle.scope_analysis.specs.Identifiers.{is_restricted}
use Rattle.scope_analysis.specs.Nodes.{Node, clause, expr_any, expression, exprs_any, statement, stmt_any, stmts_any}
use Rattle.page_writer.proofs.CommonNames.{begins_common, clear_timeout_is_common, common_is_unrestricted, begin_is_common, document_is_common, is_common, kind_is_common, none_begin, path_begins, set_interval_is_common, set_timeout_is_common}
use Rattle.page_writer.proofs.FormFunctions.{IsFormFunction, NonePass}
use Rattle.page_writer.proofs.FormPlans.{IsInForm, MakesInForm}
use Rattle.page_writer.specs.HostStatements.{document_method, global_call, method, one, three, two}
use Rattle.page_writer.specs.Script.{clearing, saved_script, statements}
use Rattle.rebuild_plan.specs.Moved.{first_thing}
use Rattle.page_writer.specs.Statements.{define_expr, document_expr, function_expr, maker_expr, need_exprs, number_expr, path_expr, path_from, proto_expr, rebuild_expr, reference, reference_over, short_descriptor, thing_expr, value_expr, value_exprs, whole_descriptor, whole_expr}

-- a test that the nodes of a saved page but its functions and its catch clause do not pass
pub record IsQuiet (t : Node → Bool) : Type 0 where
  pub at_name : (b : Bool) (x : List ℕ) → is_restricted x ≡ false → t (expression b (name x)) ≡ false
  pub at_num : (b : Bool) (n : Option ℤ) → t (expression b (num n)) ≡ false
  pub at_text : (b : Bool) (x : List ℕ) → t (expression b (text x)) ≡ false
  pub at_bool : (b c : Bool) → t (expression b (bool c)) ≡ false
  pub at_null : (b : Bool) → t (expression b null) ≡ false
  pub at_list : (b : Bool) → t (expression b (list no_holes)) ≡ false
  pub at_literal : (b : Bool) (fs : tree.Fields) → repeats_name fs ≡ false → t (expression b (literal fs)) ≡ false
  pub at_member : (b : Bool) (e : tree.Expr) (x : List ℕ) → t (expression b (member e x)) ≡ false
  pub at_index : (b : Bool) (a c : tree.Expr) → t (expression b (index a c)) ≡ false
  pub at_call : (b : Bool) (f : tree.Expr) (es : tree.Exprs) → t (expression b (call f es)) ≡ false
  pub at_construct : (b : Bool) (f : tree.Expr) (es : tree.Exprs) → t (expression b (construct f es)) ≡ false
  pub at_void : (b : Bool) (e : tree.Expr) → t (expression b (unary Void e)) ≡ false
  pub at_minus : (b : Bool) (e : tree.Expr) → t (expression b (unary Minus e)) ≡ false
  pub at_assign : (b : Bool) (a c e : tree.Expr) → t (expression b (assign None (index a c) e)) ≡ false
  pub at_set : (b : Bool) (a : tree.Expr) (x : List ℕ) (e : tree.Expr) → t (expression b (assign None (member a x) e)) ≡ false
  pub at_expr : (e : tree.Expr) → t (statement (expr e)) ≡ false
  pub at_throw : (e : tree.Expr) → t (statement (throw e)) ≡ false
  pub at_try : (ss : tree.Stmts) (c : tree.MaybeCatch) (l : tree.MaybeStmts) → t (statement (try ss c l)) ≡ false

module _ (t : Node → Bool) (q : IsQuiet t) where
  -- ---- references

  thing_quiet : (b : Bool) (n : ℕ) → expr_any t b (thing_expr n) ≡ false
  thing_quiet b n = or_from _ _ (q.at_index b (name (codes "$$")) (number_expr n)) (or_from _ _ (q.at_name false (codes "$$") refl) (q.at_num false (Some (pos n))))

  document_quiet : (b : Bool) → expr_any t b document_expr ≡ false
  document_quiet b = q.at_name b (codes "document") (common_is_unrestricted (codes "document") document_is_common)

  path_from_quiet : (e : tree.Expr) (xs : List (List ℕ)) → ((b : Bool) → expr_any t b e ≡ false) → (b : Bool) → expr_any t b (path_from e xs) ≡ false
  path_from_quiet e [] quiet b = quiet b
  path_from_quiet e (x ∷ xs) quiet b = path_from_quiet (member e x) xs (λ c. or_from _ _ (q.at_member c e x) (quiet false)) b

  path_quiet : (xs : List (List ℕ)) → begins_common xs ≡ true → (b : Bool) → expr_any t b (path_expr xs) ≡ false
  path_quiet [] e b = cc (e, none_begin)
  path_quiet (x ∷ xs) e b = path_from_quiet (name x) xs (λ c. q.at_name c x (common_is_unrestricted x (begin_is_common x xs e))) b

  over_quiet : (k : ℕ) (found : Option (List ℕ)) → path_of k ≡ found → (b : Bool) → expr_any t b (reference_over k found) ≡ false
  over_quiet k (Some path) there b = path_quiet (names_of path) (path_begins k path there) b
  over_quiet k None there b = by (nat_eq k document.0)
    where
      by : (c : Bool) → expr_any t b (if c then document_expr else thing_expr (k - first_thing)) ≡ false
      by true = document_quiet b
      by false = thing_quiet b (k - first_thing)

  reference_quiet : (at : ObjId) (b : Bool) → expr_any t b (reference at) ≡ false
  reference_quiet at b = over_quiet at.0 (path_of at.0) refl b

  -- ---- values

  whole_quiet : (n : Option ℤ) (b : Bool) → expr_any t b (whole_expr n) ≡ false
  whole_quiet None b = q.at_name b (codes "NaN") refl
  whole_quiet (Some (pos n)) b = q.at_num b (Some (pos n))
  whole_quiet (Some (negsuc n)) b = or_from _ _ (q.at_minus b _) (q.at_num false _)

  value_quiet : (v : Value) (b : Bool) → expr_any t b (value_expr v) ≡ false
  value_quiet value.Undefined b = or_from _ _ (q.at_void b _) (q.at_num false _)
  value_quiet value.Null b = q.at_null b
  value_quiet (value.Bool c) b = q.at_bool b c
  value_quiet (value.Num n) b = whole_quiet n b
  value_quiet (value.Text x) b = q.at_text b x
  value_quiet (value.Object at) b = reference_quiet at b

  values_quiet : (vs : List Value) → exprs_any t (value_exprs vs) ≡ false
  values_quiet [] = refl
  values_quiet (v ∷ vs) = or_from _ _ (value_quiet v false) (values_quiet vs)

  proto_quiet : (proto : Option ObjId) → expr_any t false (proto_expr proto) ≡ false
  proto_quiet None = q.at_null false
  proto_quiet (Some at) = reference_quiet at false

  needs_quiet : (ns : List (List ℕ × Value)) → exprs_any t (need_exprs ns) ≡ false
  needs_quiet [] = refl
  needs_quiet (n ∷ ns) = or_from _ _ (value_quiet n.1 false) (needs_quiet ns)

  -- ---- calls of methods and of functions

  method_quiet : (at : ObjId) (x : List ℕ) (args : tree.Exprs) → exprs_any t args ≡ false → expr_any t false (method at x args) ≡ false
  method_quiet at x args quiet =
      or_from _ _ (q.at_call false _ _) (or_from _ _ (or_from _ _ (q.at_member true (reference at) x) (reference_quiet at false)) quiet)

  document_method_quiet : (x : List ℕ) (args : tree.Exprs) → exprs_any t args ≡ false → expr_any t false (document_method x args) ≡ false
  document_method_quiet x args quiet =
      or_from _ _ (q.at_call false _ _) (or_from _ _ (or_from _ _ (q.at_member true document_expr x) (document_quiet false)) quiet)

  global_quiet : (x : List ℕ) (args : tree.Exprs) → is_common x ≡ true → exprs_any t args ≡ false → expr_any t false (global_call x args) ≡ false
  global_quiet x args common quiet = or_from _ _ (q.at_call false _ _) (or_from _ _ (q.at_name true x (common_is_unrestricted x common)) quiet)

  one_quiet : (e : tree.Expr) → expr_any t false e ≡ false → exprs_any t (one e) ≡ false
  one_quiet e h = or_from _ _ h refl

  two_quiet : (e f : tree.Expr) → expr_any t false e ≡ false → expr_any t false f ≡ false → exprs_any t (two e f) ≡ false
  two_quiet e f h g = or_from _ _ h (one_quiet f g)

  three_quiet : (e f g : tree.Expr) → expr_any t false e ≡ false → expr_any t false f ≡ false → expr_any t false g ≡ false → exprs_any t (three e f g) ≡ false
  three_quiet e f g h i j = or_from _ _ h (two_quiet f g i j)

  created_quiet : (word x : List ℕ) → expr_any t false (document_method word (one (text x))) ≡ false
  created_quiet word x = document_method_quiet word (one (text x)) (one_quiet (text x) (q.at_text false x))

  count_quiet : (n : ℕ) → expr_any t false (number_expr n) ≡ false
  count_quiet n = q.at_num false (Some (pos n))

  -- ---- what makes a thing, where the functions have no node that passes

  module _ (each : (c : tree.Code) (needs : List (List ℕ × Value)) → IsFormFunction c needs → NonePass t c needs) where
    function_quiet : (c : tree.Code) (ns : List (List ℕ × Value)) → NonePass t c ns → expr_any t false (function_expr c ns) ≡ false
    function_quiet c [] none = none.1
    function_quiet c (n ∷ ns) none = or_from _ _ (q.at_call false _ _) (or_from _ _ none.0 (needs_quiet (n ∷ ns)))

    object_quiet : (x : List ℕ) → expr_any t true (member (name (codes "Object")) x) ≡ false
    object_quiet x = or_from _ _ (q.at_member true (name (codes "Object")) x) (q.at_name false (codes "Object") refl)

    maker_quiet : (m : Maker) → MakesInForm m → expr_any t false (maker_expr m) ≡ false
    maker_quiet (made.Plain proto) h = or_from _ _ (q.at_call false _ _) (or_from _ _ (object_quiet (codes "create")) (or_from _ _ (proto_quiet proto) refl))
    maker_quiet made.List h = or_from _ _ (q.at_list false) refl
    maker_quiet (made.Fault kind) h =
        or_from _ _ (q.at_construct false _ _) (or_from _ _ (q.at_name false (kind_name kind) (common_is_unrestricted (kind_name kind) (kind_is_common kind))) refl)
    maker_quiet (made.Func c needs) h = function_quiet c needs (each c needs h)
    maker_quiet (made.Bind target this args) h =
        or_from _ _ (q.at_call false _ _)
        (or_from _ _ (or_from _ _ (q.at_member true (reference target) (codes "bind")) (reference_quiet target false))
        (or_from _ _ (value_quiet this false) (values_quiet args)))
    maker_quiet (made.Element x) h = created_quiet (codes "createElement") x
    maker_quiet (made.Text x) h = created_quiet (codes "createTextNode") x
    maker_quiet (made.Comment x) h = created_quiet (codes "createComment") x
    maker_quiet made.Event h = created_quiet (codes "createEvent") (codes "Event")

    -- ---- statements

    whole_descriptor_quiet : (p : Prop) → expr_any t false (whole_descriptor p) ≡ false
    whole_descriptor_quiet p =
        or_from _ _ (q.at_literal false _ refl)
        (or_from _ _ (value_quiet p.value false)
        (or_from _ _ (q.at_bool false p.writable) (or_from _ _ (q.at_bool false p.enumerable) (or_from _ _ (q.at_bool false p.configurable) refl))))

    short_quiet : (v : Value) (writable : Bool) → expr_any t false (short_descriptor v writable) ≡ false
    short_quiet v writable = or_from _ _ (q.at_literal false _ refl) (or_from _ _ (value_quiet v false) (or_from _ _ (q.at_bool false writable) refl))

    define_quiet : (at : ObjId) (x : List ℕ) (descriptor : tree.Expr) → expr_any t false descriptor ≡ false
        → expr_any t false (define_expr at x descriptor) ≡ false
    define_quiet at x descriptor quiet =
        or_from _ _ (q.at_call false _ _)
        (or_from _ _ (object_quiet (codes "defineProperty")) (or_from _ _ (reference_quiet at false) (or_from _ _ (q.at_text false x) (or_from _ _ quiet refl))))

    rebuild_quiet : (r : Rebuild) → IsInForm r → expr_any t false (rebuild_expr r) ≡ false
    rebuild_quiet (Make number maker) h = or_from _ _ (q.at_assign false _ _ _) (or_from _ _ (thing_quiet false number) (maker_quiet maker h))
    rebuild_quiet (Append parent child) h =
        method_quiet parent (codes "appendChild") (one (reference child)) (one_quiet (reference child) (reference_quiet child false))
    rebuild_quiet (Attribute node x v) h =
        method_quiet node (codes "setAttribute") (two (text x) (text v)) (two_quiet (text x) (text v) (q.at_text false x) (q.at_text false v))
    rebuild_quiet (SetValue node x) h =
        or_from _ _ (q.at_set false (reference node) (codes "value") (text x))
        (or_from _ _ (or_from _ _ (q.at_member false (reference node) (codes "value")) (reference_quiet node false)) (q.at_text false x))
    rebuild_quiet (Init at kind bubbles cancelable) h =
        method_quiet at (codes "initEvent") (three (text kind) (bool bubbles) (bool cancelable))
        (three_quiet (text kind) (bool bubbles) (bool cancelable) (q.at_text false kind) (q.at_bool false bubbles) (q.at_bool false cancelable))
    rebuild_quiet (Dispatch target at) h =
        method_quiet target (codes "dispatchEvent") (one (reference at)) (one_quiet (reference at) (reference_quiet at false))
    rebuild_quiet (Listen node kind f capture) h =
        method_quiet node (codes "addEventListener") (three (text kind) (reference f) (bool capture))
        (three_quiet (text kind) (reference f) (bool capture) (q.at_text false kind) (reference_quiet f false) (q.at_bool false capture))
    rebuild_quiet (Define at x p) h = define_quiet at x (whole_descriptor p) (whole_descriptor_quiet p)
    rebuild_quiet (DefinePrototype at v writable) h = define_quiet at (codes "prototype") (short_descriptor v writable) (short_quiet v writable)
    rebuild_quiet (DefineLength at v writable) h = define_quiet at (codes "length") (short_descriptor v writable) (short_quiet v writable)
    rebuild_quiet Filler h =
        global_quiet (codes "setTimeout") (two (name (codes "Object")) (number_expr 0)) set_timeout_is_common
        (two_quiet (name (codes "Object")) (number_expr 0) (q.at_name false (codes "Object") refl) (count_quiet 0))
    rebuild_quiet (Clear id) h = global_quiet (codes "clearTimeout") (one (number_expr id)) clear_timeout_is_common (one_quiet (number_expr id) (count_quiet id))
    rebuild_quiet (Timeout f rest) h =
        global_quiet (codes "setTimeout") (two (reference f) (number_expr rest)) set_timeout_is_common
        (two_quiet (reference f) (number_expr rest) (reference_quiet f false) (count_quiet rest))
    rebuild_quiet (Interval f rest period) h =
        global_quiet (codes "setIntervalFrom") (three (reference f) (number_expr rest) (number_expr period)) set_interval_is_common
        (three_quiet (reference f) (number_expr rest) (number_expr period) (reference_quiet f false) (count_quiet rest) (count_quiet period))
    rebuild_quiet (Prevent at) h = or_from _ _ (q.at_call false _ _) (or_from _ _ (object_quiet (codes "preventExtensions")) (or_from _ _ (reference_quiet at false) refl))

    statements_quiet : (rs : List Rebuild) → All IsInForm rs → stmts_any t (statements rs) ≡ false
    statements_quiet [] all = refl
    statements_quiet (r ∷ rs) all =
        or_from _ _ (or_from _ _ (q.at_expr (rebuild_expr r)) (rebuild_quiet r (All-head IsInForm r rs all))) (statements_quiet rs (All-tail IsInForm r rs all))

    clearing_quiet : stmt_any t clearing ≡ false
    clearing_quiet =
        let e : tree.Expr = member document_expr (codes "documentElement") in
        or_from _ _ (q.at_expr _)
        (document_method_quiet (codes "removeChild") (one e) (one_quiet e (or_from _ _ (q.at_member false document_expr (codes "documentElement")) (document_quiet false))))

    body_quiet : (rs : List Rebuild) → All IsInForm rs → stmts_any t (then_stmt clearing (statements rs)) ≡ false
    body_quiet rs all = or_from _ _ clearing_quiet (statements_quiet rs all)

    -- no node of the whole script passes, if the catch clause does not
    pub script_quiet : (rs : List Rebuild) → All IsInForm rs → t (clause (codes "$$") (then_stmt clearing (statements rs))) ≡ false → stmts_any t (saved_script rs) ≡ false
    script_quiet rs all caught =
        let strict : (t (statement (expr (text (codes "use strict")))) || t (expression false (text (codes "use strict")))) ≡ false =
        or_from _ _ (q.at_expr _) (q.at_text false _)
        in
        let thrown : (t (statement (throw (list no_holes))) || (t (expression false (list no_holes)) || false)) ≡ false =
        or_from _ _ (q.at_throw _) (or_from _ _ (q.at_list false) refl)
        in
        or_from _ _ strict (or_from _ _ (or_from _ _ (q.at_try _ _ _) (or_from _ _ (or_from _ _ thrown refl) (or_from _ _ (or_from _ _ caught (body_quiet rs all)) refl))) refl)
