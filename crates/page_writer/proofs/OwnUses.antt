-- The reserved names that the statements of a saved page use are `$$`, and no function inside uses it.
use Rattle.std.proofs.Common.{◌≡◌, refl, sym, ap, ◌∙◌, ℕ, ℤ, pos, negsuc, ◌-◌, Bool, true, false, not, ◌&&◌, ◌||◌, All, List, [], ◌∷◌, ◌++◌, Option, Some, None, codes, bytes_eq, nat_eq, if◌then◌else◌}
use Rattle.std.specs.List.{list_all, list_any}
use Rattle.std.proofs.lemmas.Bool.{and_from, and_parts, not-true, not_from_false, or_from, or_left, or_parts}
use Rattle.std.proofs.lemmas.List.{append-nil}
use Rattle.std.proofs.lemmas.List.Elements.{All-head, All-tail}
use Rattle.std.proofs.lemmas.List.Folds.{list_all-append}
use Rattle.std.proofs.lemmas.Slice.Eq.{bytes_eq-Decides}
use Rattle.built_in_paths.specs.Paths.{names_of, path_of}
use Rattle.page_meaning.specs.Places.{document}
use Rattle.js_core.specs.Tree as tree
use Rattle.js_core.specs.Tree.{func, member, name, then_stmt}
use Rattle.js_values.specs.Throw.{kind_name}
use Rattle.js_values.specs.declared.ids.ObjId.{ObjId}
use Rattle.js_values.specs.declared.value.Value.{Value}
use Rattle.js_values.specs.declared.value.Value.TheVariants as value
use Rattle.object_heap.specs.declared.property.Prop.{Prop}
use Rattle.rebuild_plan.specs.declared.statement.Maker.{Maker}
use Rattle.rebuild_plan.specs.declared.statement.Maker.TheVariants as made
use Rattle.rebuild_plan.specs.declared.statement.Rebuild.{Rebuild}
use Rattle.rebuild_plan.specs.declared.statement.Rebuild.TheVariants.{Make, Append, Attribute, SetValue, Init, Dispatch, Listen, Define, DefinePrototype, DefineLength, Filler, Clear, Timeout, Interval, Prevent}
use Rattle.script_rules.specs.Form.{any_use_is_reserved, has_inner_declaration, has_open_reserved, in_form, scope_out_of_form}
use Rattle.scope_analysis.specs.Identifiers.{is_reserved}
use Rattle.scope_analysis.specs.Names.{bound_names, maybe_name, declared_names}
use Rattle.scope_analysis.specs.Nodes.{stmts_any}
use Rattle.scope_analysis.specs.Uses.{Use, expr_uses, exprs_uses, is_captured, leaving_clause, leaving_function, read, stmts_uses}
use Rattle.page_writer.proofs.CommonNames.{begins_common, clear_timeout_is_common, common_is_unreserved, begin_is_common, document_is_common, is_common, kind_is_common, nan_is_common, none_begin, object_is_common, path_begins, set_interval_is_common, set_timeout_is_common}
use Rattle.page_writer.proofs.FormFunctions.{IsFormFunction, called}
use Rattle.page_writer.proofs.FormPlans.{IsInForm, MakesInForm}
use Rattle.rebuild_plan.specs.Moved.{first_thing}
use Rattle.page_writer.specs.Script.{clearing, statements}
use Rattle.page_writer.specs.Statements.{binder, define_expr, document_expr, function_expr, giving, maker_expr, need_exprs, path_expr, path_from, proto_expr, rebuild_expr, reference, reference_over, short_descriptor, thing_expr, value_expr, value_exprs, whole_descriptor, whole_expr}

-- the name of the list of things
abbrev pub list_name : List ℕ
list_name = codes "$$"

-- a use of a name that is not reserved, or of the list outside functions
abbrev pub is_own : Use → Bool
is_own u = not (is_reserved u.name) || (not u.crosses && bytes_eq u.name list_name)

pub record Own (us : List Use) : Type 0 where
  pub each : list_all is_own us ≡ true

-- ---- lists of uses

own_none : Own []
own_none = record { each = refl }

own_both : {us vs : List Use} → Own us → Own vs → Own (us ++ vs)
own_both {us = us} {vs = vs} h k = record { each = list_all-append is_own us vs ∙ and_from (list_all is_own us) (list_all is_own vs) h.each k.each }

unreserved_is_own : (u : Use) → is_reserved u.name ≡ false → is_own u ≡ true
unreserved_is_own u e = or_left (not (is_reserved u.name)) (not u.crosses && bytes_eq u.name list_name) (not_from_false (is_reserved u.name) e)

own_name : (x : List ℕ) → is_reserved x ≡ false → Own (read x ∷ [])
own_name x e = record { each = and_from (is_own (read x)) true (unreserved_is_own (read x) e) refl }

own_common : (x : List ℕ) → is_common x ≡ true → Own (read x ∷ [])
own_common x e = own_name x (common_is_unreserved x e)

own_more : {us : List Use} (u : Use) → is_own u ≡ true → Own us → Own (u ∷ us)
own_more {us = us} u e own = record { each = and_from (is_own u) (list_all is_own us) e own.each }

unreserved_are_own : (us : List Use) → any_use_is_reserved us ≡ false → list_all is_own us ≡ true
unreserved_are_own [] e = refl
unreserved_are_own (u ∷ us) e =
    let parts = or_parts (is_reserved u.name) (any_use_is_reserved us) e in
    and_from (is_own u) (list_all is_own us) (unreserved_is_own u parts.0) (unreserved_are_own us parts.1)

-- ---- references and values

own_thing : (n : ℕ) → Own (expr_uses (thing_expr n))
own_thing n = record { each = refl }

document_own : Own (expr_uses document_expr)
document_own = own_common (codes "document") document_is_common

path_uses : (e : tree.Expr) (xs : List (List ℕ)) → Own (expr_uses e) → Own (expr_uses (path_from e xs))
path_uses e [] own = own
path_uses e (x ∷ xs) own = path_uses (member e x) xs own

path_own : (xs : List (List ℕ)) → begins_common xs ≡ true → Own (expr_uses (path_expr xs))
path_own [] e = cc (e, none_begin)
path_own (x ∷ xs) e = path_uses (name x) xs (own_common x (begin_is_common x xs e))

over_own : (k : ℕ) (found : Option (List ℕ)) → path_of k ≡ found → Own (expr_uses (reference_over k found))
over_own k (Some path) there = path_own (names_of path) (path_begins k path there)
over_own k None there = by (nat_eq k document.0)
  where
    by : (b : Bool) → Own (expr_uses (if b then document_expr else thing_expr (k - first_thing)))
    by true = document_own
    by false = own_thing (k - first_thing)

reference_own : (at : ObjId) → Own (expr_uses (reference at))
reference_own at = over_own at.0 (path_of at.0) refl

whole_own : (n : Option ℤ) → Own (expr_uses (whole_expr n))
whole_own None = own_common (codes "NaN") nan_is_common
whole_own (Some (pos n)) = own_none
whole_own (Some (negsuc n)) = own_none

value_own : (v : Value) → Own (expr_uses (value_expr v))
value_own value.Undefined = own_none
value_own value.Null = own_none
value_own (value.Bool b) = own_none
value_own (value.Num n) = whole_own n
value_own (value.Text x) = own_none
value_own (value.Object at) = reference_own at

values_own : (vs : List Value) → Own (exprs_uses (value_exprs vs))
values_own [] = own_none
values_own (v ∷ vs) = own_both (value_own v) (values_own vs)

proto_own : (proto : Option ObjId) → Own (expr_uses (proto_expr proto))
proto_own None = own_none
proto_own (Some at) = reference_own at

needs_own : (ns : List (List ℕ × Value)) → Own (exprs_uses (need_exprs ns))
needs_own [] = own_none
needs_own (n ∷ ns) = own_both (value_own n.1) (needs_own ns)

-- ---- functions

-- what is left where no name is bound
left_all : (us : List Use) → any_use_is_reserved (leaving_function [] us) ≡ any_use_is_reserved us
left_all [] = refl
left_all (u ∷ us) = ap (λ b. is_reserved u.name || b) (left_all us)

-- the uses that the call of the function leaves
abbrev call_uses : tree.Code → List (List ℕ × Value) → List Use
call_uses c needs = leaving_function (maybe_name None ++ bound_names (binder c needs)) (stmts_uses (giving c))

-- a script in form uses no reserved name that nothing binds
none_open : (script : tree.Stmts) → in_form script ≡ true → any_use_is_reserved (stmts_uses script) ≡ false
none_open script e =
    let parts = and_parts (not (has_open_reserved script) && not (has_inner_declaration script)) (not (stmts_any scope_out_of_form script)) e in
    let closed = not-true (has_open_reserved script) (and_parts (not (has_open_reserved script)) (not (has_inner_declaration script)) parts.0).0 in
    (or_parts (any_use_is_reserved (stmts_uses script)) (list_any is_reserved (declared_names script)) closed).0

call_is_unreserved : (c : tree.Code) (needs : List (List ℕ × Value)) → IsFormFunction c needs → any_use_is_reserved (call_uses c needs) ≡ false
call_is_unreserved c needs f =
    let us : List Use = call_uses c needs in
    let same : (us ++ []) ++ [] ≡ us = append-nil (us ++ []) ∙ append-nil us in
    sym (ap any_use_is_reserved same) ∙ none_open (called c needs) f.formed

function_own : (c : tree.Code) (ns : List (List ℕ × Value)) → IsFormFunction c ns → Own (expr_uses (function_expr c ns))
function_own c [] f =
    let us : List Use = expr_uses (func c) in
    let left : any_use_is_reserved (us ++ []) ≡ false = sym (left_all (us ++ [])) ∙ call_is_unreserved c [] f in
    record { each = unreserved_are_own us (sym (ap any_use_is_reserved (append-nil us)) ∙ left) }
function_own c (n ∷ ns) f =
    let calls : Own (call_uses c (n ∷ ns)) = record { each = unreserved_are_own (call_uses c (n ∷ ns)) (call_is_unreserved c (n ∷ ns) f) } in
    own_both calls (needs_own (n ∷ ns))

-- ---- statements

-- a use of the document before others, and one of the function of the global object
document_then : {us : List Use} → Own us → Own (read (codes "document") ∷ us)
document_then own =
    own_more (read (codes "document")) (unreserved_is_own (read (codes "document")) (common_is_unreserved (codes "document") document_is_common)) own

global_then : (x : List ℕ) {us : List Use} → is_common x ≡ true → Own us → Own (read x ∷ us)
global_then x common own = own_more (read x) (unreserved_is_own (read x) (common_is_unreserved x common)) own

object_then : {us : List Use} → Own us → Own (read (codes "Object") ∷ us)
object_then own =
    own_more (read (codes "Object")) (unreserved_is_own (read (codes "Object")) (common_is_unreserved (codes "Object") object_is_common)) own

maker_own : (m : Maker) → MakesInForm m → Own (expr_uses (maker_expr m))
maker_own (made.Plain proto) h = object_then (own_both (proto_own proto) own_none)
maker_own made.List h = own_none
maker_own (made.Fault kind) h = own_common (kind_name kind) (kind_is_common kind)
maker_own (made.Func c needs) h = function_own c needs h
maker_own (made.Bind target this args) h = own_both (reference_own target) (own_both (value_own this) (values_own args))
maker_own (made.Element x) h = document_own
maker_own (made.Text x) h = document_own
maker_own (made.Comment x) h = document_own
maker_own made.Event h = document_own

whole_descriptor_own : (p : Prop) → Own (expr_uses (whole_descriptor p))
whole_descriptor_own p = own_both (value_own p.value) own_none

short_own : (v : Value) (writable : Bool) → Own (expr_uses (short_descriptor v writable))
short_own v writable = own_both (value_own v) own_none

define_own : (at : ObjId) (x : List ℕ) (descriptor : tree.Expr) → Own (expr_uses descriptor) → Own (expr_uses (define_expr at x descriptor))
define_own at x descriptor own = object_then (own_both (reference_own at) (own_both own own_none))

rebuild_own : (r : Rebuild) → IsInForm r → Own (expr_uses (rebuild_expr r))
rebuild_own (Make number maker) h = own_more (read list_name) refl (maker_own maker h)
rebuild_own (Append parent child) h = own_both (reference_own parent) (own_both (reference_own child) own_none)
rebuild_own (Attribute node x v) h = own_both (reference_own node) own_none
rebuild_own (SetValue node x) h = own_both (reference_own node) own_none
rebuild_own (Init at kind bubbles cancelable) h = own_both (reference_own at) own_none
rebuild_own (Dispatch target at) h = own_both (reference_own target) (own_both (reference_own at) own_none)
rebuild_own (Listen node kind f capture) h = own_both (reference_own node) (own_both (reference_own f) own_none)
rebuild_own (Define at x p) h = define_own at x (whole_descriptor p) (whole_descriptor_own p)
rebuild_own (DefinePrototype at v writable) h = define_own at (codes "prototype") (short_descriptor v writable) (short_own v writable)
rebuild_own (DefineLength at v writable) h = define_own at (codes "length") (short_descriptor v writable) (short_own v writable)
rebuild_own Filler h = global_then (codes "setTimeout") set_timeout_is_common (object_then own_none)
rebuild_own (Clear id) h = own_common (codes "clearTimeout") clear_timeout_is_common
rebuild_own (Timeout f rest) h = global_then (codes "setTimeout") set_timeout_is_common (own_both (reference_own f) own_none)
rebuild_own (Interval f rest period) h = global_then (codes "setIntervalFrom") set_interval_is_common (own_both (reference_own f) own_none)
rebuild_own (Prevent at) h = object_then (own_both (reference_own at) own_none)

statements_own : (rs : List Rebuild) → All IsInForm rs → Own (stmts_uses (statements rs))
statements_own [] all = own_none
statements_own (r ∷ rs) all = own_both (rebuild_own r (All-head IsInForm r rs all)) (statements_own rs (All-tail IsInForm r rs all))

-- with the statement before them that takes the nodes out
pub body_own : (rs : List Rebuild) → All IsInForm rs → Own (stmts_uses (then_stmt clearing (statements rs)))
body_own rs all = document_then (document_then (statements_own rs all))

-- ---- what the catch clause that binds the list leaves

other_is_unreserved : (u : Use) → is_own u ≡ true → bytes_eq u.name list_name ≡ false → is_reserved u.name ≡ false
other_is_unreserved u e other = by (is_reserved u.name) refl u.crosses refl
  where
    by : (r : Bool) → is_reserved u.name ≡ r → (c : Bool) → u.crosses ≡ c → is_reserved u.name ≡ false
    by false is c h = is
    by true is true h = cc (rw (is, h) at e)
    by true is false h = cc (rw (is, h, other) at e)

pub clause_leaves : (us : List Use) → list_all is_own us ≡ true → any_use_is_reserved (leaving_clause list_name us) ≡ false
clause_leaves [] all = refl
clause_leaves (u ∷ us) all = by (bytes_eq u.name list_name) refl (clause_leaves us parts.1)
  where
    parts : (is_own u ≡ true) × (list_all is_own us ≡ true)
    parts = and_parts (is_own u) (list_all is_own us) all

    by : (b : Bool) → bytes_eq u.name list_name ≡ b → any_use_is_reserved (leaving_clause list_name us) ≡ false
        → any_use_is_reserved (if b then leaving_clause list_name us else (u ∷ leaving_clause list_name us)) ≡ false
    by true is later = later
    by false is later = or_from (is_reserved u.name) (any_use_is_reserved (leaving_clause list_name us)) (other_is_unreserved u parts.0 is) later

-- a use by a function inside is none of the list
own_is_not_captured : (u : Use) → is_own u ≡ true → (u.crosses && bytes_eq u.name list_name) ≡ false
own_is_not_captured u e = by u.crosses refl (bytes_eq u.name list_name) refl
  where
    by : (c : Bool) → u.crosses ≡ c → (b : Bool) → bytes_eq u.name list_name ≡ b → (c && b) ≡ false
    by false h b is = refl
    by true h false is = refl
    by true h true is =
        let same : u.name ≡ list_name = (bytes_eq-Decides u.name list_name).0 is in
        let reserved : is_reserved u.name ≡ true = ap is_reserved same in
        cc (rw (reserved, h) at e)

pub list_is_not_captured : (us : List Use) → list_all is_own us ≡ true → is_captured list_name us ≡ false
list_is_not_captured [] all = refl
list_is_not_captured (u ∷ us) all =
    let parts = and_parts (is_own u) (list_all is_own us) all in
    or_from (u.crosses && bytes_eq u.name list_name) (is_captured list_name us) (own_is_not_captured u parts.0) (list_is_not_captured us parts.1)
