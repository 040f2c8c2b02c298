-- The statements of a saved page are trees that tokens have, and low.
use Rattle.std.proofs.Common.{◌≡◌, ◌∙◌, refl, ℕ, ℤ, pos, negsuc, ◌+◌, ◌-◌, ◌≤◌, Bool, true, false, ◌&&◌, nat_eq, List, [], ◌∷◌, Option, Some, None, length, codes, arith}
use Rattle.std.specs.Prelude.{nat_le, if◌then◌else◌}
use Rattle.std.specs.List.{list_all}
use Rattle.std.proofs.lemmas.Bool.{and_from, and_parts, leb-true}
use Rattle.built_in_paths.specs.Paths.{names_of, path_of}
use Rattle.page_meaning.specs.Places.{document}
use Rattle.js_core.specs.Height.{code_height, expr_height, exprs_height}
use Rattle.js_core.specs.Tree as tree
use Rattle.js_core.specs.Tree.{name, bool, func, member, text}
use Rattle.js_grammar.specs.Syntax.{AreExprs, IsExpr, IsStmt, is_identifier}
use Rattle.js_lexer.specs.Written.{is_unit}
use Rattle.js_values.specs.declared.ids.ObjId.{ObjId}
use Rattle.js_values.specs.declared.value.Value.{Value}
use Rattle.js_values.specs.declared.value.Value.TheVariants as value
use Rattle.object_heap.specs.declared.property.Prop.{Prop}
use Rattle.rebuild_plan.specs.declared.statement.Maker.{Maker}
use Rattle.rebuild_plan.specs.declared.statement.Maker.TheVariants as made
use Rattle.rebuild_plan.specs.declared.statement.Rebuild.{Rebuild}
use Rattle.rebuild_plan.specs.declared.statement.Rebuild.TheVariants.{Make, Append, Attribute, SetValue, Init, Dispatch, Listen, Define, DefinePrototype, DefineLength, Filler, Clear, Timeout, Interval, Prevent}
use Rattle.early_rules.specs.Limits.{function_height_limit}
use Rattle.page_writer.proofs.Words.{append_is_word, are_path_names, bind_is_written, clear_timeout_is_identifier, create_comment_is_word, create_element_is_word, create_event_is_word, create_is_written, create_text_is_word, define_is_written, dispatch_is_word, document_element_is_word, document_is_identifier, init_is_word, is_free_word, is_word, kind_is_identifier, list_is_identifier, listen_is_word, nan_is_identifier, object_is_identifier, path_is_named, prevent_is_written, remove_is_word, set_attribute_is_word, set_interval_is_identifier, set_timeout_is_identifier, value_is_word, word_is_identifier, word_is_written}
use Rattle.rebuild_plan.specs.Moved.{first_thing}
use Rattle.page_writer.specs.HostStatements.{document_method, global_call, method, one, three, two}
use Rattle.page_writer.specs.Script.{clearing}
use Rattle.page_writer.specs.Statements.{define_expr, document_expr, function_expr, maker_expr, need_exprs, need_names, number_expr, path_expr, path_from, proto_expr, rebuild_expr, reference, reference_over, short_descriptor, thing_expr, unlisted, value_expr, value_exprs, whole_descriptor, whole_expr}
use Rattle.page_writer.specs.Writable.{IsWritable, IsWritableMaker, StatementsAreSyntax, is_need, is_number, is_place, is_prototype, is_thing_number, is_writable_value}

-- it is a tree that tokens have, no higher than n
abbrev pub Fits : ℕ → tree.Expr → Type 0
Fits n e = IsExpr e × (expr_height e ≤ n)

abbrev AllFit : ℕ → tree.Exprs → Type 0
AllFit n es = AreExprs es × (exprs_height es ≤ n)

-- ---- references

thing_fits : (n : ℕ) → is_thing_number n ≡ true → Fits 2 (thing_expr n)
thing_fits n e = ((list_is_identifier, e), omega arith)

path_from_is_expr : (e : tree.Expr) (xs : List (List ℕ)) → IsExpr e → list_all is_word xs ≡ true → IsExpr (path_from e xs)
path_from_is_expr e [] it words = it
path_from_is_expr e (x ∷ xs) it words =
    let parts = and_parts (is_word x) _ words in
    path_from_is_expr (member e x) xs (it, word_is_written x parts.0) parts.1

path_from_height : (e : tree.Expr) (xs : List (List ℕ)) → expr_height (path_from e xs) ≡ expr_height e + length xs
path_from_height e [] = omega arith
path_from_height e (x ∷ xs) = path_from_height (member e x) xs ∙ omega arith

path_fits : (xs : List (List ℕ)) → are_path_names xs ≡ true → Fits 3 (path_expr xs)
unfolding are_path_names
path_fits [] e = cc e
path_fits (x ∷ xs) e =
    let parts = and_parts (is_free_word x && list_all is_word xs) (nat_le (length xs) 2) e in
    let words = and_parts (is_free_word x) (list_all is_word xs) parts.0 in
    let few : length xs ≤ 2 = leb-true (length xs) 2 parts.1 in
    (path_from_is_expr (name x) xs (word_is_identifier x words.0) words.1, rw path_from_height (omega arith))

document_fits : Fits 1 document_expr
document_fits = (document_is_identifier, omega arith)

unlisted_fits : (k : ℕ) → is_thing_number (k - first_thing) ≡ true → Fits 3 (unlisted k)
unlisted_fits k e = by (nat_eq k document.0)
  where
    by : (b : Bool) → Fits 3 (if b then document_expr else thing_expr (k - first_thing))
    by true = (document_fits.0, omega arith)
    by false = let thing = thing_fits (k - first_thing) e in (thing.0, omega arith)

over_fits : (k : ℕ) (found : Option (List ℕ)) → path_of k ≡ found → is_thing_number (k - first_thing) ≡ true → Fits 3 (reference_over k found)
over_fits k (Some path) there e = path_fits (names_of path) (path_is_named k path there)
over_fits k None there e = unlisted_fits k e

reference_fits : (at : ObjId) → is_place at ≡ true → Fits 3 (reference at)
reference_fits at e = over_fits at.0 (path_of at.0) refl e

-- ---- values

number_fits : (n : Option ℤ) → is_number n ≡ true → Fits 2 (whole_expr n)
number_fits None e = (nan_is_identifier, omega arith)
number_fits (Some (pos n)) e = (e, omega arith)
number_fits (Some (negsuc n)) e = (e, omega arith)

value_fits : (v : Value) → is_writable_value v ≡ true → Fits 3 (value_expr v)
value_fits value.Undefined e = (refl, omega arith)
value_fits value.Null e = (tt, omega arith)
value_fits (value.Bool b) e = (tt, omega arith)
value_fits (value.Num n) e = let number = number_fits n e in (number.0, omega arith)
value_fits (value.Text t) e = (e, omega arith)
value_fits (value.Object at) e = reference_fits at e

values_fit : (vs : List Value) → list_all is_writable_value vs ≡ true → AllFit 3 (value_exprs vs)
values_fit [] e = (tt, omega arith)
values_fit (v ∷ vs) e =
    let parts = and_parts (is_writable_value v) _ e in
    let one = value_fits v parts.0 in
    let more = values_fit vs parts.1 in
    ((one.0, more.0), omega arith)

proto_fits : (proto : Option ObjId) → is_prototype proto ≡ true → Fits 3 (proto_expr proto)
proto_fits None e = (tt, omega arith)
proto_fits (Some at) e = reference_fits at e

-- ---- calls of methods and of functions

one_fits : (e : tree.Expr) → Fits 3 e → AllFit 3 (one e)
one_fits e h = ((h.0, tt), omega (arith, h.1))

two_fit : (e f : tree.Expr) → Fits 3 e → Fits 3 f → AllFit 3 (two e f)
two_fit e f h g = ((h.0, (g.0, tt)), omega (arith, h.1, g.1))

three_fit : (e f g : tree.Expr) → Fits 3 e → Fits 3 f → Fits 3 g → AllFit 3 (three e f g)
three_fit e f g h i j = ((h.0, (i.0, (j.0, tt))), omega (arith, h.1, i.1, j.1))

text_fits : (x : List ℕ) → list_all is_unit x ≡ true → Fits 3 (text x)
text_fits x e = (e, omega arith)

truth_fits : (b : Bool) → Fits 3 (bool b)
truth_fits b = (tt, omega arith)

count_fits : (n : ℕ) → is_thing_number n ≡ true → Fits 3 (number_expr n)
count_fits n e = (e, omega arith)

member_fits : (e : tree.Expr) (x : List ℕ) → is_word x ≡ true → Fits 3 e → Fits 4 (member e x)
member_fits e x word fits = ((fits.0, word_is_written x word), omega (arith, fits.1))

method_fits : (at : ObjId) (x : List ℕ) (args : tree.Exprs) → is_place at ≡ true → is_word x ≡ true → AllFit 3 args → Fits 5 (method at x args)
method_fits at x args place word fit =
    let callee = member_fits (reference at) x word (reference_fits at place) in
    ((callee.0, fit.0), omega (arith, callee.1, fit.1))

document_method_fits : (x : List ℕ) (args : tree.Exprs) → is_word x ≡ true → AllFit 3 args → Fits 5 (document_method x args)
document_method_fits x args word fit =
    let callee = member_fits document_expr x word (document_fits.0, omega arith) in
    ((callee.0, fit.0), omega (arith, callee.1, fit.1))

global_fits : (x : List ℕ) (args : tree.Exprs) → is_identifier x ≡ true → AllFit 3 args → Fits 5 (global_call x args)
global_fits x args it fit = ((it, fit.0), omega (arith, fit.1))

-- that takes the nodes out of the document
pub clearing_fits : IsStmt false clearing
clearing_fits =
    let element = member_fits document_expr (codes "documentElement") document_element_is_word (document_fits.0, omega arith) in
    (document_method_fits (codes "removeChild") (one (member document_expr (codes "documentElement"))) remove_is_word ((element.0, tt), omega arith)).0

-- ---- what makes a thing

created_fits : (word x : List ℕ) → is_word word ≡ true → list_all is_unit x ≡ true → Fits 403 (document_method word (one (text x)))
created_fits word x is units =
    let whole = document_method_fits word (one (text x)) is (one_fits (text x) (text_fits x units)) in
    (whole.0, omega (arith, whole.1))

names_are_identifiers : (ns : List (List ℕ × Value)) → list_all is_need ns ≡ true → list_all is_identifier (need_names ns) ≡ true
names_are_identifiers [] e = refl
names_are_identifiers (n ∷ ns) e =
    let parts = and_parts (is_need n) _ e in
    let need = and_parts (is_identifier n.0) _ parts.0 in
    and_from _ _ need.0 (names_are_identifiers ns parts.1)

needs_fit : (ns : List (List ℕ × Value)) → list_all is_need ns ≡ true → AllFit 3 (need_exprs ns)
needs_fit [] e = (tt, omega arith)
needs_fit (n ∷ ns) e =
    let parts = and_parts (is_need n) _ e in
    let need = and_parts (is_identifier n.0) _ parts.0 in
    let one = value_fits n.1 need.1 in
    let more = needs_fit ns parts.1 in
    ((one.0, more.0), omega arith)

function_fits : (c : tree.Code) (ns : List (List ℕ × Value)) → IsExpr (func c) → code_height c + 1 ≤ function_height_limit → list_all is_need ns ≡ true → Fits 403 (function_expr c ns)
function_fits c [] it low e = (it, omega arith)
function_fits c (n ∷ ns) it low e =
    let values = needs_fit (n ∷ ns) e in
    (((refl, names_are_identifiers (n ∷ ns) e, (it, tt)), values.0), omega arith)

maker_fits : (m : Maker) → IsWritableMaker m → Fits 403 (maker_expr m)
maker_fits (made.Plain proto) e =
    let one = proto_fits proto e in
    (((object_is_identifier, create_is_written), (one.0, tt)), omega arith)
maker_fits made.List e = (tt, omega arith)
maker_fits (made.Fault kind) e = ((kind_is_identifier kind, tt), omega arith)
maker_fits (made.Func c needs) e = function_fits c needs e.0 e.1 e.2
maker_fits (made.Bind target this args) e =
    let one = reference_fits target e.0 in
    let two = value_fits this e.1 in
    let more = values_fit args e.2 in
    (((one.0, bind_is_written), (two.0, more.0)), omega arith)
maker_fits (made.Element x) e = created_fits (codes "createElement") x create_element_is_word e
maker_fits (made.Text x) e = created_fits (codes "createTextNode") x create_text_is_word e
maker_fits (made.Comment x) e = created_fits (codes "createComment") x create_comment_is_word e
maker_fits made.Event e = created_fits (codes "createEvent") (codes "Event") create_event_is_word refl

-- ---- statements

whole_fits : (p : Prop) → is_writable_value p.value ≡ true → Fits 4 (whole_descriptor p)
whole_fits p e =
    let one = value_fits p.value e in
    ((refl, one.0, (refl, tt, (refl, tt, (refl, tt, tt)))), omega arith)

short_fits : (v : Value) (writable : Bool) → is_writable_value v ≡ true → Fits 4 (short_descriptor v writable)
short_fits v writable e =
    let one = value_fits v e in
    ((refl, one.0, (refl, tt, tt)), omega arith)

define_fits : (at : ObjId) (x : List ℕ) (descriptor : tree.Expr) → is_place at ≡ true → list_all is_unit x ≡ true → Fits 4 descriptor → Fits 5 (define_expr at x descriptor)
define_fits at x descriptor place units fits =
    let one = reference_fits at place in
    (((object_is_identifier, define_is_written), (one.0, (units, (fits.0, tt)))), omega arith)

higher : (r : Rebuild) → Fits 5 (rebuild_expr r) → Fits 404 (rebuild_expr r)
higher r fits = (fits.0, omega (arith, fits.1))

pub rebuild_fits : (r : Rebuild) → IsWritable r → Fits 404 (rebuild_expr r)
rebuild_fits (Make number maker) e =
    let one = thing_fits number e.0 in
    let two = maker_fits maker e.1 in
    ((refl, one.0, two.0), omega arith)
rebuild_fits (Append parent child) e =
    higher (Append parent child) (method_fits parent (codes "appendChild") (one (reference child)) e.0 append_is_word (one_fits (reference child) (reference_fits child e.1)))
rebuild_fits (Attribute node x v) e =
    higher (Attribute node x v)
    (method_fits node (codes "setAttribute") (two (text x) (text v)) e.0 set_attribute_is_word
    (two_fit (text x) (text v) (text_fits x e.1) (text_fits v e.2)))
rebuild_fits (SetValue node x) e =
    let target = member_fits (reference node) (codes "value") value_is_word (reference_fits node e.0) in
    ((refl, target.0, e.1), omega (arith, target.1))
rebuild_fits (Init at kind bubbles cancelable) e =
    higher (Init at kind bubbles cancelable)
    (method_fits at (codes "initEvent") (three (text kind) (bool bubbles) (bool cancelable)) e.0 init_is_word
    (three_fit (text kind) (bool bubbles) (bool cancelable) (text_fits kind e.1) (truth_fits bubbles) (truth_fits cancelable)))
rebuild_fits (Dispatch target at) e =
    higher (Dispatch target at)
    (method_fits target (codes "dispatchEvent") (one (reference at)) e.0 dispatch_is_word (one_fits (reference at) (reference_fits at e.1)))
rebuild_fits (Listen node kind f capture) e =
    higher (Listen node kind f capture)
    (method_fits node (codes "addEventListener") (three (text kind) (reference f) (bool capture)) e.0 listen_is_word
    (three_fit (text kind) (reference f) (bool capture) (text_fits kind e.1) (reference_fits f e.2) (truth_fits capture)))
rebuild_fits (Define at x p) e =
    let whole = define_fits at x (whole_descriptor p) e.0 e.1 (whole_fits p e.2) in
    (whole.0, omega arith)
rebuild_fits (DefinePrototype at v writable) e =
    let whole = define_fits at (codes "prototype") (short_descriptor v writable) e.0 refl (short_fits v writable e.1) in
    (whole.0, omega arith)
rebuild_fits (DefineLength at v writable) e =
    let whole = define_fits at (codes "length") (short_descriptor v writable) e.0 refl (short_fits v writable e.1) in
    (whole.0, omega arith)
rebuild_fits Filler e =
    higher Filler
    (global_fits (codes "setTimeout") (two (name (codes "Object")) (number_expr 0)) set_timeout_is_identifier
    (two_fit (name (codes "Object")) (number_expr 0) (object_is_identifier, omega arith) (count_fits 0 refl)))
rebuild_fits (Clear id) e =
    higher (Clear id) (global_fits (codes "clearTimeout") (one (number_expr id)) clear_timeout_is_identifier (one_fits (number_expr id) (count_fits id e)))
rebuild_fits (Timeout f rest) e =
    higher (Timeout f rest)
    (global_fits (codes "setTimeout") (two (reference f) (number_expr rest)) set_timeout_is_identifier
    (two_fit (reference f) (number_expr rest) (reference_fits f e.0) (count_fits rest e.1)))
rebuild_fits (Interval f rest period) e =
    higher (Interval f rest period)
    (global_fits (codes "setIntervalFrom") (three (reference f) (number_expr rest) (number_expr period)) set_interval_is_identifier
    (three_fit (reference f) (number_expr rest) (number_expr period) (reference_fits f e.0) (count_fits rest e.1) (count_fits period e.2)))
rebuild_fits (Prevent at) e =
    let one = reference_fits at e in
    (((object_is_identifier, prevent_is_written), (one.0, tt)), omega arith)

pub statements_are_syntax : StatementsAreSyntax
statements_are_syntax r e =
    let whole = rebuild_fits r e in
    ((whole.0, tt), omega arith)
