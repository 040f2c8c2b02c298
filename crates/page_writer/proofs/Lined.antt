-- How wide the lexemes of a statement are, by what it holds.
use Rattle.std.proofs.Common.{◌≡◌, refl, ap, ℕ, pos, ◌+◌, ◌*◌, ◌<◌, ◌≤◌, Bool, true, false, List, [], ◌∷◌, ◌++◌, length, codes, Option, Some, None, arith}
use Rattle.object_shapes.specs.Links.{proto_links}
use Rattle.heap_walker.specs.Weight.{Load, arguments_load, code_load, load, needs_load, text_load, together, value_load, value_units}
use Rattle.js_core.specs.Tree as tree
use Rattle.js_core.specs.Tree.{bool, expr, literal, no_fields, text, then_field}
use Rattle.js_core.specs.declared.keyword.Keyword.TheVariants as keyword
use Rattle.js_core.specs.declared.token.Punct.TheVariants as punct
use Rattle.js_print.specs.Lexemes.{boolean_lexeme, code_lexemes, expr_lexemes, fields_lexemes, more_names, more_parts_lexemes, names, parts_lexemes, stmt_lexemes, stmts_lexemes}
use Rattle.js_print.specs.Places.{braced, parenthesised, placed}
use Rattle.js_print.specs.Printing.{code_text}
use Rattle.js_print.specs.declared.lexeme.Lexeme.{Lexeme}
use Rattle.js_print.specs.declared.lexeme.Lexeme.TheVariants.{Keyword, Name, Number, Punct, Text}
use Rattle.js_print.specs.declared.place.Place.TheVariants.{Base, Part}
use Rattle.js_values.specs.declared.ids.ObjId.{ObjId}
use Rattle.js_values.specs.declared.throw.ErrorKind.{ErrorKind}
use Rattle.js_values.specs.declared.throw.ErrorKind.TheVariants as kind
use Rattle.js_values.specs.declared.value.Value.{Value}
use Rattle.object_heap.specs.declared.property.Prop.{Prop}
use Rattle.rebuild_plan.specs.declared.statement.Maker.{Maker}
use Rattle.rebuild_plan.specs.declared.statement.Maker.TheVariants as made
use Rattle.rebuild_plan.specs.declared.statement.Rebuild.TheVariants.{Make, Append, Attribute, SetValue, Init, Dispatch, Listen, Filler, Clear, Timeout, Interval, Prevent}
use Rattle.page_writer.specs.Literals.{need_values}
use Rattle.page_writer.specs.HostStatements.{method, one, three, two}
use Rattle.page_writer.specs.Statements.{binder, define_expr, giving, maker_expr, need_exprs, need_names, proto_expr, reference, statement, thing_expr, value_and_writable, value_expr, value_exprs}
use Rattle.page_writer.proofs.Fitness.{AllFit, AreLow, Fits, MakerFits, low_first}
use Rattle.page_writer.proofs.Spelled.{part_of, reference_narrow, thing_narrow, value_wide}
use Rattle.page_writer.proofs.Trees.{reference_base, reference_part}
use Rattle.page_writer.proofs.Widths.{braced_wide, code_wide, count_wide, mark_wide, name_wide, nothing_wide, parenthesised_wide, text_wide, wide, wide_append, wide_between}

-- the most bytes that what weighs so much takes
abbrev pub bytes : Load → ℕ
bytes l = 160 * l.things + l.text

-- ---- arguments and needed variables

comma_wide : wide (Punct punct.Comma ∷ []) ≡ 1
comma_wide = mark_wide punct.Comma refl

pub values_wide : (vs : List Value) → AllFit vs
    → wide (more_parts_lexemes (value_exprs vs)) ≤ bytes (arguments_load vs)
values_wide [] fit = omega (arith, nothing_wide)
values_wide (v ∷ vs) fit =
    let more : List Lexeme = more_parts_lexemes (value_exprs vs) in
    omega (
      arith,
      wide_between (Punct punct.Comma ∷ []) (part_of v) more,
      comma_wide,
      value_wide v fit.0,
      values_wide vs fit.1,
    )

-- the names and the values of needed variables
pub needs_wide : (ns : List (List ℕ × Value)) → AllFit (need_values ns)
    → wide (more_names (need_names ns)) + wide (more_parts_lexemes (need_exprs ns))
    ≤ bytes (needs_load ns)
needs_wide [] fit = omega (arith, nothing_wide)
needs_wide (n ∷ ns) fit =
    let names : List Lexeme = more_names (need_names ns) in
    let more : List Lexeme = more_parts_lexemes (need_exprs ns) in
    omega (
      arith,
      wide_between (Punct punct.Comma ∷ []) (Name n.0 ∷ []) names,
      wide_between (Punct punct.Comma ∷ []) (part_of n.1) more,
      comma_wide,
      name_wide n.0,
      value_wide n.1 fit.0,
      needs_wide ns fit.1,
    )

-- ---- makers

-- what a maker weighs
abbrev pub maker_load : Maker → Load
maker_load (made.Func c needs) = together (code_load c) (needs_load needs)
maker_load (made.Bind target this args) = together (value_load this) (arguments_load args)
maker_load (made.Element x) = text_load x
maker_load (made.Text x) = text_load x
maker_load (made.Comment x) = text_load x
maker_load m = load 0 0

-- the lexemes of what makes a thing, after `=`
abbrev pub made_part : Maker → List Lexeme
made_part m = placed Part (maker_expr m) (expr_lexemes (maker_expr m))

return_wide : (wide (Keyword keyword.Return ∷ []) ≡ 7) × (wide (Keyword keyword.Function ∷ []) ≡ 9)
unfolding wide
return_wide = (refl, refl)

giving_wide : (c : tree.Code) → wide (stmts_lexemes (giving c)) ≤ length (code_text c) + 9
giving_wide c =
    let code : List Lexeme = code_lexemes c in
    let end : List Lexeme = Punct punct.Semicolon ∷ [] in
    omega (
      arith,
      wide_append (Keyword keyword.Return ∷ (code ++ end)) [],
      wide_between (Keyword keyword.Return ∷ []) code end,
      code_wide c,
      mark_wide punct.Semicolon refl,
      nothing_wide,
      return_wide.0,
    )

binder_wide : (c : tree.Code) (ns : List (List ℕ × Value))
    → wide (code_lexemes (binder c ns)) ≤ length (code_text c) + wide (names (need_names ns)) + 22
binder_wide c ns =
    let formals : List Lexeme = names (need_names ns) in
    let body : List Lexeme = stmts_lexemes (giving c) in
    omega (
      arith,
      wide_between (Keyword keyword.Function ∷ []) (parenthesised formals) (braced body),
      parenthesised_wide formals,
      braced_wide body,
      giving_wide c,
      return_wide.1,
    )

func_wide : (c : tree.Code) (ns : List (List ℕ × Value)) → AllFit (need_values ns)
    → wide (made_part (made.Func c ns)) ≤ 105 + bytes (maker_load (made.Func c ns))
func_wide c [] fit = omega (arith, code_wide c)
func_wide c (n ∷ ns) fit =
    let more : List Lexeme = more_names (need_names ns) in
    let parts : List Lexeme = more_parts_lexemes (need_exprs ns) in
    let function : List Lexeme = code_lexemes (binder c (n ∷ ns)) in
    let given : List Lexeme = part_of n.1 ++ parts in
    omega (
      arith,
      wide_append (parenthesised function) (parenthesised given),
      parenthesised_wide function,
      parenthesised_wide given,
      binder_wide c (n ∷ ns),
      wide_append (Name n.0 ∷ []) more,
      name_wide n.0,
      wide_append (part_of n.1) parts,
      value_wide n.1 fit.0,
      needs_wide ns fit.1,
    )

-- `Object` and one of its functions
abbrev object_front : List ℕ → List Lexeme
object_front x = Name (codes "Object") ∷ Punct punct.Dot ∷ Name x ∷ []

fronts_wide : (wide (object_front (codes "create")) ≡ 14)
    × (wide (object_front (codes "defineProperty")) ≡ 22)
    × (wide (object_front (codes "preventExtensions")) ≡ 25)
unfolding wide lib.Utf8.encode
fronts_wide = (refl, refl, refl)

null_wide : wide (Keyword keyword.Null ∷ []) ≡ 5
unfolding wide
null_wide = refl

abbrev proto_part : Option ObjId → List Lexeme
proto_part proto = placed Part (proto_expr proto) (expr_lexemes (proto_expr proto))

proto_wide : (proto : Option ObjId) → AreLow (proto_links proto) → wide (proto_part proto) ≤ 40
proto_wide None low = omega (arith, null_wide)
proto_wide (Some at) low =
    omega (
      arith,
      ap wide (reference_part at),
      reference_narrow at (low_first at.0 [] low),
    )

plain_wide : (proto : Option ObjId) → AreLow (proto_links proto)
    → wide (made_part (made.Plain proto)) ≤ 105
plain_wide proto low =
    let part : List Lexeme = proto_part proto ++ [] in
    omega (
      arith,
      wide_append (object_front (codes "create")) (parenthesised part),
      fronts_wide.0,
      parenthesised_wide part,
      wide_append (proto_part proto) [],
      nothing_wide,
      proto_wide proto low,
    )

list_wide : wide (made_part made.List) ≤ 105
unfolding wide
list_wide = omega arith

fault_wide : (k : ErrorKind) → wide (made_part (made.Fault k)) ≤ 105
unfolding wide lib.Utf8.encode
fault_wide kind.Plain = omega arith
fault_wide kind.Type = omega arith
fault_wide kind.Range = omega arith
fault_wide kind.Reference = omega arith

bind_front_wide : wide (Punct punct.Dot ∷ Name (codes "bind") ∷ []) ≡ 5
unfolding wide lib.Utf8.encode
bind_front_wide = refl

bind_wide : (target : ObjId) (this : Value) (args : List Value)
    → MakerFits (made.Bind target this args)
    → wide (made_part (made.Bind target this args))
    ≤ 105 + bytes (maker_load (made.Bind target this args))
bind_wide target this args fit =
    let base : List Lexeme = placed Base (reference target) (expr_lexemes (reference target)) in
    let dotted : List Lexeme = Punct punct.Dot ∷ Name (codes "bind") ∷ [] in
    let more : List Lexeme = more_parts_lexemes (value_exprs args) in
    let given : List Lexeme = part_of this ++ more in
    omega (
      arith,
      wide_append (base ++ dotted) (parenthesised given),
      wide_append base dotted,
      bind_front_wide,
      ap wide (reference_base target),
      reference_narrow target fit.0,
      parenthesised_wide given,
      wide_append (part_of this) more,
      value_wide this fit.1.0,
      values_wide args fit.1.1,
    )

-- a call of a method of the document
abbrev created_front : List ℕ → List Lexeme
created_front word = Name (codes "document") ∷ Punct punct.Dot ∷ Name word ∷ Punct punct.LeftParenthesis ∷ []

created_fronts_wide : (wide (created_front (codes "createElement")) ≡ 24)
    × (wide (created_front (codes "createTextNode")) ≡ 25)
    × (wide (created_front (codes "createComment")) ≡ 24)
unfolding wide lib.Utf8.encode
created_fronts_wide = (refl, refl, refl)

event_wide : wide (made_part made.Event) ≤ 30
unfolding wide lib.Utf8.encode
event_wide = omega arith

created_wide : (word x : List ℕ) → wide (created_front word ++ (Text x ∷ Punct punct.RightParenthesis ∷ [])) ≤ wide (created_front word) + 6 * length x + 3
created_wide word x =
    omega (
      arith,
      wide_between (created_front word) (Text x ∷ []) (Punct punct.RightParenthesis ∷ []),
      text_wide x,
      mark_wide punct.RightParenthesis refl,
    )

-- the most bytes of what makes a thing
abbrev pub made_most : Maker → ℕ
made_most (made.Element x) = 28 + 6 * length x
made_most (made.Text x) = 28 + 6 * length x
made_most (made.Comment x) = 28 + 6 * length x
made_most made.Event = 30
made_most m = 105 + bytes (maker_load m)

pub maker_wide : (m : Maker) → MakerFits m → wide (made_part m) ≤ made_most m
maker_wide (made.Plain proto) fit = omega (arith, plain_wide proto fit)
maker_wide made.List fit = omega (arith, list_wide)
maker_wide (made.Fault k) fit = omega (arith, fault_wide k)
maker_wide (made.Func c needs) fit = func_wide c needs fit
maker_wide (made.Bind target this args) fit = bind_wide target this args fit
maker_wide (made.Element x) fit = omega (arith, created_wide (codes "createElement") x, created_fronts_wide.0)
maker_wide (made.Text x) fit = omega (arith, created_wide (codes "createTextNode") x, created_fronts_wide.1)
maker_wide (made.Comment x) fit = omega (arith, created_wide (codes "createComment") x, created_fronts_wide.2)
maker_wide made.Event fit = event_wide

-- ---- statements

pub make_wide : (n : ℕ) (m : Maker) → n < 75000 → MakerFits m
    → wide (stmt_lexemes (statement (Make n m))) ≤ 12 + made_most m
make_wide n m few fit =
    let thing : List Lexeme = expr_lexemes (thing_expr n) in
    let sign : List Lexeme = Punct punct.SimpleAssign ∷ [] in
    let end : List Lexeme = Punct punct.Semicolon ∷ [] in
    omega (
      arith,
      wide_append (thing ++ (sign ++ made_part m)) end,
      wide_between thing sign (made_part m),
      thing_narrow n few,
      maker_wide m fit,
      mark_wide punct.SimpleAssign refl,
      mark_wide punct.Semicolon refl,
    )

-- a call of a method of an object: what stands before the arguments, and the arguments
abbrev behind_dot : List ℕ → List Lexeme
behind_dot word = Punct punct.Dot ∷ Name word ∷ []

names_wide : (wide (behind_dot (codes "appendChild")) ≡ 12) × (wide (behind_dot (codes "setAttribute")) ≡ 13)
    × (wide (behind_dot (codes "value")) ≡ 6) × (wide (behind_dot (codes "initEvent")) ≡ 10)
    × (wide (behind_dot (codes "dispatchEvent")) ≡ 14) × (wide (behind_dot (codes "addEventListener")) ≡ 17)
unfolding wide lib.Utf8.encode
names_wide = (refl, refl, refl, refl, refl, refl)

abbrev base_of : ObjId → List Lexeme
base_of at = placed Base (reference at) (expr_lexemes (reference at))

abbrev reference_part_of : ObjId → List Lexeme
reference_part_of at = placed Part (reference at) (expr_lexemes (reference at))

method_wide : (at : ObjId) (word : List ℕ) (args : tree.Exprs)
    → wide (stmt_lexemes (expr (method at word args)))
    ≤ wide (expr_lexemes (reference at)) + wide (behind_dot word) + wide (parts_lexemes args) + 3
method_wide at word args =
    let given : List Lexeme = parts_lexemes args in
    let front : List Lexeme = base_of at ++ behind_dot word in
    omega (
      arith,
      wide_append (front ++ parenthesised given) (Punct punct.Semicolon ∷ []),
      wide_append front (parenthesised given),
      wide_append (base_of at) (behind_dot word),
      ap wide (reference_base at),
      parenthesised_wide given,
      mark_wide punct.Semicolon refl,
    )

one_wide : (at : ObjId) → wide (parts_lexemes (one (reference at))) ≤ wide (expr_lexemes (reference at))
one_wide at = omega (arith, wide_append (reference_part_of at) [], ap wide (reference_part at), nothing_wide)

pub append_wide : (parent child : ObjId)
    → wide (stmt_lexemes (statement (Append parent child)))
    ≤ wide (expr_lexemes (reference parent)) + wide (expr_lexemes (reference child)) + 15
append_wide parent child =
    omega (
      arith,
      method_wide parent (codes "appendChild") (one (reference child)),
      one_wide child,
      names_wide.0,
    )

pub attribute_wide : (node : ObjId) (x v : List ℕ)
    → wide (stmt_lexemes (statement (Attribute node x v)))
    ≤ wide (expr_lexemes (reference node)) + 21 + 6 * (length x + length v)
attribute_wide node x v =
    omega (
      arith,
      method_wide node (codes "setAttribute") (two (text x) (text v)),
      names_wide.1,
      wide_between (Text x ∷ []) (Punct punct.Comma ∷ []) (Text v ∷ []),
      text_wide x,
      text_wide v,
      comma_wide,
    )

pub set_wide : (node : ObjId) (x : List ℕ)
    → wide (stmt_lexemes (statement (SetValue node x))) ≤ wide (expr_lexemes (reference node)) + 10 + 6 * length x
set_wide node x =
    let target : List Lexeme = base_of node ++ behind_dot (codes "value") in
    let sign : List Lexeme = Punct punct.SimpleAssign ∷ [] in
    omega (
      arith,
      wide_append (target ++ (sign ++ Text x ∷ [])) (Punct punct.Semicolon ∷ []),
      wide_between target sign (Text x ∷ []),
      wide_append (base_of node) (behind_dot (codes "value")),
      names_wide.2,
      ap wide (reference_base node),
      text_wide x,
      mark_wide punct.SimpleAssign refl,
      mark_wide punct.Semicolon refl,
    )

truths_wide : (b c : Bool)
    → wide (Punct punct.Comma ∷ boolean_lexeme b ∷ Punct punct.Comma ∷ boolean_lexeme c ∷ []) ≤ 12
unfolding wide
truths_wide true true = omega arith
truths_wide true false = omega arith
truths_wide false true = omega arith
truths_wide false false = omega arith

truth_wide : (b : Bool) → wide (Punct punct.Comma ∷ boolean_lexeme b ∷ []) ≤ 6
unfolding wide
truth_wide true = omega arith
truth_wide false = omega arith

pub init_wide : (at : ObjId) (kind : List ℕ) (bubbles cancelable : Bool)
    → wide (stmt_lexemes (statement (Init at kind bubbles cancelable)))
    ≤ wide (expr_lexemes (reference at)) + 27 + 6 * length kind
init_wide at kind bubbles cancelable =
    let truths : List Lexeme = Punct punct.Comma ∷ boolean_lexeme bubbles ∷ Punct punct.Comma ∷ boolean_lexeme cancelable ∷ [] in
    omega (
      arith,
      method_wide at (codes "initEvent") (three (text kind) (bool bubbles) (bool cancelable)),
      names_wide.3,
      wide_append (Text kind ∷ []) truths,
      text_wide kind,
      truths_wide bubbles cancelable,
    )

pub dispatch_wide : (target at : ObjId)
    → wide (stmt_lexemes (statement (Dispatch target at)))
    ≤ wide (expr_lexemes (reference target)) + wide (expr_lexemes (reference at)) + 17
dispatch_wide target at =
    omega (
      arith,
      method_wide target (codes "dispatchEvent") (one (reference at)),
      one_wide at,
      names_wide.4,
    )

pub listen_wide : (node : ObjId) (kind : List ℕ) (f : ObjId) (capture : Bool)
    → wide (stmt_lexemes (statement (Listen node kind f capture)))
    ≤ wide (expr_lexemes (reference node)) + wide (expr_lexemes (reference f)) + 29 + 6 * length kind
listen_wide node kind f capture =
    let comma : List Lexeme = Punct punct.Comma ∷ [] in
    let last : List Lexeme = Punct punct.Comma ∷ boolean_lexeme capture ∷ [] in
    omega (
      arith,
      method_wide node (codes "addEventListener") (three (text kind) (reference f) (bool capture)),
      names_wide.5,
      wide_between (Text kind ∷ []) comma (reference_part_of f ++ last),
      wide_append (reference_part_of f) last,
      ap wide (reference_part f),
      text_wide kind,
      comma_wide,
      truth_wide capture,
    )

-- ---- timers

-- a call of a function of the global object
abbrev called_front : List ℕ → List Lexeme
called_front word = Name word ∷ Punct punct.LeftParenthesis ∷ []

called_wide : (wide (called_front (codes "setTimeout")) ≡ 12) × (wide (called_front (codes "clearTimeout")) ≡ 14)
    × (wide (called_front (codes "setIntervalFrom")) ≡ 17)
unfolding wide lib.Utf8.encode
called_wide = (refl, refl, refl)

closed_wide : wide (Punct punct.RightParenthesis ∷ Punct punct.Semicolon ∷ []) ≡ 2
unfolding wide
closed_wide = refl

abbrev filler_front : List Lexeme
filler_front = Name (codes "setTimeout") ∷ Punct punct.LeftParenthesis ∷ Name (codes "Object") ∷ Punct punct.Comma ∷ []

filler_front_wide : wide filler_front ≡ 19
unfolding wide lib.Utf8.encode
filler_front_wide = refl

pub filler_wide : wide (stmt_lexemes (statement Filler)) ≤ 30
filler_wide =
    omega (
      arith,
      wide_between filler_front (Number (Some (pos 0)) ∷ []) (Punct punct.RightParenthesis ∷ Punct punct.Semicolon ∷ []),
      filler_front_wide,
      count_wide 0 (omega arith),
      closed_wide,
    )

-- how wide a number is
abbrev pub counted : ℕ → ℕ
counted n = wide (Number (Some (pos n)) ∷ [])

pub clear_wide : (id : ℕ) → wide (stmt_lexemes (statement (Clear id))) ≤ 16 + counted id
clear_wide id =
    omega (
      arith,
      wide_between (called_front (codes "clearTimeout")) (Number (Some (pos id)) ∷ []) (Punct punct.RightParenthesis ∷ Punct punct.Semicolon ∷ []),
      called_wide.1,
      closed_wide,
    )

pub timeout_wide : (f : ObjId) (rest : ℕ)
    → wide (stmt_lexemes (statement (Timeout f rest))) ≤ wide (expr_lexemes (reference f)) + 15 + counted rest
timeout_wide f rest =
    let front : List Lexeme = called_front (codes "setTimeout") in
    let comma : List Lexeme = Punct punct.Comma ∷ [] in
    let number : List Lexeme = Number (Some (pos rest)) ∷ [] in
    let given : List Lexeme = reference_part_of f ++ (comma ++ number) in
    let after : List Lexeme = given ++ Punct punct.RightParenthesis ∷ [] in
    omega (
      arith,
      wide_append (front ++ after) (Punct punct.Semicolon ∷ []),
      wide_append front after,
      wide_append given (Punct punct.RightParenthesis ∷ []),
      wide_between (reference_part_of f) comma number,
      called_wide.0,
      ap wide (reference_part f),
      comma_wide,
      mark_wide punct.RightParenthesis refl,
      mark_wide punct.Semicolon refl,
    )

pub interval_wide : (f : ObjId) (rest period : ℕ)
    → wide (stmt_lexemes (statement (Interval f rest period))) ≤ wide (expr_lexemes (reference f)) + 21 + counted rest + counted period
interval_wide f rest period =
    let front : List Lexeme = called_front (codes "setIntervalFrom") in
    let comma : List Lexeme = Punct punct.Comma ∷ [] in
    let number : List Lexeme = Number (Some (pos rest)) ∷ [] in
    let last : List Lexeme = Number (Some (pos period)) ∷ [] in
    let numbers : List Lexeme = number ++ (comma ++ last) in
    let given : List Lexeme = reference_part_of f ++ (comma ++ numbers) in
    let after : List Lexeme = given ++ Punct punct.RightParenthesis ∷ [] in
    omega (
      arith,
      wide_append (front ++ after) (Punct punct.Semicolon ∷ []),
      wide_append front after,
      wide_append given (Punct punct.RightParenthesis ∷ []),
      wide_between (reference_part_of f) comma numbers,
      wide_between number comma last,
      called_wide.2,
      ap wide (reference_part f),
      comma_wide,
      mark_wide punct.RightParenthesis refl,
      mark_wide punct.Semicolon refl,
    )

pub prevent_wide : (at : ObjId)
    → wide (stmt_lexemes (statement (Prevent at))) ≤ 29 + wide (expr_lexemes (reference at))
prevent_wide at =
    let front : List Lexeme = object_front (codes "preventExtensions") in
    let end : List Lexeme = Punct punct.Semicolon ∷ [] in
    let part : List Lexeme = placed Part (reference at) (expr_lexemes (reference at)) in
    omega (
      arith,
      wide_append (front ++ parenthesised (part ++ [])) end,
      wide_append front (parenthesised (part ++ [])),
      fronts_wide.2,
      parenthesised_wide (part ++ []),
      wide_append part [],
      nothing_wide,
      ap wide (reference_part at),
      mark_wide punct.Semicolon refl,
    )

-- an attribute of a property after others
abbrev attribute : List ℕ → Bool → List Lexeme
attribute x b = Punct punct.Comma ∷ Text x ∷ Punct punct.Colon ∷ boolean_lexeme b ∷ []

attributes_wide : (b : Bool)
    → (wide (attribute (codes "writable") b) ≤ 18) × (wide (attribute (codes "enumerable") b) ≤ 20)
    × (wide (attribute (codes "configurable") b) ≤ 22)
unfolding wide
attributes_wide true = (omega arith, omega arith, omega arith)
attributes_wide false = (omega arith, omega arith, omega arith)

abbrev value_front : List Lexeme
value_front = Text (codes "value") ∷ Punct punct.Colon ∷ []

value_front_wide : wide value_front ≡ 8
unfolding wide
value_front_wide = refl

-- the parts of a descriptor
abbrev pub short_fields : Value → Bool → tree.Fields
short_fields v writable = value_and_writable (value_expr v) writable no_fields

abbrev pub whole_fields : Prop → tree.Fields
whole_fields p =
    value_and_writable (value_expr p.value) p.writable
    (then_field (codes "enumerable") (bool p.enumerable)
    (then_field (codes "configurable") (bool p.configurable) no_fields))

pub short_fields_wide : (v : Value) (writable : Bool) → Fits v
    → wide (fields_lexemes (short_fields v writable)) ≤ 108 + 6 * value_units v
short_fields_wide v writable fits =
    omega (
      arith,
      wide_between value_front (part_of v) (attribute (codes "writable") writable),
      value_front_wide,
      value_wide v fits,
      (attributes_wide writable).0,
    )

pub whole_fields_wide : (p : Prop) → Fits p.value
    → wide (fields_lexemes (whole_fields p)) ≤ 108 + 6 * value_units p.value
whole_fields_wide p fits =
    let first : List Lexeme = attribute (codes "writable") p.writable in
    let second : List Lexeme = attribute (codes "enumerable") p.enumerable in
    let third : List Lexeme = attribute (codes "configurable") p.configurable in
    omega (
      arith,
      wide_between value_front (part_of p.value) (first ++ (second ++ third)),
      wide_between first second third,
      value_front_wide,
      value_wide p.value fits,
      (attributes_wide p.writable).0,
      (attributes_wide p.enumerable).1,
      (attributes_wide p.configurable).2,
    )

pub define_wide : (at : ObjId) (x : List ℕ) (fs : tree.Fields)
    → wide (stmt_lexemes (expr (define_expr at x (literal fs))))
    ≤ 32 + wide (expr_lexemes (reference at)) + 6 * length x + wide (fields_lexemes fs)
define_wide at x fs =
    let front : List Lexeme = object_front (codes "defineProperty") in
    let end : List Lexeme = Punct punct.Semicolon ∷ [] in
    let comma : List Lexeme = Punct punct.Comma ∷ [] in
    let part : List Lexeme = placed Part (reference at) (expr_lexemes (reference at)) in
    let fields : List Lexeme = braced (fields_lexemes fs) in
    let named : List Lexeme = comma ++ (Text x ∷ comma) in
    let given : List Lexeme = part ++ (named ++ (fields ++ [])) in
    omega (
      arith,
      wide_append (front ++ parenthesised given) end,
      wide_append front (parenthesised given),
      fronts_wide.1,
      parenthesised_wide given,
      wide_between part named (fields ++ []),
      wide_append fields [],
      wide_between comma (Text x ∷ []) comma,
      text_wide x,
      comma_wide,
      braced_wide (fields_lexemes fs),
      nothing_wide,
      ap wide (reference_part at),
      mark_wide punct.Semicolon refl,
    )
