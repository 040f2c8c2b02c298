-- Which statements can be written, and the law that they are trees that tokens have.
use Rattle.std.specs.Prelude.{ℕ, ℤ, ◌+◌, ◌-◌, ◌≤◌, Bool, true, ◌&&◌, IsTrue, List, Option, Some, None, nat_le}
use Rattle.std.specs.List.{list_all}
use Rattle.js_core.specs.Height.{code_height, stmts_height}
use Rattle.js_core.specs.Tree.{func, no_stmts, then_stmt}
use Rattle.js_core.specs.Whole.{is_whole, largest}
use Rattle.js_grammar.specs.Syntax.{IsExpr, IsSyntax, is_identifier}
use Rattle.js_lexer.specs.Written.{is_unit}
use Rattle.js_values.specs.declared.ids.ObjId.{ObjId}
use Rattle.js_values.specs.declared.value.Value.{Value}
use Rattle.js_values.specs.declared.value.Value.TheVariants as value
use Rattle.early_rules.specs.Limits.{form_height_limit, function_height_limit}
use Rattle.page_writer.specs.Statements.{statement}
use Rattle.rebuild_plan.specs.Compact.{first_thing}
use Rattle.rebuild_plan.specs.declared.statement.Maker.{Maker}
use Rattle.rebuild_plan.specs.declared.statement.Maker.TheVariants as made
use Rattle.rebuild_plan.specs.declared.statement.Rebuild.{Rebuild}
use Rattle.rebuild_plan.specs.declared.statement.Rebuild.TheVariants.{Make, Append, Attribute, SetValue, Init, Dispatch, Listen, Define, DefinePrototype, DefineLength, Filler, Clear, Timeout, Interval, Prevent}

-- ---- what can be written

-- it is a number of the language, as that of a thing is, `n` in `$$[n]`
abbrev pub is_thing_number : ℕ → Bool
is_thing_number n = nat_le n largest

-- so is that of the thing at the place, where no built-in object stands there
abbrev pub is_place : ObjId → Bool
is_place at = is_thing_number (at.0 - first_thing)

abbrev pub is_prototype : Option ObjId → Bool
is_prototype None = true
is_prototype (Some at) = is_place at

-- a number of the language, NaN among them
abbrev pub is_number : Option ℤ → Bool
is_number None = true
is_number (Some z) = is_whole z

abbrev pub is_writable_value : Value → Bool
is_writable_value (value.Num n) = is_number n
is_writable_value (value.Text t) = list_all is_unit t
is_writable_value (value.Object at) = is_place at
is_writable_value v = true

-- a needed variable: its name is an identifier, and its value can be written
abbrev pub is_need : List ℕ × Value → Bool
is_need n = is_identifier n.0 && is_writable_value n.1

abbrev pub IsWritableMaker : Maker → Type 0
IsWritableMaker (made.Plain proto) = IsTrue (is_prototype proto)
IsWritableMaker made.List = Unit {0}
IsWritableMaker (made.Fault kind) = Unit {0}
-- the code, as an expression, is a tree that some tokens have, and low
IsWritableMaker (made.Func c needs) =
    IsExpr (func c) × (code_height c + 1 ≤ function_height_limit) × IsTrue (list_all is_need needs)
IsWritableMaker (made.Bind target this args) =
    IsTrue (is_place target) × IsTrue (is_writable_value this) × IsTrue (list_all is_writable_value args)
IsWritableMaker (made.Element x) = IsTrue (list_all is_unit x)
IsWritableMaker (made.Text t) = IsTrue (list_all is_unit t)
IsWritableMaker (made.Comment t) = IsTrue (list_all is_unit t)
IsWritableMaker made.Event = Unit {0}

abbrev pub IsWritable : Rebuild → Type 0
IsWritable (Make number maker) = IsTrue (is_thing_number number) × IsWritableMaker maker
IsWritable (Append parent child) = IsTrue (is_place parent) × IsTrue (is_place child)
IsWritable (Attribute node x v) = IsTrue (is_place node) × IsTrue (list_all is_unit x) × IsTrue (list_all is_unit v)
IsWritable (SetValue node t) = IsTrue (is_place node) × IsTrue (list_all is_unit t)
IsWritable (Init event kind bubbles cancelable) = IsTrue (is_place event) × IsTrue (list_all is_unit kind)
IsWritable (Dispatch target event) = IsTrue (is_place target) × IsTrue (is_place event)
IsWritable (Listen node kind call capture) = IsTrue (is_place node) × IsTrue (list_all is_unit kind) × IsTrue (is_place call)
IsWritable (Define at name p) =
    IsTrue (is_place at) × IsTrue (list_all is_unit name) × IsTrue (is_writable_value p.value)
IsWritable (DefinePrototype at v writable) = IsTrue (is_place at) × IsTrue (is_writable_value v)
IsWritable (DefineLength at v writable) = IsTrue (is_place at) × IsTrue (is_writable_value v)
IsWritable Filler = Unit {0}
IsWritable (Clear id) = IsTrue (is_thing_number id)
IsWritable (Timeout call rest) = IsTrue (is_place call) × IsTrue (is_thing_number rest)
IsWritable (Interval call rest period) = IsTrue (is_place call) × IsTrue (is_thing_number rest) × IsTrue (is_thing_number period)
IsWritable (Prevent at) = IsTrue (is_place at)

-- ---- the law

-- a statement that can be written is, as a script, a tree that some tokens have, and no higher than a script of a form page may be
abbrev pub StatementsAreSyntax : Type 0
StatementsAreSyntax =
    (r : Rebuild) → IsWritable r
    → IsSyntax (then_stmt (statement r) no_stmts) × (stmts_height (then_stmt (statement r) no_stmts) ≤ form_height_limit)
