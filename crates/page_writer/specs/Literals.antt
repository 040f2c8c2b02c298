-- The numbers and texts that the statements of a saved page write.
use Rattle.std.specs.Prelude.{List, ℕ, [], ◌∷◌, ⊤}
use Rattle.std.specs.List.{All}
use Rattle.std.specs.Option.{ForSome}
use Rattle.heap_walker.specs.Things.{IsWalk}
use Rattle.js_core.specs.Text.{AllUnits}
use Rattle.js_core.specs.Whole.{InRange}
use Rattle.js_values.specs.declared.value.Value.{Value}
use Rattle.js_values.specs.declared.value.Value.TheVariants.{Num, Text}
use Rattle.page_meaning.specs.Store.{Store}
use Rattle.rebuild_plan.specs.Compact.{compact}
use Rattle.rebuild_plan.specs.Plan.{plan}
use Rattle.rebuild_plan.specs.declared.statement.Maker.{Maker}
use Rattle.rebuild_plan.specs.declared.statement.Maker.TheVariants as made
use Rattle.rebuild_plan.specs.declared.statement.Rebuild.{Rebuild}
use Rattle.rebuild_plan.specs.declared.statement.Rebuild.TheVariants.{Make, Attribute, SetValue, Init, Listen, Define, DefinePrototype, DefineLength}

-- a number is NaN or one of the language, and a text is one of 16-bit units
abbrev pub IsLiteral : Value → Type 0
IsLiteral (Num n) = ForSome n InRange
IsLiteral (Text t) = AllUnits t
IsLiteral v = ⊤

abbrev pub need_values : List (List ℕ × Value) → List Value
need_values [] = []
need_values (n ∷ ns) = n.1 ∷ need_values ns

-- the values that are written to make a thing
abbrev pub maker_values : Maker → List Value
maker_values (made.Func c needs) = need_values needs
maker_values (made.Bind target this args) = this ∷ args
maker_values (made.Element x) = Text x ∷ []
maker_values (made.Text t) = Text t ∷ []
maker_values (made.Comment t) = Text t ∷ []
maker_values m = []

-- the values that a statement writes, the names of properties and attributes and the types of events among them
abbrev pub values_of : Rebuild → List Value
values_of (Make number m) = maker_values m
values_of (Attribute node x v) = Text x ∷ Text v ∷ []
values_of (SetValue node t) = Text t ∷ []
values_of (Init event kind bubbles cancelable) = Text kind ∷ []
values_of (Listen node kind call capture) = Text kind ∷ []
values_of (Define at x p) = Text x ∷ p.value ∷ []
values_of (DefinePrototype at v writable) = v ∷ []
values_of (DefineLength at v writable) = v ∷ []
values_of r = []

abbrev pub HasLiterals : Rebuild → Type 0
HasLiterals r = All IsLiteral (values_of r)

abbrev pub HaveLiterals : List Rebuild → Type 0
HaveLiterals rs = All HasLiterals rs

-- so it is of what a page is rebuilt by
abbrev pub CanBeWritten : Store → Type 0
CanBeWritten s = (things : List ℕ) → IsWalk s things → HaveLiterals (plan (compact s things))
