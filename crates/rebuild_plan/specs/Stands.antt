-- That the statements of a plan name only what already stands, and the law of it.
use Rattle.std.specs.Prelude.{ℕ, ◌+◌, Bool, true, ◌&&◌, nat_eq, List, [], ◌∷◌, ◌++◌, IsTrue}
use Rattle.heap_walker.specs.Still.{Still}
use Rattle.heap_walker.specs.Things.{IsWalk, needs_links}
use Rattle.object_shapes.specs.Links.{all_below, proto_links, value_links, values_links}
use Rattle.page_meaning.specs.Store.{Store}
use Rattle.rebuild_plan.specs.Compact.{compact, first_thing}
use Rattle.rebuild_plan.specs.Plan.{plan}
use Rattle.rebuild_plan.specs.declared.statement.Maker.{Maker}
use Rattle.rebuild_plan.specs.declared.statement.Maker.TheVariants.{Plain, Func, Bind}
use Rattle.rebuild_plan.specs.declared.statement.Rebuild.{Rebuild}
use Rattle.rebuild_plan.specs.declared.statement.Rebuild.TheVariants.{Make, Append, Attribute, SetValue, Init, Dispatch, Listen, Define, DefinePrototype, DefineLength, Filler, Clear, Timeout, Interval, Prevent}

-- the places that are named to make a thing
abbrev pub maker_names : Maker → List ℕ
maker_names (Plain proto) = proto_links proto
maker_names (Func c needs) = needs_links needs
maker_names (Bind target this args) = target.0 ∷ (value_links this ++ values_links args)
maker_names m = []

-- the places that any other statement names
abbrev pub statement_names : Rebuild → List ℕ
statement_names (Make number m) = maker_names m
statement_names (Append parent child) = parent.0 ∷ child.0 ∷ []
statement_names (Attribute node x v) = node.0 ∷ []
statement_names (SetValue node text) = node.0 ∷ []
statement_names (Init event kind bubbles cancelable) = event.0 ∷ []
statement_names (Dispatch target event) = target.0 ∷ event.0 ∷ []
statement_names (Listen node kind call capture) = node.0 ∷ call.0 ∷ []
statement_names (Define at x p) = at.0 ∷ value_links p.value
statement_names (DefinePrototype at v writable) = at.0 ∷ value_links v
statement_names (DefineLength at v writable) = at.0 ∷ value_links v
statement_names Filler = []
statement_names (Clear id) = []
statement_names (Timeout call rest) = call.0 ∷ []
statement_names (Interval call rest period) = call.0 ∷ []
statement_names (Prevent at) = at.0 ∷ []

-- what is made next has the next number
abbrev pub is_next : ℕ → Rebuild → Bool
is_next n (Make number m) = nat_eq number n
is_next n r = true

abbrev pub made_by : Rebuild → ℕ
made_by (Make number m) = 1
made_by r = 0

-- built-in objects, the document and so many things stand: what is made next has that number, and each statement names only what stands
abbrev pub standing : ℕ → List Rebuild → Bool
standing n [] = true
standing n (r ∷ rs) = (is_next n r && all_below (first_thing + n) (statement_names r)) && standing (made_by r + n) rs

-- so is the plan of each page at rest
abbrev pub PlansStand : Type 0
PlansStand = (s : Store) (things : List ℕ) → Still s → IsWalk s things → IsTrue (standing 0 (plan (compact s things)))
