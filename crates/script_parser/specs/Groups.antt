-- Expressions that begin with groups, one directly inside another.
use Rattle.std.specs.Prelude.{ℕ, zero, suc, nat_lt, Bool, true, false, ◌&&◌}
use Rattle.js_core.specs.Tree as tree
use Rattle.js_grammar.specs.declared.operators.Level.{Level}
use Rattle.js_grammar.specs.declared.operators.Level.TheVariants.{Sequence}
use Rattle.js_grammar.specs.Parser.{Outcome, and_then}
use Rattle.expression_parser.specs.declared.nesting.Nesting.{Nesting}
use Rattle.expression_parser.specs.Groups.{closing}
use Rattle.expression_parser.specs.Nestings.{inside_of, in_groups}

-- whether any part may nest
abbrev pub has_room : Nesting → Bool
has_room depth = nat_lt 0 depth.room && nat_lt 0 depth.all

-- whether groups with which an expression of this level begins are opened by a loop
abbrev pub may_open : Level → Bool → Bool
may_open Sequence inn = inn
may_open level inn = false

-- An expression, from the inside of the innermost of the groups that it begins with, and how many these are.
abbrev pub finished : Nesting → ℕ → Outcome tree.Expr → Outcome tree.Expr
finished depth zero outcome = outcome
finished depth (suc n) outcome = finished depth n (and_then outcome (closing (inside_of (in_groups depth n))))
