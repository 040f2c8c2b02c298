-- How deep parts may nest inside something else.
use Rattle.std.specs.Prelude.{ℕ, ◌-◌}
use Rattle.expression_parser.specs.declared.nesting.Nesting.{Nesting}

-- one deeper
abbrev pub inside_of : Nesting → Nesting
inside_of depth = record { room = depth.room - 1; all = depth.all - 1 }

-- in so many groups with which an expression begins
abbrev pub in_groups : Nesting → ℕ → Nesting
in_groups depth n = record { room = depth.room; all = depth.all - n }
