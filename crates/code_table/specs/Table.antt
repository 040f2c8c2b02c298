-- What a function's table tells of its code.
use Rattle.std.specs.Prelude.{◌≡◌, ℕ, ◌≤◌, List, [], Option, Some, None, map, length, slice_get}
use Rattle.js_core.specs.Tree as tree
use Rattle.code_table.specs.declared.code.Declared.{Declared as Held}
use Rattle.code_table.specs.declared.code.Table.{Table}
use Rattle.code_table.specs.declared.kind.Kind.{Kind}
use Rattle.code_table.specs.declared.kind.Kind.TheVariants.{Nothing}
use Rattle.code_table.specs.declared.entry.Entry.{Entry}
use Rattle.code_table.specs.Declarations.{held, functions_of, variables_of}
use Rattle.code_table.specs.Kind.{kind_of}
use Rattle.code_table.specs.Node.{node_at, and_child, part_count, body_of, stmts_parts}
use Rattle.code_table.specs.Notes.{AreNoted}
use Rattle.code_table.specs.Rows.{Row, no_number, rows_of, with_parts}

abbrev pub row_of : Entry → Row
row_of e = record { kind = e.kind; parts = e.parts.items }

abbrev pub declared_as : Held → Option (List ℕ) × tree.Code
declared_as d = (d.name, d.code)

-- the code that a table is of
abbrev pub code_of : Table → tree.Code
code_of t = held t.named t.code.value

pub record IsTable (t : Table) : Type 0 where
  pub rows : map row_of t.entries.items ≡ rows_of (code_of t)
  pub few : length t.entries.items ≤ no_number
  pub body : t.body ≡ length (with_parts [] (stmts_parts (body_of (code_of t))))
  pub variables : t.variables.items ≡ variables_of (body_of (code_of t))
  pub functions : map declared_as t.functions.items ≡ functions_of (body_of (code_of t))
  pub notes : AreNoted (code_of t) t.notes
  pub nothing : t.nothing ≡ Nothing

abbrev pub number_in : Option ℕ → ℕ
number_in None = no_number
number_in (Some j) = j

abbrev pub kind_in : Option Entry → Kind
kind_in None = Nothing
kind_in (Some e) = e.kind

abbrev pub part_in : Option Entry → ℕ → ℕ
part_in None i = no_number
part_in (Some e) i = number_in (slice_get e.parts.items i)

abbrev pub count_in : Option Entry → ℕ
count_in None = 0
count_in (Some e) = length e.parts.items

-- what is held of a number tells of its node
pub record Tells (c : tree.Code) (entry : Option Entry) (node : ℕ) : Type 0 where
  pub kind : kind_in entry ≡ kind_of (node_at c node)
  pub parts : (i : ℕ) → node_at c (part_in entry i) ≡ and_child (node_at c node) i
  pub count : count_in entry ≡ part_count (node_at c node)
