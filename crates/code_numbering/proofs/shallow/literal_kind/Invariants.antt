use Rattle.std.proofs.Common.{◌≡◌, ◌++◌, length}
use Rattle.js_core.specs.Tree.{fields_of}
use Rattle.code_table.specs.Kind.{field_names}
use Rattle.code_numbering.proofs.shallow.literal_kind.Given as goal

abbrev pub invariant-loop-rest : goal.invariant-loop-rest
invariant-loop-rest l = l.names.items ++ field_names (fields_of l.rest) ≡ field_names (fields_of l.fs)

abbrev pub decreases-loop-rest : goal.decreases-loop-rest
decreases-loop-rest l = length l.rest
