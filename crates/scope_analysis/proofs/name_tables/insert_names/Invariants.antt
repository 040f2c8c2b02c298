use Rattle.std.proofs.Common.{◌≡◌, bytes_eq, length}
use Rattle.indexmap.specs.IndexSet.{insert_all}
use Rattle.scope_analysis.proofs.name_tables.insert_names.Given as goal

abbrev pub invariant-loop-rest : goal.invariant-loop-rest
invariant-loop-rest l = insert_all bytes_eq l.set.keys l.rest ≡ insert_all bytes_eq l.initial.set.keys l.names

abbrev pub decreases-loop-rest : goal.decreases-loop-rest
decreases-loop-rest l = length l.rest
