use Rattle.std.proofs.Common.{◌≡◌, length, map}
use Rattle.code_table.specs.Table.{declared_as}
use Rattle.page_meaning.specs.Functions as spec
use Rattle.page_state.specs.Entry.{AreSeen}
use Rattle.page_state.proofs.entry.add_functions.Given as goal

abbrev pub invariant-loop-rest : goal.invariant-loop-rest
invariant-loop-rest l = record {
  seen : AreSeen l.seen.keys l.names.items;
  names : spec.with_names l.names.items (spec.function_names (map declared_as l.rest)) ≡ spec.with_names l.initial.names.items (spec.function_names (map declared_as l.functions));
}

abbrev pub decreases-loop-rest : goal.decreases-loop-rest
decreases-loop-rest l = length l.rest
