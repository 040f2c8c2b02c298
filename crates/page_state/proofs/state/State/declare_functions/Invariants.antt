use Rattle.std.proofs.Common.{length, map}
use Rattle.code_table.specs.Table.{declared_as}
use Rattle.page_meaning.specs.Act.{nothing}
use Rattle.page_meaning.specs.Functions as spec
use Rattle.page_meaning.specs.Store.{Store}
use Rattle.page_state.specs.Does.{Does}
use Rattle.page_state.proofs.state.State.declare_functions.Given as goal

-- what the rest comes to is what all come to
abbrev pub invariant-loop-rest : goal.invariant-loop-rest
invariant-loop-rest l =
    (t : Store) → Does (λ _. spec.declare_functions l.env (map declared_as l.rest)) l.self nothing t
    → Does (λ _. spec.declare_functions l.env (map declared_as l.functions)) l.initial.self nothing t

abbrev pub decreases-loop-rest : goal.decreases-loop-rest
decreases-loop-rest l = length l.rest
