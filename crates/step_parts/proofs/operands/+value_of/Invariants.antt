use Rattle.step_parts.proofs.operands.+value_of.Given as goal

abbrev pub decreases-value_of : goal.decreases-value_of
decreases-value_of l = l.nesting
