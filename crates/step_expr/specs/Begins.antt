-- What begins with its first part.
use Rattle.std.specs.Prelude.{Bool, true, false}
use Rattle.step_parts.specs.declared.family.Family.{Family}
use Rattle.step_parts.specs.declared.family.Family.TheVariants.{Plain, Sequence, Operator, Property, Change, Call, Named, Statement}

abbrev pub begins_first : Family → Bool
begins_first Plain = false
begins_first Sequence = false
begins_first Operator = true
begins_first Property = true
begins_first Change = true
begins_first Call = true
begins_first Named = false
begins_first Statement = false
