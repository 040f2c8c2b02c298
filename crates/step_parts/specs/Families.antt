-- The families of kinds.
use Rattle.code_table.specs.declared.kind.Kind.{Kind}
use Rattle.code_table.specs.declared.kind.Kind.TheVariants as kind
use Rattle.step_parts.specs.declared.family.Family.{Family}
use Rattle.step_parts.specs.declared.family.Family.TheVariants.{Plain, Sequence, Operator, Property, Change, Call, Named, Statement}

abbrev pub family_of : Kind → Family
family_of kind.Nothing = Plain
family_of (kind.Name x) = Plain
family_of (kind.Num n) = Plain
family_of (kind.Text t) = Plain
family_of (kind.Bool b) = Plain
family_of kind.Null = Plain
family_of kind.This = Plain
family_of (kind.Func c) = Plain
family_of (kind.TypeofName x) = Plain
family_of (kind.UpdateName up prefix x) = Plain
family_of kind.List = Sequence
family_of (kind.Literal xs) = Sequence
family_of kind.Comma = Sequence
family_of (kind.Unary op) = Operator
family_of (kind.Binary op) = Operator
family_of kind.And = Operator
family_of kind.Or = Operator
family_of kind.Cond = Operator
family_of (kind.Member x) = Property
family_of kind.Index = Property
family_of (kind.DeleteMember x) = Property
family_of kind.DeleteIndex = Property
family_of (kind.UpdateMember up prefix x) = Change
family_of (kind.UpdateIndex up prefix) = Change
family_of (kind.AssignMember op x) = Change
family_of (kind.AssignIndex op) = Change
family_of (kind.CallMember x) = Call
family_of kind.CallIndex = Call
family_of kind.Call = Call
family_of kind.New = Call
family_of (kind.AssignName op x) = Named
family_of (kind.Declarator x) = Named
family_of kind.Var = Statement
family_of kind.Empty = Statement
family_of kind.Discard = Statement
family_of kind.Block = Statement
family_of kind.If = Statement
family_of kind.Do = Statement
family_of kind.While = Statement
family_of kind.For = Statement
family_of kind.ForIn = Statement
family_of kind.Continue = Statement
family_of kind.Break = Statement
family_of kind.Return = Statement
family_of kind.Throw = Statement
family_of (kind.Try x) = Statement
family_of kind.Switch = Statement
