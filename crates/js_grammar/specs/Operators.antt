-- Which signs are which operators, and how tightly they bind (sections 11.3 to 11.13).
use Rattle.std.specs.Prelude.{ℕ, Bool, true, false, nat_le, ◌||◌, Option, Some, None}
use Rattle.js_core.specs.Tree as tree
use Rattle.js_core.specs.declared.token.Punct.TheVariants as p
use Rattle.js_core.specs.declared.operators.UnaryOp.TheVariants as un
use Rattle.js_core.specs.declared.operators.BinaryOp.{BinaryOp}
use Rattle.js_core.specs.declared.operators.BinaryOp.TheVariants as op
pub use Rattle.js_grammar.specs.declared.operators.Level.{Level}
pub use Rattle.js_grammar.specs.declared.operators.Level.TheVariants.{Sequence as sequence, Assignment as assignment, Binary as binary, Construction as construction, Member as member}
pub use Rattle.js_grammar.specs.declared.operators.Infix.{Infix}
pub use Rattle.js_grammar.specs.declared.operators.Infix.TheVariants.{Either as either, Both as both, Operation as operation}
pub use Rattle.js_grammar.specs.declared.operators.Prefix.{Prefix}
pub use Rattle.js_grammar.specs.declared.operators.Prefix.TheVariants.{Operator as operator, Step as step}
use Rattle.js_core.specs.declared.keyword.Keyword.TheVariants as kw
use Rattle.js_grammar.specs.declared.sign.Sign.{Sign}
use Rattle.js_grammar.specs.declared.sign.Sign.TheVariants.{Mark, Word}

abbrev pub within : Bool → Option Infix
within true = Some (operation op.Within)
within false = None

-- `in` is an operator only where it may stand
abbrev pub infix_of : Bool → Option Sign → Option Infix
infix_of inn (Some (Mark p.DoubleVerticalBar)) = Some either
infix_of inn (Some (Mark p.DoubleAmpersand)) = Some both
infix_of inn (Some (Mark p.VerticalBar)) = Some (operation op.BitOr)
infix_of inn (Some (Mark p.Caret)) = Some (operation op.BitXor)
infix_of inn (Some (Mark p.Ampersand)) = Some (operation op.BitAnd)
infix_of inn (Some (Mark p.Equals)) = Some (operation op.Equal)
infix_of inn (Some (Mark p.NotEquals)) = Some (operation op.Unequal)
infix_of inn (Some (Mark p.StrictEquals)) = Some (operation op.Same)
infix_of inn (Some (Mark p.StrictNotEquals)) = Some (operation op.NotSame)
infix_of inn (Some (Mark p.LessThan)) = Some (operation op.Less)
infix_of inn (Some (Mark p.GreaterThan)) = Some (operation op.Greater)
infix_of inn (Some (Mark p.LessThanOrEqual)) = Some (operation op.LessEq)
infix_of inn (Some (Mark p.GreaterThanOrEqual)) = Some (operation op.GreaterEq)
infix_of inn (Some (Word kw.InstanceOf)) = Some (operation op.InstanceOf)
infix_of inn (Some (Word kw.In)) = within inn
infix_of inn (Some (Mark p.ShiftLeft)) = Some (operation op.Shl)
infix_of inn (Some (Mark p.ShiftRight)) = Some (operation op.Shr)
infix_of inn (Some (Mark p.ShiftRightUnsigned)) = Some (operation op.Ushr)
infix_of inn (Some (Mark p.PlusSign)) = Some (operation op.Add)
infix_of inn (Some (Mark p.MinusSign)) = Some (operation op.Sub)
infix_of inn (Some (Mark p.Star)) = Some (operation op.Mul)
infix_of inn (Some (Mark p.Slash)) = Some (operation op.Div)
infix_of inn (Some (Mark p.Percent)) = Some (operation op.Rem)
infix_of inn s = None

abbrev pub operation_level : BinaryOp → ℕ
operation_level op.BitOr = 3
operation_level op.BitXor = 4
operation_level op.BitAnd = 5
operation_level op.Equal = 6
operation_level op.Unequal = 6
operation_level op.Same = 6
operation_level op.NotSame = 6
operation_level op.Less = 7
operation_level op.Greater = 7
operation_level op.LessEq = 7
operation_level op.GreaterEq = 7
operation_level op.InstanceOf = 7
operation_level op.Within = 7
operation_level op.Shl = 8
operation_level op.Shr = 8
operation_level op.Ushr = 8
operation_level op.Add = 9
operation_level op.Sub = 9
operation_level op.Mul = 10
operation_level op.Div = 10
operation_level op.Rem = 10

abbrev pub level_of : Infix → ℕ
level_of either = 1
level_of both = 2
level_of (operation f) = operation_level f

abbrev pub combined : Infix → tree.Expr → tree.Expr → tree.Expr
combined either a b = tree.logical_or a b
combined both a b = tree.logical_and a b
combined (operation f) a b = tree.binary f a b

-- whether the sign is an operator of this level or a tighter one
abbrev pub climbs_by : ℕ → Option Infix → Bool
climbs_by least None = false
climbs_by least (Some f) = nat_le least (level_of f)

abbrev pub climbs : Bool → ℕ → Option Sign → Bool
climbs inn least s = climbs_by least (infix_of inn s)

-- ---- operators with one operand

-- `++` is `true`, `--` is `false`
abbrev pub step_of : Option Sign → Option Bool
step_of (Some (Mark p.PlusPlus)) = Some true
step_of (Some (Mark p.MinusMinus)) = Some false
step_of s = None

abbrev pub prefix_of : Option Sign → Option Prefix
prefix_of (Some (Word kw.Delete)) = Some (operator un.Delete)
prefix_of (Some (Word kw.Void)) = Some (operator un.Void)
prefix_of (Some (Word kw.Typeof)) = Some (operator un.Typeof)
prefix_of (Some (Mark p.PlusSign)) = Some (operator un.Plus)
prefix_of (Some (Mark p.MinusSign)) = Some (operator un.Minus)
prefix_of (Some (Mark p.Tilde)) = Some (operator un.BitNot)
prefix_of (Some (Mark p.ExclamationMark)) = Some (operator un.Not)
prefix_of (Some (Mark p.PlusPlus)) = Some (step true)
prefix_of (Some (Mark p.MinusMinus)) = Some (step false)
prefix_of s = None

abbrev pub prefixed : Prefix → tree.Expr → tree.Expr
prefixed (operator f) a = tree.unary f a
prefixed (step up) a = tree.update up true a

-- ---- assignments

-- no operator is `=`
abbrev pub assignment_of : Option Sign → Option (Option BinaryOp)
assignment_of (Some (Mark p.SimpleAssign)) = Some None
assignment_of (Some (Mark p.PlusAssign)) = Some (Some op.Add)
assignment_of (Some (Mark p.MinusAssign)) = Some (Some op.Sub)
assignment_of (Some (Mark p.StarAssign)) = Some (Some op.Mul)
assignment_of (Some (Mark p.SlashAssign)) = Some (Some op.Div)
assignment_of (Some (Mark p.PercentAssign)) = Some (Some op.Rem)
assignment_of (Some (Mark p.ShiftLeftAssign)) = Some (Some op.Shl)
assignment_of (Some (Mark p.ShiftRightAssign)) = Some (Some op.Shr)
assignment_of (Some (Mark p.ShiftRightUnsignedAssign)) = Some (Some op.Ushr)
assignment_of (Some (Mark p.AmpersandAssign)) = Some (Some op.BitAnd)
assignment_of (Some (Mark p.VerticalBarAssign)) = Some (Some op.BitOr)
assignment_of (Some (Mark p.CaretAssign)) = Some (Some op.BitXor)
assignment_of s = None

abbrev pub is_assignment_by : Option (Option BinaryOp) → Bool
is_assignment_by None = false
is_assignment_by (Some f) = true

abbrev pub is_question : Option Sign → Bool
is_question (Some (Mark p.QuestionMark)) = true
is_question s = false

-- what may stand behind a binary expression in an assignment
abbrev pub is_later : Option Sign → Bool
is_later s = is_question s || is_assignment_by (assignment_of s)

-- ---- what goes on with a left-hand side

-- a point, an opening bracket, and, where calls may stand, an opening parenthesis
abbrev pub is_suffix : Bool → Option Sign → Bool
is_suffix calls (Some (Mark p.Dot)) = true
is_suffix calls (Some (Mark p.LeftBracket)) = true
is_suffix calls (Some (Mark p.LeftParenthesis)) = calls
is_suffix calls s = false
