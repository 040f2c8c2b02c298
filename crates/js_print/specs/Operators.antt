-- The lexemes of operators.
use Rattle.std.specs.Prelude.{Bool, true, false, Option, Some, None}
use Rattle.js_core.specs.declared.operators.UnaryOp.{UnaryOp}
use Rattle.js_core.specs.declared.operators.UnaryOp.TheVariants as unary
use Rattle.js_core.specs.declared.operators.BinaryOp.{BinaryOp}
use Rattle.js_core.specs.declared.operators.BinaryOp.TheVariants as binary
use Rattle.js_core.specs.declared.token.Punct.{Punct}
use Rattle.js_core.specs.declared.token.Punct.TheVariants as punct
use Rattle.js_core.specs.declared.keyword.Keyword.TheVariants as keyword
use Rattle.js_print.specs.declared.lexeme.Lexeme.{Lexeme}
use Rattle.js_print.specs.declared.lexeme.Lexeme.TheVariants as lexeme

abbrev pub unary_lexeme : UnaryOp → Lexeme
unary_lexeme unary.Delete = lexeme.Keyword keyword.Delete
unary_lexeme unary.Void = lexeme.Keyword keyword.Void
unary_lexeme unary.Typeof = lexeme.Keyword keyword.Typeof
unary_lexeme unary.Plus = lexeme.Punct punct.PlusSign
unary_lexeme unary.Minus = lexeme.Punct punct.MinusSign
unary_lexeme unary.BitNot = lexeme.Punct punct.Tilde
unary_lexeme unary.Not = lexeme.Punct punct.ExclamationMark

-- `++` upwards, else `--`
abbrev pub update_punct : Bool → Punct
update_punct true = punct.PlusPlus
update_punct false = punct.MinusMinus

abbrev pub binary_lexeme : BinaryOp → Lexeme
binary_lexeme binary.Mul = lexeme.Punct punct.Star
binary_lexeme binary.Div = lexeme.Punct punct.Slash
binary_lexeme binary.Rem = lexeme.Punct punct.Percent
binary_lexeme binary.Add = lexeme.Punct punct.PlusSign
binary_lexeme binary.Sub = lexeme.Punct punct.MinusSign
binary_lexeme binary.Shl = lexeme.Punct punct.ShiftLeft
binary_lexeme binary.Shr = lexeme.Punct punct.ShiftRight
binary_lexeme binary.Ushr = lexeme.Punct punct.ShiftRightUnsigned
binary_lexeme binary.Less = lexeme.Punct punct.LessThan
binary_lexeme binary.Greater = lexeme.Punct punct.GreaterThan
binary_lexeme binary.LessEq = lexeme.Punct punct.LessThanOrEqual
binary_lexeme binary.GreaterEq = lexeme.Punct punct.GreaterThanOrEqual
binary_lexeme binary.InstanceOf = lexeme.Keyword keyword.InstanceOf
binary_lexeme binary.Within = lexeme.Keyword keyword.In
binary_lexeme binary.Equal = lexeme.Punct punct.Equals
binary_lexeme binary.Unequal = lexeme.Punct punct.NotEquals
binary_lexeme binary.Same = lexeme.Punct punct.StrictEquals
binary_lexeme binary.NotSame = lexeme.Punct punct.StrictNotEquals
binary_lexeme binary.BitAnd = lexeme.Punct punct.Ampersand
binary_lexeme binary.BitXor = lexeme.Punct punct.Caret
binary_lexeme binary.BitOr = lexeme.Punct punct.VerticalBar

-- of a compound assignment; an operator that has none gives `=`
abbrev pub compound_punct : BinaryOp → Punct
compound_punct binary.Mul = punct.StarAssign
compound_punct binary.Div = punct.SlashAssign
compound_punct binary.Rem = punct.PercentAssign
compound_punct binary.Add = punct.PlusAssign
compound_punct binary.Sub = punct.MinusAssign
compound_punct binary.Shl = punct.ShiftLeftAssign
compound_punct binary.Shr = punct.ShiftRightAssign
compound_punct binary.Ushr = punct.ShiftRightUnsignedAssign
compound_punct binary.BitAnd = punct.AmpersandAssign
compound_punct binary.BitXor = punct.CaretAssign
compound_punct binary.BitOr = punct.VerticalBarAssign
compound_punct op = punct.SimpleAssign

abbrev pub assign_punct : Option BinaryOp → Punct
assign_punct None = punct.SimpleAssign
assign_punct (Some op) = compound_punct op
