-- The lexemes of operators are the signs of these operators.
use Rattle.std.proofs.Common.{◌≡◌, Bool, true, false, List, ◌∷◌, Option, Some, None, refl, subst, ap}
use Rattle.js_core.specs.Tree as tree
use Rattle.js_core.specs.declared.operators.UnaryOp.{UnaryOp}
use Rattle.js_core.specs.declared.operators.UnaryOp.TheVariants as op1
use Rattle.js_core.specs.declared.operators.BinaryOp.{BinaryOp}
use Rattle.js_core.specs.declared.operators.BinaryOp.TheVariants as op2
use Rattle.js_core.specs.declared.token.Punct.TheVariants as punct
use Rattle.js_core.specs.declared.keyword.Keyword.TheVariants as keyword
use Rattle.js_grammar.specs.declared.sign.Sign.{Sign}
use Rattle.js_grammar.specs.declared.sign.Sign.TheVariants.{Mark, Word}
use Rattle.js_grammar.specs.declared.operators.Infix.TheVariants.{Operation}
use Rattle.js_grammar.specs.declared.operators.Prefix.TheVariants.{Operator, Step}
use Rattle.js_grammar.specs.Symbols.{sign, symbol_of}
use Rattle.js_grammar.specs.Operators.{infix_of, within, prefix_of, step_of, assignment_of}
use Rattle.js_print.specs.declared.lexeme.Lexeme.{Lexeme}
use Rattle.js_print.specs.declared.lexeme.Lexeme.TheVariants.{Punct}
use Rattle.js_print.specs.Operators.{unary_lexeme, update_punct, binary_lexeme, assign_punct}
use Rattle.js_print.specs.Places.{is_in_test}
use Rattle.js_print.specs.ReadBack.{kind_of}
use Rattle.js_print.proofs.PrintedSymbols.{Opens, opens}

-- `in` is one where it may stand
pub infix_sign : (inn : Bool) (op : BinaryOp) (a b : tree.Expr) → (is_in_test (tree.binary op a b) ≡ true → inn ≡ true) → (s : Sign) × (symbol_of (kind_of (binary_lexeme op)) ≡ sign s) × (infix_of inn (Some s) ≡ Some (Operation op))
infix_sign inn op2.Mul a b f = (Mark punct.Star, refl, refl)
infix_sign inn op2.Div a b f = (Mark punct.Slash, refl, refl)
infix_sign inn op2.Rem a b f = (Mark punct.Percent, refl, refl)
infix_sign inn op2.Add a b f = (Mark punct.PlusSign, refl, refl)
infix_sign inn op2.Sub a b f = (Mark punct.MinusSign, refl, refl)
infix_sign inn op2.Shl a b f = (Mark punct.ShiftLeft, refl, refl)
infix_sign inn op2.Shr a b f = (Mark punct.ShiftRight, refl, refl)
infix_sign inn op2.Ushr a b f = (Mark punct.ShiftRightUnsigned, refl, refl)
infix_sign inn op2.Less a b f = (Mark punct.LessThan, refl, refl)
infix_sign inn op2.Greater a b f = (Mark punct.GreaterThan, refl, refl)
infix_sign inn op2.LessEq a b f = (Mark punct.LessThanOrEqual, refl, refl)
infix_sign inn op2.GreaterEq a b f = (Mark punct.GreaterThanOrEqual, refl, refl)
infix_sign inn op2.InstanceOf a b f = (Word keyword.InstanceOf, refl, refl)
infix_sign inn op2.Within a b f = (Word keyword.In, refl, ap within (f refl))
infix_sign inn op2.Equal a b f = (Mark punct.Equals, refl, refl)
infix_sign inn op2.Unequal a b f = (Mark punct.NotEquals, refl, refl)
infix_sign inn op2.Same a b f = (Mark punct.StrictEquals, refl, refl)
infix_sign inn op2.NotSame a b f = (Mark punct.StrictNotEquals, refl, refl)
infix_sign inn op2.BitAnd a b f = (Mark punct.Ampersand, refl, refl)
infix_sign inn op2.BitXor a b f = (Mark punct.Caret, refl, refl)
infix_sign inn op2.BitOr a b f = (Mark punct.VerticalBar, refl, refl)

pub prefix_sign : (op : UnaryOp) → (s : Sign) × (symbol_of (kind_of (unary_lexeme op)) ≡ sign s) × (prefix_of (Some s) ≡ Some (Operator op))
prefix_sign op1.Delete = (Word keyword.Delete, refl, refl)
prefix_sign op1.Void = (Word keyword.Void, refl, refl)
prefix_sign op1.Typeof = (Word keyword.Typeof, refl, refl)
prefix_sign op1.Plus = (Mark punct.PlusSign, refl, refl)
prefix_sign op1.Minus = (Mark punct.MinusSign, refl, refl)
prefix_sign op1.BitNot = (Mark punct.Tilde, refl, refl)
prefix_sign op1.Not = (Mark punct.ExclamationMark, refl, refl)

pub prefix_opens : (op : UnaryOp) (xs : List Lexeme) → Opens false (unary_lexeme op ∷ xs)
prefix_opens op1.Delete xs = opens refl (λ e. refl)
prefix_opens op1.Void xs = opens refl (λ e. refl)
prefix_opens op1.Typeof xs = opens refl (λ e. refl)
prefix_opens op1.Plus xs = opens refl (λ e. refl)
prefix_opens op1.Minus xs = opens refl (λ e. refl)
prefix_opens op1.BitNot xs = opens refl (λ e. refl)
prefix_opens op1.Not xs = opens refl (λ e. refl)

pub step_prefix : (up : Bool) → prefix_of (Some (Mark (update_punct up))) ≡ Some (Step up)
step_prefix true = refl
step_prefix false = refl

pub step_opens : (up : Bool) (xs : List Lexeme) → Opens false (Punct (update_punct up) ∷ xs)
step_opens true xs = opens refl (λ e. refl)
step_opens false xs = opens refl (λ e. refl)

pub step_sign : (up : Bool) → step_of (Some (Mark (update_punct up))) ≡ Some up
step_sign true = refl
step_sign false = refl
