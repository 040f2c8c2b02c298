-- Where line ends may be put between the symbols of a script: behind `{`, `;` and `:`, before `}`, and behind a `}` but before a `++`
-- or `--` that may be postfix. Statements begin there and end there, and no rule on semicolons looks at a line end there (section 7.9).
-- Behind a `}` such a sign may be postfix, as any left-hand side may stand before it: `a={}++;` has a tree, and has none with a line
-- end before the sign (section 11.3). Only an early rule refuses such an operand. Where an operand stands behind the sign in its line,
-- the sign is a prefix (section 11.4): behind a postfix sign stands an operator, a closing sign, or what a line end or `;` divides from it.
use Rattle.std.specs.Prelude.{◌≡◌, Bool, true, false, not, ◌||◌, ◌&&◌, List, [], ◌∷◌, is_some}
use Rattle.js_core.specs.Tree as tree
use Rattle.js_core.specs.declared.token.Punct.TheVariants as p
use Rattle.js_core.specs.declared.token.Token.{Token}
use Rattle.js_core.specs.declared.keyword.Keyword.TheVariants as kw
use Rattle.js_grammar.specs.declared.sign.Sign.TheVariants.{Mark, Word}
use Rattle.js_grammar.specs.Operators.{step_of}
use Rattle.js_grammar.specs.Scripts.{Derives}
use Rattle.js_grammar.specs.Symbols.{Symbol, sign, Lexeme, lexemes, sign_of}

abbrev pub is_opening : Symbol → Bool
is_opening (sign (Mark p.LeftBrace)) = true
is_opening (sign (Mark p.Semicolon)) = true
is_opening (sign (Mark p.Colon)) = true
is_opening s = false

abbrev pub is_closing : Symbol → Bool
is_closing (sign (Mark p.RightBrace)) = true
is_closing s = false

-- a word but `in` and `instanceof`, a number, a text, `(` or `[`: an operand may begin with it, and it stands between no two
abbrev pub begins_operand : Symbol → Bool
begins_operand (sign (Mark p.LeftParenthesis)) = true
begins_operand (sign (Mark p.LeftBracket)) = true
begins_operand (sign (Mark m)) = false
begins_operand (sign (Word kw.In)) = false
begins_operand (sign (Word kw.InstanceOf)) = false
begins_operand s = true

-- whether one comes next in the same line
abbrev pub operand_follows : List Lexeme → Bool
operand_follows [] = false
operand_follows (t ∷ ts) = begins_operand t.0 && not t.1

-- whether the first symbol is one behind which line ends may be put, or the second one before which they may be
abbrev pub is_border : Symbol → Symbol → Bool
is_border a b = is_closing b || (is_opening a || is_closing a)

-- but not where the second is a `++` or `--` behind a `}`, and no operand follows: it may be postfix
abbrev pub may_be_postfix : Symbol → Symbol → List Lexeme → Bool
may_be_postfix a b rest = is_closing a && (is_some (step_of (sign_of b)) && not (operand_follows rest))

-- whether a line end may be put between the first symbol and the second, behind which these stand
abbrev pub may_part : Symbol → Symbol → List Lexeme → Bool
may_part a b rest = is_border a b && not (may_be_postfix a b rest)

abbrev pub first_of : List Bool → Bool
first_of [] = false
first_of (l ∷ ls) = l

abbrev pub others_of : List Bool → List Bool
others_of [] = []
others_of (l ∷ ls) = ls

-- the symbols behind another, with a line end more before each that the list tells, where it may be put
abbrev pub parted : List Bool → Symbol → List Lexeme → List Lexeme
parted ls behind [] = []
parted ls behind (t ∷ ts) = (t.0, t.1 || (may_part behind t.0 ts && first_of ls)) ∷ parted (others_of ls) t.0 ts

-- what stands before a script, as before a statement
abbrev pub opening : Symbol
opening = sign (Mark p.Semicolon)

-- tokens that are those of a script but for such line ends derive the same script
abbrev pub LineEndsAreHarmless : Type 0
LineEndsAreHarmless = (ls : List Bool) (tokens again : List Token) (script : tree.Stmts) → Derives tokens script → lexemes again ≡ parted ls opening (lexemes tokens) → Derives again script
