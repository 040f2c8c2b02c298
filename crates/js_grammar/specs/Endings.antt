-- Where a statement ends without a semicolon (section 7.9).
use Rattle.std.specs.Prelude.{◌≡◌, Bool, true, false, not, ◌&&◌, ◌||◌, List, [], ◌∷◌, Option, Some, None}
use Rattle.js_core.specs.declared.token.Punct.TheVariants as p
pub use Rattle.js_grammar.specs.declared.ending.Ending.{Ending}
pub use Rattle.js_grammar.specs.declared.ending.Ending.TheVariants.{AfterExpression as after_expression, AfterName as after_name, AfterAll as after_all}
use Rattle.js_core.specs.declared.keyword.Keyword.TheVariants as kw
use Rattle.js_grammar.specs.declared.sign.Sign.{Sign}
use Rattle.js_grammar.specs.declared.sign.Sign.TheVariants.{Mark, Word}
use Rattle.js_lexer.specs.Directives.{punct_continues, word_continues}
use Rattle.js_grammar.specs.Symbols.{Lexeme, sign_of, is_sign}
use Rattle.js_grammar.specs.Operators.{climbs, is_later, is_suffix}

-- whether the sign goes on with an expression, by the table that directives end by
abbrev pub goes_on : Option Sign → Bool
goes_on (Some (Mark mark)) = punct_continues mark
goes_on (Some (Word word)) = word_continues (Some word)
goes_on None = false

abbrev pub continues_name : Option Sign → Bool
continues_name (Some (Mark p.SimpleAssign)) = true
continues_name (Some (Mark p.Comma)) = true
continues_name s = false

-- whether the sign goes on with the statement; `(`, `[` and a point only with an expression that grows
abbrev pub continues : Ending → Option Sign → Bool
continues (after_expression grows) s = goes_on s && (grows || not (is_suffix true s))
continues after_name s = continues_name s
continues after_all s = false

abbrev pub is_right_brace : Option Sign → Bool
is_right_brace (Some (Mark p.RightBrace)) = true
is_right_brace s = false

-- A semicolon may be missing before a `}`, and at the end of a line where the next symbol neither is a semicolon nor goes
-- on with the statement.
abbrev pub ends_before : Ending → Option Sign → Bool → Bool
ends_before e s after_line = is_right_brace s || (after_line && not (is_sign (Mark p.Semicolon) s || continues e s))

-- and at the end of the script
abbrev pub may_end : Ending → List Lexeme → Bool
may_end e [] = true
may_end e (t ∷ ts) = ends_before e (sign_of t.0) t.1

-- whether no line end stands before the next symbol
abbrev pub same_line : List Lexeme → Bool
same_line [] = false
same_line (t ∷ ts) = not t.1

-- what an expression statement may not begin with (section 12.4)
abbrev pub is_excluded : Option Sign → Bool
is_excluded (Some (Mark p.LeftBrace)) = true
is_excluded (Some (Word kw.Function)) = true
is_excluded s = false

-- what goes on with an expression is what the grammar has behind one
abbrev pub OperatorsAndSuffixesGoOn : Type 0
OperatorsAndSuffixesGoOn =
    (s : Option Sign) → goes_on s ≡ (is_suffix true s || (climbs true 1 s || (is_later s || is_sign (Mark p.Comma) s)))
