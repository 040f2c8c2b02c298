-- How scripts are read.
use Rattle.std.specs.Prelude.{ℕ, zero, suc, ◌+◌, ◌*◌, Bool, true, false, if◌then◌else◌, List, [], ◌∷◌, length, Option, Some, None}
use Rattle.js_core.specs.Tree as tree
use Rattle.js_core.specs.Tree.{stmts_of}
use Rattle.js_core.specs.declared.token.Punct.TheVariants as p
use Rattle.js_core.specs.declared.token.Token.{Token}
use Rattle.js_grammar.specs.declared.sign.Sign.TheVariants.{Mark}
use Rattle.js_grammar.specs.Symbols.{Lexeme, lexemes}
use Rattle.js_grammar.specs.Operators.{Level, sequence}
use Rattle.js_grammar.specs.Parser.{Parser, Outcome, and_then, sees, tail}
use Rattle.js_grammar.specs.ExpressionReader.{at_level, closing}
use Rattle.js_grammar.specs.StatementReader.{any_statement, elements}

-- what stands inside something else
pub data Inside : Type 0 where
  expression : Bool → Level → Inside
  statement : Inside
  body : Inside

abbrev pub Read : Inside → Type 0
Read (expression inn level) = tree.Expr
Read statement = tree.Stmt
Read body = List tree.Stmt

-- whether an expression, with commas and with `in` as an operator, begins with a group
abbrev pub opens_group : Level → Bool → List Lexeme → Bool
opens_group sequence true i = sees (Mark p.LeftParenthesis) i
opens_group level inn i = false

-- A part, where parts nest less deep than the second and the third number. The third counts all of them, as the grammar does:
-- each begins behind the one that it stands in, so as many as there are lexemes, and one, are enough. The second leaves out
-- the groups with which expressions begin. Of what is left all makes height but the block that is a body, so `room_of` the limit is
-- enough.
unfoldable pub inside : ℕ → ℕ → ℕ → (what : Inside) → Parser (Read what)
inside limit room zero what = λ i. None
inside limit zero (suc depth) what = λ i. None
inside limit (suc room) (suc depth) (expression inn level) = λ i.
    if opens_group level inn i then and_then (inside limit (suc room) depth (expression true sequence) (tail i)) (closing limit (λ inn level. inside limit room depth (expression inn level)) (inside limit room depth body))
    else at_level limit (λ inn level. inside limit room depth (expression inn level)) (inside limit room depth body) inn level i
inside limit (suc room) (suc depth) statement = any_statement limit (λ inn level. inside limit room depth (expression inn level)) (inside limit room depth body) (inside limit room depth statement)
inside limit (suc room) (suc depth) body = elements limit (λ inn level. inside limit room depth (expression inn level)) (inside limit room depth body) (inside limit room depth statement)

-- how deep the parts of a script nest that is no higher than the limit, but for the groups with which expressions begin: a
-- tree is a part of one that is higher, but for the inside of a group and the block that is the body of another statement
abbrev pub room_of : ℕ → ℕ
room_of limit = 2 * limit + 2

abbrev pub whole : Outcome (List tree.Stmt) → Option tree.Stmts
whole None = None
whole (Some (found, [])) = Some (stmts_of found)
whole (Some (found, t ∷ ts)) = None

-- the script of these tokens, if they have one that is no higher than the limit
unfoldable pub read_script : ℕ → List Token → Option tree.Stmts
read_script limit tokens = whole (inside limit (room_of limit) (suc (length tokens)) body (lexemes tokens))
