-- Of what worked examples are made: tokens without their places, and scripts.
use Rattle.std.specs.Prelude.{◌≡◌, ℕ, pos, true, false, List, [], ◌∷◌, Option, Some, None, codes}
use Rattle.js_core.specs.Tree as tree
use Rattle.js_core.specs.Tree.{stmts_of}
use Rattle.js_core.specs.declared.token.Token.{Token}
use Rattle.js_core.specs.declared.token.TokenKind.{TokenKind}
use Rattle.js_core.specs.declared.token.TokenKind.TheVariants as kind
use Rattle.js_core.specs.declared.token.Punct.{Punct}
use Rattle.js_core.specs.declared.token.Punct.TheVariants as p
use Rattle.js_core.specs.declared.keyword.Keyword.{Keyword}
use Rattle.js_core.specs.Spelling.{keyword_text}
use Rattle.js_grammar.specs.Scripts.{height_limit}
use Rattle.js_grammar.specs.ScriptReader.{read_script}

abbrev pub token : TokenKind → Token
token what = record { what = what; start = 0; end = 0; after_line = false }

-- the same token behind a line end
abbrev pub below : Token → Token
below t = record { what = t.what; start = t.start; end = t.end; after_line = true }

abbrev pub mark : Punct → Token
mark m = token (kind.Punct m)

abbrev pub word : Keyword → Token
word w = token (kind.Word (keyword_text w))

abbrev pub named : List ℕ → Token
named w = token (kind.Word w)

abbrev pub numeral : ℕ → Token
numeral n = token (kind.Number (Some (pos n)))

abbrev pub string : List ℕ → Token
string t = token (kind.Text t)

abbrev pub semicolon : Token
semicolon = mark p.Semicolon

abbrev pub a : Token
a = named (codes "a")

abbrev pub b : Token
b = named (codes "b")

abbrev pub c : Token
c = named (codes "c")

-- the expressions of these names

abbrev pub A : tree.Expr
A = tree.name (codes "a")

abbrev pub B : tree.Expr
B = tree.name (codes "b")

abbrev pub C : tree.Expr
C = tree.name (codes "c")

-- ---- examples: tokens, and their script or that they have none

abbrev pub Example : Type 0
Example = List Token × Option tree.Stmts

abbrev pub script : List tree.Stmt → Option tree.Stmts
script found = Some (stmts_of found)

abbrev pub refused : Option tree.Stmts
refused = None

-- each is read so
abbrev pub AreRead : List Example → Type 0
AreRead [] = Unit {0}
AreRead (x ∷ rest) = (read_script height_limit x.0 ≡ x.1) × AreRead rest
