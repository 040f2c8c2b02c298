-- Reading all tokens.
use Rattle.std.proofs.Common.{◌≡◌, ℕ, ◌+◌, ◌<◌, List, [], ◌∷◌, length, Option, Some, None, refl, ap, ◌∙◌, add-one, arith}
use Rattle.js_core.specs.Tree as tree
use Rattle.js_core.specs.Tree.{stmts_of}
use Rattle.js_core.specs.declared.token.Token.{Token}
use Rattle.js_grammar.specs.Parser.{Outcome}
use Rattle.js_grammar.specs.ScriptReader.{read_script, room_of, whole}
use Rattle.js_grammar.specs.Scripts.{height_limit}
use Rattle.js_grammar.specs.Symbols.{lexemes, Lexeme}
use Rattle.expression_parser.specs.declared.nesting.Nesting.{Nesting}
use Rattle.expression_parser.specs.Inside.{limit, body_in}

-- how deep the parts of so many tokens may nest
abbrev pub outermost : ℕ → Nesting
outermost n = record { room = room_of height_limit; all = n + 1 }

module _ (tokens : List Token) (n : ℕ) (many : n ≡ length tokens) where
  pub read_as : (o : Outcome (List tree.Stmt)) → body_in (outermost n) (lexemes tokens) ≡ o → read_script height_limit tokens ≡ whole o
  unfolding body_in limit read_script
  read_as o e = let f = rw (many, add-one) at e in ap whole f

whole_ended : (found : List tree.Stmt) (rest : List Lexeme) → length rest ≡ 0 → whole (Some (found, rest)) ≡ Some (stmts_of found)
whole_ended found [] h = refl
whole_ended found (t ∷ ts) h = absurd (omega arith)

whole_left : (found : List tree.Stmt) (rest : List Lexeme) → 0 < length rest → whole (Some (found, rest)) ≡ None
whole_left found [] h = absurd (omega arith)
whole_left found (t ∷ ts) h = refl

module _ (tokens : List Token) (n : ℕ) (i : List Lexeme) (many : n ≡ length tokens) (begins : i ≡ lexemes tokens) where
  pub read_all : (found : List tree.Stmt) (rest : List Lexeme) → body_in (outermost n) i ≡ Some (found, rest) → length rest ≡ 0 → read_script height_limit tokens ≡ Some (stmts_of found)
  read_all found rest e h = let f = rw begins at e in read_as tokens n many (Some (found, rest)) f ∙ whole_ended found rest h

  pub left_over : (found : List tree.Stmt) (rest : List Lexeme) → body_in (outermost n) i ≡ Some (found, rest) → 0 < length rest → read_script height_limit tokens ≡ None
  left_over found rest e h = let f = rw begins at e in read_as tokens n many (Some (found, rest)) f ∙ whole_left found rest h

  pub not_read : body_in (outermost n) i ≡ None → read_script height_limit tokens ≡ None
  not_read e = let f = rw begins at e in read_as tokens n many None f
