-- A `for` over what one declarator names.
use Rattle.std.proofs.Common.{◌≡◌, ℕ, Bool, List, [], ◌∷◌, ◌++◌, None, refl}
use Rattle.js_core.specs.Tree as tree
use Rattle.js_core.specs.declared.syntax.Declarator.{Declarator}
use Rattle.js_grammar.specs.declared.operators.Level.{Level}
use Rattle.js_grammar.specs.Parser.{Parser}
use Rattle.js_grammar.specs.StatementReader as reader
use Rattle.js_grammar.specs.Symbols.{Lexeme}

module _ (limit : ℕ) (exp : Bool → Level → Parser tree.Expr) (body : Parser (List tree.Stmt)) (statement : Parser tree.Stmt) where
  pub for_in_one : (found rest : List Declarator) (d : Declarator) (i : List Lexeme) → found ≡ rest ++ d ∷ [] → rest ≡ [] → reader.for_in_declared limit exp body statement found i ≡ reader.for_in_by limit exp body statement d.value d.name i
  for_in_one found rest d i split empty = rw (split, empty)

  several : (d : Declarator) (rest : List Declarator) (e : Declarator) (i : List Lexeme) → reader.for_in_declared limit exp body statement (d ∷ (rest ++ e ∷ [])) i ≡ None
  several d [] e i = refl
  several d (f ∷ rest) e i = refl

  pub for_in_several : (found : List Declarator) (d : Declarator) (rest : List Declarator) (e : Declarator) (i : List Lexeme) → found ≡ (d ∷ rest) ++ e ∷ [] → reader.for_in_declared limit exp body statement found i ≡ None
  for_in_several found d rest e i split = rw split (several d rest e i)
