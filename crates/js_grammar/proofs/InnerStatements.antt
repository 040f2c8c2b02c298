-- What is known of the statements that stand inside another.
use Rattle.std.proofs.Common.{◌≡◌, ℕ, ◌<◌, false, List, length, Some}
use Rattle.js_core.specs.Tree as tree
use Rattle.js_grammar.specs.Symbols.{Lexeme, sign_at}
use Rattle.js_grammar.specs.Parser.{Parser}
use Rattle.js_grammar.specs.Phrases.{Phrase}
use Rattle.js_grammar.proofs.StatementHeights.{StatementFits}
use Rattle.js_grammar.proofs.StatementShapes.{is_behind}

-- those of fewer lexemes than the bound are read
pub record InnerStatements (limit : ℕ) (statement : Parser tree.Stmt) (Stm : Phrase tree.Stmt) (bound : ℕ) : Type 0 where
  pub reads : (x z : List Lexeme) (s : tree.Stmt) → Stm x z s → length x < bound → StatementFits limit s → statement x ≡ Some (s, z)
  pub shorter : (x z : List Lexeme) (s : tree.Stmt) → Stm x z s → length z < length x
  pub begins : (x z : List Lexeme) (s : tree.Stmt) → Stm x z s → is_behind (sign_at x) ≡ false
