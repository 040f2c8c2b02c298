-- What is known of the statements that are read inside another.
use Rattle.std.proofs.Common.{ℕ, ◌<◌, List, length}
use Rattle.js_core.specs.Tree as tree
use Rattle.js_grammar.specs.Symbols.{Lexeme}
use Rattle.js_grammar.specs.Parser.{Parser}
use Rattle.js_grammar.specs.Phrases.{Phrase}
use Rattle.js_grammar.proofs.Holds.{Holds}
use Rattle.js_grammar.proofs.StatementHeights.{StatementFits}

pub record SoundStatements (limit : ℕ) (statement : Parser tree.Stmt) (Stm : Phrase tree.Stmt) : Type 0 where
  pub holds : (x : List Lexeme) → Holds (λ s z. Stm x z s × StatementFits limit s) (statement x)
  pub shorter : (x z : List Lexeme) (s : tree.Stmt) → Stm x z s → length z < length x
