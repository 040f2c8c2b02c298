-- What is known of the expressions and bodies that stand inside another.
use Rattle.std.proofs.Common.{◌≡◌, ℕ, ◌<◌, ◌≤◌, Bool, true, List, ◌∷◌, length, Some}
use Rattle.js_core.specs.Tree as tree
use Rattle.js_core.specs.Tree.{stmts_of}
use Rattle.js_core.specs.Height.{stmts_height}
use Rattle.js_core.specs.declared.token.Punct.TheVariants as p
use Rattle.js_grammar.specs.Symbols.{Lexeme, sign_at}
use Rattle.js_grammar.specs.Operators.{Level, construction, member}
use Rattle.js_grammar.specs.Parser.{Parser}
use Rattle.js_grammar.specs.Phrases.{Phrase, mark}
use Rattle.js_grammar.proofs.Beginnings.{can_begin}
use Rattle.js_grammar.proofs.Heights.{Fits}
use Rattle.js_grammar.proofs.Stops.{Stops}

-- those of fewer lexemes than the bound are read
pub record Inner (limit : ℕ) (exp : Bool → Level → Parser tree.Expr) (body : Parser (List tree.Stmt)) (Exp : Bool → Level → Bool → Phrase tree.Expr) (Body : Phrase (List tree.Stmt)) (bound : ℕ) : Type 0 where
  pub reads : (inn : Bool) (level : Level) (g : Bool) (x z : List Lexeme) (a : tree.Expr) → Exp inn level g x z a → length x < bound → Fits limit a → Stops inn level g z → exp inn level x ≡ Some (a, z)
  pub same : (x : List Lexeme) → exp true construction x ≡ exp true member x
  pub body_reads : (l : Bool) (x z : List Lexeme) (found : List tree.Stmt) → Body x (mark p.RightBrace l ∷ z) found → length x < bound → stmts_height (stmts_of found) ≤ limit → body x ≡ Some (found, mark p.RightBrace l ∷ z)
  pub shorter : (inn : Bool) (level : Level) (g : Bool) (x z : List Lexeme) (a : tree.Expr) → Exp inn level g x z a → length z < length x
  pub body_shorter : (x z : List Lexeme) (found : List tree.Stmt) → Body x z found → length z ≤ length x
  pub begins : (inn : Bool) (level : Level) (g : Bool) (x z : List Lexeme) (a : tree.Expr) → Exp inn level g x z a → can_begin (sign_at x) ≡ true
