-- What is known of what is read inside another phrase.
use Rattle.std.proofs.Common.{◌≡◌, ℕ, ◌<◌, ◌≤◌, Bool, true, false, List, length}
use Rattle.js_core.specs.Tree as tree
use Rattle.js_core.specs.declared.token.Punct.TheVariants as p
use Rattle.js_grammar.specs.declared.sign.Sign.TheVariants.{Mark}
use Rattle.js_grammar.specs.Symbols.{Lexeme, sign_at}
use Rattle.js_grammar.specs.Operators.{Level, sequence, assignment, binary, construction, member, climbs, is_suffix}
use Rattle.js_grammar.specs.Parser.{Parser, sees}
use Rattle.js_grammar.specs.Phrases.{Phrase}
use Rattle.js_grammar.proofs.Heights.{Fits}
use Rattle.js_grammar.proofs.Holds.{Holds}
use Rattle.js_grammar.proofs.Stops.{Quiet}

-- what was read is an expression of the grammar that fits, and no operator comes that it would have taken
abbrev pub Found : (limit : ℕ) (Exp : Bool → Level → Bool → Phrase tree.Expr) → Bool → Level → ℕ → List Lexeme → tree.Expr → List Lexeme → Type 0
Found limit Exp inn level n x a z = (g : Bool) × Exp inn level g x z a × Fits limit a × Quiet g z × (climbs inn n (sign_at z) ≡ false)

pub record Sound (limit : ℕ) (exp : Bool → Level → Parser tree.Expr) (body : Parser (List tree.Stmt)) (Exp : Bool → Level → Bool → Phrase tree.Expr) (Body : Phrase (List tree.Stmt)) : Type 0 where
  pub some : 1 ≤ limit
  pub sequences : (inn : Bool) (x : List Lexeme) → Holds (Found limit Exp inn sequence 1 x) (exp inn sequence x)
  pub assignments : (inn : Bool) (x : List Lexeme) → Holds (Found limit Exp inn assignment 1 x) (exp inn assignment x)
  pub binaries : (inn : Bool) (n : ℕ) (x : List Lexeme) → n ≤ 11 → Holds (Found limit Exp inn (binary n) n x) (exp inn (binary n) x)
  -- where an opening parenthesis comes, it is a member expression
  pub callees : (x : List Lexeme) → Holds (λ a z. (g : Bool) × Exp true construction g x z a × Fits limit a × (is_suffix false (sign_at z) ≡ false) × (sees (Mark p.LeftParenthesis) z ≡ true → Exp true member g x z a)) (exp true construction x)
  pub bodies : (x : List Lexeme) → Holds (λ found z. Body x z found) (body x)
  pub shorter : (inn : Bool) (level : Level) (g : Bool) (x z : List Lexeme) (a : tree.Expr) → Exp inn level g x z a → length z < length x
  pub body_shorter : (x z : List Lexeme) (found : List tree.Stmt) → Body x z found → length z ≤ length x
