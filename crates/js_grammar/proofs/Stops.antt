-- What ends an expression.
use Rattle.std.proofs.Common.{◌≡◌, Bool, true, false, List, None}
use Rattle.js_grammar.specs.Symbols.{Lexeme, sign_at}
use Rattle.js_grammar.specs.Operators.{Level, sequence, assignment, binary, construction, member, climbs, is_later, is_suffix}
use Rattle.js_grammar.specs.Parser.{sees_comma}
use Rattle.js_grammar.specs.ExpressionReader.{step_at}

-- where `(`, `[`, a point, `++` or `--` would go on with it, none comes
abbrev pub Quiet : Bool → List Lexeme → Type 0
Quiet g z = g ≡ true → (is_suffix true (sign_at z) ≡ false) × (step_at z ≡ None)

-- nothing comes that goes on with a phrase of this level
abbrev pub Stops : Bool → Level → Bool → List Lexeme → Type 0
Stops inn sequence g z = Quiet g z × (climbs inn 1 (sign_at z) ≡ false) × (is_later (sign_at z) ≡ false) × (sees_comma z ≡ false)
Stops inn assignment g z = Quiet g z × (climbs inn 1 (sign_at z) ≡ false) × (is_later (sign_at z) ≡ false)
Stops inn (binary n) g z = Quiet g z × (climbs inn n (sign_at z) ≡ false)
Stops inn construction g z = is_suffix true (sign_at z) ≡ false
Stops inn member g z = is_suffix false (sign_at z) ≡ false
