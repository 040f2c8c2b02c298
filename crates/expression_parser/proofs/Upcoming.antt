-- The tokens before a cursor.
use Rattle.std.proofs.Common.{◌≡◌, ◌∙◌, ℕ, ◌+◌, ◌<◌, true, List, [], ◌∷◌, ◌++◌, length, Option, Some, None, refl, sym, ap, arith}
use Rattle.std.specs.Prelude.{reverse, is_some, option_to_list}
use Rattle.std.proofs.lemmas.List.{length-reverse, reverse-append, reverse-reverse}
use Rattle.js_core.specs.declared.token.Token.{Token}
use Rattle.js_grammar.specs.Symbols.{lexemes}
use Rattle.expression_parser.specs.Upcoming.{upcoming}
use Rattle.expression_parser.proofs.Words.{same_length}

pub upcoming_length : (next : Token) (behind : List Token) → length (lexemes (upcoming (Some next) behind)) ≡ length behind + 1
upcoming_length next behind = let e = same_length (reverse behind) in let r = length-reverse behind in omega arith

no_tokens : (turned : List Token) → (0 < length turned → ⊥) → turned ≡ []
no_tokens [] none = refl
no_tokens (t ∷ ts) none = absurd (none (omega arith))

-- where the last of the turned tokens was taken, it is the next of all
pub upcoming_all : (tokens turned behind : List Token) (next : Option Token) (n : ℕ) → turned ≡ reverse tokens → turned ≡ behind ++ option_to_list next → n ≡ length turned
    → (0 < n → is_some next ≡ true) → upcoming next behind ≡ tokens
upcoming_all tokens turned behind None n turns takes many some =
    let none = no_tokens turned (λ l. let is = some (omega arith) in cc) in
    ap reverse (sym none ∙ turns) ∙ reverse-reverse tokens
upcoming_all tokens turned behind (Some next) n turns takes many some =
    sym (reverse-append behind (next ∷ [])) ∙ ap reverse (sym takes ∙ turns) ∙ reverse-reverse tokens
