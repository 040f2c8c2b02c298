-- What other crates cite of the lexer's proofs.
use Rattle.std.proofs.Common.{◌≡◌, ℕ, ◌<◌, true}
use Rattle.js_core.specs.declared.token.Punct.{Punct}
use Rattle.js_lexer.specs.Characters.{is_identifier_part, is_identifier_start}
use Rattle.js_lexer.proofs.Firsts as firsts
use Rattle.js_lexer.proofs.Longest as longest

-- ---- characters

pub start_of_ascii : (u : ℕ) → u < 128 → is_identifier_start u ≡ firsts.is_ascii_start u
start_of_ascii = firsts.start_of_ascii

pub start_is_part : (u : ℕ) → is_identifier_start u ≡ true → is_identifier_part u ≡ true
start_is_part = firsts.start_is_part

-- ---- punctuators

-- where it stands in the list of all, longest first
pub place_of : (p : Punct) → longest.Place p
place_of = longest.place_of
