-- Reserved words can be written as tokens.
use Rattle.std.proofs.Common.{◌≡◌, ℕ, true, List, [], ◌∷◌, refl, arith}
use Rattle.std.specs.Prelude.{nat_lt}
use Rattle.std.specs.List.{list_all}
use Rattle.std.proofs.lemmas.Bool.Decides.{nat_tests}
use Rattle.std.proofs.lemmas.Bool.{and_from, and_parts}
use Rattle.js_core.specs.Spelling.{keyword_text}
use Rattle.js_core.specs.declared.keyword.Keyword.{Keyword}
use Rattle.js_core.specs.declared.token.TokenKind.TheVariants as kind
use Rattle.js_lexer.specs.Written.{is_unit, can_be_written}
use Rattle.js_print.proofs.Ascii.{keyword_is_ascii}
use Rattle.js_print.proofs.Words.{keyword_is_name}

low_is_unit : (u : ℕ) → nat_lt u 128 ≡ true → is_unit u ≡ true
low_is_unit u e = grind (arith, nat_tests)

low_are_units : (us : List ℕ) → list_all (λ u. nat_lt u 128) us ≡ true → list_all is_unit us ≡ true
low_are_units [] e = refl
low_are_units (u ∷ us) e = and_from _ _ (low_is_unit u (and_parts _ _ e).0) (low_are_units us (and_parts (nat_lt u 128) _ e).1)

pub keyword_can_be_written : (k : Keyword) → can_be_written (kind.Word (keyword_text k)) ≡ true
keyword_can_be_written k = and_from _ _ (keyword_is_name k) (low_are_units (keyword_text k) (keyword_is_ascii k))
