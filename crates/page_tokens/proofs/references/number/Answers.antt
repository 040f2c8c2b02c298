use Rattle.std.proofs.Common.{arith}
use Rattle.std.proofs.lemmas.Bool.Decides.{nat_tests}
use Rattle.page_tokens.proofs.Digits.{number_stands}
use Rattle.page_tokens.proofs.references.number.Goals as goal

pub returns-clause-read : goal.returns-clause-read
returns-clause-read c =
    number_stands _ _ _ _ _ _ _ c.digits_len.ensures.read c.split_at.ensures.front c.split_at.ensures.back (grind (arith, nat_tests)) (grind (arith, nat_tests)) c.value_of.ensures.known c.value_of.ensures.same c.in_ok-character_numbered.ensures.0 c.in_ok-character_numbered.ensures.1
