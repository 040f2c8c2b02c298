use Rattle.std.proofs.Common.{◌≡◌, length}
use Rattle.page_tokens.specs.Characters.{is_front_in_any_case}
use Rattle.page_tokens.proofs.characters.is_front_in_any_case.Given as goal

abbrev pub invariant-loop-codes : goal.invariant-loop-codes
invariant-loop-codes l = is_front_in_any_case l.codes l.text ≡ is_front_in_any_case l.fn.codes l.fn.text

abbrev pub decreases-loop-codes : goal.decreases-loop-codes
decreases-loop-codes l = length l.codes
