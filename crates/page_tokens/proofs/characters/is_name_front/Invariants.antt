use Rattle.std.proofs.Common.{◌≡◌, length}
use Rattle.page_tokens.specs.Characters.{is_front_in_any_case}
use Rattle.page_tokens.proofs.characters.is_name_front.Given as goal

abbrev pub invariant-loop-name : goal.invariant-loop-name
invariant-loop-name l = is_front_in_any_case l.name l.text ≡ is_front_in_any_case l.fn.name l.fn.text

abbrev pub decreases-loop-name : goal.decreases-loop-name
decreases-loop-name l = length l.name
