use Rattle.std.proofs.Common.{ℕ, ◌∙◌, List, IfErr, arith, subst}
use Rattle.read_files.specs.Reading.{IsUntaken}
use Rattle.stress.proofs.Faring.{made_or_memory}
use Rattle.stress.proofs.measuring.made_page.Goals as goal

pub returns-in-Ok-clause-stops : goal.returns-in-Ok-clause-stops
returns-in-Ok-clause-stops c =
    made_or_memory c.law_one_answer.ensures.not_both c.law_generated_pages_are_accepted.ensures c.args.parts (omega (arith, c.ranges.parts)) c.accept_page.result
    (subst (λ (b : List ℕ). IfErr c.accept_page.result (IsUntaken b)) (c.deref.ensures.value ∙ c.in-Ok.ensures) c.accept_page.ensures.stops)
