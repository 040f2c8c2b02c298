use Rattle.stress.proofs.Faring.{made_pages}
use Rattle.stress.proofs.Lawful.{stress_decided, stress_exclusive}
use Rattle.stress.proofs.laws.law_stress_is_lawful.Goals as goal

pub returns : goal.returns
returns c = record {
  excludes = λ n. stress_exclusive n c.law_one_answer.ensures.accepted;
  decides = λ n parts. stress_decided n (made_pages c.law_generated_pages_are_accepted.ensures c.law_generated_lists_are_read.ensures) parts;
}
