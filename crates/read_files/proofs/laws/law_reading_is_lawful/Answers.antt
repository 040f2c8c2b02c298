use Rattle.outcomes.specs.Lawful.{nothing_before}
use Rattle.read_files.proofs.Lawful.{AnswersAreOne, accepting_decided, accepting_exclusive, reading_decided, reading_exclusive}
use Rattle.read_files.proofs.laws.law_reading_is_lawful.Goals as goal

pub returns : goal.returns
returns c =
    let laws : AnswersAreOne = record {
      one_page = c.law_one_answer.ensures.accepted;
      one_cause = c.law_one_answer.ensures.refused;
      not_both = c.law_one_answer.ensures.not_both;
      some = c.law_one_answer.ensures.some;
    } in
    record {
      accepting_excludes = λ p. accepting_exclusive laws p;
      accepting_decides = λ p. accepting_decided laws nothing_before p;
      reading_excludes = λ p e. reading_exclusive laws p e;
      reading_decides = λ p e. reading_decided laws nothing_before p e;
    }
