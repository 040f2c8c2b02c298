use Rattle.migrate.proofs.Lawful.{save_decided, save_exclusive}
use Rattle.read_files.proofs.Callers.{AnswersAreOne}
use Rattle.migrate.proofs.laws.law_moving_is_lawful.Goals as goal

pub returns : goal.returns
returns c =
    let laws : AnswersAreOne = record {
      one_page = c.law_one_answer.ensures.accepted;
      one_cause = c.law_one_answer.ensures.refused;
      not_both = c.law_one_answer.ensures.not_both;
      some = c.law_one_answer.ensures.some;
    } in
    record {
      excludes = λ p e. save_exclusive laws p e;
      decides = λ p e. save_decided laws p e;
    }
