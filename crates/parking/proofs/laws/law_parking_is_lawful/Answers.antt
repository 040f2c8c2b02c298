use Rattle.read_files.proofs.Callers.{AnswersAreOne}
use Rattle.parking.proofs.Lawful.{all_decided, all_exclusive, one_decided, one_exclusive, parking_decided, parking_exclusive}
use Rattle.parking.proofs.laws.law_parking_is_lawful.Goals as goal

pub returns : goal.returns
returns c =
    let laws : AnswersAreOne = record {
      one_page = c.law_one_answer.ensures.accepted;
      one_cause = c.law_one_answer.ensures.refused;
      not_both = c.law_one_answer.ensures.not_both;
      some = c.law_one_answer.ensures.some;
    } in
    record {
      parking_excludes = λ p e name. parking_exclusive laws p e name;
      parking_decides = λ p e name. parking_decided laws p e name;
      one_excludes = λ name version. one_exclusive name version;
      one_decides = λ name version. one_decided name version;
      all_excludes = all_exclusive;
      all_decides = all_decided;
    }
