use Rattle.command_line.proofs.Lawful.{all_exclude, some_causes}
use Rattle.command_line.proofs.laws.law_one_ending.Goals as goal

pub returns-clause-excludes : goal.returns-clause-excludes
returns-clause-excludes c = all_exclude record {
  accepts = c.law_reading_is_lawful.ensures.accepting_excludes;
  reads = c.law_reading_is_lawful.ensures.reading_excludes;
  moves = c.law_moving_is_lawful.ensures.excludes;
  parks = c.law_parking_is_lawful.ensures.parking_excludes;
  one = c.law_parking_is_lawful.ensures.one_excludes;
  all = c.law_parking_is_lawful.ensures.all_excludes;
  stresses = c.law_stress_is_lawful.ensures.excludes;
}

pub returns-clause-some : goal.returns-clause-some
returns-clause-some c = some_causes record {
  accepts = c.law_reading_is_lawful.ensures.accepting_decides;
  reads = c.law_reading_is_lawful.ensures.reading_decides;
  moves = c.law_moving_is_lawful.ensures.decides;
  parks = c.law_parking_is_lawful.ensures.parking_decides;
  one = c.law_parking_is_lawful.ensures.one_decides;
  all = c.law_parking_is_lawful.ensures.all_decides;
  stresses = c.law_stress_is_lawful.ensures.decides;
}
