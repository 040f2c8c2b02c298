use Rattle.command_line.proofs.Little.{little_are_parked, little_are_saved}
use Rattle.command_line.proofs.laws.law_little_pages_are_moved.Goals as goal

pub returns : goal.returns
returns c = record {
  saved = little_are_saved c.law_moving_is_lawful.ensures.excludes;
  parked = little_are_parked c.law_parking_is_lawful.ensures.parking_excludes;
}
