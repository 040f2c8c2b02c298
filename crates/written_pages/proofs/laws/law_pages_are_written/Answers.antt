use Rattle.page_meaning.specs.Pages.{run_of}
use Rattle.written_pages.proofs.Pages.{pages_stay_literal}
use Rattle.written_pages.proofs.Written.{can_be_written}
use Rattle.written_pages.proofs.laws.law_pages_are_written.Goals as goal

pub returns : goal.returns
returns c = λ page events n h k. can_be_written (run_of page events) (pages_stay_literal page events n h k)
