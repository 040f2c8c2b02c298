use Rattle.page_host.proofs.Texts.{when_long, when_short}
use Rattle.page_host.proofs.reading.joined_text.Goals as goal

pub returns-in-Some : goal.returns-in-Some
returns-in-Some c = when_short _ _ _ c.in_ok-text.ensures c.in-Some.is

pub returns-in-None : goal.returns-in-None
returns-in-None c = when_long _ _ c.in_ok-text.ensures c.in-None.is
