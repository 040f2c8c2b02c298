use Rattle.page_tokens.proofs.OneToken.{end_tag_stands}
use Rattle.page_tokens.proofs.tokens.end_tag_token.Goals as goal

pub returns-in_ok-folded-in-Some-clause-read : goal.returns-in_ok-folded-in-Some-clause-read
returns-in_ok-folded-in-Some-clause-read c = end_tag_stands _ _ _ _ _ _ c.requires.opens c.without.ensures.read c.in-Some.ensures.read c.in_ok-folded-in-Some.ensures
