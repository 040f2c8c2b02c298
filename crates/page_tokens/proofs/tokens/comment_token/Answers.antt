use Rattle.page_tokens.proofs.OneToken.{comment_stands}
use Rattle.page_tokens.proofs.tokens.comment_token.Goals as goal

pub returns-in_ok-of-in-Some-clause-read : goal.returns-in_ok-of-in-Some-clause-read
returns-in_ok-of-in-Some-clause-read c = comment_stands _ _ _ _ _ _ c.requires.opens c.without.ensures.read c.in-Some.ensures.read c.in_ok-of-in-Some.ensures
