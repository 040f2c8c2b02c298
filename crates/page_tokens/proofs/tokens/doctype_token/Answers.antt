use Rattle.page_tokens.proofs.OneToken.{doctype_stands}
use Rattle.page_tokens.proofs.tokens.doctype_token.Goals as goal

pub returns-in-Some-clause-read : goal.returns-in-Some-clause-read
returns-in-Some-clause-read c = doctype_stands _ _ _ _ c.requires.opens c.without.ensures.read c.in-Some.ensures.read
