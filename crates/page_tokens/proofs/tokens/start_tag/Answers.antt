use Rattle.page_tokens.proofs.OneToken.{start_tag_refused}
use Rattle.page_tokens.proofs.tokens.start_tag.Goals as goal

pub returns-in_default-clause-refused : goal.returns-in_default-clause-refused
returns-in_default-clause-refused c =
    start_tag_refused _ _ _ _ _ _ c.without-inner.ensures.read c.name_len.ensures.read c.split_at.ensures.back c.in_ok-attributes.ensures.read c.in_default.ensures.read
