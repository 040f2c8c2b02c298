use Rattle.std.proofs.Common.{refl, sym}
use Rattle.page_tokens.specs.Tokens.TokenAt.{start_tag}
use Rattle.page_tokens.proofs.OneToken.{raw_refused, raw_stands}
use Rattle.page_tokens.proofs.tokens.element_token.Goals as goal

pub returns-then-not-begins_raw_text-clause-read : goal.returns-then-not-begins_raw_text-clause-read
returns-then-not-begins_raw_text-clause-read c = start_tag _ _ _ c.in_ok-tag.ensures.read (sym c.if-not-begins_raw_text.ensures)

pub returns-in_default-clause-refused : goal.returns-in_default-clause-refused
returns-in_default-clause-refused c =
    raw_refused _ _ _ _ c.in_ok-tag.ensures.read (sym c.if-not-begins_raw_text.ensures) (rw c.as_slice.ensures.value at c.in_default.ensures.read)

pub returns-clause-read : goal.returns-clause-read
returns-clause-read c =
    raw_stands _ _ _ _ _ _ _ _ _ c.in_ok-tag.ensures.read (sym c.if-not-begins_raw_text.ensures) (rw c.as_slice.ensures.value at c.in-Some.ensures.read) c.in_ok-text.ensures refl refl
