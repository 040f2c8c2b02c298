use Rattle.std.proofs.Common.{sym}
use Rattle.page_tokens.proofs.OneToken.{space_stands, text_is_shorter, text_stands}
use Rattle.page_tokens.proofs.tokens.text_token.Goals as goal

pub returns-then-is_blank-clause-read : goal.returns-then-is_blank-clause-read
returns-then-is_blank-clause-read c = space_stands _ _ _ _ _ _ c.requires.opens c.len_before.ensures.read c.split_at.ensures.front c.split_at.ensures.back (sym c.if-is_blank.ensures) c.in_ok-of.ensures

pub returns-then-is_blank-clause-shorter : goal.returns-then-is_blank-clause-shorter
returns-then-is_blank-clause-shorter c = text_is_shorter _ _ _ c.requires.opens c.len_before.ensures.read c.requires.some c.split_at.ensures.back_len

pub returns-clause-read : goal.returns-clause-read
returns-clause-read c = text_stands _ _ _ _ _ _ c.requires.opens c.len_before.ensures.read c.split_at.ensures.front c.split_at.ensures.back (sym c.if-is_blank.ensures) c.in_ok-decoded.ensures.read

pub returns-clause-shorter : goal.returns-clause-shorter
returns-clause-shorter c = text_is_shorter _ _ _ c.requires.opens c.len_before.ensures.read c.requires.some c.split_at.ensures.back_len
