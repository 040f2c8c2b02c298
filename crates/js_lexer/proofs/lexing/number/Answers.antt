use Rattle.std.proofs.Common.{sym}
use Rattle.js_lexer.proofs.OneToken.{number_stands, number_refused, point_refused, shorter, digit_unquoted}
use Rattle.js_lexer.proofs.lexing.number.Goals as goal

pub returns-clause-read : goal.returns-clause-read
returns-clause-read c = number_stands _ _ _ _ _ c.literal_len.ensures.read c.split_at.ensures.front c.split_at.ensures.back c.in_ok-value.ensures (sym c.if-begins_with_point.ensures)

pub returns-clause-shorter : goal.returns-clause-shorter
returns-clause-shorter c = shorter _ _ _ (returns-clause-read c) (digit_unquoted _ c.requires)

pub returns-in_err-value-clause-read : goal.returns-in_err-value-clause-read
returns-in_err-value-clause-read c = rw c.from_residual.ensures (number_refused c.args.text.now _ _ _ c.requires c.literal_len.ensures.read c.split_at.ensures.front c.split_at.ensures.back c.in_err-value.ensures)

pub returns-then-begins_with_point-clause-read : goal.returns-then-begins_with_point-clause-read
returns-then-begins_with_point-clause-read c = point_refused _ _ _ _ c.requires c.literal_len.ensures.read c.split_at.ensures.front c.split_at.ensures.back (sym c.if-begins_with_point.ensures)
