use Rattle.std.proofs.Common.{Some, pos}
use Rattle.whole_ops.specs.Arithmetic.{whole_sub}
use Rattle.page_meaning.specs.Convert.{as_number}
use Rattle.page_meaning.specs.Errors.{settle}
use Rattle.page_state.specs.Does.{itself}
use Rattle.page_state.proofs.Passing.{passes}
use Rattle.page_state.proofs.state.State.negated.Goals as goal

pub returns-in_err-negated : goal.returns-in_err-negated
returns-in_err-negated c =
    passes (λ _. settle (as_number (whole_sub (Some (pos 0)) c.args.number))) itself
    c.args.self.now c.in_range.new.self c.from_residual.result c.in_err-negated.field-0.0 c.from_residual.ensures.1 (rw (c.sub.ensures, c.zero.ensures) at c.in_err-negated.ensures)

pub returns : goal.returns
returns c = rw (c.sub.ensures, c.zero.ensures) at c.in_ok-negated.ensures
