use Rattle.std.proofs.Common.{sym}
use Rattle.page_meaning.specs.Names.{type_of_name}
use Rattle.page_frames.specs.Where.{here_of}
use Rattle.step_expr.proofs.Moving.{handed}
use Rattle.step_expr.proofs.plain.type_of.Goals as goal

pub returns-in_err-type_of_name : goal.returns-in_err-type_of_name
returns-in_err-type_of_name c =
    handed (λ _. type_of_name (here_of c.args.spot.now) c.args.name.now) c.args.state.now c.type_of_name.new.self c.in_err-type_of_name.field-0.0 c.from_residual.result
    (c.in_err-type_of_name.ensures (here_of c.args.spot.now) (sym c.env.ensures)) c.from_residual.ensures

pub returns : goal.returns
returns c = c.in_ok-type_of_name.ensures (here_of c.args.spot.now) (sym c.env.ensures)
