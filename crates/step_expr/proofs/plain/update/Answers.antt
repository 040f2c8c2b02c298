use Rattle.std.proofs.Common.{sym}
use Rattle.page_meaning.specs.Act.{also}
use Rattle.page_meaning.specs.Names.{read, resolve, write}
use Rattle.page_meaning.specs.Operators.{update_with}
use Rattle.page_frames.specs.Where.{here_of}
use Rattle.page_state.specs.Does.{itself}
use Rattle.page_state.proofs.Callers.{bind_gives}
use Rattle.step_expr.proofs.plain.update.Goals as goal

pub returns : goal.returns
returns c =
    bind_gives (λ _. resolve (here_of c.args.spot.now) c.args.name.now)
    (λ calls r. also (read c.args.name.now r) (update_with calls c.args.up c.args.prefix (write c.args.name.now r))) itself c.resolve-reference.result c.args.state.now c.args.state.now c.update_name.new.self c.update_name.result
    (c.resolve-reference.ensures (here_of c.args.spot.now) (sym c.env.ensures)) c.update_name.ensures
