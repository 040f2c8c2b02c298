use Rattle.std.proofs.Common.{subst, ℕ, IfOk}
use Rattle.page_meaning.specs.Calls.{calls_at}
use Rattle.page_frames.specs.RestExpressions.{each_from}
use Rattle.page_frames.specs.Step.{Leads}
use Rattle.page_frames.specs.Weight.{weigh}
use Rattle.page_frames.specs.Where.{here_of, spot_node}
use Rattle.step_expr.proofs.sequences.go_comma.Goals as goal

pub returns : goal.returns
returns c =
    subst (λ (k : ℕ). IfOk c.parts_from.result (λ n. Leads (each_from (calls_at c.args.meter.now.depth) (here_of c.args.spot) (spot_node c.args.spot) k c.args.value) (weigh (spot_node c.args.spot) k) c.args.state.now c.args.meter.now n c.args.state.now c.args.meter.now))
    c.in_ok-next.ensures c.parts_from.ensures
