use Rattle.std.proofs.Common.{◌≡◌, subst}
use Rattle.page_frames.specs.Where.{spot_node}
use Rattle.step_stmt.specs.Cases.{default_at, default_of}
use Rattle.step_stmt.proofs.Switching.{default_runs, no_default}
use Rattle.step_stmt.proofs.cases.run_default.Goals as goal

pub returns-in-Some : goal.returns-in-Some
returns-in-Some c w i =
    default_runs c.args.spot i c.in-Some.index c.default_index.result w c.args.meter.now c.through.result c.requires c.in-Some.is
    (subst (λ n. (calls : _) (here : _) → default_of calls here (spot_node c.args.spot) n ≡ default_at calls here (spot_node c.args.spot) c.default_index.result) c.case_count-count.ensures.count c.default_index.ensures.same) (c.through.ensures w)

pub returns-in-None : goal.returns-in-None
returns-in-None c w i =
    rw (c.nothing.ensures)
    (no_default c.args.spot i c.default_index.result w c.args.meter.now c.in-None.is
    (subst (λ n. (calls : _) (here : _) → default_of calls here (spot_node c.args.spot) n ≡ default_at calls here (spot_node c.args.spot) c.default_index.result) c.case_count-count.ensures.count c.default_index.ensures.same))
