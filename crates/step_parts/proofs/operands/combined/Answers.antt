use Rattle.std.proofs.Common.{sym, ◌∙◌}
use Rattle.page_frames.specs.Where.{numbered}
use Rattle.step_parts.proofs.Combining.{reads_binary, reads_index}
use Rattle.step_parts.proofs.operands.combined.Goals as goal

pub returns-in-Binary-Some : goal.returns-in-Binary-Some
returns-in-Binary-Some c =
    reads_binary c.operated.result (numbered c.args.spot.now c.args.number) c.in-Binary-Some.op c.args.state.now c.args.first.now c.in-Binary-Some.second (sym c.kind_at.ensures ∙ c.in-Binary-Some.is-0) c.requires.first
    (rw c.in-Binary-Some.is-1 at c.requires.second) c.operated.ensures

pub returns-in-Index-Some : goal.returns-in-Index-Some
returns-in-Index-Some c =
    reads_index c.element.result (numbered c.args.spot.now c.args.number) c.args.state.now c.args.first.now c.in-Index-Some.second (sym c.kind_at.ensures ∙ c.in-Index-Some.is-0) c.requires.first
    (rw c.in-Index-Some.is-1 at c.requires.second) c.element.ensures
