use Rattle.std.proofs.Common.{add-one, arith, subst, sym, ℕ}
use Rattle.page_frames.specs.Where.{spot_node}
use Rattle.step_expr.specs.Holding.{Skips}
use Rattle.step_expr.proofs.InTurn.{skips_none, skips_one}
use Rattle.step_expr.proofs.elements.next_element.Goals as goal

pub loop-next-init : goal.loop-next-init
loop-next-init c = skips_none (spot_node c.args.spot.now) c.args.k

pub returns-then-has_part-clause-skipped : goal.returns-then-has_part-clause-skipped
returns-then-has_part-clause-skipped c = c.loop-next.invariant

pub loop-next-preserved : goal.loop-next-preserved
loop-next-preserved c =
    subst (λ (n : ℕ). Skips (spot_node c.args.spot.now) c.args.k n) (sym (add-one c.loop-next.next))
    (skips_one (spot_node c.args.spot.now) c.args.k c.loop-next.next c.requires c.loop-next.invariant c.if-has_part.ensures (omega arith))

pub returns-clause-skipped : goal.returns-clause-skipped
returns-clause-skipped c = c.loop-next.invariant
