use Rattle.std.proofs.Common.{◌≡◌, ◌+◌, false, is_some, subst, arith}
use Rattle.code_table.specs.Node.{and_child}
use Rattle.page_frames.specs.Where.{spot_node}
use Rattle.step_stmt.proofs.Switching.{no_more, skips, tests_begin}
use Rattle.step_stmt.proofs.cases.next_test.Goals as goal

pub loop-index-init : goal.loop-index-init
loop-index-init c = tests_begin (spot_node c.args.spot.now) c.args.from (omega arith)

pub loop-index-preserved : goal.loop-index-preserved
loop-index-preserved c =
    skips (spot_node c.args.spot.now) c.args.from c.loop-index.index (c.loop-index.index + 1) c.requires.kind (omega arith) (omega arith)
    (subst (λ p. false ≡ is_some (and_child (spot_node c.args.spot.now) p)) c.test_place.ensures c.if-has_part.ensures) c.loop-index.invariant

pub returns : goal.returns
returns c = no_more (spot_node c.args.spot.now) c.args.from c.loop-index.index c.requires.kind (omega arith) c.loop-index.invariant
