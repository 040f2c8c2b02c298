use Rattle.std.proofs.Common.{◌≡◌, ◌-◌, true, false, is_some, subst, sym, arith}
use Rattle.code_table.specs.Node.{and_child}
use Rattle.page_frames.specs.RestLoops.{through_from}
use Rattle.page_frames.specs.Where.{spot_node}
use Rattle.step_stmt.specs.Cases.{default_of}
use Rattle.step_stmt.proofs.Switching.{defaults_begin, finds_default, passes_test}
use Rattle.step_stmt.proofs.cases.default_index.Goals as goal

pub loop-index-init : goal.loop-index-init
loop-index-init c = defaults_begin (spot_node c.args.spot.now) c.args.count c.requires.count

pub loop-index-preserved : goal.loop-index-preserved
loop-index-preserved c =
    passes_test (spot_node c.args.spot.now) c.loop-index.index (c.loop-index.index - 1) c.requires.kind (omega arith)
    (subst (λ p. true ≡ is_some (and_child (spot_node c.args.spot.now) p)) c.test_place.ensures c.if-not-has_part.ensures) c.loop-index.invariant

pub returns-then-not-has_part-clause-same : goal.returns-then-not-has_part-clause-same
returns-then-not-has_part-clause-same c calls here =
    subst (λ n. default_of calls here (spot_node c.args.spot.now) n ≡ through_from calls here (spot_node c.args.spot.now) (c.loop-index.index - 1)) (sym c.requires.count)
    (finds_default (spot_node c.args.spot.now) c.loop-index.index (c.loop-index.index - 1) c.requires.kind (omega arith)
    (subst (λ p. false ≡ is_some (and_child (spot_node c.args.spot.now) p)) c.test_place.ensures c.if-not-has_part.ensures) c.loop-index.invariant calls here)
