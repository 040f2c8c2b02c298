use Rattle.std.proofs.Common.{arith}
use Rattle.heap_walker.proofs.Walks.{not_more, part_ends, part_goes_on_from}
use Rattle.heap_walker.proofs.reached.see_rest.Goals as goal

pub loop-first-smaller : goal.loop-first-smaller
loop-first-smaller c =
    let fits = not_more c.args.state.now c.loop-first.first c.loop-first.seen.keys c.len.ensures.unique c.loop-first.invariant in
    omega (arith, fits, c.len.ensures.len, c.loop-first-test.true)

pub loop-first-preserved : goal.loop-first-preserved
loop-first-preserved c =
    part_goes_on_from c.args.state.now c.loop-first.first _ c.loop-first.seen.keys c.see_links.new.seen.keys c.as_slice.result.now (omega (arith, c.len.ensures.len, c.loop-first-test.true)) c.as_slice.ensures.keys c.in_ok-see_links.ensures
    c.loop-first.invariant

pub returns : goal.returns
returns c = part_ends c.args.state.now c.loop-first.first c.loop-first.seen.keys (omega (arith, c.len.ensures.len, c.loop-first-test.false)) c.loop-first.invariant
