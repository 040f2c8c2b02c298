use Rattle.object_heap.specs.Chain.{object_at}
use Rattle.page_meaning.specs.Loops.{listed_own}
use Rattle.std.proofs.Common.{◌++◌}
use Rattle.page_state.proofs.Visits.{own_next}
use Rattle.page_state.proofs.state.State.push_own.Goals as goal

pub loop-place-preserved : goal.loop-place-preserved
loop-place-preserved c =
    let props = (object_at c.args.self.now.heap.objects c.args.at.0).props in
    own_next c.args.at c.args.seen.now.keys props c.loop-place.place c.args.keys.now c.index-keys-place.result c.loop-place.names.items c.push_listed.new.names.items
    (c.args.names.now.items ++ listed_own c.args.at c.args.seen.now.keys props) c.requires c.loop-place-test.true c.index-keys-place.is c.in_ok-push_listed.ensures c.loop-place.invariant
