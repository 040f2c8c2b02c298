use Rattle.page_state.proofs.Visits.{any_next}
use Rattle.page_state.proofs.listing.add_seen.Goals as goal

pub loop-name-preserved : goal.loop-name-preserved
loop-name-preserved c x =
    any_next x c.loop-name.seen.keys c.insert.new.self.keys c.args.seen.now.keys c.args.keys.now c.loop-name.name-index c.in_ok-clone.field-0 c.name-item.result
    (c.loop-name.invariant x) c.loop-name-test.true c.name-item.is c.in_ok-clone.ensures c.in_ok-insert.ensures.keys
