use Rattle.std.proofs.Common.{map}
use Rattle.page_state.proofs.Visits.{any_next, many_named, named}
use Rattle.page_state.proofs.listing.add_units.Goals as goal

pub loop-name-preserved : goal.loop-name-preserved
loop-name-preserved c x =
    any_next x c.loop-name.seen.keys c.insert.new.self.keys c.args.seen.now.keys (map (λ p. p.1) c.args.names.now) c.loop-name.name-index c.in_ok-clone.field-0 c.loop-name-item.result.1
    (c.loop-name.invariant x) (many_named c.args.names.now c.loop-name.name-index c.loop-name-test.true) (named c.args.names.now c.loop-name.name-index c.loop-name-item.result c.loop-name-item.is)
    c.in_ok-clone.ensures c.in_ok-insert.ensures.keys
