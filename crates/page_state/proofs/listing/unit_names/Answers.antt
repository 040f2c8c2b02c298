use Rattle.page_meaning.specs.Loops as spec
use Rattle.page_state.proofs.Visits.{units_on}
use Rattle.page_state.proofs.listing.unit_names.Goals as goal

pub loop-place-preserved : goal.loop-place-preserved
loop-place-preserved c =
    units_on c.loop-place.names.items c.push.new.self.items (spec.unit_names 0 c.args.units.now) c.args.units.now c.loop-place.place c.in_ok-name.name c.loop-place-test.true
    c.in_ok-name.ensures c.in_ok-push.ensures.items c.loop-place.invariant
