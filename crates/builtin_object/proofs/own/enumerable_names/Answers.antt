use Rattle.page_meaning.specs.ObjectRows as object
use Rattle.builtin_object.proofs.Owned as owned
use Rattle.builtin_object.proofs.own.enumerable_names.Goals as goal

pub loop-place-preserved : goal.loop-place-preserved
loop-place-preserved c = owned.names_on (object.props_at c.args.state.now c.args.at) c.loop-place.place c.loop-place.names.items c.push_enumerable.new.names.items c.in_ok-push_enumerable.ensures c.loop-place.invariant
