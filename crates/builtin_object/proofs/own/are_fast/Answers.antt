use Rattle.std.proofs.Common.{refl}
use Rattle.page_meaning.specs.ObjectRows as object
use Rattle.builtin_object.proofs.Owned as owned
use Rattle.builtin_object.proofs.own.are_fast.Goals as goal

pub returns-then-not-is_fast_at : goal.returns-then-not-is_fast_at
returns-then-not-is_fast_at c = owned.all_stop c.args.frozen (object.props_at c.args.state.now c.args.at) c.loop-place.place _ (c.if-not-is_fast_at.ensures) refl c.loop-place.invariant

pub loop-place-preserved : goal.loop-place-preserved
loop-place-preserved c = owned.all_on c.args.frozen (object.props_at c.args.state.now c.args.at) c.loop-place.place _ c.if-not-is_fast_at.ensures refl c.loop-place.invariant
