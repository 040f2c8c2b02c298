use Rattle.std.proofs.Common.{refl, Ok}
use Rattle.js_values.specs.declared.value.Value.TheVariants.{Undefined, Object}
use Rattle.page_meaning.specs.Descriptors as descriptor
use Rattle.page_meaning.specs.ObjectRows as object
use Rattle.page_state.proofs.Callers.{given, one_fails, one_on}
use Rattle.new_lists.specs.Lists.{for_object}
use Rattle.std.proofs.Math.ListN.{drop_of_length-le}
use Rattle.builtin_object.proofs.objects.define_each.Goals as goal

pub returns-in_err-define_in : goal.returns-in_err-define_in
returns-in_err-define_in c = c.loop-named.invariant c.define_in.new.state c.from_residual.result (one_fails (λ _. object.define_each c.args.at) (λ _ x. descriptor.define_in c.args.at x.0 x.1) (for_object c.args.at) (λ k x xs. refl) c.args.changes.now c.loop-named.named-index c.named-item.result c.loop-named.state c.define_in.new.state c.in_err-define_in.field-0.0 c.from_residual.result c.loop-named-test.true c.named-item.is c.in_err-define_in.ensures c.from_residual.ensures)

pub loop-named-preserved : goal.loop-named-preserved
loop-named-preserved c t r g = c.loop-named.invariant t r (one_on (λ _. object.define_each c.args.at) (λ _ x. descriptor.define_in c.args.at x.0 x.1) (for_object c.args.at) (λ k x xs. refl) c.args.changes.now c.loop-named.named-index c.named-item.result Undefined c.loop-named.state c.define_in.new.state t r c.loop-named-test.true c.named-item.is c.in_ok-define_in.ensures g)

pub returns : goal.returns
returns c = c.loop-named.invariant c.loop-named.state (Ok tt) (rw (drop_of_length-le c.args.changes.now c.loop-named-test.false) (given (Object c.args.at) c.loop-named.state))
