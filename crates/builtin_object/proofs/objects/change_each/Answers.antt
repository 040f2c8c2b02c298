use Rattle.std.proofs.Common.{refl, Ok}
use Rattle.js_values.specs.declared.value.Value.TheVariants.{Undefined}
use Rattle.page_meaning.specs.Descriptors as descriptor
use Rattle.page_meaning.specs.ObjectRows as object
use Rattle.page_state.specs.Does.{no_value}
use Rattle.page_state.proofs.Callers.{given, one_fails, one_on}
use Rattle.std.proofs.Math.ListN.{drop_of_length-le}
use Rattle.builtin_object.proofs.objects.change_each.Goals as goal

pub returns-in_err-define_in : goal.returns-in_err-define_in
returns-in_err-define_in c = c.loop-name.invariant c.define_in.new.state c.from_residual.result (one_fails (λ _. object.change_each c.args.at c.args.change.now) (λ _ x. descriptor.define_in c.args.at x c.args.change.now) no_value (λ k x xs. refl) c.args.names.now c.loop-name.name-index c.name-item.result c.loop-name.state c.define_in.new.state c.in_err-define_in.field-0.0 c.from_residual.result c.loop-name-test.true c.name-item.is c.in_err-define_in.ensures c.from_residual.ensures)

pub loop-name-preserved : goal.loop-name-preserved
loop-name-preserved c t r g = c.loop-name.invariant t r (one_on (λ _. object.change_each c.args.at c.args.change.now) (λ _ x. descriptor.define_in c.args.at x c.args.change.now) no_value (λ k x xs. refl) c.args.names.now c.loop-name.name-index c.name-item.result Undefined c.loop-name.state c.define_in.new.state t r c.loop-name-test.true c.name-item.is c.in_ok-define_in.ensures g)

pub returns : goal.returns
returns c = c.loop-name.invariant c.loop-name.state (Ok tt) (rw (drop_of_length-le c.args.names.now c.loop-name-test.false) (given Undefined c.loop-name.state))
