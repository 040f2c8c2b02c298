use Rattle.std.proofs.Common.{Ok}
use Rattle.js_values.specs.declared.value.Value.TheVariants.{Undefined, Object}
use Rattle.page_meaning.specs.Act.{give}
use Rattle.page_meaning.specs.Descriptors as descriptor
use Rattle.page_state.proofs.Callers.{also_gives, failed, given}
use Rattle.builtin_object.proofs.definitions.defined.Goals as goal

pub returns-in_err-define_in : goal.returns-in_err-define_in
returns-in_err-define_in c = failed (λ _. descriptor.define_in c.args.at c.args.name.now c.args.change.now) (λ _ _. give (Object c.args.at)) (λ x. Object x) c.args.state.now c.define_in.new.state c.in_err-define_in.field-0.0 c.from_residual.result c.in_err-define_in.ensures c.from_residual.ensures

pub returns : goal.returns
returns c = also_gives (λ _. descriptor.define_in c.args.at c.args.name.now c.args.change.now) (λ _ _. give (Object c.args.at)) (λ x. Object x) Undefined c.args.state.now c.define_in.new.state c.define_in.new.state (Ok c.args.at) c.in_ok-define_in.ensures (given (Object c.args.at) c.define_in.new.state)
