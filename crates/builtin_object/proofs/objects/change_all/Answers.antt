use Rattle.std.specs.Map.{keys_of}
use Rattle.js_values.specs.declared.value.Value.TheVariants.{Undefined, Object}
use Rattle.page_meaning.specs.Act.{asking}
use Rattle.page_meaning.specs.ObjectRows as object
use Rattle.page_state.proofs.Callers.{also_gives, failed}
use Rattle.builtin_object.proofs.objects.change_all.Goals as goal

pub returns-in_err-change_own : goal.returns-in_err-change_own
returns-in_err-change_own c = failed (λ _. asking (λ s. keys_of (object.props_at s c.args.at)) (object.change_each c.args.at c.args.change.now)) (λ _ _. object.prevent c.args.at) (λ x. Object x) c.args.state.now c.change_own.new.state c.in_err-change_own.field-0.0 c.from_residual.result c.in_err-change_own.ensures c.from_residual.ensures

pub returns : goal.returns
returns c = also_gives (λ _. asking (λ s. keys_of (object.props_at s c.args.at)) (object.change_each c.args.at c.args.change.now)) (λ _ _. object.prevent c.args.at) (λ x. Object x) Undefined c.args.state.now c.change_own.new.state c.prevent.new.state c.prevent.result c.in_ok-change_own.ensures c.prevent.ensures
