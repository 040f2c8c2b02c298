use Rattle.js_values.specs.declared.value.Value.TheVariants.{Object}
use Rattle.page_meaning.specs.ObjectRows as object
use Rattle.page_state.proofs.Callers.{handed}
use Rattle.builtin_object.proofs.objects.define_properties_in.Goals as goal

pub returns-in_err-define_from : goal.returns-in_err-define_from
returns-in_err-define_from c = handed (λ _. object.define_properties c.args.descriptors.now c.args.at) (λ x. Object x) c.args.state.now c.define_from.new.state c.in_err-define_from.field-0.0 c.from_residual.result c.in_err-define_from.ensures c.from_residual.ensures
