use Rattle.page_meaning.specs.Properties as spec
use Rattle.page_meaning.specs.Convert.{text_in}
use Rattle.js_values.specs.declared.value.Value.TheVariants.{Text}
use Rattle.page_state.specs.Does.{itself}
use Rattle.page_state.proofs.Does.{also_gives, failed}
use Rattle.page_state.proofs.state.State.get_index.Goals as goal

pub returns-in_err-name : goal.returns-in_err-name
returns-in_err-name c = failed (λ calls. spec.key_of calls c.args.base.now c.args.key.now) (λ _ x. spec.read_property c.args.base.now (text_in x)) itself c.args.self.now c.key_of.new.self c.in_err-name.field-0.0 c.from_residual.result c.in_err-name.ensures c.from_residual.ensures

pub returns : goal.returns
returns c = also_gives (λ calls. spec.key_of calls c.args.base.now c.args.key.now) (λ _ x. spec.read_property c.args.base.now (text_in x)) itself (Text c.in_ok-name.name) c.args.self.now c.key_of.new.self c.read_property.new.self c.read_property.result c.in_ok-name.ensures c.read_property.ensures
