use Rattle.std.proofs.Common.{Ok}
use Rattle.js_values.specs.declared.value.Value.TheVariants.{Undefined, Text}
use Rattle.page_host.specs.HostNames.{text_step}
use Rattle.page_meaning.specs.Convert.{text_in, to_text}
use Rattle.page_meaning.specs.HostPuts.{stepped}
use Rattle.page_state.specs.Does.{itself}
use Rattle.page_state.proofs.Does.{also_gives, failed}
use Rattle.page_state.proofs.Putting.{stepped_does}
use Rattle.page_state.proofs.state.State.put_as_attribute.Goals as goal

pub returns-in_err-text : goal.returns-in_err-text
returns-in_err-text c =
    failed (λ calls. to_text calls c.args.value.now) (λ _ x. stepped (text_step c.args.node c.args.host (text_in x))) itself c.args.self.now c.text_put.new.self
    c.in_err-text.field-0.0 c.from_residual.result c.in_err-text.ensures.text c.from_residual.ensures

pub returns : goal.returns
returns c =
    also_gives (λ calls. to_text calls c.args.value.now) (λ _ x. stepped (text_step c.args.node c.args.host (text_in x))) itself (Text c.in_ok-text.text) c.args.self.now
    c.text_put.new.self c.put_text.new.self (Ok Undefined) c.in_ok-text.ensures.text
    (stepped_does (text_step c.args.node c.args.host c.in_ok-text.text) c.text_put.new.self c.put_text.new.self c.in_ok-put_text.ensures)
