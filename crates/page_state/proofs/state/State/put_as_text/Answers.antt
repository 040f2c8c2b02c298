use Rattle.std.proofs.Common.{Ok}
use Rattle.js_values.specs.declared.value.Value.TheVariants.{Undefined, Text}
use Rattle.page_host.specs.HostNames.{text_step}
use Rattle.page_meaning.specs.Convert.{text_in}
use Rattle.page_meaning.specs.HostPuts.{stepped, text_or_empty}
use Rattle.page_state.specs.Does.{itself}
use Rattle.page_state.proofs.Does.{also_gives}
use Rattle.page_state.proofs.Putting.{stepped_does}
use Rattle.page_state.proofs.state.State.put_as_text.Goals as goal

pub returns : goal.returns
returns c =
    also_gives (λ calls. text_or_empty calls c.args.value.now) (λ _ x. stepped (text_step c.args.node c.args.host (text_in x))) itself (Text c.in_ok-text.text) c.args.self.now
    c.text_or_empty.new.self c.put_text.new.self (Ok Undefined) c.in_ok-text.ensures.text
    (stepped_does (text_step c.args.node c.args.host c.in_ok-text.text) c.text_or_empty.new.self c.put_text.new.self c.in_ok-put_text.ensures)
