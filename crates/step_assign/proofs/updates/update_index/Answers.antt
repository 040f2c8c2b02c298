use Rattle.js_values.specs.declared.value.Value.TheVariants.{Text}
use Rattle.page_meaning.specs.Act.{also}
use Rattle.page_meaning.specs.Convert.{text_in}
use Rattle.page_meaning.specs.Operators.{update_with}
use Rattle.page_meaning.specs.Properties.{key_of, read_property}
use Rattle.page_meaning.specs.HostPuts.{put_member}
use Rattle.page_state.specs.Does.{itself}
use Rattle.page_state.proofs.Callers.{also_gives, failed}
use Rattle.step_assign.proofs.updates.update_index.Goals as goal

pub returns-in_err-name : goal.returns-in_err-name
returns-in_err-name c =
    failed (λ calls. key_of calls c.args.base.now c.args.key.now) (λ calls k. also (read_property c.args.base.now (text_in k)) (update_with calls c.args.up c.args.prefix (put_member calls c.args.base.now (text_in k)))) itself
    c.args.state.now c.key_of.new.self c.in_err-name.field-0.0 c.from_residual.result c.in_err-name.ensures c.from_residual.ensures

pub returns : goal.returns
returns c =
    also_gives (λ calls. key_of calls c.args.base.now c.args.key.now) (λ calls k. also (read_property c.args.base.now (text_in k)) (update_with calls c.args.up c.args.prefix (put_member calls c.args.base.now (text_in k)))) itself
    (Text c.in_ok-name.name) c.args.state.now c.key_of.new.self c.update_named.new.state c.update_named.result c.in_ok-name.ensures c.update_named.ensures
