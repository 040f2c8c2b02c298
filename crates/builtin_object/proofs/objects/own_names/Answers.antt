use Rattle.std.specs.Map.{keys_of}
use Rattle.js_values.specs.declared.value.Value.TheVariants.{Object}
use Rattle.page_meaning.specs.ObjectRows as object
use Rattle.page_state.proofs.Callers.{asked_gives}
use Rattle.builtin_object.proofs.objects.own_names.Goals as goal

pub returns : goal.returns
returns c = asked_gives (λ s. keys_of (object.props_at s c.args.at)) (λ _. object.new_texts) (λ x. Object x) c.args.state.now c.new_texts.new.state c.new_texts.result (rw (c.as_slice.ensures.value, c.in_ok-names.ensures) at c.new_texts.ensures)
