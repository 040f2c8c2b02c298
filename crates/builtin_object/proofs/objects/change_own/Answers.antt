use Rattle.std.specs.Map.{keys_of}
use Rattle.page_meaning.specs.ObjectRows as object
use Rattle.page_state.specs.Does.{no_value}
use Rattle.page_state.proofs.Callers.{asked_gives}
use Rattle.builtin_object.proofs.objects.change_own.Goals as goal

pub returns : goal.returns
returns c = asked_gives (λ s. keys_of (object.props_at s c.args.at)) (λ _. object.change_each c.args.at c.args.change.now) no_value c.args.state.now c.change_each.new.state c.change_each.result (rw (c.as_slice.ensures.value, c.in_ok-names.ensures) at c.change_each.ensures)
