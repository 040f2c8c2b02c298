use Rattle.page_meaning.specs.ObjectRows as object
use Rattle.page_state.proofs.Callers.{asked_gives, asked_raises}
use Rattle.new_lists.specs.Lists.{for_object}
use Rattle.builtin_object.proofs.objects.define_all.Goals as goal

pub returns-in-Ok : goal.returns-in-Ok
returns-in-Ok c = asked_gives (λ s. object.all_changes s c.args.from) (λ _. object.define_given c.args.at) (for_object c.args.at) c.args.state.now c.define_each.new.state c.define_each.result (rw (← c.in_ok-changes.ensures, c.in-Ok.is) (rw c.as_slice.ensures.value at c.define_each.ensures))

pub returns-in-Err : goal.returns-in-Err
returns-in-Err c = asked_raises (λ s. object.all_changes s c.args.from) (λ _. object.define_given c.args.at) c.args.state.now c.raise.new.self c.raise.result (rw (← c.in_ok-changes.ensures, c.in-Err.is) c.raise.ensures)
