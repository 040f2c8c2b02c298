use Rattle.std.proofs.Common.{refl, sym, ◌∙◌}
use Rattle.js_values.specs.declared.value.Value.TheVariants as value
use Rattle.page_meaning.specs.declared.signal.Signal.TheVariants.{Value as Val}
use Rattle.page_meaning.specs.Functions.{object_of}
use Rattle.page_meaning.specs.Primitives.{make_event}
use Rattle.page_state.proofs.Callers.{bind_does}
use Rattle.dom_host.proofs.events.new_event.Goals as goal

pub returns-in_ok-make_event : goal.returns-in_ok-make_event
returns-in_ok-make_event c =
    rw (sym c.in_ok-is_event_word.ensures ∙ c.if-branch.true)
    (bind_does (λ _. make_event) (λ _. object_of) c.in_ok-make_event.field-0 (Val (value.Object c.in_ok-make_event.field-0))
    c.args.state.now c.make_event.new.self c.make_event.new.self c.in_ok-make_event.ensures (record { is = λ calls n. refl }))

pub returns-else-branch : goal.returns-else-branch
returns-else-branch c = rw (sym c.in_ok-is_event_word.ensures ∙ c.if-branch.false) c.raise.ensures
