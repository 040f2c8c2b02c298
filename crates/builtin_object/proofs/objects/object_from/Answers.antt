use Rattle.js_values.specs.declared.value.Value.TheVariants.{Object}
use Rattle.page_meaning.specs.Expressions.{new_plain}
use Rattle.page_meaning.specs.Functions.{object_of}
use Rattle.page_state.proofs.Callers.{bind_does, given}
use Rattle.builtin_object.proofs.ValueKinds as kinds
use Rattle.builtin_object.proofs.objects.object_from.Goals as goal

pub returns-in_default : goal.returns-in_default
returns-in_default c = rw (kinds.no_plain c.args.value.now c.in_default.not-Object c.in_default.not-Undefined c.in_default.not-Null) c.raise.ensures

pub returns-in_ok-new_plain-in-Undefined : goal.returns-in_ok-new_plain-in-Undefined
returns-in_ok-new_plain-in-Undefined c = rw (kinds.plain c.args.value.now c.in-Undefined.is) (bind_does (λ _. new_plain) (λ _. object_of) c.in_ok-new_plain-in-Undefined.field-0 _ c.args.state.now c.new_plain.new.self c.new_plain.new.self c.in_ok-new_plain-in-Undefined.ensures (given (Object c.in_ok-new_plain-in-Undefined.field-0) c.new_plain.new.self))
