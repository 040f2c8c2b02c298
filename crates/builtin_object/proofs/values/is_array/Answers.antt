use Rattle.std.proofs.Common.{ap, ◌∙◌, false}
use Rattle.js_values.specs.declared.value.Value.TheVariants.{Bool as Truth}
use Rattle.object_heap.specs.Object.{is_list}
use Rattle.page_meaning.specs.Properties.{class_at}
use Rattle.page_state.proofs.Callers.{given}
use Rattle.builtin_object.proofs.ValueKinds as kinds
use Rattle.builtin_object.proofs.Told.{told}
use Rattle.builtin_object.proofs.values.is_array.Goals as goal

pub returns-in-Object : goal.returns-in-Object
returns-in-Object c = rw c.in-Object.is (told (λ s. is_list (class_at s c.in-Object.at)) (λ x. Truth x) c.is_list.result c.args.state.now (c.is_list.ensures ∙ ap is_list c.class.ensures))

pub returns-in_default : goal.returns-in_default
returns-in_default c = rw (kinds.no_array c.args.value.now c.in_default.not-Object) (given (Truth false) c.args.state.now)
