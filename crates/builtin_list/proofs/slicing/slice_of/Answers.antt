use Rattle.std.proofs.Common.{◌-◌, Ok}
use Rattle.js_values.specs.declared.value.Value.TheVariants.{Undefined, Object}
use Rattle.page_meaning.specs.Act.{give}
use Rattle.page_meaning.specs.ListRows as spec
use Rattle.page_state.specs.Does.{itself}
use Rattle.page_state.proofs.Callers.{also_ends}
use Rattle.builtin_list.proofs.Passed.{halted, gave}
use Rattle.builtin_list.proofs.slicing.slice_of.Goals as goal

pub returns-in_err-copy_all : goal.returns-in_err-copy_all
returns-in_err-copy_all c =
    halted (λ _. spec.copy_all c.args.list (spec.place_in c.args.length c.args.start) c.args.made 0 ((spec.place_in c.args.length c.args.end) - (spec.place_in c.args.length c.args.start)))
    (λ _ _. give (Object c.args.made)) itself c.args.state.now c.copy_all.new.state c.args.steps.now c.copy_all.new.steps c.in_err-copy_all.field-0.0 c.from_residual.result
    (rw (c.saturating_sub.ensures, c.place_in-from.ensures.place, c.place_in-to.ensures.place) at c.in_err-copy_all.ensures) c.from_residual.ensures

pub returns : goal.returns
returns c =
    also_ends (λ _. spec.copy_all c.args.list (spec.place_in c.args.length c.args.start) c.args.made 0
    ((spec.place_in c.args.length c.args.end) - (spec.place_in c.args.length c.args.start))) (λ _ _. give (Object c.args.made)) itself Undefined c.args.state.now c.copy_all.new.state
    c.copy_all.new.state c.args.steps.now c.copy_all.new.steps c.copy_all.new.steps (Ok (Object c.args.made))
    (rw (c.saturating_sub.ensures, c.place_in-from.ensures.place, c.place_in-to.ensures.place) at c.in_ok-copy_all.ensures)
    (gave (Object c.args.made) c.copy_all.new.state c.copy_all.new.steps)
