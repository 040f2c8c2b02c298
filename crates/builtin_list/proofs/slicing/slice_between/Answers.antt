use Rattle.js_values.specs.declared.value.Value.TheVariants.{Num}
use Rattle.page_meaning.specs.Act.{also}
use Rattle.page_meaning.specs.Convert.{to_number}
use Rattle.page_meaning.specs.ListRows as spec
use Rattle.page_state.specs.Does.{itself}
use Rattle.builtin_list.proofs.Passed.{did_on, failed_at}
use Rattle.builtin_list.proofs.slicing.slice_between.Goals as goal

pub returns-in_err-from : goal.returns-in_err-from
returns-in_err-from c =
    failed_at (λ calls. to_number calls c.args.start.now) (λ calls start. also (spec.end_in calls c.args.length c.args.end.now) (spec.slice_of c.args.list c.args.length c.args.made start))
    itself c.args.state.now c.to_number.new.self c.args.steps.now c.in_err-from.field-0.0 c.from_residual.result c.in_err-from.ensures c.from_residual.ensures

pub returns-in_err-to : goal.returns-in_err-to
returns-in_err-to c =
    did_on (λ calls. to_number calls c.args.start.now) (λ calls start. also (spec.end_in calls c.args.length c.args.end.now) (spec.slice_of c.args.list c.args.length c.args.made start))
    itself (Num c.in_ok-from.from) c.args.state.now c.to_number.new.self c.end_in.new.state c.args.steps.now c.args.steps.now c.from_residual-in_err-to.result c.in_ok-from.ensures
    (failed_at (λ calls. spec.end_in calls c.args.length c.args.end.now) (λ _. spec.slice_of c.args.list c.args.length c.args.made (Num c.in_ok-from.from)) itself c.to_number.new.self
    c.end_in.new.state c.args.steps.now c.in_err-to.field-0.0 c.from_residual-in_err-to.result c.in_err-to.ensures c.from_residual-in_err-to.ensures)

pub returns : goal.returns
returns c =
    did_on (λ calls. to_number calls c.args.start.now) (λ calls start. also (spec.end_in calls c.args.length c.args.end.now) (spec.slice_of c.args.list c.args.length c.args.made start))
    itself (Num c.in_ok-from.from) c.args.state.now c.to_number.new.self c.slice_of.new.state c.args.steps.now c.slice_of.new.steps c.slice_of.result c.in_ok-from.ensures
    (did_on (λ calls. spec.end_in calls c.args.length c.args.end.now) (λ _. spec.slice_of c.args.list c.args.length c.args.made (Num c.in_ok-from.from)) itself (Num c.in_ok-to.to)
    c.to_number.new.self c.end_in.new.state c.slice_of.new.state c.args.steps.now c.slice_of.new.steps c.slice_of.result c.in_ok-to.ensures c.slice_of.ensures)
