use Rattle.page_meaning.specs.Expressions.{new_list}
use Rattle.page_meaning.specs.ListRows as spec
use Rattle.page_meaning.specs.ObjectRows.{argument}
use Rattle.page_state.specs.Does.{itself}
use Rattle.builtin_list.proofs.Passed.{made_on}
use Rattle.builtin_list.proofs.slicing.slice.Goals as goal

pub returns : goal.returns
returns c =
    made_on (λ _. new_list) (λ calls a. spec.slice_between calls c.args.list c.args.length a (argument c.args.args.now 0) (argument c.args.args.now 1)) itself c.in_ok-made.made
    c.args.state.now c.new_list.new.self c.slice_between.new.state c.args.steps.now c.slice_between.new.steps c.slice_between.result
    c.in_ok-made.ensures (rw (c.in_ok-start.ensures, c.in_ok-end.ensures) at c.slice_between.ensures)
