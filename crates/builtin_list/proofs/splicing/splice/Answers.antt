use Rattle.page_meaning.specs.Expressions.{new_list}
use Rattle.page_meaning.specs.ListRows as spec
use Rattle.page_state.specs.Does.{itself}
use Rattle.builtin_list.proofs.Passed.{made_on}
use Rattle.builtin_list.proofs.splicing.splice.Goals as goal

pub returns : goal.returns
returns c =
    made_on (λ _. new_list) (λ calls a. spec.splice_with calls c.args.list c.args.length a c.args.args.now) itself c.in_ok-made.made c.args.state.now c.new_list.new.self
    c.splice_with.new.state c.args.steps.now c.splice_with.new.steps c.splice_with.result
    c.in_ok-made.ensures (c.splice_with.ensures)
