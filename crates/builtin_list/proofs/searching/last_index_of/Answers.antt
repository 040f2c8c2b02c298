use Rattle.std.proofs.Common.{arith}
use Rattle.page_meaning.specs.ListRows as spec
use Rattle.page_meaning.specs.ObjectRows.{argument}
use Rattle.page_state.specs.Does.{itself}
use Rattle.builtin_list.proofs.Cases.{last_few, last_two}
use Rattle.builtin_list.proofs.Passed.{same_ends}
use Rattle.builtin_list.proofs.searching.last_index_of.Goals as goal

pub returns-then-args-lt2 : goal.returns-then-args-lt2
returns-then-args-lt2 c =
    same_ends (λ calls. spec.last_index_of calls c.args.list c.args.length c.args.args.now) (λ _. spec.find_down c.args.list (argument c.args.args.now 0) c.args.length) itself
    c.args.state.now c.args.state.now c.args.steps.now c.find_down.new.steps c.find_down.result
    (λ calls. last_few calls c.args.list c.args.length c.args.args.now (omega (arith, c.if-length-eq0.false)) c.if-args-lt2.true)
    (rw (c.in_ok-value.ensures) at c.find_down.ensures)

pub returns : goal.returns
returns c =
    same_ends (λ calls. spec.last_index_of calls c.args.list c.args.length c.args.args.now)
    (λ calls. spec.find_to calls c.args.list c.args.length (argument c.args.args.now 0) (argument c.args.args.now 1)) itself
    c.args.state.now c.find_to.new.state c.args.steps.now c.find_to.new.steps c.find_to.result
    (λ calls. last_two calls c.args.list c.args.length c.args.args.now (omega (arith, c.if-length-eq0.false)) c.if-args-lt2.false)
    (rw (c.in_ok-value.ensures, c.in_ok-to.ensures) at c.find_to.ensures)
