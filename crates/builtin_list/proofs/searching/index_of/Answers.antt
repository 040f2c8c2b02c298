use Rattle.std.proofs.Common.{arith}
use Rattle.page_meaning.specs.ListRows as spec
use Rattle.page_meaning.specs.ObjectRows.{argument}
use Rattle.page_state.specs.Does.{itself}
use Rattle.builtin_list.proofs.Cases.{index_some}
use Rattle.builtin_list.proofs.Passed.{same_ends}
use Rattle.builtin_list.proofs.searching.index_of.Goals as goal

pub returns : goal.returns
returns c =
    same_ends (λ calls. spec.index_of calls c.args.list c.args.length c.args.args.now)
    (λ calls. spec.find_from calls c.args.list c.args.length (argument c.args.args.now 0) (argument c.args.args.now 1)) itself
    c.args.state.now c.find_from.new.state c.args.steps.now c.find_from.new.steps c.find_from.result
    (λ calls. index_some calls c.args.list c.args.length c.args.args.now (omega (arith, c.if-length-eq0.false)))
    (rw (c.in_ok-value.ensures, c.in_ok-from.ensures) at c.find_from.ensures)
