use Rattle.std.proofs.Common.{◌-◌, arith}
use Rattle.page_meaning.specs.Elements as element
use Rattle.page_meaning.specs.ListRows as spec
use Rattle.page_state.specs.Does.{itself}
use Rattle.page_state.proofs.Callers.{asked_gives}
use Rattle.builtin_list.proofs.Cases.{pop_some}
use Rattle.builtin_list.proofs.ends.pop.Goals as goal

pub returns-then-length-eq0 : goal.returns-then-length-eq0
returns-then-length-eq0 c =
    rw c.if-length-eq0.true c.no_elements.ensures

pub returns : goal.returns
returns c =
    rw (pop_some c.args.list c.args.length (omega (arith, c.if-length-eq0.false)))
    (asked_gives (element.element_or c.args.list (c.args.length - 1)) (λ _. spec.drop_last c.args.list (c.args.length - 1)) itself
    c.args.state.now c.drop_last.new.state c.drop_last.result (rw (← c.in_ok-value.ensures) c.drop_last.ensures))
