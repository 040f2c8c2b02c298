use Rattle.page_meaning.specs.ListRows as spec
use Rattle.builtin_list.proofs.Passed.{at_once_ends}
use Rattle.builtin_list.proofs.Refused.{unbuilt}
use Rattle.builtin_list.proofs.rows.row_on.Goals as goal

pub returns-in-ArrayPrototypeConcat : goal.returns-in-ArrayPrototypeConcat
returns-in-ArrayPrototypeConcat c =
    rw c.in-ArrayPrototypeConcat.is c.concat.ensures

pub returns-in-ArrayPrototypePop : goal.returns-in-ArrayPrototypePop
returns-in-ArrayPrototypePop c =
    rw (c.in-ArrayPrototypePop.is, c.at_once.ensures) (at_once_ends (λ _. spec.pop c.args.list c.args.length) c.args.state.now c.pop.new.state c.args.steps.now c.pop.result c.pop.ensures)

pub returns-in-ArrayPrototypePush : goal.returns-in-ArrayPrototypePush
returns-in-ArrayPrototypePush c =
    rw (c.in-ArrayPrototypePush.is, c.at_once-in-ArrayPrototypePush.ensures)
    (at_once_ends (λ _. spec.push c.args.list c.args.length c.args.args.now) c.args.state.now c.push.new.state c.args.steps.now c.push.result c.push.ensures)

pub returns-in-ArrayPrototypeReverse : goal.returns-in-ArrayPrototypeReverse
returns-in-ArrayPrototypeReverse c =
    rw c.in-ArrayPrototypeReverse.is c.reverse.ensures

pub returns-in-ArrayPrototypeShift : goal.returns-in-ArrayPrototypeShift
returns-in-ArrayPrototypeShift c =
    rw c.in-ArrayPrototypeShift.is c.shift.ensures

pub returns-in-ArrayPrototypeSlice : goal.returns-in-ArrayPrototypeSlice
returns-in-ArrayPrototypeSlice c =
    rw c.in-ArrayPrototypeSlice.is c.slice.ensures

pub returns-in-ArrayPrototypeSplice : goal.returns-in-ArrayPrototypeSplice
returns-in-ArrayPrototypeSplice c =
    rw c.in-ArrayPrototypeSplice.is c.splice.ensures

pub returns-in-ArrayPrototypeUnshift : goal.returns-in-ArrayPrototypeUnshift
returns-in-ArrayPrototypeUnshift c =
    rw c.in-ArrayPrototypeUnshift.is c.unshift.ensures

pub returns-in_default : goal.returns-in_default
returns-in_default c =
    unbuilt c.args.which c.args.args.now c.args.list c.args.length c.args.state.now c.raise.new.self c.args.steps.now c.raise.result
    c.in_default.not-ArrayPrototypeConcat c.in_default.not-ArrayPrototypeJoin c.in_default.not-ArrayPrototypePop c.in_default.not-ArrayPrototypePush c.in_default.not-ArrayPrototypeReverse
    c.in_default.not-ArrayPrototypeShift c.in_default.not-ArrayPrototypeSlice c.in_default.not-ArrayPrototypeSplice c.in_default.not-ArrayPrototypeUnshift
    c.in_default.not-ArrayPrototypeIndexOf c.in_default.not-ArrayPrototypeLastIndexOf
    c.raise.ensures
