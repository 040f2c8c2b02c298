use Rattle.js_values.specs.declared.value.Value.TheVariants.{Undefined}
use Rattle.page_state.proofs.Callers.{given}
use Rattle.step_assign.proofs.Changing.{nothing_got}
use Rattle.step_assign.proofs.puts.put_right.Goals as goal

pub returns-in-None : goal.returns-in-None
returns-in-None c = rw c.in-None.is c.put_member.ensures

pub returns-in-None-split_first : goal.returns-in-None-split_first
returns-in-None-split_first c = rw (c.in-Some.is, nothing_got c.args.olds.now c.in-None-split_first.ensures.cases) (given Undefined c.args.state.now)

pub returns : goal.returns
returns c = rw (c.in-Some.is, c.in-Some-split_first.ensures.cases.0) c.put_operated.ensures
