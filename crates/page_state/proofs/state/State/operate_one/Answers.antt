use Rattle.page_state.proofs.state.State.operate_one.Goals as goal

pub returns-in-Plus : goal.returns-in-Plus
returns-in-Plus c = rw c.in-Plus.is c.plus.ensures

pub returns-in-Minus : goal.returns-in-Minus
returns-in-Minus c = rw c.in-Minus.is c.minus.ensures

pub returns-in-BitNot : goal.returns-in-BitNot
returns-in-BitNot c = rw c.in-BitNot.is c.bit_not.ensures
