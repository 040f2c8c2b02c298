use Rattle.step_expr.proofs.elements.define_element.Goals as goal

pub returns : goal.returns
returns c = rw c.in_ok-name.ensures at c.define_member.ensures
