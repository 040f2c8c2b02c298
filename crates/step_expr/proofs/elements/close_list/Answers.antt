use Rattle.step_expr.proofs.Filling.{length_fails, length_put}
use Rattle.step_expr.proofs.elements.close_list.Goals as goal

pub returns-in_err-_put : goal.returns-in_err-_put
returns-in_err-_put c =
    length_fails c.args.list c.args.length c.in_ok-name.name c.in-Some.whole c.args.state.now c.put_in.new.self c.in_err-_put.field-0.0 c.from_residual-in_err-_put.result c.in_ok-name.ensures c.in-Some.ensures
    c.in_err-_put.ensures c.from_residual-in_err-_put.ensures

pub returns : goal.returns
returns c =
    length_put c.args.list c.args.length c.in_ok-name.name c.in-Some.whole c.args.state.now c.put_in.new.self c.in_ok-_put._put c.in_ok-name.ensures c.in-Some.ensures c.in_ok-_put.ensures
