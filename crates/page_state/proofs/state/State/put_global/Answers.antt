use Rattle.page_state.proofs.TopNames.{no_place, not_put, put_there}
use Rattle.page_state.proofs.state.State.put_global.Goals as goal

pub returns-in_err-place_function : goal.returns-in_err-place_function
returns-in_err-place_function c =
    no_place c.args.name.now c.args.function c.args.self.now c.place_function.new.self c.in_err-place_function.field-0.0 c.from_residual.result c.in_err-place_function.ensures c.from_residual.ensures

pub returns-in_err-put_in : goal.returns-in_err-put_in
returns-in_err-put_in c =
    not_put c.args.name.now c.args.function c.args.self.now c.place_function.new.self c.put_in.new.self c.in_err-put_in.field-0.0 c.from_residual-in_err-put_in.result c.in_ok-place_function.ensures c.in_err-put_in.ensures c.from_residual-in_err-put_in.ensures

pub returns : goal.returns
returns c =
    put_there c.args.name.now c.args.function c.args.self.now c.place_function.new.self c.put_in.new.self c.in_ok-put_in.field-0 c.in_ok-place_function.ensures c.in_ok-put_in.ensures
