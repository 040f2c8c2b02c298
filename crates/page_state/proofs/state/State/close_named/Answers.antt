use Rattle.page_state.proofs.NewFunctions.{closed_named, one_bound}
use Rattle.page_state.proofs.state.State.close_named.Goals as goal

pub returns : goal.returns
returns c =
    closed_named c.args.code c.args.env c.args.name c.push.new.self.items c.in_ok-round.round c.in_ok-at.at c.args.self.now c.make_environment.new.self c.make_function.new.self c.bind_name.new.self
    (one_bound c.push.new.self.items c.new-names.result.items c.args.name c.in_ok-clone.field-0 c.in_ok-push.ensures.items c.new-names.ensures.items c.in_ok-clone.ensures)
    c.in_ok-round.ensures c.in_ok-at.ensures c.bind_name.ensures
