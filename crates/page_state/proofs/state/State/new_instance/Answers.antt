use Rattle.page_state.proofs.NewFunctions.{fresh_made}
use Rattle.page_state.proofs.state.State.new_instance.Goals as goal

pub returns : goal.returns
returns c =
    fresh_made c.args.function c.in_ok-name.name c.in_ok-found.found c.object_or.result c.args.self.now c.new_object.new.self c.new_object.result
    c.in_ok-name.ensures c.in_ok-found.ensures c.object_or.ensures c.new_object.ensures
