use Rattle.dom_host.proofs.Settling.{element_made, element_refused}
use Rattle.dom_host.proofs.nodes.new_element.Goals as goal

pub returns-in-Some : goal.returns-in-Some
returns-in-Some c = element_made c.args.name.now c.args.state.now c.make_element.new.self c.in_ok-at.field-0 c.in-Some.at c.in_ok-at.ensures c.in-Some.is

pub returns-in-None : goal.returns-in-None
returns-in-None c =
    element_refused c.args.name.now c.args.state.now c.make_element.new.self c.raise.new.self c.in_ok-at.field-0 c.raise.result c.in_ok-at.ensures c.in-None.is c.raise.ensures
