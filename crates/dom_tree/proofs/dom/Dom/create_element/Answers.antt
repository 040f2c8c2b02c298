use Rattle.std.proofs.Common.{sym}
use Rattle.dom_tree.proofs.Proper.{element_proper}
use Rattle.dom_tree.proofs.dom.Dom.create_element.Goals as goal

pub push-requires-clause-proper : goal.push-requires-clause-proper
push-requires-clause-proper c = rw (c.new_content.ensures, c.in_ok-name.ensures) (element_proper c.args.name.now (sym c.if-not-is_name.ensures))
