use Rattle.std.proofs.Common.{◌∙◌, Some, None, nat_eq, not, sym}
use Rattle.std.proofs.Math.Bool.{or-false}
use Rattle.dom_tree.proofs.Moves.{other_element}
use Rattle.dom_tree.proofs.dom.Dom.has_other_element.Goals as goal

pub returns-in-Some : goal.returns-in-Some
returns-in-Some c =
    sym (other_element c.args.self.now c.args.child.0 (Some c.in-Some.element) c.in-Some.ensures.only ∙ or-false (not (nat_eq c.args.child.0 c.in-Some.element.0)))

pub returns-in-None : goal.returns-in-None
returns-in-None c = sym (other_element c.args.self.now c.args.child.0 None c.in-None.ensures.only)
