use Rattle.std.proofs.Common.{◌∙◌, sym}
use Rattle.dom_tree.proofs.Generations.{next_inside, next_visits, up_inside, up_visits}
use Rattle.dom_tree.proofs.Kept.{has_first}
use Rattle.dom_tree.proofs.dom.Dom.visit_after_leaving.Goals as goal

pub returns-in-Some-clause-visits : goal.returns-in-Some-clause-visits
returns-in-Some-clause-visits c = next_visits c.args.self.now c.recall_sound.ensures.trees (has_first c.args.self.now c.recall_sound.ensures) c.args.root.0 c.args.node c.in-Some.next c.requires.under c.if-node-root.false (sym c.in-Some.ensures.next)

pub returns-in-Some-clause-inside : goal.returns-in-Some-clause-inside
returns-in-Some-clause-inside c = next_inside c.args.self.now c.recall_sound.ensures.trees (has_first c.args.self.now c.recall_sound.ensures) c.args.root.0 c.args.node c.in-Some.next c.requires.under c.if-node-root.false (sym c.in-Some.ensures.next)

pub returns-in-Some-parent-clause-visits : goal.returns-in-Some-parent-clause-visits
returns-in-Some-parent-clause-visits c = up_visits c.args.self.now c.recall_sound.ensures.trees (has_first c.args.self.now c.recall_sound.ensures) c.args.root.0 c.args.node c.in-Some-parent.parent c.requires.under c.if-node-root.false (sym c.next.ensures.next ∙ c.in_default.is) (sym c.in-Some-parent.ensures.parent)

pub returns-in-Some-parent-clause-inside : goal.returns-in-Some-parent-clause-inside
returns-in-Some-parent-clause-inside c = up_inside c.args.self.now c.recall_sound.ensures.trees (has_first c.args.self.now c.recall_sound.ensures) c.args.root.0 c.args.node c.in-Some-parent.parent c.requires.under c.if-node-root.false (sym c.in-Some-parent.ensures.parent)
