use Rattle.std.proofs.Common.{◌∷◌, ◌∙◌, ap, sym}
use Rattle.dom_tree.specs.declared.walk.Visit.TheVariants.{Enter}
use Rattle.dom_tree.specs.Visits.{visits_on}
use Rattle.dom_tree.proofs.Generations.{child_inside, enter_step, entering}
use Rattle.dom_tree.proofs.Kept.{has_first}
use Rattle.dom_tree.proofs.dom.Dom.visit_after_entering.Goals as goal

pub returns-in-Some-clause-visits : goal.returns-in-Some-clause-visits
returns-in-Some-clause-visits c =
    enter_step c.args.self.now c.recall_sound.ensures.trees (has_first c.args.self.now c.recall_sound.ensures) c.args.root.0 c.args.node c.requires.under
    ∙ ap (λ o. Enter c.args.node ∷ visits_on c.args.self.now c.args.root.0 (entering c.args.self.now c.recall_sound.ensures.trees (has_first c.args.self.now c.recall_sound.ensures) c.args.root.0 c.args.node o)) (sym c.in-Some.ensures.first)

pub returns-in-Some-clause-inside : goal.returns-in-Some-clause-inside
returns-in-Some-clause-inside c = child_inside c.args.self.now c.recall_sound.ensures.trees (has_first c.args.self.now c.recall_sound.ensures) c.args.root.0 c.args.node c.in-Some.child c.requires.under (sym c.in-Some.ensures.first)

pub returns-in-None-clause-visits : goal.returns-in-None-clause-visits
returns-in-None-clause-visits c =
    enter_step c.args.self.now c.recall_sound.ensures.trees (has_first c.args.self.now c.recall_sound.ensures) c.args.root.0 c.args.node c.requires.under
    ∙ ap (λ o. Enter c.args.node ∷ visits_on c.args.self.now c.args.root.0 (entering c.args.self.now c.recall_sound.ensures.trees (has_first c.args.self.now c.recall_sound.ensures) c.args.root.0 c.args.node o)) (sym c.in-None.ensures.first)
