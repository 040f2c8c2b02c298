use Rattle.std.proofs.Common.{refl, arith}
use Rattle.dom_tree.specs.Visits.{itself}
use Rattle.dom_tree.proofs.Kept.{has_first}
use Rattle.dom_tree.proofs.Texts.{text_content_is}
use Rattle.dom_tree.proofs.dom.Dom.text_content.Goals as goal

pub visit_after-at-requires : goal.visit_after-at-requires
visit_after-at-requires c = record { there = c.requires; under = itself refl }

pub loop-at-init : goal.loop-at-init
loop-at-init c = record {
  inside = c.visit_after-at.ensures.inside;
  same = rw c.new-units.ensures.items (text_content_is c.args.self.now c.recall_sound.ensures.trees (has_first c.args.self.now c.recall_sound.ensures) c.args.node c.requires c.visit_after-at.result c.visit_after-at.ensures.visits);
  few = rw c.new-units.ensures.items (omega arith);
}
