use Rattle.std.proofs.Common.{refl, sym}
use Rattle.dom_tree.specs.Visits.{itself}
use Rattle.dom_tree.proofs.Kept.{has_first}
use Rattle.dom_tree.proofs.Texts.{find_id_is}
use Rattle.dom_tree.proofs.dom.Dom.find_id.Goals as goal

pub loop-at-init : goal.loop-at-init
loop-at-init c = record {
  inside = record { there = has_first c.args.self.now c.recall_sound.ensures; under = itself refl };
  same = sym (find_id_is c.args.self.now c.recall_sound.ensures.trees (has_first c.args.self.now c.recall_sound.ensures) c.args.id.now);
}
