use Rattle.std.proofs.Common.{◌++◌, ap, refl, sym}
use Rattle.dom_tree.specs.Visits.{itself}
use Rattle.dom_tree.proofs.Kept.{has_first}
use Rattle.dom_tree.proofs.Texts.{dom_text_is}
use Rattle.dom_tree.proofs.dom.Dom.push_dom_text.Goals as goal

pub loop-at-init : goal.loop-at-init
loop-at-init c = record {
  inside = record { there = c.requires; under = itself refl };
  same = ap (λ z. c.args.out.now.items ++ z) (sym (dom_text_is c.args.self.now c.recall_sound.ensures.trees (has_first c.args.self.now c.recall_sound.ensures) c.args.root c.requires));
}
