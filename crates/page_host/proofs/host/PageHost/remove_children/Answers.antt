use Rattle.std.proofs.Common.{length, sym, ap, ◌∙◌}
use Rattle.dom_tree.proofs.Callers.{steps_stay_sound}
use Rattle.dom_tree.specs.Steps.{empties}
use Rattle.page_host.proofs.host.PageHost.remove_children.Goals as goal

pub invariant_of-self : goal.invariant_of-self
invariant_of-self c = record {
  objects = c.self.invariant.objects ∙ sym (ap length c.remove_children.ensures ∙ (steps_stay_sound c.self.inside.dom (empties c.args.node)).long);
  early = c.self.invariant.early;
}
