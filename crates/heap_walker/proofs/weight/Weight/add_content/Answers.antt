use Rattle.std.proofs.Common.{subst}
use Rattle.heap_walker.specs.Weight.{Adds, attributes_load, kind_load, set_load}
use Rattle.heap_walker.proofs.Weights.{adds_both}
use Rattle.heap_walker.proofs.weight.Weight.add_content.Goals as goal

pub returns : goal.returns
returns c =
    let content = c.args.content.now in
    adds_both c.args.self.now c.add_kind.new.self c.add_set.new.self (kind_load content.kind) _ c.add_kind.ensures
    (adds_both c.add_kind.new.self c.add_attributes.new.self c.add_set.new.self (attributes_load content.attributes) (set_load content.value)
    (subst (λ l. Adds c.add_kind.new.self c.add_attributes.new.self (attributes_load l)) c.as_slice.ensures c.add_attributes.ensures) c.add_set.ensures)
