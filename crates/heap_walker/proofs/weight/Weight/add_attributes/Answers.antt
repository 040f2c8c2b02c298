use Rattle.std.proofs.Common.{sym, subst, arith}
use Rattle.std.proofs.lemmas.Grind.{common_steps}
use Rattle.std.proofs.lemmas.List.{nil_from_length}
use Rattle.scope_analysis.proofs.Callers.{next_of}
use Rattle.heap_walker.specs.Weight.{Adds, attribute_load, attributes_load}
use Rattle.heap_walker.proofs.Weights.{adds_both, adds_none}
use Rattle.heap_walker.proofs.weight.Weight.add_attributes.Goals as goal

pub loop-rest-preserved : goal.loop-rest-preserved
loop-rest-preserved c w h =
    let whole = next_of c.loop-rest.rest.now c.attribute-item.result (omega arith) (grind (arith, common_steps)) in
    c.loop-rest.invariant w
    (subst (λ r. Adds c.loop-rest.self w (attributes_load r)) (sym whole)
    (adds_both c.loop-rest.self c.add_attribute.new.self w (attribute_load c.attribute-item.result) _ c.add_attribute.ensures h))

pub returns : goal.returns
returns c =
    c.loop-rest.invariant c.loop-rest.self (subst (λ r. Adds c.loop-rest.self c.loop-rest.self (attributes_load r)) (sym (nil_from_length c.loop-rest.rest.now (omega arith))) (adds_none c.loop-rest.self))
