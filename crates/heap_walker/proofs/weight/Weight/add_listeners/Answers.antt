use Rattle.std.proofs.Common.{sym, subst, arith}
use Rattle.std.proofs.lemmas.Grind.{common_steps}
use Rattle.std.proofs.lemmas.List.{nil_from_length}
use Rattle.scope_analysis.proofs.Callers.{next_of}
use Rattle.heap_walker.specs.Weight.{Adds, listener_load, listeners_load}
use Rattle.heap_walker.proofs.Weights.{adds_both, adds_none}
use Rattle.heap_walker.proofs.weight.Weight.add_listeners.Goals as goal

pub loop-rest-preserved : goal.loop-rest-preserved
loop-rest-preserved c w h =
    let whole = next_of c.loop-rest.rest.now c.listener-item.result (omega arith) (grind (arith, common_steps)) in
    c.loop-rest.invariant w
    (subst (λ r. Adds c.loop-rest.self w (listeners_load r)) (sym whole)
    (adds_both c.loop-rest.self c.add_listener.new.self w (listener_load c.listener-item.result) _ c.add_listener.ensures h))

pub returns : goal.returns
returns c =
    c.loop-rest.invariant c.loop-rest.self (subst (λ r. Adds c.loop-rest.self c.loop-rest.self (listeners_load r)) (sym (nil_from_length c.loop-rest.rest.now (omega arith))) (adds_none c.loop-rest.self))
