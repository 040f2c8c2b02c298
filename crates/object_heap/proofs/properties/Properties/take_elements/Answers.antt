use Rattle.std.proofs.Common.{◌≡◌, ◌∙◌, ◌+◌, ◌-◌, ◌<◌, ◌≤◌, refl, subst, arith}
use Rattle.object_heap.specs.Counted.{AreBelow}
use Rattle.object_heap.specs.Index.{index_end}
use Rattle.object_heap.proofs.Taken.{taken}
use Rattle.object_heap.proofs.properties.Properties.take_elements.Goals as goal

pub loop-top-preserved : goal.loop-top-preserved
loop-top-preserved c =
    let top = c.loop-top.top in
    let up : top ≡ (top - 1) + 1 = omega arith in
    let low : c.args.end ≤ top - 1 = omega arith in
    let small : top - 1 < index_end = omega arith in
    let all : AreBelow ((top - 1) + 1) c.loop-top.self = subst (λ n. AreBelow n c.loop-top.self) up c.loop-top.invariant.below in
    let leaves = taken c.args.end (top - 1) c.loop-top.self c.take_element.new.self low small c.len-distinct.ensures.distinct all (c.if-not-take_element.ensures.taken refl) in
    record { same = leaves.same ∙ c.loop-top.invariant.same; below = leaves.below; least = omega arith; most = omega arith }
