use Rattle.std.proofs.Common.{◌∙◌, ℕ, ap, subst, sym}
use Rattle.object_heap.specs.Counted.{AreBelow}
use Rattle.object_heap.specs.Define.{elements_below}
use Rattle.object_heap.specs.Property.{Props}
use Rattle.object_heap.proofs.Taken.{none_left}
use Rattle.object_heap.proofs.properties.Properties.delete_elements.Goals as goal

pub returns-then-take_elements-end-clause-kept : goal.returns-then-take_elements-end-clause-kept
returns-then-take_elements-end-clause-kept c =
    let left = c.take_elements.new.self in
    let below : AreBelow c.args.end left = subst (λ n. AreBelow n left) c.if-take_elements-end.true c.take_elements.ensures.below in
    ap (λ (p : Props × ℕ). p.1) (sym (none_left c.args.end left below) ∙ c.take_elements.ensures.same)

pub returns-then-take_elements-end-clause-props : goal.returns-then-take_elements-end-clause-props
returns-then-take_elements-end-clause-props c =
    let left = c.take_elements.new.self in
    let below : AreBelow c.args.end left = subst (λ n. AreBelow n left) c.if-take_elements-end.true c.take_elements.ensures.below in
    ap (λ (p : Props × ℕ). p.0) (sym (none_left c.args.end left below) ∙ c.take_elements.ensures.same)

pub returns-clause-kept : goal.returns-clause-kept
returns-clause-kept c = c.end_kept-kept.ensures.end ∙ ap (λ (p : Props × ℕ). p.1) c.take_elements.ensures.same

pub returns-clause-props : goal.returns-clause-props
returns-clause-props c =
    c.keep_elements_below.ensures ∙ ap (λ k. elements_below k c.take_elements.new.self) c.end_kept-kept.ensures.end
    ∙ ap (λ (p : Props × ℕ). p.0) c.take_elements.ensures.same
