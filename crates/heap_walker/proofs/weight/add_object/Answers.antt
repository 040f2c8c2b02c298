use Rattle.std.proofs.Common.{◌∙◌, subst, ap}
use Rattle.object_heap.specs.Chain.{object_at}
use Rattle.page_meaning.specs.Properties.{class_at}
use Rattle.heap_walker.specs.Weight.{Adds, class_load, has_made_length, props_load, written, written_of}
use Rattle.heap_walker.proofs.Weights.{adds_both}
use Rattle.heap_walker.proofs.weight.add_object.Goals as goal

pub returns : goal.returns
returns c =
    let s = c.args.state.now in
    let o = object_at s.heap.objects c.args.at.0 in
    adds_both c.args.weight.now c.add_class.new.weight c.add_properties.new.weight (class_load s (class_at s c.args.at)) (props_load (written_of o)) c.in_ok-add_class.ensures
    (subst (λ b. Adds c.add_class.new.weight c.add_properties.new.weight (props_load (written b o.props))) (c.has_made_length.ensures ∙ ap has_made_length c.class.ensures) c.in_ok-add_properties.ensures)
