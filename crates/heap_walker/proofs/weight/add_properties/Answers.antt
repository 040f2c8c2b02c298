use Rattle.std.proofs.Common.{◌≡◌, ℕ, List, ◌+◌, ◌∷◌, drop, sym, subst}
use Rattle.object_heap.specs.Chain.{object_at}
use Rattle.object_heap.specs.declared.property.Prop.{Prop}
use Rattle.object_heap.specs.Property.{Props}
use Rattle.heap_walker.specs.Weight.{Adds, props_load, written}
use Rattle.heap_walker.proofs.Places.{from_place, past_places}
use Rattle.heap_walker.proofs.Weights.{adds_none}
use Rattle.heap_walker.proofs.weight.add_properties.Goals as goal

pub loop-name-preserved : goal.loop-name-preserved
loop-name-preserved c w h =
    let props : Props = (object_at c.args.state.now.heap.objects c.args.at.0).props in
    let e : List ℕ × Prop = (c.in-Some.name.now, c.in-Some.property.now) in
    let whole : drop c.loop-name.place props ≡ e ∷ drop (c.loop-name.place + 1) props = from_place props c.loop-name.place e (sym c.in-Some.ensures) in
    let rest = subst (λ n. Adds c.add_written.new.self w (props_load (written c.args.made (drop n props)))) c.in_ok-place.ensures h in
    c.loop-name.invariant w (subst (λ r. Adds c.loop-name.weight w (props_load (written c.args.made r))) (sym whole) (c.add_written.ensures (drop (c.loop-name.place + 1) props) w rest))

pub returns : goal.returns
returns c =
    let props : Props = (object_at c.args.state.now.heap.objects c.args.at.0).props in
    c.loop-name.invariant c.loop-name.weight
    (subst (λ r. Adds c.loop-name.weight c.loop-name.weight (props_load (written c.args.made r))) (sym (past_places props c.loop-name.place (sym c.in_default.ensures))) (adds_none c.loop-name.weight))
