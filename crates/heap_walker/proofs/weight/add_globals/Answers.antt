use Rattle.std.proofs.Common.{◌≡◌, ℕ, List, ◌+◌, ◌∷◌, drop, sym, subst}
use Rattle.object_heap.specs.Chain.{object_at}
use Rattle.object_heap.specs.declared.property.Prop.{Prop}
use Rattle.object_heap.specs.Property.{Props}
use Rattle.page_meaning.specs.Places.{window}
use Rattle.heap_walker.specs.Things.{made_globals}
use Rattle.heap_walker.specs.Weight.{Adds, props_load}
use Rattle.heap_walker.proofs.Places.{from_place, past_places}
use Rattle.heap_walker.proofs.Weights.{adds_none}
use Rattle.heap_walker.proofs.weight.add_globals.Goals as goal

pub loop-name-preserved : goal.loop-name-preserved
loop-name-preserved c w h =
    let props : Props = (object_at c.args.state.now.heap.objects window.0).props in
    let e : List ℕ × Prop = (c.in-Some.name.now, c.in-Some.property.now) in
    let whole : drop c.loop-name.place props ≡ e ∷ drop (c.loop-name.place + 1) props = from_place props c.loop-name.place e (sym c.in-Some.ensures) in
    let rest = subst (λ n. Adds c.add_global.new.self w (props_load (made_globals (drop n props)))) c.in_ok-place.ensures h in
    c.loop-name.invariant w (subst (λ r. Adds c.loop-name.weight w (props_load (made_globals r))) (sym whole) (c.add_global.ensures (drop (c.loop-name.place + 1) props) w rest))

pub returns : goal.returns
returns c =
    let props : Props = (object_at c.args.state.now.heap.objects window.0).props in
    c.loop-name.invariant c.loop-name.weight
    (subst (λ r. Adds c.loop-name.weight c.loop-name.weight (props_load (made_globals r))) (sym (past_places props c.loop-name.place (sym c.in_default.ensures))) (adds_none c.loop-name.weight))
