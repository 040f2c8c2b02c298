use Rattle.std.proofs.Common.{◌≡◌, ℕ, List, ◌∙◌, ◌+◌, ◌∷◌, drop, sym, ap}
use Rattle.object_heap.specs.Chain.{object_at}
use Rattle.object_heap.specs.declared.property.Prop.{Prop}
use Rattle.object_heap.specs.Property.{Props}
use Rattle.object_shapes.specs.Links.{props_links}
use Rattle.page_meaning.specs.Places.{window}
use Rattle.heap_walker.specs.Things.{made_globals}
use Rattle.heap_walker.specs.Walking.{joined}
use Rattle.heap_walker.proofs.Places.{from_place, past_places}
use Rattle.heap_walker.proofs.links.see_globals.Goals as goal

pub loop-name-preserved : goal.loop-name-preserved
loop-name-preserved c =
    let s = c.args.state.now in
    let k = c.loop-name.place in
    let seen = c.loop-name.seen.keys in
    let props : Props = (object_at s.heap.objects window.0).props in
    let e : List ℕ × Prop = (c.in-Some.name.now, c.in-Some.property.now) in
    let whole : drop k props ≡ e ∷ drop (k + 1) props = from_place props k e (sym c.in-Some.ensures) in
    ap (λ n. joined s c.see_global.new.seen.keys (props_links (made_globals (drop n props)))) c.in_ok-place.ensures
    ∙ c.in_ok-see_global.ensures (drop (k + 1) props)
    ∙ ap (λ r. joined s seen (props_links (made_globals r))) (sym whole)
    ∙ c.loop-name.invariant

pub returns : goal.returns
returns c =
    let s = c.args.state.now in
    let props : Props = (object_at s.heap.objects window.0).props in
    ap (λ r. joined s c.loop-name.seen.keys (props_links (made_globals r))) (sym (past_places props c.loop-name.place (sym c.in_default.ensures))) ∙ c.loop-name.invariant
