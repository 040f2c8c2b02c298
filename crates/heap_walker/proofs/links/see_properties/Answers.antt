use Rattle.std.proofs.Common.{◌≡◌, ℕ, List, ◌∙◌, ◌+◌, ◌∷◌, drop, sym, ap}
use Rattle.object_heap.specs.Chain.{object_at}
use Rattle.object_heap.specs.declared.property.Prop.{Prop}
use Rattle.object_heap.specs.Property.{Props}
use Rattle.object_shapes.specs.Links.{props_links, value_links}
use Rattle.heap_walker.specs.Walking.{joined}
use Rattle.heap_walker.proofs.Joining.{joined_both}
use Rattle.heap_walker.proofs.Places.{from_place, past_places}
use Rattle.heap_walker.proofs.links.see_properties.Goals as goal

pub loop-property-preserved : goal.loop-property-preserved
loop-property-preserved c =
    let s = c.args.state.now in
    let k = c.loop-property.place in
    let seen = c.loop-property.seen.keys in
    let props : Props = (object_at s.heap.objects c.args.at.0).props in
    let e : List ℕ × Prop = (c.in-Some.field-0-0.now, c.in-Some.property.now) in
    let whole : drop k props ≡ e ∷ drop (k + 1) props = from_place props k e (sym c.in-Some.ensures) in
    ap (λ n. joined s c.see_value.new.seen.keys (props_links (drop n props))) c.in_ok-place.ensures
    ∙ ap (λ ks. joined s ks (props_links (drop (k + 1) props))) c.in_ok-see_value.ensures
    ∙ joined_both s seen (value_links e.1.value) (props_links (drop (k + 1) props))
    ∙ ap (λ r. joined s seen (props_links r)) (sym whole)
    ∙ c.loop-property.invariant

pub returns : goal.returns
returns c =
    let s = c.args.state.now in
    let props : Props = (object_at s.heap.objects c.args.at.0).props in
    ap (λ r. joined s c.loop-property.seen.keys (props_links r)) (sym (past_places props c.loop-property.place (sym c.in_default.ensures))) ∙ c.loop-property.invariant
