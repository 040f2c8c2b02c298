use Rattle.std.proofs.Common.{◌≡◌, ◌∙◌, ◌+◌, ◌++◌, ◌∷◌, ℕ, List, drop, false, sym, ap}
use Rattle.std.proofs.lemmas.List.{append-nil}
use Rattle.object_heap.specs.Chain.{object_at}
use Rattle.object_heap.specs.Property.{Props}
use Rattle.object_heap.specs.declared.property.Prop.{Prop}
use Rattle.page_meaning.specs.Places.{window}
use Rattle.heap_walker.specs.Things.{made_globals}
use Rattle.heap_walker.proofs.Callers.{from_place, past_places}
use Rattle.rebuild_plan.specs.Compact.{moved_props}
use Rattle.rebuild_plan.specs.Plan.{defines}
use Rattle.rebuild_plan.proofs.properties.push_globals.Goals as goal

pub loop-name-preserved : goal.loop-name-preserved
loop-name-preserved c =
    let ks = c.args.walked.now.things.keys in
    let props : Props = (object_at c.args.state.now.heap.objects window.0).props in
    let k = c.loop-name.place in
    let e : List ℕ × Prop = (c.in-Some.name.now, c.in-Some.prop.now) in
    let whole : drop k props ≡ e ∷ drop (k + 1) props = from_place props k e (sym c.in-Some.ensures) in
    ap (λ n. c.push_global.new.plan.items ++ defines false false window (moved_props ks (made_globals (drop n props)))) c.in_ok-place.ensures
    ∙ c.in_ok-push_global.ensures (drop (k + 1) props)
    ∙ ap (λ r. c.loop-name.plan.items ++ defines false false window (moved_props ks (made_globals r))) (sym whole)
    ∙ c.loop-name.invariant

pub returns : goal.returns
returns c =
    let ks = c.args.walked.now.things.keys in
    let props : Props = (object_at c.args.state.now.heap.objects window.0).props in
    sym (append-nil c.loop-name.plan.items)
    ∙ ap (λ r. c.loop-name.plan.items ++ defines false false window (moved_props ks (made_globals r))) (sym (past_places props c.loop-name.place (sym c.in_default.ensures)))
    ∙ c.loop-name.invariant
