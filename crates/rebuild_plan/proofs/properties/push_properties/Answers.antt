use Rattle.std.proofs.Common.{◌≡◌, ◌∙◌, ◌+◌, ◌++◌, ◌∷◌, ℕ, Bool, List, append_assoc, drop, sym, ap}
use Rattle.std.proofs.lemmas.List.{append-nil}
use Rattle.object_heap.specs.Chain.{object_at}
use Rattle.object_heap.specs.Object.{Object}
use Rattle.object_heap.specs.Property.{Props}
use Rattle.object_heap.specs.declared.property.Prop.{Prop}
use Rattle.heap_walker.proofs.Callers.{from_place, past_places}
use Rattle.rebuild_plan.specs.Compact.{maker_as, moved_prop, moved_props}
use Rattle.rebuild_plan.specs.Plan.{define, defines, has_length, has_prototype}
use Rattle.rebuild_plan.proofs.properties.push_properties.Goals as goal

pub loop-name-preserved : goal.loop-name-preserved
loop-name-preserved c =
    let ks = c.args.walked.now.things.keys in
    let props : Props = (object_at c.args.state.now.heap.objects c.args.at.0).props in
    let k = c.loop-name.index in
    let a : Bool = c.has_length-length.result in
    let b : Bool = c.has_prototype-prototype.result in
    let e : List ℕ × Prop = (c.in-Some.name.now, c.in-Some.prop.now) in
    let whole : drop k props ≡ e ∷ drop (k + 1) props = from_place props k e (sym c.in-Some.ensures) in
    ap (λ n. c.push_property.new.plan.items ++ defines a b c.args.place (moved_props ks (drop n props))) c.in_ok-index.ensures
    ∙ ap (λ l. l ++ defines a b c.args.place (moved_props ks (drop (k + 1) props))) c.in_ok-push_property.ensures
    ∙ append_assoc c.loop-name.plan.items (define a b c.args.place e.0 (moved_prop ks e.1)) (defines a b c.args.place (moved_props ks (drop (k + 1) props)))
    ∙ ap (λ r. c.loop-name.plan.items ++ defines a b c.args.place (moved_props ks r)) (sym whole)
    ∙ c.loop-name.invariant

pub returns : goal.returns
returns c =
    let s = c.args.state.now in
    let ks = c.args.walked.now.things.keys in
    let o : Object = object_at s.heap.objects c.args.at.0 in
    let a : Bool = c.has_length-length.result in
    let b : Bool = c.has_prototype-prototype.result in
    let length : a ≡ has_length (maker_as s ks o.proto o.class) = c.has_length-length.ensures s ks o.proto ∙ ap (λ k. has_length (maker_as s ks o.proto k)) c.class.ensures in
    let prototype : b ≡ has_prototype (maker_as s ks o.proto o.class) = c.has_prototype-prototype.ensures s ks o.proto ∙ ap (λ k. has_prototype (maker_as s ks o.proto k)) c.class-2.ensures in
    sym (append-nil c.loop-name.plan.items)
    ∙ ap (λ r. c.loop-name.plan.items ++ defines a b c.args.place (moved_props ks r)) (sym (past_places o.props c.loop-name.index (sym c.in_default.ensures)))
    ∙ c.loop-name.invariant
    ∙ ap (λ x. c.args.plan.now.items ++ defines x b c.args.place (moved_props ks o.props)) length
    ∙ ap (λ x. c.args.plan.now.items ++ defines (has_length (maker_as s ks o.proto o.class)) x c.args.place (moved_props ks o.props)) prototype
