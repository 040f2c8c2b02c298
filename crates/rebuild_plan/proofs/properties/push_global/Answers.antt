use Rattle.std.proofs.Common.{◌≡◌, ◌∙◌, ◌++◌, append_assoc, false, sym, ap}
use Rattle.global_names.specs.Names.{names_global}
use Rattle.page_meaning.specs.Places.{window}
use Rattle.heap_walker.specs.Things.{made_globals}
use Rattle.rebuild_plan.specs.Compact.{moved_prop, moved_props}
use Rattle.rebuild_plan.specs.Plan.{define, defines}
use Rattle.rebuild_plan.proofs.properties.push_global.Goals as goal

pub returns : goal.returns
returns c others =
    let ks = c.args.walked.now.things.keys in
    let made : names_global c.args.name.now ≡ false = sym c.is_global_name.ensures.value ∙ c.if-is_global_name.false in
    rw made
    (ap (λ l. l ++ defines false false window (moved_props ks (made_globals others))) c.in_ok-push_property.ensures
    ∙ append_assoc c.args.plan.now.items (define false false window c.args.name.now (moved_prop ks c.args.prop.now)) (defines false false window (moved_props ks (made_globals others))))
