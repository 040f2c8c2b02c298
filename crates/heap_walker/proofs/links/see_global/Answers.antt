use Rattle.std.proofs.Common.{◌≡◌, ◌∙◌, false, sym, ap}
use Rattle.global_names.specs.Names.{names_global}
use Rattle.object_shapes.specs.Links.{props_links, value_links}
use Rattle.heap_walker.specs.Things.{made_globals}
use Rattle.heap_walker.specs.Walking.{joined}
use Rattle.heap_walker.proofs.Joining.{joined_both}
use Rattle.heap_walker.proofs.links.see_global.Goals as goal

pub returns : goal.returns
returns c others =
    let s = c.args.state.now in
    let made : names_global c.args.name.now ≡ false = sym c.is_global_name.ensures.value ∙ c.if-is_global_name.false in
    rw made
    (ap (λ ks. joined s ks (props_links (made_globals others))) c.in_ok-see_value.ensures
    ∙ joined_both s c.args.seen.now.keys (value_links c.args.property.now.value) (props_links (made_globals others)))
