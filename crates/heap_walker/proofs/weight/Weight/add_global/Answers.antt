use Rattle.std.proofs.Common.{◌≡◌, ◌∙◌, false, sym}
use Rattle.global_names.specs.Names.{names_global}
use Rattle.heap_walker.specs.Things.{made_globals}
use Rattle.heap_walker.specs.Weight.{named_load, props_load}
use Rattle.heap_walker.proofs.Weights.{adds_both}
use Rattle.heap_walker.proofs.weight.Weight.add_global.Goals as goal

pub returns : goal.returns
returns c others w h =
    let made : names_global c.args.name.now ≡ false = sym c.is_global_name.ensures.value ∙ c.if-is_global_name.false in
    rw made (adds_both c.args.self.now c.add_named.new.self w (named_load c.args.name.now c.args.property.now.value) (props_load (made_globals others)) c.add_named.ensures h)
