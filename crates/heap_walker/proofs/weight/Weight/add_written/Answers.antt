use Rattle.std.proofs.Common.{◌≡◌, ◌∙◌, ◌&&◌, false, sym, bytes_eq}
use Rattle.object_heap.specs.Define.{length_name}
use Rattle.heap_walker.specs.Weight.{named_load, props_load, written}
use Rattle.heap_walker.proofs.Weights.{adds_both}
use Rattle.heap_walker.proofs.weight.Weight.add_written.Goals as goal

pub returns : goal.returns
returns c others w h =
    let kept : (c.args.made && bytes_eq c.args.name.now length_name) ≡ false = sym c.is_made_length.ensures ∙ c.if-is_made_length.false in
    rw kept (adds_both c.args.self.now c.add_named.new.self w (named_load c.args.name.now c.args.property.now.value) (props_load (written c.args.made others)) c.add_named.ensures h)
