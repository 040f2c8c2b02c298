use Rattle.std.proofs.Common.{◌∙◌, subst}
use Rattle.heap_walker.specs.Weight.{Adds, code_load, load, needs_load}
use Rattle.heap_walker.proofs.Weights.{adds_both}
use Rattle.heap_walker.proofs.weight.add_function.Goals as goal

pub returns : goal.returns
returns c =
    adds_both c.args.weight.now c.add_bytes.new.self c.add_needs.new.self (code_load c.args.code.now) _
    (subst (λ n. Adds c.args.weight.now c.add_bytes.new.self (load 0 n)) c.in_ok-bytes.ensures c.add_bytes.ensures)
    (subst (λ ns. Adds c.add_bytes.new.self c.add_needs.new.self (needs_load ns)) (c.as_slice.ensures ∙ c.in_ok-needs.ensures) c.add_needs.ensures)
