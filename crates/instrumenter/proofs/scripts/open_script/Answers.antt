use Rattle.std.proofs.Common.{◌≡◌, arith}
use Rattle.std.proofs.lemmas.Grind.{common_steps}
use Rattle.js_core.specs.Tree.{stmts_of}
use Rattle.instrumenter.specs.Opening.{open_script}
use Rattle.instrumenter.proofs.Heights.{opened_scripts_are_low}
use Rattle.instrumenter.proofs.scripts.open_script.Goals as goal

pub invariant_of-result : goal.invariant_of-result
invariant_of-result c =
    let e : stmts_of c.push_tops.new.out.items ≡ open_script c.args.next.now c.args.script.now = grind (arith, common_steps) in
    rw (e) (omega (arith, (opened_scripts_are_low c.args.next.now c.args.script.now c.requires).0))
