use Rattle.std.proofs.Common.{◌≡◌, ◌∙◌, ap, map, arith}
use Rattle.std.proofs.lemmas.Grind.{common_steps}
use Rattle.std.specs.Rc.{rc_value}
use Rattle.js_core.specs.Views.{declarators_of}
use Rattle.instrumenter.specs.Levels.{around_of}
use Rattle.instrumenter.proofs.Appended.{plain_list, plain_opened}
use Rattle.instrumenter.proofs.variables.plain_names.Goals as goal

pub returns : goal.returns
returns c =
    let a = around_of (map rc_value c.args.levels.now) in
    let e : c.loop-rest.names.items ≡ plain_list a c.args.declarators.now = grind (arith, common_steps) in
    ap declarators_of e ∙ plain_opened a c.args.declarators.now
