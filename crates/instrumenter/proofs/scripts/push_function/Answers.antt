use Rattle.std.proofs.Common.{◌≤◌, None, [], refl, arith}
use Rattle.js_core.specs.Height.{stmts_height}
use Rattle.instrumenter.specs.Fields.{declaration_fields}
use Rattle.instrumenter.specs.Levels.{around_of}
use Rattle.instrumenter.specs.Opening.{open_function}
use Rattle.instrumenter.proofs.Bodies.{function_low}
use Rattle.instrumenter.proofs.scripts.push_function.Goals as goal

pub push_node-requires : goal.push_node-requires
push_node-requires c =
    let low : stmts_height (open_function (around_of []) c.args.next.now (declaration_fields c.args.code.now) None c.args.code.now) ≤ 401 =
    function_low (around_of []) c.args.next.now (declaration_fields c.args.code.now) None c.args.code.now refl (omega arith) in
    rw (c.in_ok-opened.ensures, c.in_ok-body.ensures.opened) (omega (arith, low))
