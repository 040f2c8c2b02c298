use Rattle.std.proofs.Common.{◌≡◌, arith}
use Rattle.page_reader.proofs.Passing.{ends_behind, ends_bytes}
use Rattle.page_reader.proofs.text.advanced.Goals as goal

pub returns-clause-rest : goal.returns-clause-rest
returns-clause-rest c =
    let z : c.loop-left.left ≡ 0 = omega (arith, c.loop-left-test.false) in
    ends_behind c.loop-left.rest.now c.args.units.now c.loop-left.left c.args.count z c.loop-left.invariant.1

pub returns-clause-bytes : goal.returns-clause-bytes
returns-clause-bytes c =
    let z : c.loop-left.left ≡ 0 = omega (arith, c.loop-left-test.false) in
    ends_bytes c.loop-left.rest.now c.args.units.now c.loop-left.left c.args.count c.loop-left.bytes z c.loop-left.invariant.2
