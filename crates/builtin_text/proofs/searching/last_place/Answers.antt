use Rattle.std.proofs.Common.{sym, ◌∙◌, arith}
use Rattle.page_meaning.specs.StringRows as spec
use Rattle.builtin_text.proofs.Places.{found_down, passed_down}
use Rattle.builtin_text.proofs.searching.last_place.Goals as goal

pub returns-then-stands_at : goal.returns-then-stands_at
returns-then-stands_at c =
    let p = spec.stands_at c.args.units.now c.args.part.now in
    sym (found_down p c.loop-after.after c.loop-after-test.true (sym c.stands_at.ensures.value ∙ c.if-stands_at.true)) ∙ c.loop-after.invariant.1

pub loop-after-preserved : goal.loop-after-preserved
loop-after-preserved c =
    let p = spec.stands_at c.args.units.now c.args.part.now in
    (omega (arith, c.loop-after.invariant.0), sym (passed_down p c.loop-after.after c.loop-after-test.true (sym c.stands_at.ensures.value ∙ c.if-stands_at.false)) ∙ c.loop-after.invariant.1)
