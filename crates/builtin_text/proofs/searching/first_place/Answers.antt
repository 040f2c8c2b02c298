use Rattle.std.proofs.Common.{sym, ◌∙◌, length, arith}
use Rattle.page_meaning.specs.StringRows as spec
use Rattle.builtin_text.proofs.Places.{passed_up}
use Rattle.builtin_text.proofs.searching.first_place.Goals as goal

pub loop-place-preserved : goal.loop-place-preserved
loop-place-preserved c =
    let p = spec.stands_at c.args.units.now c.args.part.now in
    (omega (arith, c.loop-place.invariant.0), sym (passed_up p c.loop-place.place (length c.args.units.now) c.loop-place-test.true (sym c.stands_at.ensures.value ∙ c.if-stands_at.false)) ∙ c.loop-place.invariant.1)
