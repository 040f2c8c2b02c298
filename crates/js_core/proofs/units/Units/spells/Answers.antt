use Rattle.std.proofs.Common.{◌∙◌, ap, length, sym, arith, get_or}
use Rattle.js_core.proofs.Spelling.{bytes_eq-each}
use Rattle.js_core.proofs.units.Units.spells.Goals as goal

pub returns : goal.returns
returns c =
    let units = c.as_slice-units.ensures.value in
    sym
    (bytes_eq-each _ _ (sym (ap length units) ∙ c.if-units-text.false)
    (λ k h. sym (ap (λ xs. get_or xs k 0) units) ∙ c.loop-i.invariant k (omega arith)))
