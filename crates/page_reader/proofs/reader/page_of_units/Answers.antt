use Rattle.std.proofs.Common.{◌∙◌}
use Rattle.js_core.proofs.Callers.{handed}
use Rattle.page_reader.proofs.FromBytes.{mark_short, units_refused}
use Rattle.page_reader.proofs.reader.page_of_units.Goals as goal

pub returns-in_err-dom-clause-refused : goal.returns-in_err-dom-clause-refused
returns-in_err-dom-clause-refused c =
    handed c.page_of_text.result _ _ c.page_of_text.ensures.refused c.in_err-dom.was c.from_residual-in_err-dom.ensures (λ _ refused. units_refused _ _ _ c.behind_mark-start.ensures.rest (c.as_slice.ensures.value ∙ c.in_ok-text.ensures) refused)

pub placed-requires : goal.placed-requires
placed-requires c = record { short = mark_short _ _ _ _ c.behind_mark-start.ensures.skipped c.behind_mark-start.ensures.rest c.requires.short }
