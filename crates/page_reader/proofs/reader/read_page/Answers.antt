use Rattle.std.proofs.Common.{◌∙◌, arith}
use Rattle.page_reader.proofs.FromBytes.{bytes_refused, units_short}
use Rattle.page_reader.proofs.reader.read_page.Goals as goal

pub page_of_units-requires : goal.page_of_units-requires
page_of_units-requires c =
    record { short = units_short c.args.bytes.now _ _ _ c.in-Ok.ensures.cases.1 c.in-Ok.ensures.cases.0 (c.as_slice.ensures.value ∙ c.in_ok-units.ensures) (omega arith) }

pub returns-in-Err-Cause-clause-refused : goal.returns-in-Err-Cause-clause-refused
returns-in-Err-Cause-clause-refused c =
    let refused = rw c.in-Err-Cause.field-0-is at c.in-Err-Cause.ensures.refused in
    (c.in-Ok.ensures.cases.1, bytes_refused _ _ _ c.in-Ok.ensures.cases.0 (c.as_slice.ensures.value ∙ c.in_ok-units.ensures) refused)
