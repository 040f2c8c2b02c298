use Rattle.std.proofs.Common.{sym, ◌∙◌, true≢false}
use Rattle.event_file.proofs.Arrays.{not_json, of_array}
use Rattle.event_file.proofs.reading.events.Goals as goal

pub returns-in-Some : goal.returns-in-Some
returns-in-Some c =
    let found = of_array c.args.bytes.now _ _ c.in-Ok.ensures.ok.0 c.in-Ok.ensures.ok.1 c.in-Some.ensures in
    record { found = rw (found, ← c.deref.ensures.value) c.each.ensures.found; sound = c.each.ensures.sound }

pub returns-in-Err : goal.returns-in-Err
returns-in-Err c =
    let none = not_json c.args.bytes.now (c.in-Err.ensures.err (λ memory. absurd (true≢false (sym (c.is_memory.ensures.1 memory) ∙ c.if-is_memory.false)))) in
    record { found = none; sound = tt }
