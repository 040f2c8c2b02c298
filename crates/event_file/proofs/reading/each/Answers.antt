use Rattle.std.proofs.Common.{◌<◌, ◌≤◌, length, sym, ◌∙◌, arith}
use Rattle.serde_json.specs.View.{view}
use Rattle.event_file.proofs.Found.{found_more, is_event}
use Rattle.event_file.proofs.Sound.{one_more}
use Rattle.event_file.proofs.reading.each.Goals as goal

pub loop-item-preserved : goal.loop-item-preserved
loop-item-preserved c =
    let within : c.loop-item.item-index < length c.args.items.now = omega arith in
    let few : c.loop-item.number ≤ 100000 = omega arith in
    let is = is_event c.loop-item.number (view c.item-item.result) _ few c.in_ok-event.ensures.read ∙ c.in-Some.is in
    let all = sym (found_more c.args.items.now c.item-item.result c.loop-item.item-index c.loop-item.number c.loop-item.found.items c.in-Some.event within c.item-item.is is) ∙ c.loop-item.invariant.found in
    record { counted = omega arith; few = omega arith; found = rw c.in_ok-push-in-Some.ensures.items all; sound = rw c.in_ok-push-in-Some.ensures.items (one_more c.loop-item.found.items c.in-Some.event c.in_ok-event.field-0 c.loop-item.invariant.sound c.in_ok-event.ensures.sound c.in-Some.is) }
