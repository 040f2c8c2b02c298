use Rattle.std.proofs.Common.{◌≡◌, ◌+◌, ◌≤◌, drop}
use Rattle.std.specs.List.{All}
use Rattle.js_values.specs.Event.{IsEvent}
use Rattle.serde_json.specs.View.{items_view}
use Rattle.event_file.specs.Events.{events_from}
use Rattle.event_file.proofs.Found.{behind}
use Rattle.event_file.proofs.reading.each.Given as goal

abbrev pub invariant-loop-item : goal.invariant-loop-item
invariant-loop-item l = record {
  counted : l.number ≡ l.item-index + 1;
  few : l.number ≤ 100001;
  found : behind l.found.items (events_from l.number (items_view (drop l.item-index l.items))) ≡ events_from 1 (items_view l.items);
  sound : All IsEvent l.found.items;
}
