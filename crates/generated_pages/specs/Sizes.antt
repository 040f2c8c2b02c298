-- How many bytes generated pages and their lists have.
use Rattle.std.specs.Prelude.{◌≤◌, ◌<◌, ℕ, length}
use Rattle.event_file.specs.Events.{most_events}
use Rattle.page_maker.specs.Events.{event_list}
use Rattle.page_maker.specs.Page.{page}

-- as many as a page file may have, 16,777,216, and as an event file may have, 4,194,304, wherever the events are not too many for one
abbrev pub FilesFit : Type 0
FilesFit = (n : ℕ) → 1 ≤ n → n < most_events → (length (page n) ≤ 16777216) × (length (event_list n) ≤ 4194304)
