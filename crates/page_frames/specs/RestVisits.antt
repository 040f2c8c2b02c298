-- What a visit that waits has yet to do, from what its function gave (sections 15.4.4.16 to 15.4.4.21).
use Rattle.std.specs.Prelude.{ℕ, suc, ◌-◌}
use Rattle.js_values.specs.declared.value.Value.{Value}
use Rattle.page_meaning.specs.declared.visit.Visit.{Visit}
use Rattle.page_meaning.specs.Act.{Act, Calls}
use Rattle.page_meaning.specs.VisitRows.{told, visits}
use Rattle.page_frames.specs.declared.frame.Visited.{Visited}
use Rattle.page_frames.specs.declared.frame.VisitFrame.{VisitFrame}

-- from an index on
abbrev pub visits_from : Calls → Visited → Visit → ℕ → Act
visits_from calls v kind k = visits calls v.callback v.this v.list kind k (v.length - k)

abbrev pub rest_visit : Calls → VisitFrame → Value → Act
rest_visit calls f w = told f.visit f.element f.index w (λ next. visits_from calls f.visited next (suc f.index))
