-- What a visit that goes on leads to.
use Rattle.std.specs.Prelude.{◌≡◌, ℕ, suc}
use Rattle.js_values.specs.declared.value.Value.{Value}
use Rattle.page_meaning.specs.declared.visit.Visit.{Visit}
use Rattle.page_meaning.specs.Act.{Act, Calls, also}
use Rattle.page_meaning.specs.Calls.{calls_at}
use Rattle.page_meaning.specs.Store.{Store}
use Rattle.page_meaning.specs.VisitRows.{arguments_of, this_of, told}
use Rattle.page_frames.specs.declared.frame.Visited.{Visited}
use Rattle.page_frames.specs.declared.meter.Meter.{Meter}
use Rattle.page_frames.specs.declared.meter.Next.{Next}
use Rattle.page_frames.specs.RestVisits.{visits_from}
use Rattle.page_frames.specs.Step.{Lowers}

-- the act leads there with a level of depth less for its own calls, and pays for what it weighs itself
abbrev pub Climbs : (Calls → Act) → Store → Meter → Next → Store → Meter → Type 0
Climbs = Lowers 0

-- the call for an element, and what the visit makes of it
abbrev pub called_for : Calls → Visited → Visit → ℕ → Value → Act
called_for calls x kind k v =
    also (calls.call x.callback (this_of kind x.this) (arguments_of kind v k x.list))
    (λ w. told kind v k w (λ next. visits_from calls x next (suc k)))

-- where a step has paid for two things
abbrev pub CallsFor : Visited → Visit → ℕ → Value → Meter → Next → Meter → Type 0
CallsFor x kind k v m next m' = (w : Store) → Lowers 2 (λ calls. called_for calls x kind k v) w m next w m'
