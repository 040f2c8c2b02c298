-- How a visit goes on from what its function gave.
use Rattle.std.specs.Prelude.{◌≡◌, ℕ, suc, Bool, true, false, Result, Ok, Err}
use Rattle.js_values.specs.declared.ids.ObjId.{ObjId}
use Rattle.js_values.specs.declared.value.Value.{Value}
use Rattle.js_values.specs.declared.value.Value.TheVariants.{Bool as Truth}
use Rattle.page_meaning.specs.declared.signal.Signal.TheVariants.{Value as Val, Thrown}
use Rattle.page_meaning.specs.declared.visit.Visit.{Visit}
use Rattle.page_meaning.specs.declared.visit.Visit.TheVariants as visit
use Rattle.page_meaning.specs.Act.{Act, Ended, also, choose}
use Rattle.page_meaning.specs.Elements.{define_element}
use Rattle.page_meaning.specs.Store.{Store}
use Rattle.page_meaning.specs.VisitRows as row
use Rattle.js_core.specs.declared.memory.Failure.{Failure}
use Rattle.js_core.specs.declared.memory.Failure.TheVariants as fault
use Rattle.step_visit.specs.declared.telling.Told.{Told}
use Rattle.step_visit.specs.declared.telling.Told.TheVariants.{Ends, GoesOn}

abbrev pub after_every : Bool → Told
after_every true = GoesOn visit.Every
after_every false = Ends (Truth false)

abbrev pub after_some : Bool → Told
after_some true = Ends (Truth true)
after_some false = GoesOn visit.Some

-- whatever it goes on with, the act ends, goes on or throws so
abbrev pub Comes : ((Visit → Act) → Act) → Store → Store → Result Told (Failure Value) → Type 0
Comes act s t (Ok (Ends u)) = (next : Visit → Act) (n : ℕ) → (act next).run s n ≡ Ended (Val u) t n
Comes act s t (Ok (GoesOn kind)) = (next : Visit → Act) (n : ℕ) → (act next).run s n ≡ (next kind).run t n
Comes act s t (Err (fault.Cause u)) = (next : Visit → Act) (n : ℕ) → (act next).run s n ≡ Ended (Thrown u) t n
Comes act s t (Err fault.OutOfMemory) = Unit {0}

abbrev pub Follows : Visit → Value → ℕ → Value → Store → Store → Result Told (Failure Value) → Type 0
Follows kind v k w s t r = Comes (row.told kind v k w) s t r

-- what was given becomes an element of the array that `map` makes
abbrev pub Maps : ObjId → ℕ → Value → Store → Store → Result Told (Failure Value) → Type 0
Maps a k w s t r = Comes (λ next. also (define_element a k w) (λ _. next (visit.Map a))) s t r

-- `filter` keeps the element, or not
abbrev pub Filters : ObjId → ℕ → Value → Bool → Store → Store → Result Told (Failure Value) → Type 0
Filters a to v keeps s t r =
    Comes (λ next. choose keeps (also (define_element a to v) (λ _. next (visit.Filter a (suc to)))) (next (visit.Filter a to))) s t r

abbrev pub Keeps : ObjId → ℕ → Value → Store → Store → Result Told (Failure Value) → Type 0
Keeps a to v s t r = Comes (λ next. also (define_element a to v) (λ _. next (visit.Filter a (suc to)))) s t r
