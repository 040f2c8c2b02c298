-- How reading ends a command, and what it passes.
use Rattle.std.proofs.Common.{◌≡◌, ℕ, ◌≤◌, List, [], ◌∷◌, length, Some, None, Result, Ok as Good, Err, Vec, Global, refl, ap, inl, inr, IfOk, IfErr}
use Rattle.page_io.specs.Content.{Told}
use Rattle.page_io.specs.Seen.{FilesSeen}
use Rattle.page_check.specs.Accept.{IsRefused}
use Rattle.js_values.specs.declared.event.Event.{Event}
use Rattle.outcomes.specs.declared.status.Status.{Status}
use Rattle.outcomes.specs.declared.status.Status.TheVariants.{PageRefused, EventsRefused, ReadFault, OutOfMemory}
use Rattle.outcomes.specs.Seen.{Seen, Of, Held, ReadFailed, seen_between}
use Rattle.outcomes.specs.Stages.{Stage, PassesAll, EndsAt}
use Rattle.outcomes.specs.Work.{GivesOfFiles}
use Rattle.outcomes.proofs.Callers.{ends_behind, passes_both}
use Rattle.read_files.specs.Checking.{Tells}
use Rattle.read_files.specs.Opening.{OpensTo}
use Rattle.read_files.specs.Page.{page_limit, Page, IsAccepted, IsPage}
use Rattle.read_files.specs.Reading.{AreRead, StopsAtPage, StopsAtEvents, StopsReading}
use Rattle.read_files.specs.Replay.{AreBoth, IsEventFile, Replays}
use Rattle.read_files.specs.Stages.{page_file, acceptance, event_file, reading}
use Rattle.read_files.specs.Works.{checking, instrumenting, replaying}

-- ---- what is told of the bytes of a name

told_fits : (told : Told) (P : List ℕ → Type 0) → Of told (λ b. (length b ≤ page_limit) × P b) → Of told (λ b. length b ≤ page_limit) × Of told P
told_fits None P h = (tt, tt)
told_fits (Some None) P h = absurd h
told_fits (Some (Some bytes)) P h = (h.0, h.1)

-- a page is accepted as some page
told_accepted : (told : Told) (page : Page) → Of told (λ b. IsPage b page)
    → Of told (λ b. length b ≤ page_limit) × Of told (λ b. (page : Page) × IsAccepted b page)
told_accepted None page h = (tt, tt)
told_accepted (Some None) page h = absurd h
told_accepted (Some (Some bytes)) page h = (h.fits, (page, h.accepted))

-- a page that is opened was accepted
told_opened : (told : Told) (text : List ℕ) → Of told (λ b. OpensTo b text)
    → Of told (λ b. length b ≤ page_limit) × Of told (λ b. (page : Page) × IsAccepted b page)
told_opened None text h = (tt, tt)
told_opened (Some None) text h = absurd h
told_opened (Some (Some bytes)) text h = (h.of_page.fits, (h.page, h.of_page.accepted))

told_events : (told : Told) (events : List Event) → Of told (λ f. IsEventFile f events) → Of told (λ f. (events : List Event) × IsEventFile f events)
told_events None events h = tt
told_events (Some None) events h = absurd h
told_events (Some (Some file)) events h = (events, h)

-- what holds of a page and its events, where it is told what the names hold
pub told_both : (page file : Told) (of : Page) (events : List Event) (P : Page → List Event → Type 0) → AreRead page file of events → P of events
    → Of page (λ p. Of file (λ e. AreBoth p e P))
told_both None file of events P read h = tt
told_both (Some None) file of events P read h = absurd read.of_page
told_both (Some (Some bytes)) None of events P read h = tt
told_both (Some (Some bytes)) (Some None) of events P read h = absurd read.of_file
told_both (Some (Some bytes)) (Some (Some content)) of events P read h =
    record { page = of; events = events; of_page = read.of_page; of_file = read.of_file; holds = h }

-- the same of what holds of a page that some bytes are accepted as
pub told_accepted_as : (page file : Told) (of : Page) (events : List Event) (P : Page → List Event → Type 0) → AreRead page file of events
    → ((bytes : List ℕ) → IsAccepted bytes of → P of events) → Of page (λ p. Of file (λ e. AreBoth p e P))
told_accepted_as None file of events P read h = tt
told_accepted_as (Some None) file of events P read h = absurd read.of_page
told_accepted_as (Some (Some bytes)) None of events P read h = tt
told_accepted_as (Some (Some bytes)) (Some None) of events P read h = absurd read.of_file
told_accepted_as (Some (Some bytes)) (Some (Some content)) of events P read h =
    record { page = of; events = events; of_page = read.of_page; of_file = read.of_file; holds = h bytes read.of_page.accepted }

-- ---- reading and accepting a page

-- reading the page ends a command
stops_at_page : (p : List ℕ) (gs : List Stage) (status : Status) (seen : Seen) → StopsAtPage status (seen.files_before.content p)
    → (status ≡ ReadFault → ReadFailed p seen.files_before seen.files_now) → EndsAt (page_file p ∷ acceptance p ∷ gs) status seen
stops_at_page p gs (PageRefused None) seen h f = inl h
stops_at_page p gs (PageRefused (Some r)) seen h f =
    let both = told_fits (seen.files_before.content p) (λ b. IsRefused b r) h in inr (both.0, inl both.1)
stops_at_page p gs ReadFault seen h f = inl (f refl)
stops_at_page p gs OutOfMemory seen h f = inl tt
stops_at_page p gs status seen h f = absurd h

passes_page : (p : List ℕ) (seen : Seen) (page : Page) → Held seen p (λ b. IsPage b page) → PassesAll (page_file p ∷ acceptance p ∷ []) seen
passes_page p seen page h = let both = told_accepted (seen.files_before.content p) page h in (both.0, (both.1, tt))

-- ---- a page and its events

stops_at_events : (e : List ℕ) (status : Status) (seen : Seen) → StopsAtEvents status (seen.files_before.content e)
    → (status ≡ ReadFault → ReadFailed e seen.files_before seen.files_now) → EndsAt (event_file e ∷ []) status seen
stops_at_events e (EventsRefused i) seen h f = inl h
stops_at_events e ReadFault seen h f = inl (f refl)
stops_at_events e OutOfMemory seen h f = inl tt
stops_at_events e status seen h f = absurd h

pub passes_reading : (p e : List ℕ) (seen : Seen) (page : Page) (events : List Event) → AreRead (seen.files_before.content p) (seen.files_before.content e) page events
    → PassesAll (reading p e) seen
passes_reading p e seen page events read =
    passes_both (page_file p ∷ acceptance p ∷ []) (event_file e ∷ []) seen (passes_page p seen page read.of_page)
    (told_events (seen.files_before.content e) events read.of_file, tt)

module _ (before now : FilesSeen) where
  pub page_stops_reading : (p e : List ℕ) (status : Status) → StopsAtPage status (before.content p)
      → (status ≡ ReadFault → ReadFailed p before now) → StopsReading p e status before now
  page_stops_reading p e status h f keeper keeper_now = stops_at_page p (event_file e ∷ []) status (seen_between before now keeper keeper_now) h f

  pub events_stop_reading : (p e : List ℕ) (status : Status) (page : Page) → Of (before.content p) (λ b. IsPage b page)
      → StopsAtEvents status (before.content e) → (status ≡ ReadFault → ReadFailed e before now)
      → StopsReading p e status before now
  events_stop_reading p e status page h s f keeper keeper_now =
      let seen = seen_between before now keeper keeper_now in
      ends_behind (page_file p ∷ acceptance p ∷ []) (event_file e ∷ []) status seen (passes_page p seen page h) (stops_at_events e status seen s f)

  -- ---- check

  pub check_refuses : (p : List ℕ) (status : Status) → StopsAtPage status (before.content p)
      → (status ≡ ReadFault → ReadFailed p before now) → GivesOfFiles (checking p) (Err status) before now
  check_refuses p status h f keeper = (stops_at_page p [] status (seen_between before now keeper keeper) h f, refl)

  pub check_gives : (p : List ℕ) (text : Vec ℕ Global) (page : Page) → Of (before.content p) (λ b. IsPage b page) → Of (before.content p) (λ b. Tells b text.items)
      → GivesOfFiles (checking p) (Good text) before now
  check_gives p text page h t keeper = let both = told_accepted (before.content p) page h in ((both.0, (both.1, tt)), t, refl)

  pub check_lacks_memory : (p : List ℕ) → GivesOfFiles (checking p) (Err OutOfMemory) before now
  check_lacks_memory p keeper = (inl tt, refl)

  -- ---- instrument

  pub instrument_gives : (p : List ℕ) (r : Result (Vec ℕ Global) Status) → IfOk r (λ text. Of (before.content p) (λ b. OpensTo b text.items))
      → IfErr r (λ status. StopsAtPage status (before.content p))
      → (r ≡ Err ReadFault → ReadFailed p before now) → GivesOfFiles (instrumenting p) r before now
  instrument_gives p (Good text) h s f keeper =
      let both = told_opened (before.content p) text.items h in ((both.0, (both.1, tt)), h, refl)
  instrument_gives p (Err status) h s f keeper = (stops_at_page p [] status (seen_between before now keeper keeper) s (λ e. f (ap Err e)), refl)

  -- ---- replay

  pub replay_refuses : (p e : List ℕ) (status : Status) → StopsReading p e status before now → GivesOfFiles (replaying p e) (Err status) before now
  replay_refuses p e status h keeper = (h keeper keeper, refl)

  pub replay_gives : (p e : List ℕ) (text : Vec ℕ Global) (page : Page) (events : List Event)
      → AreRead (before.content p) (before.content e) page events → Replays page events text.items → GivesOfFiles (replaying p e) (Good text) before now
  replay_gives p e text page events read t keeper =
      (passes_reading p e (seen_between before now keeper keeper) page events read, told_both (before.content p) (before.content e) page events (λ page events. Replays page events text.items) read t, refl)

  pub replay_lacks_memory : (p e : List ℕ) → GivesOfFiles (replaying p e) (Err OutOfMemory) before now
  replay_lacks_memory p e keeper = (inl tt, refl)
