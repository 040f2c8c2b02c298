-- The stages of reading exclude each other's causes, and at each of them there is a cause or it is passed.
use Rattle.std.proofs.Common.{◌≡◌, ℕ, ◌<◌, ◌≤◌, List, ◌++◌, length, Some, None, Result, Ok, Err, refl, sym, ap, ◌∙◌, inl, inr, arith}
use Rattle.std.specs.Prelude.{◌⊎◌}
use Rattle.page_check.specs.Accept.{IsRefused}
use Rattle.page_check.specs.declared.page.Refusal.{Refusal}
use Rattle.js_values.specs.declared.event.Event.{Event}
use Rattle.event_file.specs.Events.{events_of}
use Rattle.outcomes.specs.declared.status.Status.{Status}
use Rattle.outcomes.specs.declared.status.Status.TheVariants as status
use Rattle.outcomes.specs.Lawful.{AreDecided, AreExclusive, IsBehind, IsDecided, IsExclusive, IsQuietAt, IsReadOrFailed}
use Rattle.outcomes.specs.Seen.{Seen, Held}
use Rattle.outcomes.specs.Stages.{Stage, StopsAt}
use Rattle.outcomes.proofs.Callers.{at_most_or_more, of_both, of_held}
use Rattle.read_files.specs.Page.{page_limit, event_file_limit, Page, IsAccepted, IsPage}
use Rattle.read_files.specs.Replay.{AreBoth, HeldBoth, IsEventFile}
use Rattle.read_files.specs.Stages.{IsNoEventFile, accepting, acceptance, event_file, page_file, reading}

-- what `law_one_answer` of page_check says
pub record AnswersAreOne : Type 0 where
  -- bytes are accepted in one way
  pub one_page : (bytes : List ℕ) (page other : Page) → IsAccepted bytes page → IsAccepted bytes other → page ≡ other
  -- or refused for one cause
  pub one_cause : (bytes : List ℕ) (cause other : Refusal) → IsRefused bytes cause → IsRefused bytes other → cause ≡ other
  -- and not both
  pub not_both : (bytes : List ℕ) (page : Page) (cause : Refusal) → IsAccepted bytes page → IsRefused bytes cause → ⊥
  -- and none are neither
  pub some : (bytes : List ℕ) → ((page : Page) → ¬ IsAccepted bytes page) → ((cause : Refusal) → ¬ IsRefused bytes cause) → ⊥

-- ---- one cause at each stage

module _ (seen : Seen) where
  -- with which status a quiet command stops
  stops_page : (p : List ℕ) (s : Status) → IsQuietAt (page_file p) seen → ¬ (s ≡ status.OutOfMemory) → StopsAt (page_file p) s seen
      → (s ≡ status.PageRefused None) × Held seen p (λ bytes. page_limit < length bytes)
  stops_page p (status.PageRefused None) q n h = (refl, h)
  stops_page p status.ReadFault q n h = absurd (q.reads (λ e. cc) h.rose)
  stops_page p status.OutOfMemory q n h = absurd (n refl)
  stops_page p s q n h = absurd h

  stops_acceptance : (p : List ℕ) (s : Status) → ¬ (s ≡ status.OutOfMemory) → StopsAt (acceptance p) s seen
      → (r : Refusal) × (s ≡ status.PageRefused (Some r)) × Held seen p (λ bytes. IsRefused bytes r)
  stops_acceptance p (status.PageRefused (Some r)) n h = (r, refl, h)
  stops_acceptance p status.OutOfMemory n h = absurd (n refl)
  stops_acceptance p s n h = absurd h

  stops_events : (e : List ℕ) (s : Status) → IsQuietAt (event_file e) seen → ¬ (s ≡ status.OutOfMemory) → StopsAt (event_file e) s seen
      → (i : ℕ) × (s ≡ status.EventsRefused i) × Held seen e (λ file. IsNoEventFile file i)
  stops_events e (status.EventsRefused i) q n h = (i, refl, h)
  stops_events e status.ReadFault q n h = absurd (q.reads (λ e. cc) h.rose)
  stops_events e status.OutOfMemory q n h = absurd (n refl)
  stops_events e s q n h = absurd h

page_file_exclusive : (p : List ℕ) → IsExclusive (page_file p)
page_file_exclusive p = record {
  one = λ seen s t q n m h k. let a = stops_page seen p s q n h in let b = stops_page seen p t q m k in a.0 ∙ sym b.0;
  apart = λ seen s q n h pass.
      of_both (seen.files_before.content p) (λ b. page_limit < length b) (λ b. length b ≤ page_limit) ⊥ q.told.0 (stops_page seen p s q n h).1 pass
      (λ b x y. omega (arith, x, y));
}

acceptance_exclusive : AnswersAreOne → (p : List ℕ) → IsExclusive (acceptance p)
acceptance_exclusive laws p = record {
  one = λ seen s t q n m h k.
      let a = stops_acceptance seen p s n h in
      let b = stops_acceptance seen p t m k in
      let same = of_both (seen.files_before.content p) (λ x. IsRefused x a.0) (λ x. IsRefused x b.0) (a.0 ≡ b.0) q.told.0 a.2 b.2
      (λ bytes x y. laws.one_cause bytes a.0 b.0 x y) in
      a.1 ∙ ap (λ (r : Refusal). status.PageRefused (Some r)) same ∙ sym b.1;
  apart = λ seen s q n h pass.
      let a = stops_acceptance seen p s n h in
      of_both (seen.files_before.content p) (λ x. IsRefused x a.0) (λ x. (page : Page) × IsAccepted x page) ⊥ q.told.0 a.2 pass
      (λ bytes x y. laws.not_both bytes y.0 a.0 y.1 x);
}

one_number : (file : List ℕ) (i j : ℕ) → IsNoEventFile file i → IsNoEventFile file j → i ≡ j
one_number file i j (inl h) (inl g) = h.1 ∙ sym g.1
one_number file i j (inl h) (inr g) = absurd (omega (arith, h.0, g.0))
one_number file i j (inr h) (inl g) = absurd (omega (arith, h.0, g.0))
one_number file i j (inr h) (inr g) = let same : Err i ≡ Err j = sym h.1 ∙ g.1 in cc

file_or_none : (file : List ℕ) (i : ℕ) → IsNoEventFile file i → ((events : List Event) × IsEventFile file events) → ⊥
file_or_none file i (inl h) g = omega (arith, h.0, g.1.fits)
file_or_none file i (inr h) g = let same : Err i ≡ Ok g.0 = sym h.1 ∙ g.1.holds in cc

event_file_exclusive : (e : List ℕ) → IsExclusive (event_file e)
event_file_exclusive e = record {
  one = λ seen s t q n m h k.
      let a = stops_events seen e s q n h in
      let b = stops_events seen e t q m k in
      let same = of_both (seen.files_before.content e) (λ f. IsNoEventFile f a.0) (λ f. IsNoEventFile f b.0) (a.0 ≡ b.0) q.told.0 a.2 b.2
      (λ f x y. one_number f a.0 b.0 x y) in
      a.1 ∙ ap status.EventsRefused same ∙ sym b.1;
  apart = λ seen s q n h pass.
      let a = stops_events seen e s q n h in
      of_both (seen.files_before.content e) (λ f. IsNoEventFile f a.0) (λ f. (events : List Event) × IsEventFile f events) ⊥ q.told.0 a.2 pass
      (λ f x y. file_or_none f a.0 x y);
}

pub accepting_exclusive : AnswersAreOne → (p : List ℕ) → AreExclusive (accepting p)
accepting_exclusive laws p = (page_file_exclusive p, (acceptance_exclusive laws p, tt))

pub reading_exclusive : AnswersAreOne → (p e : List ℕ) → AreExclusive (reading p e)
reading_exclusive laws p e = (page_file_exclusive p, (acceptance_exclusive laws p, (event_file_exclusive e, tt)))

-- ---- some cause at each stage

module _ (seen : Seen) where
  abbrev IsHeld : List ℕ → List ℕ → Type 0
  IsHeld name bytes = seen.files_before.content name ≡ Some (Some bytes)

  -- a read of the page did not fail, or the command had ended
  page_is_held : (p : List ℕ) → IsBehind (page_file p) seen → IsReadOrFailed seen p → (bytes : List ℕ) × IsHeld p bytes
  page_is_held p behind (inl held) = held
  page_is_held p behind (inr failed) = absurd (behind.none status.ReadFault (λ e. cc) failed)

  of_name : (name bytes : List ℕ) (P : List ℕ → Type 0) → IsHeld name bytes → Held seen name P → P bytes
  of_name name bytes P e h = rw e at h

page_file_decided : (given : Seen → Type 0) (p : List ℕ) → IsDecided given (page_file p)
page_file_decided given p seen before asked behind never = by_read asked.files.0
  where
    by_case : (bytes : List ℕ) → IsHeld seen p bytes → (length bytes ≤ page_limit) ⊎ (page_limit < length bytes) → ⊥
    by_case bytes held (inl few) = behind (record { passes = of_held _ bytes (λ b. length b ≤ page_limit) held few; none = never })
    by_case bytes held (inr many) = never (status.PageRefused None) (λ e. cc) (of_held _ bytes (λ b. page_limit < length b) held many)

    by_read : IsReadOrFailed seen p → ⊥
    by_read (inr failed) = never status.ReadFault (λ e. cc) failed
    by_read (inl held) = by_case held.0 held.1 (at_most_or_more (length held.0) page_limit)

acceptance_decided : AnswersAreOne → (given : Seen → Type 0) (p : List ℕ) → ((seen : Seen) → given seen → IsBehind (page_file p) seen) → IsDecided given (acceptance p)
acceptance_decided laws given p read seen before asked behind never = by_held (page_is_held seen p (read seen before) asked.files.0)
  where
    by_held : ((bytes : List ℕ) × IsHeld seen p bytes) → ⊥
    by_held held = laws.some held.0
        (λ page a. behind (record { passes = of_held _ held.0 (λ b. (page : Page) × IsAccepted b page) held.1 (page, a); none = never }))
        (λ cause h. never (status.PageRefused (Some cause)) (λ e. cc) (of_held _ held.0 (λ b. IsRefused b cause) held.1 h))

event_file_decided : (given : Seen → Type 0) (n : List ℕ) → IsDecided given (event_file n)
event_file_decided given n seen before asked behind never = by_read asked.files.0
  where
    refused : (file : List ℕ) (i : ℕ) → IsHeld seen n file → IsNoEventFile file i → ⊥
    refused file i held h = never (status.EventsRefused i) (λ e. cc) (of_held _ file (λ f. IsNoEventFile f i) held h)

    by_events : (file : List ℕ) → IsHeld seen n file → (found : Result (List Event) ℕ) → events_of file ≡ found → length file ≤ event_file_limit → ⊥
    by_events file held (Ok es) e few =
        let holds : IsEventFile file es = record { fits = few; holds = e } in
        behind (record { passes = of_held _ file (λ f. (events : List Event) × IsEventFile f events) held (es, holds); none = never })
    by_events file held (Err i) e few = refused file i held (inr (few, e))

    by_case : (file : List ℕ) → IsHeld seen n file → (length file ≤ event_file_limit) ⊎ (event_file_limit < length file) → ⊥
    by_case file held (inl few) = by_events file held (events_of file) refl few
    by_case file held (inr many) = refused file 0 held (inl (many, refl))

    by_read : IsReadOrFailed seen n → ⊥
    by_read (inr failed) = never status.ReadFault (λ e. cc) failed
    by_read (inl held) = by_case held.0 held.1 (at_most_or_more (length held.0) event_file_limit)

pub accepting_decided : AnswersAreOne → (given : Seen → Type 0) (p : List ℕ) → AreDecided given (accepting p)
accepting_decided laws given p =
    (page_file_decided given p, (acceptance_decided laws (λ seen. given seen × IsBehind (page_file p) seen) p (λ seen h. h.1), tt))

pub reading_decided : AnswersAreOne → (given : Seen → Type 0) (p e : List ℕ) → AreDecided given (reading p e)
reading_decided laws given p e = (
  page_file_decided given p,
  (
    acceptance_decided laws (λ seen. given seen × IsBehind (page_file p) seen) p (λ seen h. h.1),
    (event_file_decided (λ seen. (given seen × IsBehind (page_file p) seen) × IsBehind (acceptance p) seen) e, tt),
  ),
)

-- the same with stages after them
pub reading_exclusive_before : AnswersAreOne → (p e : List ℕ) (gs : List Stage) → AreExclusive gs → AreExclusive (reading p e ++ gs)
reading_exclusive_before laws p e gs x = (page_file_exclusive p, (acceptance_exclusive laws p, (event_file_exclusive e, x)))

abbrev pub after_reading : (Seen → Type 0) → List ℕ → List ℕ → Seen → Type 0
after_reading given p e seen = ((given seen × IsBehind (page_file p) seen) × IsBehind (acceptance p) seen) × IsBehind (event_file e) seen

pub reading_decided_before : AnswersAreOne → (given : Seen → Type 0) (p e : List ℕ) (gs : List Stage) → AreDecided (after_reading given p e) gs
    → AreDecided given (reading p e ++ gs)
reading_decided_before laws given p e gs d = (
  page_file_decided given p,
  (
    acceptance_decided laws (λ seen. given seen × IsBehind (page_file p) seen) p (λ seen h. h.1),
    (event_file_decided (λ seen. (given seen × IsBehind (page_file p) seen) × IsBehind (acceptance p) seen) e, d),
  ),
)

-- ---- what was read, for the stages after it

abbrev IsHeldAs : Seen → List ℕ → List ℕ → Page → List Event → Type 0
IsHeldAs seen p e page events =
    (bytes : List ℕ) × (file : List ℕ) × IsHeld seen p bytes × IsHeld seen e file × IsPage bytes page × IsEventFile file events

-- a page and its events were read
pub read_both : (seen : Seen) (p e : List ℕ) (R : Type 0) → IsBehind (page_file p) seen → IsBehind (acceptance p) seen → IsBehind (event_file e) seen
    → IsReadOrFailed seen p → IsReadOrFailed seen e
    → ((page : Page) (events : List Event) → ((P : Page → List Event → Type 0) → P page events → HeldBoth seen p e P) → R) → R
read_both seen p e R file accepted listed asked asked_too f = by (page_is_held seen p file asked) (events_are_held asked_too)
  where
    events_are_held : IsReadOrFailed seen e → (bytes : List ℕ) × IsHeld seen e bytes
    events_are_held (inl held) = held
    events_are_held (inr failed) = absurd (listed.none status.ReadFault (λ e. cc) failed)

    by : ((bytes : List ℕ) × IsHeld seen p bytes) → ((bytes : List ℕ) × IsHeld seen e bytes) → R
    by held holds =
        let few = of_name seen p held.0 (λ b. length b ≤ page_limit) held.1 file.passes in
        let page = of_name seen p held.0 (λ b. (page : Page) × IsAccepted b page) held.1 accepted.passes in
        let events = of_name seen e holds.0 (λ f. (events : List Event) × IsEventFile f events) holds.1 listed.passes in
        f page.0 events.0 λ P h.
        of_held _ held.0 (λ b. Held seen e (λ f. AreBoth b f P)) held.1 (of_held _ holds.0 (λ f. AreBoth held.0 f P) holds.1 (record {
          page = page.0;
          events = events.0;
          of_page = record { fits = few; accepted = page.1 };
          of_file = events.1;
          holds = h;
        }))

-- what holds of the page and the events of two names, and what else does
pub held_both : AnswersAreOne → (seen : Seen) (p e : List ℕ) (P Q : Page → List Event → Type 0) (R : Type 0) → ¬ (seen.files_before.content p ≡ None)
    → ¬ (seen.files_before.content e ≡ None) → HeldBoth seen p e P → HeldBoth seen p e Q → ((page : Page) (events : List Event) → P page events → Q page events → R) → R
held_both laws seen p e P Q R t u x y f =
    of_both (seen.files_before.content p) (λ b. Held seen e (λ g. AreBoth b g P)) (λ b. Held seen e (λ g. AreBoth b g Q)) R t x y λ bytes v w.
    of_both (seen.files_before.content e) (λ g. AreBoth bytes g P) (λ g. AreBoth bytes g Q) R u v w λ file a b.
    same bytes file a b
  where
    same : (bytes file : List ℕ) → AreBoth bytes file P → AreBoth bytes file Q → R
    same bytes file a b =
        let page : b.page ≡ a.page = laws.one_page bytes b.page a.page b.of_page.accepted a.of_page.accepted in
        let both : Ok b.events ≡ Ok a.events = sym b.of_file.holds ∙ a.of_file.holds in
        let events : b.events ≡ a.events = cc in
        f a.page a.events a.holds (rw (page, events) at b.holds)
