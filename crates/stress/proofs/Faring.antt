-- How generated pages fare: the causes of each end, and the line.
use Rattle.std.proofs.Common.{◌≡◌, ℕ, ◌+◌, ◌<◌, ◌/◌, List, [], drop, length, min, Some, None, Result, Ok as Good, Err, IfOk, IfErr, Vec, Global, refl, sym, ap, subst, ◌∙◌, inl, arith, length-take}
use Rattle.dom_tree.specs.Sound.{IsSound}
use Rattle.event_file.specs.Events.{events_of}
use Rattle.generated_pages.specs.Lists.{ListsAreRead, made_events}
use Rattle.generated_pages.specs.Pages.{PagesAreAccepted, plain_page}
use Rattle.heap_walker.specs.Things.{IsWalk}
use Rattle.heap_walker.specs.Weight.{load_of, told}
use Rattle.heap_walker.specs.declared.weight.Weight.{Weight}
use Rattle.js_values.specs.declared.event.Event.{Event}
use Rattle.js_values.specs.declared.line.Line.{Line}
use Rattle.opened_pages.specs.Opened.{HaveNumbers}
use Rattle.page_check.specs.Accept.{IsRefused}
use Rattle.page_check.specs.declared.page.Kind.TheVariants.{Plain}
use Rattle.page_check.specs.declared.page.Refusal.{Refusal}
use Rattle.page_maker.specs.Events.{event_list}
use Rattle.page_maker.specs.Page.{page as page_text}
use Rattle.page_meaning.specs.Pages.{lines_after, lines_of_run, run_of}
use Rattle.page_meaning.specs.Store.{Store}
use Rattle.page_writer.specs.Page.{saved_page}
use Rattle.outcomes.specs.declared.status.Status.{Status}
use Rattle.outcomes.specs.declared.status.Status.TheVariants.{PageRefused, TooLarge, OutOfMemory}
use Rattle.outcomes.specs.Work.{GivesAlone}
use Rattle.read_files.specs.Page.{Page, IsAccepted, opened, running}
use Rattle.read_files.specs.Reading.{IsUntaken}
use Rattle.migrate.specs.Moving.{IsNotSaved, IsOverweight, IsSaved, unsaved_status}
use Rattle.migrate.specs.Saving.{CanBeSaved, GoesOn, IsTooMuch, MovesTo, SavedPagesMove, Saves}
use Rattle.migrate.specs.declared.unsaved.Unsaved.{Unsaved}
use Rattle.migrate.specs.declared.unsaved.Unsaved.TheVariants as unsaved
use Rattle.migrate.proofs.Callers.{large, light}
use Rattle.stress.specs.Faring.{CountsLines, HasNoLine, IsMovedBy, IsUnmoved, IsWhole}
use Rattle.stress.specs.Stress.{earlier, last_line, later, stress_line, IsMade, IsMoved, IsMovableHalfway, IsPartCount, IsTooLargeHalfway}
use Rattle.stress.specs.Works.{stressing}

abbrev pub OneAcceptance : Type 0
OneAcceptance = (bytes : List ℕ) (page other : Page) → IsAccepted bytes page → IsAccepted bytes other → page ≡ other

abbrev pub NotBoth : Type 0
NotBoth = (bytes : List ℕ) (page : Page) (cause : Refusal) → IsAccepted bytes page → IsRefused bytes cause → ⊥

-- a page that is not saved
pub unsaved_is_unmoved : (page : Page) (before : List Event) (cause : Unsaved) → IsNotSaved (run_of (opened page) before) cause → IsUnmoved page before (unsaved_status cause)
unsaved_is_unmoved page before (unsaved.TooLarge w) h = h
unsaved_is_unmoved page before unsaved.OutOfMemory h = tt
unsaved_is_unmoved page before unsaved.WriteFault h = absurd h

-- a saved page that is not taken
pub untaken_is_unmoved : (page : Page) (before : List Event) (text : List ℕ) (status : Status) → HaveNumbers page.kind page.scripts
    → IsSaved (run_of (opened page) before) text → IsUntaken text status → IsUnmoved page before status
untaken_is_unmoved page before text (PageRefused (Some r)) numbered saved h = record {
  things = saved.0;
  can = saved.1;
  numbered = numbered;
  refused = subst (λ (b : List ℕ). IsRefused b r) saved.2 h;
}
untaken_is_unmoved page before text OutOfMemory numbered saved h = tt
untaken_is_unmoved page before text (PageRefused None) numbered saved h = absurd h
untaken_is_unmoved page before text status numbered saved h = absurd h

-- and one that is taken
pub saved_is_moved : (page : Page) (before after : List Event) (text : List ℕ) (lines bytes : ℕ) → HaveNumbers page.kind page.scripts
    → IsSaved (run_of (opened page) before) text → CountsLines text after lines → bytes ≡ length text → IsMovedBy page before after lines bytes
saved_is_moved page before after text lines bytes numbered saved counts size = record {
  things = saved.0;
  can = saved.1;
  numbered = numbered;
  counts = subst (λ (b : List ℕ). CountsLines b after lines) saved.2 counts;
  size = size ∙ ap length saved.2;
}

-- ---- the page and its events

abbrev pub IsMadeOnce : ℕ → Type 0
IsMadeOnce n = (page : Page) × (events : List Event) × IsMade n page events

-- each number of parts has a generated page that is accepted, and a list of events that is read
abbrev pub MadePages : Type 0
MadePages = (n : ℕ) → IsPartCount n → IsMadeOnce n

pub made_pages : PagesAreAccepted → ListsAreRead → MadePages
made_pages pages lists n parts =
    let page = pages n (omega (arith, parts.1)) in
    let events = lists n parts.0 (omega (arith, parts.1)) in
    (plain_page page.0, made_events n, record { accepted = page.1; holds = events.0 })

-- so such a page is not taken where memory ran out alone
pub untaken_is_memory : NotBoth → (bytes : List ℕ) (page : Page) (status : Status) → IsAccepted bytes page → IsUntaken bytes status → status ≡ OutOfMemory
untaken_is_memory not_both bytes page (PageRefused (Some r)) a h = absurd (not_both bytes page r a h)
untaken_is_memory not_both bytes page OutOfMemory a h = refl
untaken_is_memory not_both bytes page (PageRefused None) a h = absurd h
untaken_is_memory not_both bytes page status a h = absurd h

pub made_or_memory : {T : Type 0} → NotBoth → PagesAreAccepted → (n : ℕ) → n < 4294967296 → (r : Result T Status) → IfErr r (IsUntaken (page_text n))
    → IfErr r (λ status. status ≡ OutOfMemory)
made_or_memory not_both pages n few (Good made) h = tt
made_or_memory not_both pages n few (Err status) h =
    let page = pages n (omega (arith, few)) in
    untaken_is_memory not_both (page_text n) (plain_page page.0) status page.1 h

-- and its list is not refused
pub list_not_refused : ListsAreRead → (n i : ℕ) → IsPartCount n → ¬ (events_of (event_list n) ≡ Err i)
list_not_refused lists n i parts refused =
    let events = lists n parts.0 (omega (arith, parts.1)) in
    let same : Good (made_events n) ≡ Err i = sym events.0 ∙ refused in
    cc same

-- half of a list, by how long it is
half_of : (k : ℕ) → min (k / 2) k ≡ k / 2
half_of k = omega arith

half_taken : (events : List Event) (k : ℕ) → length events ≡ k → length (earlier events) ≡ k / 2
half_taken events k many =
    let taken : length (earlier events) ≡ min (length events / 2) (length events) = length-take (length events / 2) events in
    taken ∙ half_of (length events) ∙ ap (λ (m : ℕ). m / 2) many

module _ (n : ℕ) where
  -- ---- the move

  too_large : (page : Page) (events : List Event) (w : Weight) (things : List ℕ) → IsMade n page events
      → IsOverweight (run_of (opened page) (earlier events)) things w → IsTooLargeHalfway n w
  too_large page events w things made over = record { page = page; events = events; made = made; large = large page (earlier events) things w over }

  is_movable : (m : Page) (events : List Event) (things : List ℕ) → IsMade n m events → IsWalk (run_of (opened m) (earlier events)) things
      → ¬ IsTooMuch (told (load_of (run_of (opened m) (earlier events)) things)) → IsMovableHalfway n
  is_movable page events things made walked little =
      record { page = page; events = events; made = made; movable = light page (earlier events) things (record { walked = walked; little = little }) }

  -- the saved page puts out what the page does after the earlier events
  lines_go_on : (page now : Page) (before after : List Event) → GoesOn page before now
      → length (lines_of_run (running now) after) ≡ length (lines_after (running page) before after)
  lines_go_on page now before after on =
      let silent : lines_after (running now) [] after ≡ lines_of_run (running now) after =
      ap (λ (ls : List Line). drop (length ls) (lines_of_run (running now) after)) on.silent in
      ap (λ (ls : List Line). length ls) (sym silent ∙ on.same after)

  module _ (move : SavedPagesMove) (page : Page) (events : List Event) (made : IsMade n page events) (sound : IsSound page.nodes) where
    moves : (things : List ℕ) → HaveNumbers page.kind page.scripts → CanBeSaved (run_of (opened page) (earlier events)) things
        → MovesTo (page_text n) (earlier events) (saved_page (run_of (opened page) (earlier events)) things)
    moves things numbered can =
        let saves : Saves page (earlier events) (saved_page (run_of (opened page) (earlier events)) things) =
        move (page_text n) page (earlier events) things made.accepted sound numbered can in
        saves.moves (page_text n) made.accepted

    pub moved_gives : (lines bytes : ℕ) → IsMovedBy page (earlier events) (later events) lines bytes → IsMoved n lines bytes
    moved_gives lines bytes m =
        let to = moves m.things m.numbered m.can in
        let on = to.goes_on page m.counts.page made.accepted m.counts.accepted in
        record {
          page = page;
          events = events;
          made = made;
          things = m.things;
          walked = m.can.walked;
          little = m.can.little;
          lines = m.counts.is ∙ lines_go_on page m.counts.page (earlier events) (later events) on;
          size = m.size;
        }

    pub unmoved_stops : NotBoth → (status : Status) → IsUnmoved page (earlier events) status → HasNoLine n status
    unmoved_stops not_both (TooLarge w) h = too_large page events w h.0 made h.1
    unmoved_stops not_both (PageRefused (Some r)) h =
        let to = moves h.things h.numbered h.can in
        absurd (not_both (saved_page (run_of (opened page) (earlier events)) h.things) to.moved r to.page.accepted h.refused)
    unmoved_stops not_both OutOfMemory h = tt
    unmoved_stops not_both (PageRefused None) h = absurd h
    unmoved_stops not_both status h = absurd h

    -- the same of what the move answered
    pub moved_if : (before after : List Event) (r : Result (ℕ × ℕ) Status) → before ≡ earlier events → after ≡ later events
        → IfOk r (λ m. IsMovedBy page before after m.0 m.1) → IfOk r (λ m. IsMoved n m.0 m.1)
    moved_if before after (Good m) b a h =
        moved_gives m.0 m.1 (subst (λ es. IsMovedBy page (earlier events) es m.0 m.1) a (subst (λ es. IsMovedBy page es after m.0 m.1) b h))
    moved_if before after (Err status) b a h = tt

    pub unmoved_if : NotBoth → (before : List Event) (r : Result (ℕ × ℕ) Status) → before ≡ earlier events
        → IfErr r (IsUnmoved page before) → IfErr r (HasNoLine n)
    unmoved_if not_both before (Good m) b h = tt
    unmoved_if not_both before (Err status) b h = unmoved_stops not_both status (subst (λ es. IsUnmoved page es status) b h)

  -- ---- one page and one list of events

  pub same_page : OneAcceptance → (page other : Page) (es ds : List Event) → IsMade n page es → IsMade n other ds → page ≡ other
  same_page one page other es ds a b = one (page_text n) page other a.accepted b.accepted

  pub same_list : (page other : Page) (es ds : List Event) → IsMade n page es → IsMade n other ds → es ≡ ds
  same_list page other es ds a b = let same : Good es ≡ Good ds = sym a.holds ∙ b.holds in cc

  -- the page is plain
  made_plain : OneAcceptance → PagesAreAccepted → IsPartCount n → (page : Page) (events : List Event) → IsMade n page events → page.kind ≡ Plain
  made_plain one pages parts page events made =
      let plain = pages n (omega (arith, parts.1)) in
      ap (λ (p : Page). p.kind) (one (page_text n) page (plain_page plain.0) made.accepted plain.1)

  made_list : ListsAreRead → IsPartCount n → (page : Page) (events : List Event) → IsMade n page events → events ≡ made_events n
  made_list lists parts page events made =
      let read = lists n parts.0 (omega (arith, parts.1)) in
      let same : Good events ≡ Good (made_events n) = sym made.holds ∙ read.0 in cc

  -- and the first half of its events has so many
  first_half : ListsAreRead → IsPartCount n → (page : Page) (events : List Event) → IsMade n page events → length (earlier events) ≡ (n + 1) / 2
  first_half lists parts page events made =
      let read = lists n parts.0 (omega (arith, parts.1)) in
      let many : length events ≡ n + 1 = ap (λ (es : List Event). length es) (made_list lists parts page events made) ∙ read.1 in
      half_taken events (n + 1) many

  -- ---- the line

  pub stress_gives : OneAcceptance → PagesAreAccepted → ListsAreRead → IsPartCount n → (s : Store) (after bytes : ℕ) (text : Vec ℕ Global) → IsWhole n s → IsMoved n after bytes
      → text.items ≡ stress_line n (length s.lines) after bytes (last_line s.lines) → GivesAlone (stressing n) (Good text)
  stress_gives one pages lists parts s after bytes text w m e files keeper =
      let page = same_page one w.page m.page w.events m.events w.made m.made in
      let events = same_list w.page m.page w.events m.events w.made m.made in
      let lines : s.lines ≡ lines_of_run (running m.page) m.events =
      ap (λ (t : Store). t.lines) w.state ∙ ap (λ (p : Page). lines_of_run (running p) w.events) page ∙ ap (lines_of_run (running m.page)) events in (
        (is_movable m.page m.events m.things m.made m.walked m.little, tt),
        record {
          page = m.page;
          events = m.events;
          made = m.made;
          plain = made_plain one pages parts m.page m.events m.made;
          half = first_half lists parts m.page m.events m.made;
          things = m.things;
          walked = m.walked;
          line = e ∙ ap (λ (ls : List Line). stress_line n (length ls) after bytes (last_line ls)) lines
              ∙ ap (λ (k : ℕ). stress_line n (length (lines_of_run (running m.page) m.events)) k bytes (last_line (lines_of_run (running m.page) m.events))) m.lines
              ∙ ap (λ (k : ℕ). stress_line n (length (lines_of_run (running m.page) m.events)) (length (lines_after (running m.page) (earlier m.events) (later m.events))) k
              (last_line (lines_of_run (running m.page) m.events))) m.size;
        },
        refl,
      )

  pub stress_stops : (status : Status) → HasNoLine n status → GivesAlone (stressing n) (Err status)
  stress_stops (TooLarge w) h files keeper = (inl h, refl)
  stress_stops OutOfMemory h files keeper = (inl tt, refl)
  stress_stops status h files keeper = absurd h

  pub stress_lacks_memory : (status : Status) → status ≡ OutOfMemory → GivesAlone (stressing n) (Err status)
  stress_lacks_memory status is = stress_stops status (subst (HasNoLine n) (sym is) tt)
