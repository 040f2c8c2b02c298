-- What `stress` writes: how a generated page fares under its events, whole and moved after the first half of them.
use Rattle.std.specs.Prelude.{ℕ, ◌≡◌, ◌+◌, ◌-◌, ◌/◌, ◌≤◌, List, [], ◌∷◌, ◌++◌, codes, drop, length, take, Option, Some, None, Ok, slice_get}
use Rattle.event_file.specs.Events.{events_of}
use Rattle.heap_walker.specs.Things.{IsWalk}
use Rattle.heap_walker.specs.Weight.{load_of, told}
use Rattle.heap_walker.specs.declared.weight.Weight.{Weight}
use Rattle.js_values.specs.Line.{line_of}
use Rattle.js_values.specs.declared.event.Event.{Event}
use Rattle.js_values.specs.declared.line.Line.{Line}
use Rattle.page_check.specs.declared.page.Kind.TheVariants.{Plain}
use Rattle.page_maker.specs.Events.{event_list}
use Rattle.page_maker.specs.Page.{page as page_text}
use Rattle.page_meaning.specs.Pages.{lines_after, lines_of_run, run_of}
use Rattle.page_writer.specs.Page.{saved_page}
use Rattle.outcomes.specs.Numbers.{number_words}
use Rattle.read_files.specs.Page.{Page, IsAccepted, opened, running}
use Rattle.migrate.specs.Saving.{IsMovable, IsTooLarge, IsTooMuch}

-- ---- the page and its events

abbrev pub most_parts : ℕ
most_parts = 1000

-- from 1 to that many
abbrev pub IsPartCount : ℕ → Type 0
IsPartCount n = (1 ≤ n) × (n ≤ most_parts)

-- the generated page with so many parts is accepted as this page, and its list holds these events
pub record IsMade (n : ℕ) (page : Page) (events : List Event) : Type 0 where
  pub accepted : IsAccepted (page_text n) page
  pub holds : events_of (event_list n) ≡ Ok events

-- the events before the move: half of them, and one less than the others where their number is odd
abbrev pub earlier : List Event → List Event
earlier events = take (length events / 2) events

-- and those after it
abbrev pub later : List Event → List Event
later events = drop (length events / 2) events

-- ---- the move

-- that page is too large to be saved after the earlier events, and so much it is
pub record IsTooLargeHalfway (n : ℕ) (w : Weight) : Type 0 where
  pub page : Page
  pub events : List Event
  pub made : IsMade n page events
  pub large : IsTooLarge page (earlier events) w

-- or it is not
pub record IsMovableHalfway (n : ℕ) : Type 0 where
  pub page : Page
  pub events : List Event
  pub made : IsMade n page events
  pub movable : IsMovable page (earlier events)

-- ---- the line

-- the last of the lines as it is put out, and LF alone where there is none
abbrev pub end_of : Option Line → List ℕ
end_of None = 10 ∷ []
end_of (Some line) = line_of line

abbrev pub last_line : List Line → List ℕ
last_line lines = end_of (slice_get lines (length lines - 1))

-- the parts of the page, the lines of all events, those after the move, the bytes of the saved page, and the last line
abbrev pub stress_line : ℕ → ℕ → ℕ → ℕ → List ℕ → List ℕ
stress_line n lines after bytes last =
    codes "stress" ++ (number_words n ++ (codes ":" ++ (number_words lines ++ (codes " lines," ++ (number_words after
    ++ (codes " after the move," ++ (number_words bytes ++ (codes " bytes, " ++ last))))))))

-- the numbers of the move: the lines that the later events add to those of the earlier ones, and the bytes of the page that is saved between
pub record IsMoved (n after bytes : ℕ) : Type 0 where
  pub page : Page
  pub events : List Event
  pub made : IsMade n page events
  pub things : List ℕ
  pub walked : IsWalk (run_of (opened page) (earlier events)) things
  pub little : ¬ IsTooMuch (told (load_of (run_of (opened page) (earlier events)) things))
  pub lines : after ≡ length (lines_after (running page) (earlier events) (later events))
  pub size : bytes ≡ length (saved_page (run_of (opened page) (earlier events)) things)

-- the line of a generated page. The page is plain, and the events before the move are the first half, rounded upwards, of as many as it has parts
pub record Measures (n : ℕ) (text : List ℕ) : Type 0 where
  pub page : Page
  pub events : List Event
  pub made : IsMade n page events
  pub plain : page.kind ≡ Plain
  pub half : length (earlier events) ≡ (n + 1) / 2
  pub things : List ℕ
  pub walked : IsWalk (run_of (opened page) (earlier events)) things
  pub line : text ≡ stress_line n (length (lines_of_run (running page) events))
      (length (lines_after (running page) (earlier events) (later events)))
      (length (saved_page (run_of (opened page) (earlier events)) things))
      (last_line (lines_of_run (running page) events))
