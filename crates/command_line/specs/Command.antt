-- What the words of the command line ask for.
use Rattle.std.specs.Prelude.{ℕ, ◌+◌, ◌-◌, ◌*◌, Bool, ◌&&◌, ◌||◌, nat_eq, nat_le, List, [], ◌∷◌, length, Option, Some, None, codes, if◌then◌else◌, bytes_eq}
use Rattle.std.specs.List.{list_all}
use Rattle.command_line.specs.declared.command.Command.{Command as Asked}
use Rattle.command_line.specs.declared.command.Command.TheVariants as asked
use Rattle.parking.specs.Rows.{last_version}
use Rattle.stress.specs.Stress.{most_parts, IsPartCount}

-- a command with the names of its files, and the name and version of its session
pub data Command : Type 0 where
  check : List ℕ → Command
  instrument : List ℕ → Command
  replay : List ℕ → List ℕ → Command
  save : List ℕ → List ℕ → Command
  park : List ℕ → List ℕ → List ℕ → Command
  fetch : List ℕ → ℕ → Command
  parked : Command
  drop_row : List ℕ → ℕ → Command
  stress : ℕ → Command

abbrev pub view : Asked → Command
view (asked.Check page) = check page.now
view (asked.Instrument page) = instrument page.now
view (asked.Replay page events) = replay page.now events.now
view (asked.Save page events) = save page.now events.now
view (asked.Park page events name) = park page.now events.now name.now
view (asked.Fetch name version) = fetch name.now version
view asked.Parked = parked
view (asked.Drop name version) = drop_row name.now version
view (asked.Stress parts) = stress parts

-- ---- the name and the version of a session

abbrev pub is_digit : ℕ → Bool
is_digit c = nat_le 48 c && nat_le c 57

abbrev pub is_letter : ℕ → Bool
is_letter c = (nat_le 65 c && nat_le c 90) || (nat_le 97 c && nat_le c 122)

-- a letter, a digit, `-` or `_`
abbrev pub is_name_part : ℕ → Bool
is_name_part c = is_letter c || is_digit c || nat_eq c 45 || nat_eq c 95

abbrev pub is_name_length : ℕ → Bool
is_name_length n = nat_le 1 n && nat_le n 64

-- 1 to 64 of these
abbrev pub is_session_name : List ℕ → Bool
is_session_name word = is_name_length (length word) && list_all is_name_part word

-- the number that is written in decimal by these digits after those of n, unless it passes the last version
abbrev pub number_from : ℕ → List ℕ → Option ℕ
number_from n [] = Some n
number_from n (c ∷ cs) = if is_digit c && nat_le (10 * n + (c - 48)) last_version then number_from (10 * n + (c - 48)) cs else None

-- the version from 1 to the last one that a word writes in decimal, without sign or leading zero
abbrev pub version_of : List ℕ → Option ℕ
version_of [] = None
version_of (c ∷ cs) = if nat_eq c 48 then None else number_from 0 (c ∷ cs)

-- ---- how many parts a generated page has

abbrev pub few_parts : Option ℕ → Option ℕ
few_parts None = None
few_parts (Some n) = if nat_le 1 n && nat_le n most_parts then Some n else None

-- the number from 1 to the most parts that a word writes in decimal, without sign or leading zero
abbrev pub parts_of : List ℕ → Option ℕ
parts_of word = few_parts (version_of word)

-- ---- the words after a verb

-- a page
abbrev pub page_of : (List ℕ → Command) → List (List ℕ) → Option Command
page_of command (page ∷ []) = Some (command page)
page_of command words = None

-- a page and events
abbrev pub session_of : (List ℕ → List ℕ → Command) → List (List ℕ) → Option Command
session_of command (page ∷ events ∷ []) = Some (command page events)
session_of command words = None

-- a page, events and the name of a session
abbrev pub park_of : List (List ℕ) → Option Command
park_of (page ∷ events ∷ name ∷ []) = if is_session_name name then Some (park page events name) else None
park_of words = None

-- the name and the version of a session
abbrev pub versioned : (ℕ → Command) → Option ℕ → Option Command
versioned command None = None
versioned command (Some version) = Some (command version)

abbrev pub row_of : (List ℕ → ℕ → Command) → List (List ℕ) → Option Command
row_of command (name ∷ version ∷ []) = if is_session_name name then versioned (command name) (version_of version) else None
row_of command words = None

-- nothing
abbrev pub parked_of : List (List ℕ) → Option Command
parked_of [] = Some parked
parked_of words = None

-- the parts of a generated page
abbrev pub counted : Option ℕ → Option Command
counted None = None
counted (Some parts) = Some (stress parts)

abbrev pub stress_of : List (List ℕ) → Option Command
stress_of (parts ∷ []) = counted (parts_of parts)
stress_of words = None

-- the command of a verb with these words after it
abbrev pub command_by : List ℕ → List (List ℕ) → Option Command
command_by verb words =
    if bytes_eq verb (codes "check") then page_of check words
    else (if bytes_eq verb (codes "instrument") then page_of instrument words
    else (if bytes_eq verb (codes "replay") then session_of replay words
    else (if bytes_eq verb (codes "save") then session_of save words
    else (if bytes_eq verb (codes "park") then park_of words
    else (if bytes_eq verb (codes "fetch") then row_of fetch words
    else (if bytes_eq verb (codes "parked") then parked_of words
    else (if bytes_eq verb (codes "drop") then row_of drop_row words
    else (if bytes_eq verb (codes "stress") then stress_of words
    else None))))))))

-- the verb comes first
abbrev pub command_of : List (List ℕ) → Option Command
command_of [] = None
command_of (verb ∷ words) = command_by verb words

-- the generated page of a command has such a number of parts
abbrev pub HasParts : Command → Type 0
HasParts (stress parts) = IsPartCount parts
HasParts command = Unit {0}
