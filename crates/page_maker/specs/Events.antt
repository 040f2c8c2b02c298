-- The text of the list of events for a generated page: JSON without spaces.
use Rattle.std.specs.Prelude.{ℕ, zero, suc, ◌+◌, ◌/◌, ◌%◌, ◌==◌, List, [], ◌++◌, codes, if◌then◌else◌}
use Rattle.std.specs.Fmt.{decimal}
use Rattle.page_maker.specs.Generator.{drawn}

-- a click on a part
abbrev pub click : ℕ → List ℕ
click part = codes "{\"fire\":\"click\",\"at\":\"p" ++ (decimal part ++ codes "\"}")

-- so many milliseconds pass
abbrev pub tick : ℕ → List ℕ
tick length = codes "{\"tick\":" ++ (decimal length ++ codes "}")

-- the sums are printed
abbrev pub total : List ℕ
total = codes "{\"call\":\"total\"}"

-- the event that a number chooses, for a page with so many parts
abbrev pub event : ℕ → ℕ → List ℕ
event parts y =
    if y % 3 == 0 then click (1 + y / 3 % parts)
    else (if y % 3 == 1 then tick (y / 3 % 20) else total)

-- the first n events, each with a comma after it: the numbers are those that the page did not draw
abbrev pub events : ℕ → ℕ → List ℕ
events parts zero = []
events parts (suc n) = events parts n ++ (event parts (drawn (parts + suc n)) ++ codes ",")

-- as many events as the page has parts, and the sums at the end
abbrev pub event_list : ℕ → List ℕ
event_list parts = codes "[" ++ (events parts parts ++ (total ++ codes "]"))
