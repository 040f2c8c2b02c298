-- Generated pages and their lists are short enough for files.
use Rattle.std.proofs.Common.{◌≡◌, ℕ, zero, suc, ◌+◌, ◌*◌, ◌/◌, ◌%◌, ◌==◌, ◌<◌, ◌≤◌, Bool, true, false, ◌++◌, length, length-append, arith}
use Rattle.std.specs.Prelude.{codes, decimal}
use Rattle.std.proofs.lemmas.Fmt.{length-decimal-le}
use Rattle.page_maker.specs.Events.{click, event, event_list, events, tick, total}
use Rattle.page_maker.specs.Generator.{drawn}
use Rattle.page_maker.specs.Page.{call, calls, head, page, tail}
use Rattle.generated_pages.specs.Sizes.{FilesFit}
use Rattle.generated_pages.proofs.Json.{length_is_small, length_of, part_of, picked}
use Rattle.generated_pages.proofs.Script.{start_of}

five_digits : (n : ℕ) → n < 100000 → length (decimal n) ≤ 5
five_digits n h = length-decimal-le 5 n (omega arith) (omega arith) (omega arith)

-- ---- pages

start_is_digit : (n : ℕ) → length (decimal (start_of n)) ≤ 1
start_is_digit n = let low : start_of n < 10 = omega arith in length-decimal-le 1 (start_of n) (omega arith) (omega arith) (omega arith)

call_is_short : (i k : ℕ) → length (decimal i) ≤ 5 → length (decimal k) ≤ 1 → length (call i k) ≤ 15
call_is_short i k h l =
    let first = length-append (codes "part(") (decimal i ++ (codes "," ++ (decimal k ++ codes ");\n"))) in
    let second = length-append (decimal i) (codes "," ++ (decimal k ++ codes ");\n")) in
    let third = length-append (decimal k) (codes ");\n") in
    omega (arith, h, l, first, second, third)

calls_are_short : (n : ℕ) → n < 100000 → length (calls n) ≤ 15 * n
calls_are_short zero h = omega arith
calls_are_short (suc n) h =
    let k = start_of (suc n) in
    let fewer = calls_are_short n (omega arith) in
    let one = call_is_short (suc n) k (five_digits (suc n) h) (start_is_digit (suc n)) in
    omega (arith, fewer, one, length-append (calls n) (call (suc n) k))

head_is_short : length head ≤ 1000
head_is_short = omega arith

page_is_short : (n : ℕ) → n < 100000 → length (page n) ≤ 16777216
page_is_short n h =
    let all = calls_are_short n h in
    let behind : length (calls n ++ tail) ≡ length (calls n) + 16 = length-append (calls n) tail in
    omega (arith, all, behind, head_is_short, length-append head (calls n ++ tail))

-- ---- lists

picked_is_short : (b c : Bool) (part size : ℕ) → part < 100000 → size < 20 → length (picked b c (click part) (tick size) total) ≤ 30
picked_is_short true c part size h k =
    let digits = five_digits part h in
    omega (arith, digits, length-append (codes "{\"fire\":\"click\",\"at\":\"p") (decimal part ++ codes "\"}"), length-append (decimal part) (codes "\"}"))
picked_is_short false true part size h k =
    let digits = five_digits size (omega arith) in
    omega (arith, digits, length-append (codes "{\"tick\":") (decimal size ++ codes "}"), length-append (decimal size) (codes "}"))
picked_is_short false false part size h k = omega arith

part_is_low : (parts y : ℕ) → 1 ≤ parts → parts < 100000 → part_of parts y < 100000
part_is_low parts y some few = let low : y / 3 % parts < parts = omega arith in omega arith

event_is_short : (parts y : ℕ) → 1 ≤ parts → parts < 100000 → length (event parts y) ≤ 30
event_is_short parts y some few = picked_is_short (y % 3 == 0) (y % 3 == 1) (part_of parts y) (length_of y) (part_is_low parts y some few) (length_is_small y)

events_are_short : (parts n : ℕ) → 1 ≤ parts → parts < 100000 → length (events parts n) ≤ 31 * n
events_are_short parts zero some few = omega arith
events_are_short parts (suc n) some few =
    let y = drawn (parts + suc n) in
    let fewer = events_are_short parts n some few in
    let one = event_is_short parts y some few in
    omega (arith, fewer, one, length-append (events parts n) (event parts y ++ codes ","), length-append (event parts y) (codes ","))

list_is_short : (n : ℕ) → 1 ≤ n → n < 100000 → length (event_list n) ≤ 4194304
list_is_short n some few =
    let all = events_are_short n n some few in
    omega (arith, all, length-append (events n n) (total ++ codes "]"))

pub files_fit : FilesFit
files_fit n some few = (page_is_short n few, list_is_short n some few)
