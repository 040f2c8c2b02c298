-- Meaning: the constructor `String`, what it has, and what its prototype has (section 15.5).
use Rattle.std.specs.Prelude.{ℕ, zero, suc, ℤ, pos, negsuc, ◌+◌, ◌-◌, ◌^◌, min, max, nat_eq, nat_le, unsigned_abs, Bool, true, false, List, [], ◌∷◌, ◌++◌, length, map, reverse, take, drop, find, slice_get, slice_range, Option, Some, None, option_map, option_to_list}
use Rattle.std.specs.Char.{to_ascii_lowercase, to_ascii_uppercase}
use Rattle.std.specs.Int.{int_rem_euclid}
use Rattle.std.specs.List.{list_all, range_with_len, starts_with}
use Rattle.js_values.specs.declared.throw.Throw.TheVariants.{TextTooLong, WrongArgument}
use Rattle.js_values.specs.declared.value.Value.{Value}
use Rattle.js_values.specs.declared.value.Value.TheVariants.{Undefined, Num, Text}
use Rattle.whole_ops.specs.Bits.{to_uint32}
use Rattle.whole_ops.specs.WhiteSpace.{trimmed}
use Rattle.page_meaning.specs.Act.{Act, Calls, give, also, choose, ◌>>=◌}
use Rattle.page_meaning.specs.Convert.{number_in, text_in, to_number, to_text}
use Rattle.page_meaning.specs.Errors.{raise, settle}
use Rattle.page_meaning.specs.ObjectRows.{new_texts}
use Rattle.page_host.specs.HostNames.{text_limit, text_or_long}

-- `this`, which must be a text (15.5.4)
abbrev pub on_text : Value → (List ℕ → Act) → Act
on_text (Text t) f = f t
on_text v f = raise WrongArgument

-- a text that is built, which may be too long
abbrev pub give_text : List ℕ → Act
give_text t = settle (text_or_long t)

-- `String(..)` (15.5.1.1); there are no objects of texts
abbrev pub text_from : Calls → Bool → List Value → Act
text_from calls true vs = raise WrongArgument
text_from calls false [] = give (Text [])
text_from calls false (v ∷ vs) = to_text calls v

-- ToUint16 (9.7)
abbrev pub to_uint16 : Option ℤ → ℕ
to_uint16 None = 0
to_uint16 (Some z) = unsigned_abs (int_rem_euclid z (pos (2 ^ 16)))

-- `String.fromCharCode` (15.5.3.2): these units, and behind them those that the values are
abbrev pub from_units : Calls → List Value → List ℕ → Act
from_units calls [] t = give_text t
from_units calls (v ∷ vs) t = also (to_number calls v) (λ n. from_units calls vs (t ++ to_uint16 (number_in n) ∷ []))

-- ---- positions

-- ToInteger (9.4)
abbrev pub to_integer : Option ℤ → ℤ
to_integer None = pos 0
to_integer (Some z) = z

-- a position kept between 0 and the length n
abbrev pub within : ℕ → ℤ → ℕ
within n (pos k) = min k n
within n (negsuc k) = 0

-- the same, where one below 0 counts from the end
abbrev pub from_either_end : ℕ → ℤ → ℕ
from_either_end n (pos k) = min k n
from_either_end n (negsuc k) = n - suc k

-- what an argument comes to, or the length where it is undefined
abbrev pub end_of : ℕ → Value → ℕ → ℕ
end_of n Undefined k = n
end_of n v k = k

-- the unit at a position, where there is one
abbrev pub unit_of : List ℕ → ℤ → Option ℕ
unit_of t (pos k) = slice_get t k
unit_of t (negsuc k) = None

-- 15.5.4.4
abbrev pub char_at : Calls → Value → List ℕ → Act
char_at calls v t = also (to_number calls v) (λ n. give (Text (option_to_list (unit_of t (to_integer (number_in n))))))

-- 15.5.4.5: NaN where there is none
abbrev pub char_code_at : Calls → Value → List ℕ → Act
char_code_at calls v t = also (to_number calls v) (λ n. give (Num (option_map (λ u. pos u) (unit_of t (to_integer (number_in n))))))

-- a value is made a text and joined to the text
abbrev pub join : Calls → Value → List ℕ → Act
join calls v t = also (to_text calls v) (λ x. give_text (t ++ text_in x))

-- 15.5.4.6: each value is joined before the next one is made a text
abbrev pub joined_to : Calls → List Value → List ℕ → Act
joined_to calls [] t = give (Text t)
joined_to calls (v ∷ vs) t = also (join calls v t) (λ x. joined_to calls vs (text_in x))

-- ---- where one text stands in another

abbrev pub stands_at : List ℕ → List ℕ → ℕ → Bool
stands_at t x k = starts_with nat_eq (drop k t) x

-- the first place from k on, and the last one up to k
abbrev pub first_place : List ℕ → List ℕ → ℕ → Option ℕ
first_place t x k = find (stands_at t x) (range_with_len k (suc (length t) - k))

abbrev pub last_place : List ℕ → List ℕ → ℕ → Option ℕ
last_place t x k = find (stands_at t x) (reverse (range_with_len 0 (suc k)))

-- a place as a number, -1 where there is none
abbrev pub place_number : Option ℕ → Option ℤ
place_number None = Some (negsuc 0)
place_number (Some k) = Some (pos k)

-- 15.5.4.7
abbrev pub index_of : Calls → Value → Value → List ℕ → Act
index_of calls v w t = do
  x ← to_text calls v
  n ← to_number calls w
  give (Num (place_number (first_place t (text_in x) (within (length t) (to_integer (number_in n))))))

-- the search begins at the end where the position is NaN
abbrev pub last_start : ℕ → Option ℤ → ℕ
last_start n None = n
last_start n (Some z) = within n z

-- 15.5.4.8
abbrev pub last_index_of : Calls → Value → Value → List ℕ → Act
last_index_of calls v w t = do
  x ← to_text calls v
  n ← to_number calls w
  give (Num (place_number (last_place t (text_in x) (last_start (length t) (number_in n)))))

-- ---- parts of a text

-- 15.5.4.13
abbrev pub sliced : List ℕ → Value → Option ℤ → Option ℤ → List ℕ
sliced t w a b =
    slice_range t (from_either_end (length t) (to_integer a)) (end_of (length t) w (from_either_end (length t) (to_integer b)))

abbrev pub slice : Calls → Value → Value → List ℕ → Act
slice calls v w t = do
  a ← to_number calls v
  b ← to_number calls w
  give_text (sliced t w (number_in a) (number_in b))

-- the units between two places, whichever comes first
abbrev pub between : List ℕ → ℕ → ℕ → List ℕ
between t a b = slice_range t (min a b) (max a b)

-- 15.5.4.15
abbrev pub substring_of : List ℕ → Value → Option ℤ → Option ℤ → List ℕ
substring_of t w a b = between t (within (length t) (to_integer a)) (end_of (length t) w (within (length t) (to_integer b)))

abbrev pub substring : Calls → Value → Value → List ℕ → Act
substring calls v w t = do
  a ← to_number calls v
  b ← to_number calls w
  give_text (substring_of t w (number_in a) (number_in b))

-- 15.5.4.16 and 15.5.4.18, of ASCII letters alone, and 15.5.4.20
abbrev pub lower_case : List ℕ → Act
lower_case t = give_text (map to_ascii_lowercase t)

abbrev pub upper_case : List ℕ → Act
upper_case t = give_text (map to_ascii_uppercase t)

abbrev pub trim : List ℕ → Act
trim t = give_text (trimmed t)

-- ---- splitting (15.5.4.14)

-- the units before a place where n units stand, and what is made of those behind them
abbrev pub cut_at : List ℕ → ℕ → Option ℕ → (List ℕ → List (List ℕ)) → List (List ℕ)
cut_at t n None further = t ∷ []
cut_at t n (Some k) further = take k t ∷ further (drop (k + n) t)

-- the parts between the first places of the separator, at most so many
abbrev pub parts_between : ℕ → List ℕ → List ℕ → List (List ℕ)
parts_between zero x t = t ∷ []
parts_between (suc m) x t = cut_at t (length x) (first_place t x 0) (λ rest. parts_between m x rest)

-- the empty separator stands between all units
abbrev pub parts_of : List ℕ → List ℕ → List (List ℕ)
parts_of [] t = map (λ u. u ∷ []) t
parts_of (c ∷ cs) t = parts_between (length t) (c ∷ cs) t

abbrev pub list_of_parts : List (List ℕ) → Act
list_of_parts xs = choose (list_all (λ x. nat_le (length x) text_limit) xs) (new_texts xs) (raise TextTooLong)

-- how many parts there may be
abbrev pub part_limit : Value → Option ℤ → ℕ
part_limit Undefined n = 2 ^ 32 - 1
part_limit v n = to_uint32 n

-- without a separator the text itself is the only part
abbrev pub split_by : Value → List ℕ → ℕ → List ℕ → Act
split_by Undefined x n t = new_texts (take n (t ∷ []))
split_by v x n t = list_of_parts (take n (parts_of x t))

-- the limit is converted before the separator
abbrev pub split : Calls → Value → Value → List ℕ → Act
split calls v w t = do
  n ← to_number calls w
  x ← to_text calls v
  split_by v (text_in x) (part_limit w (number_in n)) t
