-- The constructor `String`, what it has, and what its prototype has (section 15.5).
use Rattle.std.proofs.Common.{ℕ, zero, suc, ℤ, Bool, true, false, cond, IfSome, List, mod-lt, arith}
use Rattle.std.proofs.Math.Nat.{min-le_right}
use Rattle.std.proofs.lemmas.List.Elements.{All-cons, All-head, All-nil, All-tail}
use Rattle.std.specs.Prelude.{[], ◌∷◌, ◌++◌, ◌+◌, ◌-◌, ◌<◌, ◌≤◌, length, map, take, drop, find, nat_le, pos, negsuc, Option, Some, None, option_map, option_to_list, refl}
use Rattle.std.specs.Char.{to_ascii_lowercase, to_ascii_uppercase}
use Rattle.std.specs.List.{All, list_all, range_with_len}
use Rattle.std.specs.Option.{ForSome}
use mathlib.Core.List.{reverse_aux}
use Rattle.js_core.specs.Text.{AllUnits}
use Rattle.js_core.specs.Whole.{largest}
use Rattle.js_values.specs.declared.throw.Throw.TheVariants.{TextTooLong, WrongArgument}
use Rattle.js_values.specs.declared.value.Value.{Value}
use Rattle.js_values.specs.declared.value.Value.TheVariants.{Undefined, Null, Bool as Truth, Num, Text, Object}
use Rattle.whole_ops.specs.WhiteSpace.{trimmed}
use Rattle.page_host.specs.HostNames.{text_limit, text_or_long}
use Rattle.page_meaning.specs.Act.{Act, Calls}
use Rattle.page_meaning.specs.Convert.{number_in, text_in}
use Rattle.page_meaning.specs.StringRows.{char_at, char_code_at, cut_at, first_place, from_units, give_text, index_of, join, joined_to, last_index_of, last_place, last_start, list_of_parts, lower_case, on_text, part_limit, parts_between, parts_of, place_number, slice, sliced, split, split_by, stands_at, substring, substring_of, text_from, to_integer, to_uint16, trim, unit_of, upper_case, within}
use Rattle.literal_values.specs.Values.{AreBounded, AreTexts, IsBounded, IsNumber, IsText}
use Rattle.literal_values.proofs.Callers.{dropped_text, lower_text, no_text, unit_text, optional_text, range_text, taken_text, text_in_units, text_or_long_literal, trimmed_text, unit_there, joined_units, upper_text}
use Rattle.written_pages.proofs.Acts.{also_is, choose_is, give_is}
use Rattle.written_pages.proofs.Converting.{to_number_is, to_text_is}
use Rattle.written_pages.proofs.ObjectRows.{new_texts_is}
use Rattle.written_pages.proofs.Primitives.{raise_is, settle_is}
use Rattle.written_pages.specs.Acts.{CallsAre, Writes}

pub on_text_is : {f : List ℕ → Act} (v : Value) → IsBounded v → ((t : List ℕ) → IsText t → Writes (f t)) → Writes (on_text v f)
on_text_is (Text t) h k = k t h
on_text_is Undefined h k = raise_is WrongArgument tt
on_text_is Null h k = raise_is WrongArgument tt
on_text_is (Truth b) h k = raise_is WrongArgument tt
on_text_is (Num n) h k = raise_is WrongArgument tt
on_text_is (Object at) h k = raise_is WrongArgument tt

give_text_is : (t : List ℕ) → AllUnits t → Writes (give_text t)
give_text_is t h = settle_is (text_or_long t) (text_or_long_literal t h)

pub text_from_is : {calls : Calls} → CallsAre calls → (construct : Bool) (vs : List Value) → AreBounded vs → Writes (text_from calls construct vs)
text_from_is c true vs h = raise_is WrongArgument tt
text_from_is c false [] h = give_is (Text []) no_text
text_from_is c false (v ∷ vs) h = to_text_is c v h.0

-- ---- units

uint16_small : (n : Option ℤ) → to_uint16 n < 65536
uint16_small None = omega arith
uint16_small (Some (pos n)) = mod-lt n (omega arith)
uint16_small (Some (negsuc n)) = omega arith

pub from_units_is : {calls : Calls} → CallsAre calls → (vs : List Value) (t : List ℕ) → AreBounded vs → AllUnits t → Writes (from_units calls vs t)
from_units_is c [] t h k = give_text_is t k
from_units_is c (v ∷ vs) t h k =
    also_is (to_number_is c v h.0) (λ n p.
    from_units_is c vs (t ++ to_uint16 (number_in n) ∷ []) h.1 (joined_units t (to_uint16 (number_in n) ∷ []) k (unit_text _ (uint16_small (number_in n))).0))

unit_of_small : (t : List ℕ) (z : ℤ) → IsText t → ForSome (unit_of t z) (λ u. u < 65536)
unit_of_small t (pos k) h = unit_there t k h.0
unit_of_small t (negsuc k) h = λ u e. absurd (cc e)

pub char_at_is : {calls : Calls} → CallsAre calls → (v : Value) (t : List ℕ) → IsBounded v → IsText t → Writes (char_at calls v t)
char_at_is c v t h k =
    also_is (to_number_is c v h) (λ n p.
    give_is (Text (option_to_list (unit_of t (to_integer (number_in n))))) (optional_text _ (unit_of_small t (to_integer (number_in n)) k)))

unit_number : (o : Option ℕ) → ForSome o (λ u. u < 65536) → IsNumber (option_map (λ u. pos u) o)
unit_number None h = tt
unit_number (Some u) h = omega (arith, h u refl)

pub char_code_at_is : {calls : Calls} → CallsAre calls → (v : Value) (t : List ℕ) → IsBounded v → IsText t → Writes (char_code_at calls v t)
char_code_at_is c v t h k =
    also_is (to_number_is c v h) (λ n p.
    give_is (Num (option_map (λ u. pos u) (unit_of t (to_integer (number_in n)))))
    (unit_number (unit_of t (to_integer (number_in n))) (unit_of_small t (to_integer (number_in n)) k)))

-- ---- texts that are joined

join_is : {calls : Calls} → CallsAre calls → (v : Value) (t : List ℕ) → IsBounded v → IsText t → Writes (join calls v t)
join_is c v t h k = also_is (to_text_is c v h) (λ x p. give_text_is (t ++ text_in x) (joined_units t (text_in x) k.0 (text_in_units x p).0))

pub joined_to_is : {calls : Calls} → CallsAre calls → (vs : List Value) (t : List ℕ) → AreBounded vs → IsText t → Writes (joined_to calls vs t)
joined_to_is c [] t h k = give_is (Text t) k
joined_to_is c (v ∷ vs) t h k = also_is (join_is c v t h.0 k) (λ x p. joined_to_is c vs (text_in x) h.1 (text_in_units x p))

-- ---- where one text stands in another

place_bounded : (n : ℕ) (o : Option ℕ) → n ≤ largest → IfSome o (λ i. i ≤ n) → IsNumber (place_number o)
place_bounded n None short h = omega arith
place_bounded n (Some k) short h = omega (arith, h, short)

-- what is found among numbers up to n is one of them
found_low : (n : ℕ) (p : ℕ → Bool) (ks : List ℕ) → All (λ i. i ≤ n) ks → IfSome (find p ks) (λ i. i ≤ n)
found_low n p [] h = tt
found_low n p (k ∷ ks) h = by_case (p k) (found_low n p ks (All-tail (λ i. i ≤ n) k ks h))
  where
    by_case : (b : Bool) → IfSome (find p ks) (λ i. i ≤ n) → IfSome (cond b (Some k) (find p ks)) (λ i. i ≤ n)
    by_case true rest = All-head (λ i. i ≤ n) k ks h
    by_case false rest = rest

range_low : (n a m : ℕ) → a + m ≤ suc n → All (λ i. i ≤ n) (range_with_len a m)
range_low n a zero h = All-nil (λ i. i ≤ n)
range_low n a (suc m) h = All-cons (λ i. i ≤ n) a (range_with_len (a + 1) m) (omega (arith, h)) (range_low n (a + 1) m (omega (arith, h)))

turned_low : (n : ℕ) (ks acc : List ℕ) → All (λ i. i ≤ n) ks → All (λ i. i ≤ n) acc → All (λ i. i ≤ n) (reverse_aux ks acc)
turned_low n [] acc h g = g
turned_low n (k ∷ ks) acc h g =
    turned_low n ks (k ∷ acc) (All-tail (λ i. i ≤ n) k ks h) (All-cons (λ i. i ≤ n) k acc (All-head (λ i. i ≤ n) k ks h) g)

within_low : (n : ℕ) (z : ℤ) → within n z ≤ n
within_low n (pos k) = min-le_right k n
within_low n (negsuc k) = omega arith

start_low : (n : ℕ) (o : Option ℤ) → last_start n o ≤ n
start_low n None = omega arith
start_low n (Some z) = within_low n z

first_low : (t x : List ℕ) (k : ℕ) → k ≤ length t → IfSome (first_place t x k) (λ i. i ≤ length t)
first_low t x k h = found_low (length t) (stands_at t x) _ (range_low (length t) k (suc (length t) - k) (omega (arith, h)))

last_low : (t x : List ℕ) (k : ℕ) → k ≤ length t → IfSome (last_place t x k) (λ i. i ≤ length t)
last_low t x k h =
    found_low (length t) (stands_at t x) _ (turned_low (length t) (range_with_len 0 (suc k)) [] (range_low (length t) 0 (suc k) (omega (arith, h))) (All-nil (λ i. i ≤ length t)))

pub index_of_is : {calls : Calls} → CallsAre calls → (v w : Value) (t : List ℕ) → IsBounded v → IsBounded w → IsText t → Writes (index_of calls v w t)
index_of_is c v w t h k i =
    also_is (to_text_is c v h) (λ x p.
    also_is (to_number_is c w k) (λ n q.
    give_is (Num (place_number (first_place t (text_in x) (within (length t) (to_integer (number_in n))))))
    (place_bounded (length t) _ i.1 (first_low t (text_in x) _ (within_low (length t) (to_integer (number_in n)))))))

pub last_index_of_is : {calls : Calls} → CallsAre calls → (v w : Value) (t : List ℕ) → IsBounded v → IsBounded w → IsText t → Writes (last_index_of calls v w t)
last_index_of_is c v w t h k i =
    also_is (to_text_is c v h) (λ x p.
    also_is (to_number_is c w k) (λ n q.
    give_is (Num (place_number (last_place t (text_in x) (last_start (length t) (number_in n)))))
    (place_bounded (length t) _ i.1 (last_low t (text_in x) _ (start_low (length t) (number_in n))))))

-- ---- parts of a text

pub slice_is : {calls : Calls} → CallsAre calls → (v w : Value) (t : List ℕ) → IsBounded v → IsBounded w → IsText t → Writes (slice calls v w t)
slice_is c v w t h k i =
    also_is (to_number_is c v h) (λ a p.
    also_is (to_number_is c w k) (λ b q.
    give_text_is (sliced t w (number_in a) (number_in b)) (range_text t _ _ i).0))

pub substring_is : {calls : Calls} → CallsAre calls → (v w : Value) (t : List ℕ) → IsBounded v → IsBounded w → IsText t → Writes (substring calls v w t)
substring_is c v w t h k i =
    also_is (to_number_is c v h) (λ a p.
    also_is (to_number_is c w k) (λ b q.
    give_text_is (substring_of t w (number_in a) (number_in b)) (range_text t _ _ i).0))

pub lower_case_is : (t : List ℕ) → IsText t → Writes (lower_case t)
lower_case_is t h = give_text_is (map to_ascii_lowercase t) (lower_text t h).0

pub upper_case_is : (t : List ℕ) → IsText t → Writes (upper_case t)
upper_case_is t h = give_text_is (map to_ascii_uppercase t) (upper_text t h).0

pub trim_is : (t : List ℕ) → IsText t → Writes (trim t)
trim_is t h = give_text_is (trimmed t) (trimmed_text t h).0

-- ---- splitting

texts_taken : (n : ℕ) (xs : List (List ℕ)) → AreTexts xs → AreTexts (take n xs)
texts_taken zero xs h = tt
texts_taken (suc n) [] h = tt
texts_taken (suc n) (x ∷ xs) h = (h.0, texts_taken n xs h.1)

single_texts : (t : List ℕ) → AllUnits t → AreTexts (map (λ u. u ∷ []) t)
single_texts [] h = tt
single_texts (u ∷ us) h = (unit_text u (All-head (λ v. v < 65536) u us h), single_texts us (All-tail (λ v. v < 65536) u us h))

cut_texts : (t : List ℕ) (n : ℕ) (o : Option ℕ) (further : List ℕ → List (List ℕ)) → IsText t → ((u : List ℕ) → IsText u → AreTexts (further u))
    → AreTexts (cut_at t n o further)
cut_texts t n None further h k = (h, tt)
cut_texts t n (Some i) further h k = (taken_text i t h, k (drop (i + n) t) (dropped_text (i + n) t h))

between_texts : (m : ℕ) (x t : List ℕ) → IsText t → AreTexts (parts_between m x t)
between_texts zero x t h = (h, tt)
between_texts (suc m) x t h = cut_texts t (length x) (first_place t x 0) (λ rest. parts_between m x rest) h (λ rest k. between_texts m x rest k)

parts_texts : (x t : List ℕ) → IsText t → AreTexts (parts_of x t)
parts_texts [] t h = single_texts t h.0
parts_texts (c ∷ cs) t h = between_texts (length t) (c ∷ cs) t h

parts_is : (xs : List (List ℕ)) → AreTexts xs → Writes (list_of_parts xs)
parts_is xs h = choose_is (list_all (λ x. nat_le (length x) text_limit) xs) (new_texts_is xs h) (raise_is TextTooLong tt)

split_parts_is : (x : List ℕ) (n : ℕ) (t : List ℕ) → IsText t → Writes (list_of_parts (take n (parts_of x t)))
split_parts_is x n t h = parts_is (take n (parts_of x t)) (texts_taken n (parts_of x t) (parts_texts x t h))

split_by_is : (v : Value) (x : List ℕ) (n : ℕ) (t : List ℕ) → IsText t → Writes (split_by v x n t)
split_by_is Undefined x n t h = new_texts_is (take n (t ∷ [])) (texts_taken n (t ∷ []) (h, tt))
split_by_is Null x n t h = split_parts_is x n t h
split_by_is (Truth b) x n t h = split_parts_is x n t h
split_by_is (Num k) x n t h = split_parts_is x n t h
split_by_is (Text u) x n t h = split_parts_is x n t h
split_by_is (Object at) x n t h = split_parts_is x n t h

pub split_is : {calls : Calls} → CallsAre calls → (v w : Value) (t : List ℕ) → IsBounded v → IsBounded w → IsText t → Writes (split calls v w t)
split_is c v w t h k i =
    also_is (to_number_is c w k) (λ n p.
    also_is (to_text_is c v h) (λ x q.
    split_by_is v (text_in x) (part_limit w (number_in n)) t i))
