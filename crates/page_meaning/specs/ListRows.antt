-- Meaning: what the prototype of arrays has, but for what calls back (section 15.4.4).
use Rattle.std.specs.Prelude.{ℕ, zero, suc, ℤ, pos, negsuc, ◌+◌, ◌-◌, nat_lt, Bool, false, List, [], ◌∷◌, ◌++◌, length, drop, min, Option, Some, None, codes, if◌then◌else◌}
use Rattle.std.specs.Option.{option_map}
use Rattle.js_values.specs.declared.ids.ObjId.{ObjId}
use Rattle.js_values.specs.declared.value.Value.{Value}
use Rattle.js_values.specs.declared.value.Value.TheVariants.{Undefined, Null, Num, Text, Object}
use Rattle.object_heap.specs.Define.{number}
use Rattle.whole_ops.specs.Equality.{same_of}
use Rattle.page_meaning.specs.Act.{Act, Calls, bind, done, give, also, asking, choose, ◌>>=◌}
use Rattle.page_meaning.specs.Convert.{number_in, operand_text, text_in, to_number, to_text}
use Rattle.page_meaning.specs.Elements.{define_element, delete_element, element, element_or, length_of, list_in, on_element, put_each, put_element, set_length, turns_down, turns_up}
use Rattle.page_meaning.specs.Errors.{settle}
use Rattle.page_meaning.specs.Expressions.{new_list}
use Rattle.page_meaning.specs.ObjectRows.{argument}
use Rattle.page_host.specs.HostNames.{text_or_long}
use Rattle.page_meaning.specs.Primitives.{take_step}
use Rattle.page_meaning.specs.Store.{Store}

-- ---- what is done at one index

-- the element is put, or what stands there is deleted where there is none
abbrev pub put_or_delete : ObjId → ℕ → Option Value → Act
put_or_delete at k None = delete_element at k
put_or_delete at k (Some v) = put_element at k v

abbrev pub move : ObjId → ℕ → ℕ → Act
move at from to = asking (element at from) (put_or_delete at to)

-- an element becomes one of a new array, and a hole none
abbrev pub copy : ObjId → ℕ → ObjId → ℕ → Act
copy from k to j = asking (element from k) (on_element done (define_element to j))

-- two elements change places, and two holes stay
abbrev pub put_both : ObjId → ℕ → ℕ → Option Value → Option Value → Act
put_both at low high v w = also (put_or_delete at low w) (λ _. put_or_delete at high v)

abbrev pub exchange : ObjId → ℕ → ℕ → Option Value → Option Value → Act
exchange at low high None None = done
exchange at low high v w = put_both at low high v w

-- so many elements move, from the first on, or from the last on
abbrev pub move_down : ObjId → ℕ → ℕ → ℕ → Act
move_down at from to m = turns_up (λ i. move at (from + i) (to + i)) 0 m

abbrev pub move_up : ObjId → ℕ → ℕ → ℕ → Act
move_up at from to m = turns_down (λ i. move at (from + i) (to + i)) m

-- so many elements from an index on become those of a new array from a place on
abbrev pub copy_all : ObjId → ℕ → ObjId → ℕ → ℕ → Act
copy_all from k to j m = turns_up (λ i. copy from (k + i) to (j + i)) 0 m

-- ---- where a row begins and ends

-- a place in an array of this length, from its end where it is negative; NaN is 0
abbrev pub place_in : ℕ → Option ℤ → ℕ
place_in n None = 0
place_in n (Some (pos k)) = min k n
place_in n (Some (negsuc k)) = n - suc k

-- ---- the rows, on an array of this length

-- 15.4.4.4: the elements of an array, or the value itself
abbrev pub spread_of : Value → Store → Option (ObjId × ℕ)
spread_of v s = option_map (λ at. (at, length_of at s)) (list_in v s)

abbrev pub add_item : ObjId → ℕ → Value → Option (ObjId × ℕ) → Act
add_item a n v None = define_element a n v
add_item a n v (Some p) = copy_all p.0 0 a n p.1

abbrev pub past_item : ℕ → Option (ObjId × ℕ) → ℕ
past_item n None = suc n
past_item n (Some p) = n + p.1

abbrev pub concat_from : ObjId → ℕ → List Value → Act
concat_from a n [] = give (Object a)
concat_from a n (v ∷ vs) = asking (spread_of v) (λ p. also (add_item a n v p) (λ _. concat_from a (past_item n p) vs))

-- no length is set at its end
abbrev pub concat : ObjId → List Value → Act
concat at vs = bind new_list (λ a. concat_from a 0 (Object at ∷ vs))

-- 15.4.4.5: the text of an element, which is empty for a hole, undefined and null
abbrev pub element_text : Calls → Value → Act
element_text calls Undefined = give (Text [])
element_text calls Null = give (Text [])
element_text calls v = operand_text calls v

-- a text and one more, which may be too long
abbrev pub join_text : Value → Value → Act
join_text t u = settle (text_or_long (text_in t ++ text_in u))

-- the separator and an element behind what is joined
abbrev pub join_one : Calls → ObjId → Value → Value → ℕ → Act
join_one calls at sep joined k = do
  t ← join_text joined sep
  u ← asking (element_or at k) (element_text calls)
  join_text t u

abbrev pub join_from : Calls → ObjId → Value → Value → ℕ → ℕ → Act
join_from calls at sep joined k zero = give joined
join_from calls at sep joined k (suc m) =
    bind take_step (λ _. also (join_one calls at sep joined k) (λ more. join_from calls at sep more (suc k) m))

abbrev pub join_all : Calls → ObjId → ℕ → Value → Act
join_all calls at zero sep = give (Text [])
join_all calls at (suc m) sep = also (asking (element_or at 0) (element_text calls)) (λ first. join_from calls at sep first 1 m)

abbrev pub separator : Calls → Value → Act
separator calls Undefined = give (Text (codes ","))
separator calls v = to_text calls v

abbrev pub join : Calls → ObjId → ℕ → List Value → Act
join calls at n vs = also (separator calls (argument vs 0)) (join_all calls at n)

-- the last element goes, and this value is given
abbrev pub drop_last : ObjId → ℕ → Value → Act
drop_last at n v = also (delete_element at n) (λ _. also (set_length at n) (λ _. give v))

abbrev pub no_elements : ObjId → Act
no_elements at = also (set_length at 0) (λ _. give Undefined)

-- 15.4.4.6
abbrev pub pop : ObjId → ℕ → Act
pop at zero = no_elements at
pop at (suc n) = asking (element_or at n) (drop_last at n)

-- the values are put from an index on, and the array has this length then, which is given
abbrev pub put_all : ObjId → ℕ → List Value → ℕ → Act
put_all at k vs n = also (put_each at k vs) (λ _. set_length at n)

-- 15.4.4.7
abbrev pub push : ObjId → ℕ → List Value → Act
push at n vs = put_all at n vs (n + length vs)

-- 15.4.4.8: half as many turns
abbrev pub half : ℕ → ℕ
half zero = 0
half (suc zero) = 0
half (suc (suc n)) = suc (half n)

abbrev pub turn_at : ObjId → ℕ → ℕ → Act
turn_at at low high = asking (element at low) (λ v. asking (element at high) (exchange at low high v))

abbrev pub turn_over : ObjId → ℕ → ℕ → Act
turn_over at n k = turn_at at k (n - suc k)

abbrev pub reverse : ObjId → ℕ → Act
reverse at n = also (turns_up (turn_over at n) 0 (half n)) (λ _. give (Object at))

-- 15.4.4.9: the others move
abbrev pub shift_all : ObjId → ℕ → Value → Act
shift_all at n v = also (move_down at 1 0 n) (λ _. drop_last at n v)

abbrev pub shift : ObjId → ℕ → Act
shift at zero = no_elements at
shift at (suc n) = asking (element_or at 0) (shift_all at n)

-- 15.4.4.10: an end that is undefined is the length
abbrev pub end_in : Calls → ℕ → Value → Act
end_in calls n Undefined = give (number n)
end_in calls n v = to_number calls v

abbrev pub slice_of : ObjId → ℕ → ObjId → Value → Value → Act
slice_of at n a start end =
    also (copy_all at (place_in n (number_in start)) a 0 (place_in n (number_in end) - place_in n (number_in start))) (λ _. give (Object a))

abbrev pub slice_between : Calls → ObjId → ℕ → ObjId → Value → Value → Act
slice_between calls at n a v w = also (to_number calls v) (λ start. also (end_in calls n w) (slice_of at n a start))

abbrev pub slice : Calls → ObjId → ℕ → List Value → Act
slice calls at n vs = bind new_list (λ a. slice_between calls at n a (argument vs 0) (argument vs 1))

-- 15.4.4.12: so many are taken out, at most those that are there
abbrev pub count_in : ℕ → Option ℤ → ℕ
count_in n (Some (pos k)) = min k n
count_in n k = 0

-- so many elements from an index on are deleted, the last one first
abbrev pub delete_last : ObjId → ℕ → ℕ → Act
delete_last at k m = turns_down (λ i. delete_element at (k + i)) m

abbrev pub close_up : ObjId → ℕ → ℕ → ℕ → ℕ → Act
close_up at n k less more = also (move_down at (k + less) (k + more) (n - less - k)) (λ _. delete_last at (n - less + more) (less - more))

-- from here on, what stands behind so many elements moves behind so many others
abbrev pub make_room : ObjId → ℕ → ℕ → ℕ → ℕ → Act
make_room at n k less more =
    if nat_lt more less then close_up at n k less more
    else (if nat_lt less more then move_up at (k + less) (k + more) (n - less - k) else done)

-- the elements that are taken out are those of the new array
abbrev pub splice_at : ObjId → ℕ → ObjId → ℕ → ℕ → List Value → Act
splice_at at n a k less vs = do
  taken ← copy_all at k a 0 less
  room ← make_room at n k less (length vs)
  sized ← put_all at k vs (n - less + length vs)
  give (Object a)

abbrev pub splice_from : ObjId → ℕ → ObjId → List Value → ℕ → Option ℤ → Act
splice_from at n a vs k count = splice_at at n a k (count_in (n - k) count) (drop 2 vs)

abbrev pub splice_with : Calls → ObjId → ℕ → ObjId → List Value → Act
splice_with calls at n a vs = do
  start ← to_number calls (argument vs 0)
  count ← to_number calls (argument vs 1)
  splice_from at n a vs (place_in n (number_in start)) (number_in count)

abbrev pub splice : Calls → ObjId → ℕ → List Value → Act
splice calls at n vs = bind new_list (λ a. splice_with calls at n a vs)

-- 15.4.4.13
abbrev pub unshift : ObjId → ℕ → List Value → Act
unshift at n vs = also (move_up at 0 (length vs) n) (λ _. put_all at 0 vs (n + length vs))

-- 15.4.4.14: what is there is the value
abbrev pub is_there : Value → Option Value → Bool
is_there v None = false
is_there v (Some w) = same_of v w

abbrev pub not_found : Act
not_found = give (Num (Some (negsuc 0)))

abbrev pub find_up : ObjId → Value → ℕ → ℕ → Act
find_up at v k zero = not_found
find_up at v k (suc m) = bind take_step (λ _. asking (element at k) (λ e. choose (is_there v e) (give (number k)) (find_up at v (suc k) m)))

abbrev pub find_from : Calls → ObjId → ℕ → Value → Value → Act
find_from calls at n v from = also (to_number calls from) (λ p. find_up at v (place_in n (number_in p)) (n - place_in n (number_in p)))

abbrev pub index_of : Calls → ObjId → ℕ → List Value → Act
index_of calls at zero vs = not_found
index_of calls at n vs = find_from calls at n (argument vs 0) (argument vs 1)

-- 15.4.4.15: the first so many elements, from the last of them on
abbrev pub find_down : ObjId → Value → ℕ → Act
find_down at v zero = not_found
find_down at v (suc k) = bind take_step (λ _. asking (element at k) (λ e. choose (is_there v e) (give (number k)) (find_down at v k)))

-- how many there are up to a place
abbrev pub count_to : ℕ → Option ℤ → ℕ
count_to n None = min 1 n
count_to n (Some (pos k)) = min (suc k) n
count_to n (Some (negsuc k)) = n - k

abbrev pub find_to : Calls → ObjId → ℕ → Value → Value → Act
find_to calls at n v to = also (to_number calls to) (λ p. find_down at v (count_to n (number_in p)))

-- a place that is passed counts, also where it is undefined
abbrev pub last_index_of : Calls → ObjId → ℕ → List Value → Act
last_index_of calls at zero vs = not_found
last_index_of calls at n (v ∷ to ∷ vs) = find_to calls at n v to
last_index_of calls at n vs = find_down at (argument vs 0) n
