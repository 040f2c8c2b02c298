-- What the prototype of arrays has, but for what calls back (section 15.4.4).
use Rattle.std.proofs.Common.{ℕ, zero, suc, ℤ, pos, ◌≤◌, Bool, true, false, List, arith}
use Rattle.std.proofs.Math.Nat.{min-le_right}
use Rattle.std.specs.Prelude.{[], ◌∷◌, ◌++◌, ◌+◌, ◌-◌, length, drop, nat_lt, negsuc, Option, Some, None, codes, if◌then◌else◌, refl}
use Rattle.js_core.specs.Whole.{largest}
use Rattle.js_values.specs.declared.ids.ObjId.{ObjId}
use Rattle.js_values.specs.declared.value.Value.{Value}
use Rattle.js_values.specs.declared.value.Value.TheVariants.{Undefined, Null, Bool as Truth, Num, Text, Object}
use Rattle.object_heap.specs.Define.{number}
use Rattle.page_meaning.specs.Act.{Act, Calls}
use Rattle.page_meaning.specs.Convert.{number_in, text_in}
use Rattle.page_meaning.specs.ListRows as list
use Rattle.page_meaning.specs.ObjectRows.{argument}
use Rattle.page_host.specs.HostNames.{text_or_long}
use Rattle.literal_values.specs.Values.{AreBounded, IsBounded, MaybeBounded}
use Rattle.literal_values.proofs.Callers.{joined_literal, text_in_units, text_seen, values_dropped}
use Rattle.written_pages.proofs.Acts.{also_is, asking_any, bind_is, choose_is, done_is, give_is, stepped_is}
use Rattle.written_pages.proofs.Converting.{operand_text_is, to_number_is, to_text_is}
use Rattle.written_pages.proofs.Elements.{define_element_is, delete_element_is, on_element_is, on_found_is, on_found_or_is, put_each_is, put_element_is, set_length_is, turns_down_is, turns_up_is}
use Rattle.written_pages.proofs.Made.{new_list_is}
use Rattle.written_pages.proofs.ObjectRows.{argument_is}
use Rattle.written_pages.proofs.Primitives.{settle_is}
use Rattle.written_pages.proofs.OnLists.{ListActIs, always, length_set, list_also, list_bind}
use Rattle.written_pages.specs.Acts.{CallsAre, SignalIs, Writes}

-- ---- what is done at one index

put_or_delete_is : (at : ObjId) (k : ℕ) (o : Option Value) → MaybeBounded o → Writes (list.put_or_delete at k o)
put_or_delete_is at k None h = delete_element_is at k
put_or_delete_is at k (Some v) h = put_element_is at k v h

move_is : (at : ObjId) (from to : ℕ) → Writes (list.move at from to)
move_is at from to = on_found_is at from (λ o h. put_or_delete_is at to o h)

copy_is : (from : ObjId) (k : ℕ) (to : ObjId) (j : ℕ) → Writes (list.copy from k to j)
copy_is from k to j = on_found_is from k (λ o h. on_element_is o h done_is (λ v p. define_element_is to j v p))

put_both_is : (at : ObjId) (low high : ℕ) (v w : Option Value) → MaybeBounded v → MaybeBounded w → Writes (list.put_both at low high v w)
put_both_is at low high v w h k = also_is (put_or_delete_is at low w k) (λ u p. put_or_delete_is at high v h)

exchange_is : (at : ObjId) (low high : ℕ) (v w : Option Value) → MaybeBounded v → MaybeBounded w → Writes (list.exchange at low high v w)
exchange_is at low high None None h k = done_is
exchange_is at low high None (Some w) h k = put_both_is at low high None (Some w) h k
exchange_is at low high (Some v) w h k = put_both_is at low high (Some v) w h k

move_down_is : (at : ObjId) (from to m : ℕ) → Writes (list.move_down at from to m)
move_down_is at from to m = turns_up_is (λ i. move_is at (from + i) (to + i)) 0 m

move_up_is : (at : ObjId) (from to m : ℕ) → Writes (list.move_up at from to m)
move_up_is at from to m = turns_down_is (λ i. move_is at (from + i) (to + i)) m

copy_all_is : (from : ObjId) (k : ℕ) (to : ObjId) (j m : ℕ) → Writes (list.copy_all from k to j m)
copy_all_is from k to j m = turns_up_is (λ i. copy_is from (k + i) to (j + i)) 0 m

-- ---- concat

add_item_is : (a : ObjId) (n : ℕ) (v : Value) (o : Option (ObjId × ℕ)) → IsBounded v → Writes (list.add_item a n v o)
add_item_is a n v None h = define_element_is a n v h
add_item_is a n v (Some p) h = copy_all_is p.0 0 a n p.1

concat_from_is : (a : ObjId) (n : ℕ) (vs : List Value) → AreBounded vs → Writes (list.concat_from a n vs)
concat_from_is a n [] h = give_is (Object a) tt
concat_from_is a n (v ∷ vs) h = asking_any (λ p. also_is (add_item_is a n v p h.0) (λ w q. concat_from_is a (list.past_item n p) vs h.1))

pub concat_is : (at : ObjId) (vs : List Value) → AreBounded vs → Writes (list.concat at vs)
concat_is at vs h = bind_is new_list_is (λ a p. concat_from_is a 0 (Object at ∷ vs) (tt, h))

-- ---- join

element_text_is : {calls : Calls} → CallsAre calls → (v : Value) → IsBounded v → Writes (list.element_text calls v)
element_text_is c Undefined h = give_is (Text []) (text_seen [] refl)
element_text_is c Null h = give_is (Text []) (text_seen [] refl)
element_text_is c (Truth b) h = operand_text_is c (Truth b) h
element_text_is c (Num n) h = operand_text_is c (Num n) h
element_text_is c (Text t) h = operand_text_is c (Text t) h
element_text_is c (Object at) h = operand_text_is c (Object at) h

join_text_is : (t u : Value) → IsBounded t → IsBounded u → Writes (list.join_text t u)
join_text_is t u h k =
    settle_is (text_or_long (text_in t ++ text_in u))
    (joined_literal (text_in t) (text_in u) (text_in_units t h) (text_in_units u k))

join_one_is : {calls : Calls} → CallsAre calls → (at : ObjId) (sep joined : Value) (k : ℕ) → IsBounded sep → IsBounded joined
    → Writes (list.join_one calls at sep joined k)
join_one_is c at sep joined k h i =
    also_is (join_text_is joined sep i h) (λ t p.
    also_is (on_found_or_is at k (λ v q. element_text_is c v q)) (λ u r. join_text_is t u p r))

join_from_is : {calls : Calls} → CallsAre calls → (at : ObjId) (sep joined : Value) (k m : ℕ) → IsBounded sep → IsBounded joined
    → Writes (list.join_from calls at sep joined k m)
join_from_is c at sep joined k zero h i = give_is joined i
join_from_is c at sep joined k (suc m) h i =
    stepped_is (λ u. also_is (join_one_is c at sep joined k h i) (λ more p. join_from_is c at sep more (suc k) m h p))

join_all_is : {calls : Calls} → CallsAre calls → (at : ObjId) (n : ℕ) (sep : Value) → IsBounded sep → Writes (list.join_all calls at n sep)
join_all_is c at zero sep h = give_is (Text []) (text_seen [] refl)
join_all_is c at (suc m) sep h = also_is (on_found_or_is at 0 (λ v p. element_text_is c v p)) (λ first p. join_from_is c at sep first 1 m h p)

separator_is : {calls : Calls} → CallsAre calls → (v : Value) → IsBounded v → Writes (list.separator calls v)
separator_is c Undefined h = give_is (Text (codes ",")) (text_seen (codes ",") refl)
separator_is c Null h = to_text_is c Null h
separator_is c (Truth b) h = to_text_is c (Truth b) h
separator_is c (Num n) h = to_text_is c (Num n) h
separator_is c (Text t) h = to_text_is c (Text t) h
separator_is c (Object at) h = to_text_is c (Object at) h

pub join_is : {calls : Calls} → CallsAre calls → (at : ObjId) (n : ℕ) (vs : List Value) → AreBounded vs → Writes (list.join calls at n vs)
join_is c at n vs h = also_is (separator_is c (argument vs 0) (argument_is vs 0 h)) (λ sep p. join_all_is c at n sep p)

-- ---- the last element, and more of them

drop_last_is : (at : ObjId) (n : ℕ) (v : Value) → n ≤ largest → IsBounded v → Writes (list.drop_last at n v)
drop_last_is at n v short h = also_is (delete_element_is at n) (λ w p. also_is (set_length_is at n short) (λ u q. give_is v h))

no_elements_is : (at : ObjId) → Writes (list.no_elements at)
no_elements_is at = also_is (set_length_is at 0 (omega arith)) (λ v p. give_is Undefined tt)

pub pop_is : (at : ObjId) (n : ℕ) → n ≤ largest → Writes (list.pop at n)
pop_is at zero short = no_elements_is at
pop_is at (suc n) short = on_found_or_is at n (λ v h. drop_last_is at n v (omega (arith, short)) h)

-- an array may have any number of elements before its length is put, which throws where that is too much
put_all_is : (at : ObjId) (k : ℕ) (vs : List Value) (n : ℕ) → AreBounded vs → ListActIs at SignalIs (list.put_all at k vs n)
put_all_is at k vs n h = list_also (always (put_each_is at k vs h)) (λ v p. length_set at n)

pub push_is : (at : ObjId) (n : ℕ) (vs : List Value) → AreBounded vs → ListActIs at SignalIs (list.push at n vs)
push_is at n vs h = put_all_is at n vs (n + length vs) h

-- ---- elements that change places

turn_at_is : (at : ObjId) (low high : ℕ) → Writes (list.turn_at at low high)
turn_at_is at low high = on_found_is at low (λ v h. on_found_is at high (λ w k. exchange_is at low high v w h k))

pub reverse_is : (at : ObjId) (n : ℕ) → Writes (list.reverse at n)
reverse_is at n = also_is (turns_up_is (λ k. turn_at_is at k (n - suc k)) 0 (list.half n)) (λ v p. give_is (Object at) tt)

shift_all_is : (at : ObjId) (n : ℕ) (v : Value) → n ≤ largest → IsBounded v → Writes (list.shift_all at n v)
shift_all_is at n v short h = also_is (move_down_is at 1 0 n) (λ w p. drop_last_is at n v short h)

pub shift_is : (at : ObjId) (n : ℕ) → n ≤ largest → Writes (list.shift at n)
shift_is at zero short = no_elements_is at
shift_is at (suc n) short = on_found_or_is at 0 (λ v h. shift_all_is at n v (omega (arith, short)) h)

-- ---- slice

end_in_is : {calls : Calls} → CallsAre calls → (n : ℕ) (v : Value) → n ≤ largest → IsBounded v → Writes (list.end_in calls n v)
end_in_is c n Undefined short h = give_is (number n) short
end_in_is c n Null short h = to_number_is c Null h
end_in_is c n (Truth b) short h = to_number_is c (Truth b) h
end_in_is c n (Num k) short h = to_number_is c (Num k) h
end_in_is c n (Text t) short h = to_number_is c (Text t) h
end_in_is c n (Object at) short h = to_number_is c (Object at) h

slice_of_is : (at : ObjId) (n : ℕ) (a : ObjId) (start end : Value) → Writes (list.slice_of at n a start end)
slice_of_is at n a start end =
    also_is (copy_all_is at (list.place_in n (number_in start)) a 0 (list.place_in n (number_in end) - list.place_in n (number_in start)))
    (λ v p. give_is (Object a) tt)

slice_between_is : {calls : Calls} → CallsAre calls → (at : ObjId) (n : ℕ) (a : ObjId) (v w : Value) → n ≤ largest → IsBounded v → IsBounded w
    → Writes (list.slice_between calls at n a v w)
slice_between_is c at n a v w short h k = also_is (to_number_is c v h) (λ start p. also_is (end_in_is c n w short k) (λ end q. slice_of_is at n a start end))

pub slice_is : {calls : Calls} → CallsAre calls → (at : ObjId) (n : ℕ) (vs : List Value) → n ≤ largest → AreBounded vs → Writes (list.slice calls at n vs)
slice_is c at n vs short h = bind_is new_list_is (λ a p. slice_between_is c at n a (argument vs 0) (argument vs 1) short (argument_is vs 0 h) (argument_is vs 1 h))

-- ---- splice

delete_last_is : (at : ObjId) (k m : ℕ) → Writes (list.delete_last at k m)
delete_last_is at k m = turns_down_is (λ i. delete_element_is at (k + i)) m

close_up_is : (at : ObjId) (n k less more : ℕ) → Writes (list.close_up at n k less more)
close_up_is at n k less more =
    also_is (move_down_is at (k + less) (k + more) (n - less - k)) (λ v p. delete_last_is at (n - less + more) (less - more))

if_is : {a b : Act} (c : Bool) → Writes a → Writes b → Writes (if c then a else b)
if_is true h k = h
if_is false h k = k

make_room_is : (at : ObjId) (n k less more : ℕ) → Writes (list.make_room at n k less more)
make_room_is at n k less more =
    if_is (nat_lt more less) (close_up_is at n k less more)
    (if_is (nat_lt less more) (move_up_is at (k + less) (k + more) (n - less - k)) done_is)

splice_at_is : (at : ObjId) (n : ℕ) (a : ObjId) (k less : ℕ) (vs : List Value) → AreBounded vs → ListActIs at SignalIs (list.splice_at at n a k less vs)
splice_at_is at n a k less vs h =
    list_also (always (copy_all_is at k a 0 less)) (λ taken p.
    list_also (always (make_room_is at n k less (length vs))) (λ room q.
    list_also (put_all_is at k vs (n - less + length vs) h) (λ sized r. always (give_is (Object a) tt))))

splice_with_is : {calls : Calls} → CallsAre calls → (at : ObjId) (n : ℕ) (a : ObjId) (vs : List Value) → AreBounded vs
    → ListActIs at SignalIs (list.splice_with calls at n a vs)
splice_with_is c at n a vs h =
    list_also (always (to_number_is c (argument vs 0) (argument_is vs 0 h))) (λ start p.
    list_also (always (to_number_is c (argument vs 1) (argument_is vs 1 h))) (λ count q.
    splice_at_is at n a (list.place_in n (number_in start)) (list.count_in (n - list.place_in n (number_in start)) (number_in count)) (drop 2 vs)
    (values_dropped 2 vs h)))

pub splice_is : {calls : Calls} → CallsAre calls → (at : ObjId) (n : ℕ) (vs : List Value) → AreBounded vs → ListActIs at SignalIs (list.splice calls at n vs)
splice_is c at n vs h = list_bind (always new_list_is) (λ a p. splice_with_is c at n a vs h)

pub unshift_is : (at : ObjId) (n : ℕ) (vs : List Value) → AreBounded vs → ListActIs at SignalIs (list.unshift at n vs)
unshift_is at n vs h = list_also (always (move_up_is at 0 (length vs) n)) (λ v p. put_all_is at 0 vs (n + length vs) h)

-- ---- where a value stands

not_found_is : Writes list.not_found
not_found_is = give_is (Num (Some (negsuc 0))) one_below
  where
    one_below : IsBounded (Num (Some (negsuc 0)))
    one_below = omega arith

-- a place in an array is at most its length
place_low : (n : ℕ) (o : Option ℤ) → list.place_in n o ≤ n
place_low n None = omega arith
place_low n (Some (pos k)) = min-le_right k n
place_low n (Some (negsuc k)) = omega arith

find_up_is : (at : ObjId) (v : Value) (k m : ℕ) → k + m ≤ largest → Writes (list.find_up at v k m)
find_up_is at v k zero short = not_found_is
find_up_is at v k (suc m) short =
    stepped_is (λ u. asking_any (λ e.
    choose_is (list.is_there v e) (give_is (number k) (omega (arith, short))) (find_up_is at v (suc k) m (omega (arith, short)))))

find_from_is : {calls : Calls} → CallsAre calls → (at : ObjId) (n : ℕ) (v from : Value) → n ≤ largest → IsBounded from → Writes (list.find_from calls at n v from)
find_from_is c at n v from short h =
    also_is (to_number_is c from h) (λ p k.
    find_up_is at v (list.place_in n (number_in p)) (n - list.place_in n (number_in p)) (omega (arith, short, place_low n (number_in p))))

pub index_of_is : {calls : Calls} → CallsAre calls → (at : ObjId) (n : ℕ) (vs : List Value) → n ≤ largest → AreBounded vs → Writes (list.index_of calls at n vs)
index_of_is c at zero vs short h = not_found_is
index_of_is c at (suc n) vs short h = find_from_is c at (suc n) (argument vs 0) (argument vs 1) short (argument_is vs 1 h)

count_low : (n : ℕ) (o : Option ℤ) → list.count_to n o ≤ n
count_low n None = min-le_right 1 n
count_low n (Some (pos k)) = min-le_right (suc k) n
count_low n (Some (negsuc k)) = omega arith

find_down_is : (at : ObjId) (v : Value) (k : ℕ) → k ≤ largest → Writes (list.find_down at v k)
find_down_is at v zero short = not_found_is
find_down_is at v (suc k) short =
    stepped_is (λ u. asking_any (λ e.
    choose_is (list.is_there v e) (give_is (number k) (omega (arith, short))) (find_down_is at v k (omega (arith, short)))))

find_to_is : {calls : Calls} → CallsAre calls → (at : ObjId) (n : ℕ) (v to : Value) → n ≤ largest → IsBounded to → Writes (list.find_to calls at n v to)
find_to_is c at n v to short h =
    also_is (to_number_is c to h) (λ p k. find_down_is at v (list.count_to n (number_in p)) (omega (arith, short, count_low n (number_in p))))

pub last_index_of_is : {calls : Calls} → CallsAre calls → (at : ObjId) (n : ℕ) (vs : List Value) → n ≤ largest → AreBounded vs → Writes (list.last_index_of calls at n vs)
last_index_of_is c at zero vs short h = not_found_is
last_index_of_is c at (suc n) (v ∷ to ∷ vs) short h = find_to_is c at (suc n) v to short h.1.0
last_index_of_is c at (suc n) [] short h = find_down_is at (argument [] 0) (suc n) short
last_index_of_is c at (suc n) (v ∷ []) short h = find_down_is at v (suc n) short
