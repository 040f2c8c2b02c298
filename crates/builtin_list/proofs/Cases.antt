-- What the rows come to, by cases.
use Rattle.std.proofs.Common.{◌≡◌, refl, ap, ℕ, zero, suc, ◌+◌, ◌-◌, ◌/◌, ◌<◌, ◌≤◌, arith, true, false, List, [], ◌∷◌, length, Option, Some, None}
use Rattle.std.specs.Prelude.{nat_lt, is_none, ◌&&◌}
use Rattle.std.proofs.lemmas.Bool.Decides.{nat_tests}
use Rattle.js_values.specs.declared.ids.ObjId.{ObjId}
use Rattle.js_values.specs.declared.value.Value.{Value}
use Rattle.js_values.specs.declared.value.Value.TheVariants.{Undefined, Null, Bool as Truth, Num, Text, Object}
use Rattle.page_meaning.specs.Act.{Calls, also, asking, done}
use Rattle.page_meaning.specs.Convert.{to_number, to_text}
use Rattle.page_meaning.specs.Elements.{element_or}
use Rattle.page_meaning.specs.ListRows.{close_up, drop_last, element_text, end_in, exchange, find_down, find_from, find_to, half, index_of, join_all, join_from, last_index_of, make_room, move_up, pop, put_both, separator, shift, shift_all}
use Rattle.page_meaning.specs.ObjectRows.{argument}

pub half_is : (n : ℕ) → half n ≡ n / 2
half_is zero = refl
half_is (suc zero) = refl
half_is (suc (suc n)) = let one : suc (n / 2) ≡ suc (suc n) / 2 = omega arith in rw (half_is n, one) refl

-- ---- arrays that have elements

pub pop_some : (at : ObjId) (n : ℕ) → 0 < n → pop at n ≡ asking (element_or at (n - 1)) (drop_last at (n - 1))
pop_some at n some = let more : n ≡ suc (n - 1) = omega (arith, some) in ap (pop at) more

pub shift_some : (at : ObjId) (n : ℕ) → 0 < n → shift at n ≡ asking (element_or at 0) (shift_all at (n - 1))
shift_some at n some = let more : n ≡ suc (n - 1) = omega (arith, some) in ap (shift at) more

pub index_some : (calls : Calls) (at : ObjId) (n : ℕ) (vs : List Value) → 0 < n → index_of calls at n vs ≡ find_from calls at n (argument vs 0) (argument vs 1)
index_some calls at zero vs some = let no : ⊥ = omega (arith, some) in absurd no
index_some calls at (suc n) vs some = refl

pub last_few : (calls : Calls) (at : ObjId) (n : ℕ) (vs : List Value) → 0 < n → length vs < 2 → last_index_of calls at n vs ≡ find_down at (argument vs 0) n
last_few calls at zero vs some few = let no : ⊥ = omega (arith, some) in absurd no
last_few calls at (suc n) [] some few = refl
last_few calls at (suc n) (v ∷ []) some few = refl
last_few calls at (suc n) (v ∷ to ∷ vs) some few = let no : ⊥ = omega (arith, few) in absurd no

pub last_two : (calls : Calls) (at : ObjId) (n : ℕ) (vs : List Value) → 0 < n → 2 ≤ length vs → last_index_of calls at n vs ≡ find_to calls at n (argument vs 0) (argument vs 1)
last_two calls at zero vs some many = let no : ⊥ = omega (arith, some) in absurd no
last_two calls at (suc n) [] some many = let no : ⊥ = omega (arith, many) in absurd no
last_two calls at (suc n) (v ∷ []) some many = let no : ⊥ = omega (arith, many) in absurd no
last_two calls at (suc n) (v ∷ to ∷ vs) some many = refl

pub join_some : (calls : Calls) (at : ObjId) (n : ℕ) (sep : Value) → 0 < n → join_all calls at n sep ≡ also (asking (element_or at 0) (element_text calls)) (λ first. join_from calls at sep first 1 (n - 1))
join_some calls at n sep some = let more : n ≡ suc (n - 1) = omega (arith, some) in ap (λ k. join_all calls at k sep) more

-- ---- how many stand in the place of how many

is_less : (a b : ℕ) → a < b → nat_lt a b ≡ true
is_less a b h = grind (arith, nat_tests)

not_less : (a b : ℕ) → b ≤ a → nat_lt a b ≡ false
not_less a b h = grind (arith, nat_tests)

pub room_closed : (at : ObjId) (n k less more : ℕ) → more < less → make_room at n k less more ≡ close_up at n k less more
room_closed at n k less more h = rw (is_less more less h) refl

pub room_made : (at : ObjId) (n k less more : ℕ) → less < more → make_room at n k less more ≡ move_up at (k + less) (k + more) (n - less - k)
room_made at n k less more h = let past : less ≤ more = omega (arith, h) in rw (not_less more less past, is_less less more h) refl

pub room_kept : (at : ObjId) (n k less more : ℕ) → less ≤ more → more ≤ less → make_room at n k less more ≡ done
room_kept at n k less more h g = rw (not_less more less h, not_less less more g) refl

-- ---- holes

pub holes_stay : (at : ObjId) (low high : ℕ) (v w : Option Value) → (is_none v && is_none w) ≡ true → exchange at low high v w ≡ done
holes_stay at low high None None h = refl
holes_stay at low high None (Some w) h = cc h
holes_stay at low high (Some v) None h = cc h
holes_stay at low high (Some v) (Some w) h = cc h

pub some_exchange : (at : ObjId) (low high : ℕ) (v w : Option Value) → (is_none v && is_none w) ≡ false → exchange at low high v w ≡ put_both at low high v w
some_exchange at low high None None h = cc h
some_exchange at low high None (Some w) h = refl
some_exchange at low high (Some v) None h = refl
some_exchange at low high (Some v) (Some w) h = refl

-- ---- values that are there

pub some_text : (calls : Calls) (v : Value) → (v ≡ Undefined → ⊥) → (v ≡ Null → ⊥) → element_text calls v ≡ to_text calls v
some_text calls Undefined h g = absurd (h refl)
some_text calls Null h g = absurd (g refl)
some_text calls (Truth b) h g = refl
some_text calls (Num n) h g = refl
some_text calls (Text t) h g = refl
some_text calls (Object at) h g = refl

pub some_separator : (calls : Calls) (v : Value) → (v ≡ Undefined → ⊥) → separator calls v ≡ to_text calls v
some_separator calls Undefined h = absurd (h refl)
some_separator calls Null h = refl
some_separator calls (Truth b) h = refl
some_separator calls (Num n) h = refl
some_separator calls (Text t) h = refl
some_separator calls (Object at) h = refl

pub some_end : (calls : Calls) (n : ℕ) (v : Value) → (v ≡ Undefined → ⊥) → end_in calls n v ≡ to_number calls v
some_end calls n Undefined h = absurd (h refl)
some_end calls n Null h = refl
some_end calls n (Truth b) h = refl
some_end calls n (Num k) h = refl
some_end calls n (Text t) h = refl
some_end calls n (Object at) h = refl
