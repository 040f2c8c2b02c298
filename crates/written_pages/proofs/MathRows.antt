-- The functions of `Math` on bounded values (section 15.8.2).
use Rattle.std.proofs.Common.{ℤ, List}
use Rattle.std.specs.Prelude.{pos, [], ◌∷◌, Option, unsigned_abs}
use Rattle.std.specs.Option.{option_map}
use Rattle.js_values.specs.declared.throw.Throw.TheVariants.{OutOfRange}
use Rattle.js_values.specs.declared.value.Value.{Value}
use Rattle.js_values.specs.declared.value.Value.TheVariants.{Num}
use Rattle.whole_ops.specs.Power.{whole_pow}
use Rattle.page_meaning.specs.Act.{Calls}
use Rattle.page_meaning.specs.Convert.{as_number, number_in}
use Rattle.page_meaning.specs.MathRows.{absolute, larger, picked, picked_of, power, rounded, smaller}
use Rattle.literal_values.specs.Values.{AreBounded, IsBounded, IsNumber}
use Rattle.literal_values.proofs.Callers.{absolute_number, as_number_literal, larger_number, number_in_number, pow_number, smaller_number}
use Rattle.written_pages.proofs.Acts.{also_is, give_is}
use Rattle.written_pages.proofs.Converting.{to_number_is}
use Rattle.written_pages.proofs.Operators.{on_numbers_is}
use Rattle.written_pages.proofs.Primitives.{raise_is}
use Rattle.written_pages.specs.Acts.{CallsAre, Writes}

pub absolute_is : {calls : Calls} → CallsAre calls → (v : Value) → IsBounded v → Writes (absolute calls v)
absolute_is c v h = also_is (to_number_is c v h) (λ n k. give_is (Num (option_map (λ z. pos (unsigned_abs z)) (number_in n))) (absolute_number (number_in n) (number_in_number n k)))

pub rounded_is : {calls : Calls} → CallsAre calls → (v : Value) → IsBounded v → Writes (rounded calls v)
rounded_is c v h = to_number_is c v h

-- what picks one of two numbers
abbrev pub Picks : (Option ℤ → Option ℤ → Option ℤ) → Type 0
Picks f = (a b : Option ℤ) → IsNumber a → IsNumber b → IsNumber (f a b)

picked_is : {calls : Calls} → CallsAre calls → (f : Option ℤ → Option ℤ → Option ℤ) → Picks f → (vs : List Value) (n : Option ℤ) → AreBounded vs → IsNumber n
    → Writes (picked calls f vs n)
picked_is c f g [] n h k = give_is (Num n) k
picked_is c f g (v ∷ vs) n h k =
    also_is (to_number_is c v h.0) (λ m i. picked_is c f g vs (f n (number_in m)) h.1 (g n (number_in m) k (number_in_number m i)))

picked_of_is : {calls : Calls} → CallsAre calls → (f : Option ℤ → Option ℤ → Option ℤ) → Picks f → (vs : List Value) → AreBounded vs
    → Writes (picked_of calls f vs)
picked_of_is c f g [] h = raise_is OutOfRange tt
picked_of_is c f g (v ∷ vs) h = also_is (to_number_is c v h.0) (λ n k. picked_is c f g vs (number_in n) h.1 (number_in_number n k))

pub largest_is : {calls : Calls} → CallsAre calls → (vs : List Value) → AreBounded vs → Writes (picked_of calls larger vs)
largest_is c vs h = picked_of_is c larger larger_number vs h

pub smallest_is : {calls : Calls} → CallsAre calls → (vs : List Value) → AreBounded vs → Writes (picked_of calls smaller vs)
smallest_is c vs h = picked_of_is c smaller smaller_number vs h

pub power_is : {calls : Calls} → CallsAre calls → (v w : Value) → IsBounded v → IsBounded w → Writes (power calls v w)
power_is c v w h k = on_numbers_is c (λ a b. as_number (whole_pow a b)) (λ a b x y. as_number_literal (whole_pow a b) (pow_number a b)) v w h k
