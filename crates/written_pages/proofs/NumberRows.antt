-- The functions on numbers (sections 15.7 and 15.1.2).
use Rattle.std.proofs.Common.{ℤ, Bool, true, false, List, arith}
use Rattle.std.specs.Prelude.{[], ◌∷◌, Option, Some, is_none, is_some, pos}
use Rattle.js_values.specs.declared.throw.Throw.TheVariants.{WrongArgument}
use Rattle.js_values.specs.declared.value.Value.{Value}
use Rattle.js_values.specs.declared.value.Value.TheVariants.{Undefined, Null, Bool as Truth, Num, Text, Object}
use Rattle.page_meaning.specs.Act.{Act, Calls}
use Rattle.page_meaning.specs.Convert.{as_number, number_in, text_in}
use Rattle.page_meaning.specs.NumberRows.{is_finite, is_not_a_number, number_from, number_text, on_number, parse_int, parsed, radix_of, text_or_outside}
use Rattle.literal_values.specs.Values.{AreBounded, IsBounded, IsNumber}
use Rattle.literal_values.proofs.Callers.{as_number_literal, parsed_number, radix_text}
use Rattle.written_pages.proofs.Acts.{also_is, give_is}
use Rattle.written_pages.proofs.Converting.{to_number_is, to_text_is}
use Rattle.written_pages.proofs.Primitives.{raise_is, settle_is}
use Rattle.written_pages.specs.Acts.{CallsAre, Writes}

pub on_number_is : {f : Option ℤ → Act} (v : Value) → IsBounded v → ((n : Option ℤ) → IsNumber n → Writes (f n)) → Writes (on_number v f)
on_number_is (Num n) h k = k n h
on_number_is Undefined h k = raise_is WrongArgument tt
on_number_is Null h k = raise_is WrongArgument tt
on_number_is (Truth b) h k = raise_is WrongArgument tt
on_number_is (Text t) h k = raise_is WrongArgument tt
on_number_is (Object at) h k = raise_is WrongArgument tt

pub number_from_is : {calls : Calls} → CallsAre calls → (construct : Bool) (vs : List Value) → AreBounded vs → Writes (number_from calls construct vs)
number_from_is c true vs h = raise_is WrongArgument tt
number_from_is c false [] h = give_is (Num (Some (pos 0))) (omega arith)
number_from_is c false (v ∷ vs) h = to_number_is c v h.0

pub is_not_a_number_is : {calls : Calls} → CallsAre calls → (v : Value) → IsBounded v → Writes (is_not_a_number calls v)
is_not_a_number_is c v h = also_is (to_number_is c v h) (λ n k. give_is (Truth (is_none (number_in n))) tt)

pub is_finite_is : {calls : Calls} → CallsAre calls → (v : Value) → IsBounded v → Writes (is_finite calls v)
is_finite_is c v h = also_is (to_number_is c v h) (λ n k. give_is (Truth (is_some (number_in n))) tt)

pub number_text_is : {calls : Calls} → CallsAre calls → (v : Value) (n : Option ℤ) → IsBounded v → Writes (number_text calls v n)
number_text_is c v n h = also_is (to_number_is c v h) (λ r k. settle_is (text_or_outside n (radix_of v (number_in r))) (radix_text n v (number_in r)))

pub parse_int_is : {calls : Calls} → CallsAre calls → (v w : Value) → IsBounded v → IsBounded w → Writes (parse_int calls v w)
parse_int_is c v w h k =
    also_is (to_text_is c v h) (λ x p.
    also_is (to_number_is c w k) (λ r q.
    settle_is (as_number (parsed (text_in x) (number_in r))) (as_number_literal _ (parsed_number (text_in x) (number_in r)))))
