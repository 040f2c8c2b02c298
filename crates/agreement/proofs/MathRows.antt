-- The functions of `Math` on related values (section 15.8.2).
use Rattle.std.proofs.Common.{ℤ, pos, List, ◌∷◌, Option}
use Rattle.std.specs.Prelude.{unsigned_abs}
use Rattle.std.specs.Option.{option_map}
use Rattle.js_values.specs.declared.throw.Throw.TheVariants.{OutOfRange}
use Rattle.js_values.specs.declared.value.Value.{Value}
use Rattle.js_values.specs.declared.value.Value.TheVariants as value
use Rattle.whole_ops.specs.Power.{whole_pow}
use Rattle.page_meaning.specs.Act.{Calls, give}
use Rattle.page_meaning.specs.Convert.{as_number}
use Rattle.page_meaning.specs.Errors.{settle}
use Rattle.page_meaning.specs.MathRows.{absolute, picked, picked_of, power, rounded}
use Rattle.heap_relations.specs.Naming.{named, World}
use Rattle.heap_relations.specs.Related.{Each, ValueRel, each, no_more, num}
use Rattle.agreement.specs.Acts.{Agrees}
use Rattle.agreement.proofs.Heap.{values_up}
use Rattle.agreement.proofs.NumberRows.{number_then, settle_number, two_numbers}
use Rattle.agreement.proofs.Values.{give_rel, raise_rel, to_number_rel}

pub absolute_rel : {V : World} {v w : Value} (c d : Calls) → ValueRel (named V) v w → Agrees V (absolute c v) (absolute d w)
absolute_rel c d h =
    number_then c d h (λ n. give (value.Num (option_map (λ z. pos (unsigned_abs z)) n))) (λ n. give (value.Num (option_map (λ z. pos (unsigned_abs z)) n)))
    (λ W l n. give_rel num)

pub rounded_rel : {V : World} {v w : Value} (c d : Calls) → ValueRel (named V) v w → Agrees V (rounded c v) (rounded d w)
rounded_rel c d h = to_number_rel c d h

picked_rel : {V : World} {vs ws : List Value} (c d : Calls) (f : Option ℤ → Option ℤ → Option ℤ) → Each (ValueRel (named V)) vs ws → (n : Option ℤ)
    → Agrees V (picked c f vs n) (picked d f ws n)
picked_rel c d f no_more n = give_rel num
picked_rel {vs = v ∷ vs} {ws = w ∷ ws} c d f (each h hs) n = number_then c d h (λ m. picked c f vs (f n m)) (λ m. picked d f ws (f n m)) (λ W l m. picked_rel c d f (values_up l hs) (f n m))

pub picked_of_rel : {V : World} {vs ws : List Value} (c d : Calls) (f : Option ℤ → Option ℤ → Option ℤ) → Each (ValueRel (named V)) vs ws
    → Agrees V (picked_of c f vs) (picked_of d f ws)
picked_of_rel c d f no_more = raise_rel OutOfRange
picked_of_rel {vs = v ∷ vs} {ws = w ∷ ws} c d f (each h hs) = number_then c d h (picked c f vs) (picked d f ws) (λ W l n. picked_rel c d f (values_up l hs) n)

pub power_rel : {V : World} {v w p q : Value} (c d : Calls) → ValueRel (named V) v w → ValueRel (named V) p q → Agrees V (power c v p) (power d w q)
power_rel c d h k = two_numbers c d h k (λ a b. settle (as_number (whole_pow a b))) (λ a b. settle (as_number (whole_pow a b))) (λ W l a b. settle_number (whole_pow a b))
