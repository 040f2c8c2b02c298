-- Operators on values.
use Rattle.std.proofs.Common.{ℤ, Bool, true, false, not}
use Rattle.std.specs.Prelude.{pos, ◌++◌, Option, Some, Result, Ok, Err}
use Rattle.js_core.specs.declared.operators.BinaryOp.{BinaryOp}
use Rattle.js_core.specs.declared.operators.BinaryOp.TheVariants.{Mul, Div, Rem, Add, Sub, Shl, Shr, Ushr, Less, Greater, LessEq, GreaterEq, InstanceOf, Within, Equal, Unequal, Same, NotSame, BitAnd, BitXor, BitOr}
use Rattle.js_core.specs.declared.operators.UnaryOp.{UnaryOp}
use Rattle.js_core.specs.declared.operators.UnaryOp.TheVariants.{Void, Typeof, Plus, Minus, BitNot, Not, Delete}
use Rattle.js_values.specs.declared.ids.ObjId.{ObjId}
use Rattle.js_values.specs.declared.throw.Throw.{Throw}
use Rattle.js_values.specs.declared.throw.Throw.TheVariants.{NotFunction, NotObject, OutOfRange}
use Rattle.js_values.specs.declared.value.Value.{Value}
use Rattle.js_values.specs.declared.value.Value.TheVariants.{Undefined, Bool as Truth, Num, Text, Object}
use Rattle.whole_ops.specs.Arithmetic.{whole_add, whole_div, whole_mul, whole_rem, whole_sub}
use Rattle.whole_ops.specs.Bits.{whole_bits, whole_not}
use Rattle.whole_ops.specs.Conversions.{is_true}
use Rattle.whole_ops.specs.Equality.{loose_of, same_of}
use Rattle.whole_ops.specs.Order.{text_less, whole_less}
use Rattle.whole_ops.specs.declared.bit_ops.BitOp.{BitOp}
use Rattle.whole_ops.specs.declared.bit_ops.BitOp.TheVariants as bit
use Rattle.whole_ops.specs.declared.fault.LooseFault.{LooseFault}
use Rattle.whole_ops.specs.declared.fault.LooseFault.TheVariants.{NeedsPrimitive, Outside}
use Rattle.page_host.specs.HostNames.{text_or_long}
use Rattle.page_meaning.specs.Act.{Act, Calls, give}
use Rattle.page_meaning.specs.Convert.{a_number, as_number, number_in, number_of, text_of}
use Rattle.page_meaning.specs.Operators.{as_numbers, has_instance, instance_of, is_instance_of, is_within, less_of, loosely, of_loose, on_bits, on_numbers, on_primitives, one_more, operate, operate_one, says, sum_of, update_with, updated_value, yes_or_no}
use Rattle.literal_values.proofs.Callers.{add_number, as_number_literal, bits_number, div_number, joined_literal, mul_number, not_number, number_in_number, number_of_literal, rem_number, sub_number, text_of_units}
use Rattle.literal_values.specs.Values.{IsBounded, IsNumber, LiteralResult}
use Rattle.written_pages.proofs.Acts.{also_is, asking_any, choose_is, give_is}
use Rattle.written_pages.proofs.Converting.{operand_number_is, operand_primitive_is, operand_text_is}
use Rattle.written_pages.proofs.Primitives.{raise_is, settle_is}
use Rattle.written_pages.proofs.Types.{give_type_is}
use Rattle.written_pages.specs.Acts.{CallsAre, Continues, Writes}

-- what gives a literal result of all numbers
abbrev pub Computes : (Option ℤ → Option ℤ → Result Value Throw) → Type 0
Computes f = (a b : Option ℤ) → IsNumber a → IsNumber b → LiteralResult (f a b)

pub on_numbers_is : {calls : Calls} → CallsAre calls → (f : Option ℤ → Option ℤ → Result Value Throw) → Computes f → (v w : Value) → IsBounded v → IsBounded w
    → Writes (on_numbers calls f v w)
on_numbers_is c f g v w h k =
    also_is (operand_number_is c v h) (λ a p.
    also_is (operand_number_is c w k) (λ b q.
    settle_is (f (number_in a) (number_in b)) (g (number_in a) (number_in b) (number_in_number a p) (number_in_number b q))))

pub as_numbers_is : (f : Option ℤ → Option ℤ → Result Value Throw) → Computes f → (v w : Value) → IsBounded v → IsBounded w → Writes (as_numbers f v w)
as_numbers_is f g v w h k =
    also_is (settle_is (number_of v) (number_of_literal v h)) (λ a p.
    also_is (settle_is (number_of w) (number_of_literal w k)) (λ b q.
    settle_is (f (number_in a) (number_in b)) (g (number_in a) (number_in b) (number_in_number a p) (number_in_number b q))))

adds : Computes (λ a b. as_number (whole_add a b))
adds a b h k = as_number_literal (whole_add a b) (add_number a b)

sum_is : (p q : Value) → IsBounded p → IsBounded q → Writes (sum_of p q)
sum_is (Text t) q h k = settle_is (text_or_long (t ++ text_of q)) (joined_literal t (text_of q) h (text_of_units q k))
sum_is p (Text u) h k = settle_is (text_or_long (text_of p ++ u)) (joined_literal (text_of p) u (text_of_units p h) k)
sum_is p q h k = as_numbers_is (λ a b. as_number (whole_add a b)) adds p q h k

pub on_primitives_is : {calls : Calls} → CallsAre calls → (f : Value → Value → Act) → ((p q : Value) → IsBounded p → IsBounded q → Writes (f p q))
    → (v w : Value) → IsBounded v → IsBounded w → Writes (on_primitives calls f v w)
on_primitives_is c f g v w h k = also_is (operand_primitive_is c a_number v h) (λ p x. also_is (operand_primitive_is c a_number w k) (λ q y. g p q x y))

less_is : (f : Bool → Bool) (p q : Value) → IsBounded p → IsBounded q → Writes (less_of f p q)
less_is f (Text t) (Text u) h k = give_is (Truth (f (text_less t u))) tt
less_is f p q h k = as_numbers_is (λ a b. Ok (Truth (says f (whole_less a b)))) (λ a b x y. tt) p q h k

on_bits_is : {calls : Calls} → CallsAre calls → (op : BitOp) (v w : Value) → IsBounded v → IsBounded w → Writes (on_bits calls op v w)
on_bits_is c op v w h k = on_numbers_is c (λ a b. Ok (Num (whole_bits op a b))) (λ a b x y. bits_number op a b) v w h k

of_loose_is : (f : Bool → Bool) (again : Act) (r : Result Bool LooseFault) → Writes again → Writes (of_loose f again r)
of_loose_is f again (Ok b) h = give_is (Truth (f b)) tt
of_loose_is f again (Err NeedsPrimitive) h = h
of_loose_is f again (Err Outside) h = raise_is OutOfRange tt

loosely_is : {calls : Calls} → CallsAre calls → (f : Bool → Bool) (v w : Value) → IsBounded v → IsBounded w → Writes (loosely calls f v w)
loosely_is c f v w h k =
    of_loose_is f _ (loose_of v w)
    (on_primitives_is c (λ p q. of_loose f (give Undefined) (loose_of p q)) (λ p q x y. of_loose_is f (give Undefined) (loose_of p q) (give_is Undefined tt)) v w h k)

is_instance_is : (o p : Value) → Writes (is_instance_of o p)
is_instance_is (Object o) (Object p) = asking_any (λ b. give_is (Truth b) tt)
is_instance_is o p = raise_is NotObject tt

has_instance_is : (f : ObjId) (v : Value) → Writes (has_instance f v)
has_instance_is f (Object o) = asking_any (λ p. is_instance_is (Object o) p)
has_instance_is f v = give_is (Truth false) tt

instance_is : (v f : Value) → Writes (instance_of v f)
instance_is v (Object f) = asking_any (λ b. choose_is b (has_instance_is f v) (raise_is NotFunction tt))
instance_is v f = raise_is NotFunction tt

within_is : {calls : Calls} → CallsAre calls → (v w : Value) → IsBounded v → Writes (is_within calls v w)
within_is c v (Object at) h = also_is (operand_text_is c v h) (λ x p. asking_any (λ b. give_is (Truth b) tt))
within_is c v w h = raise_is NotObject tt

pub operate_is : {calls : Calls} → CallsAre calls → (op : BinaryOp) (v w : Value) → IsBounded v → IsBounded w → Writes (operate calls op v w)
operate_is c Mul v w h k = on_numbers_is c (λ a b. as_number (whole_mul a b)) (λ a b x y. as_number_literal (whole_mul a b) (mul_number a b)) v w h k
operate_is c Div v w h k = on_numbers_is c (λ a b. as_number (whole_div a b)) (λ a b x y. as_number_literal (whole_div a b) (div_number a b)) v w h k
operate_is c Rem v w h k = on_numbers_is c (λ a b. as_number (whole_rem a b)) (λ a b x y. as_number_literal (whole_rem a b) (rem_number a b)) v w h k
operate_is c Add v w h k = on_primitives_is c sum_of sum_is v w h k
operate_is c Sub v w h k = on_numbers_is c (λ a b. as_number (whole_sub a b)) (λ a b x y. as_number_literal (whole_sub a b) (sub_number a b)) v w h k
operate_is c Shl v w h k = on_bits_is c bit.Shl v w h k
operate_is c Shr v w h k = on_bits_is c bit.Shr v w h k
operate_is c Ushr v w h k = on_bits_is c bit.Ushr v w h k
operate_is c Less v w h k = on_primitives_is c (less_of yes_or_no) (λ p q x y. less_is yes_or_no p q x y) v w h k
operate_is c Greater v w h k = on_primitives_is c (λ p q. less_of yes_or_no q p) (λ p q x y. less_is yes_or_no q p y x) v w h k
operate_is c LessEq v w h k = on_primitives_is c (λ p q. less_of not q p) (λ p q x y. less_is not q p y x) v w h k
operate_is c GreaterEq v w h k = on_primitives_is c (less_of not) (λ p q x y. less_is not p q x y) v w h k
operate_is c InstanceOf v w h k = instance_is v w
operate_is c Within v w h k = within_is c v w h
operate_is c Equal v w h k = loosely_is c yes_or_no v w h k
operate_is c Unequal v w h k = loosely_is c not v w h k
operate_is c Same v w h k = give_is (Truth (same_of v w)) tt
operate_is c NotSame v w h k = give_is (Truth (not (same_of v w))) tt
operate_is c BitAnd v w h k = on_bits_is c bit.And v w h k
operate_is c BitXor v w h k = on_bits_is c bit.Xor v w h k
operate_is c BitOr v w h k = on_bits_is c bit.Or v w h k

pub operate_one_is : {calls : Calls} → CallsAre calls → (op : UnaryOp) (v : Value) → IsBounded v → Writes (operate_one calls op v)
operate_one_is c Void v h = give_is Undefined tt
operate_one_is c Typeof v h = give_type_is v
operate_one_is c Plus v h = operand_number_is c v h
operate_one_is c Minus v h =
    also_is (operand_number_is c v h) (λ n p. settle_is (as_number (whole_sub (Some (pos 0)) (number_in n))) (as_number_literal _ (sub_number (Some (pos 0)) (number_in n))))
operate_one_is c BitNot v h = also_is (operand_number_is c v h) (λ n p. give_is (Num (whole_not (number_in n))) (not_number (number_in n)))
operate_one_is c Not v h = give_is (Truth (not (is_true v))) tt
operate_one_is c Delete v h = give_is (Truth true) tt

pub one_more_is : (up : Bool) (n : Value) → Writes (one_more up n)
one_more_is true n = settle_is (as_number (whole_add (number_in n) (Some (pos 1)))) (as_number_literal _ (add_number (number_in n) (Some (pos 1))))
one_more_is false n = settle_is (as_number (whole_sub (number_in n) (Some (pos 1)))) (as_number_literal _ (sub_number (number_in n) (Some (pos 1))))

updated_bounded : (prefix : Bool) (old new : Value) → IsBounded old → IsBounded new → IsBounded (updated_value prefix old new)
updated_bounded true old new h k = k
updated_bounded false old new h k = h

pub update_with_is : {calls : Calls} → CallsAre calls → (up prefix : Bool) (put : Value → Act) → Continues put → (v : Value) → IsBounded v
    → Writes (update_with calls up prefix put v)
update_with_is c up prefix put g v h =
    also_is (operand_number_is c v h) (λ old p.
    also_is (one_more_is up old) (λ new q.
    also_is (g new q) (λ u r. give_is (updated_value prefix old new) (updated_bounded prefix old new p q))))
