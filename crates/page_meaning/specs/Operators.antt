-- Meaning: operators on values (sections 11.4 to 11.9). Where both sides are converted, the left comes first.
use Rattle.std.specs.Prelude.{ℕ, zero, suc, ℤ, pos, nat_eq, Bool, true, false, not, List, ◌++◌, Option, Some, None, Result, Ok, Err, codes, if◌then◌else◌}
use Rattle.js_core.specs.declared.operators.BinaryOp.{BinaryOp}
use Rattle.js_core.specs.declared.operators.BinaryOp.TheVariants.{Mul, Div, Rem, Add, Sub, Shl, Shr, Ushr, Less, Greater, LessEq, GreaterEq, InstanceOf, Within, Equal, Unequal, Same, NotSame, BitAnd, BitXor, BitOr}
use Rattle.js_core.specs.declared.operators.UnaryOp.{UnaryOp}
use Rattle.js_core.specs.declared.operators.UnaryOp.TheVariants.{Delete, Void, Typeof, Plus, Minus, BitNot, Not}
use Rattle.js_values.specs.declared.ids.ObjId.{ObjId}
use Rattle.js_values.specs.declared.throw.Throw.{Throw}
use Rattle.js_values.specs.declared.throw.Throw.TheVariants.{NotFunction, NotObject, OutOfRange}
use Rattle.js_values.specs.declared.value.Value.{Value}
use Rattle.js_values.specs.declared.value.Value.TheVariants.{Undefined, Null, Bool as Truth, Num, Text, Object}
use Rattle.object_heap.specs.declared.object.Class.{Class}
use Rattle.object_heap.specs.declared.object.Class.TheVariants.{Bound}
use Rattle.object_heap.specs.Chain.{object_at}
use Rattle.object_heap.specs.Object as heap
use Rattle.whole_ops.specs.declared.bit_ops.BitOp.{BitOp}
use Rattle.whole_ops.specs.declared.bit_ops.BitOp.TheVariants as bit
use Rattle.whole_ops.specs.declared.fault.LooseFault.{LooseFault}
use Rattle.whole_ops.specs.declared.fault.LooseFault.TheVariants.{NeedsPrimitive, Outside}
use Rattle.whole_ops.specs.Arithmetic.{whole_add, whole_sub, whole_mul, whole_div, whole_rem}
use Rattle.whole_ops.specs.Bits.{whole_bits, whole_not}
use Rattle.whole_ops.specs.Equality.{same_of, loose_of}
use Rattle.whole_ops.specs.Conversions.{is_true}
use Rattle.whole_ops.specs.Order.{text_less, whole_less}
use Rattle.page_meaning.specs.Act.{Act, Calls, give, also, asking, choose, ◌>>=◌}
use Rattle.page_meaning.specs.Convert.{a_number, text_of, text_in, number_in, as_number, number_of, operand_primitive, operand_number, operand_text}
use Rattle.page_meaning.specs.Errors.{raise, settle}
use Rattle.page_host.specs.HostNames.{text_or_long}
use Rattle.page_meaning.specs.Properties.{has_member, class_of, is_function, get_at}
use Rattle.page_meaning.specs.Store.{Store}

-- both as numbers, the left whole before the right, and then the operator on them (11.5)
abbrev pub on_numbers : Calls → (Option ℤ → Option ℤ → Result Value Throw) → Value → Value → Act
on_numbers calls f v w = do
  a ← operand_number calls v
  b ← operand_number calls w
  settle (f (number_in a) (number_in b))

-- both of them primitive (11.8.5 step 3)
abbrev pub as_numbers : (Option ℤ → Option ℤ → Result Value Throw) → Value → Value → Act
as_numbers f p q = do
  a ← settle (number_of p)
  b ← settle (number_of q)
  settle (f (number_in a) (number_in b))

-- a sum of primitive values: the joined text where one of them is a text (11.6.1)
abbrev pub sum_of : Value → Value → Act
sum_of (Text t) q = settle (text_or_long (t ++ text_of q))
sum_of p (Text u) = settle (text_or_long (text_of p ++ u))
sum_of p q = as_numbers (λ a b. as_number (whole_add a b)) p q

-- both become primitive before either becomes more
abbrev pub on_primitives : Calls → (Value → Value → Act) → Value → Value → Act
on_primitives calls f v w = do
  p ← operand_primitive calls a_number v
  q ← operand_primitive calls a_number w
  f p q

-- whether a comparison that may be undefined says so
abbrev pub says : (Bool → Bool) → Option Bool → Bool
says f None = false
says f (Some b) = f b

-- primitive values are compared (11.8.5), and f says what the operator makes of it
abbrev pub less_of : (Bool → Bool) → Value → Value → Act
less_of f (Text t) (Text u) = give (Truth (f (text_less t u)))
less_of f p q = as_numbers (λ a b. Ok (Truth (says f (whole_less a b)))) p q

abbrev pub on_bits : Calls → BitOp → Value → Value → Act
on_bits calls op = on_numbers calls (λ a b. Ok (Num (whole_bits op a b)))

abbrev pub yes_or_no : Bool → Bool
yes_or_no b = b

-- `==` of values of which at most one is an object (11.9.3)
abbrev pub of_loose : (Bool → Bool) → Act → Result Bool LooseFault → Act
of_loose f again (Ok b) = give (Truth (f b))
of_loose f again (Err NeedsPrimitive) = again
of_loose f again (Err Outside) = raise OutOfRange

-- an object beside a primitive value is converted, and compared once more
abbrev pub loosely : Calls → (Bool → Bool) → Value → Value → Act
loosely calls f v w = of_loose f (on_primitives calls (λ p q. of_loose f (give Undefined) (loose_of p q)) v w) (loose_of v w)

-- the object stands in the first so many of the chain above this one
abbrev pub stands_above : List heap.Object → ℕ → ℕ → Option ObjId → Bool
stands_above objects zero k at = false
stands_above objects (suc n) k None = false
stands_above objects (suc n) k (Some at) = if nat_eq k at.0 then true else stands_above objects n k (object_at objects at.0).proto

abbrev pub is_above : Store → ObjId → ObjId → Bool
is_above s p o = stands_above s.heap.objects (suc o.0) p.0 (object_at s.heap.objects o.0).proto

-- [[HasInstance]] (15.3.5.3), from the `prototype` of the function
abbrev pub is_instance_of : Value → Value → Act
is_instance_of (Object o) (Object p) = asking (λ s. is_above s p o) (λ b. give (Truth b))
is_instance_of o p = raise NotObject

-- the function whose `prototype` counts: a bound function's target, which is older, so many times (15.3.4.5.3)
abbrev pub next_target : Class → ObjId → (ObjId → ObjId) → ObjId
next_target (Bound target this args) f further = further target
next_target class f further = f

abbrev pub target_of : List heap.Object → ℕ → ObjId → ObjId
target_of objects zero f = f
target_of objects (suc n) f = next_target (object_at objects f.0).class f (λ t. target_of objects n t)

abbrev pub prototype_for_instances : Store → ObjId → Value
prototype_for_instances s f = get_at s (target_of s.heap.objects (suc f.0) f) (codes "prototype")

-- a primitive value is no instance, and the function's `prototype` is not read then
abbrev pub has_instance : ObjId → Value → Act
has_instance f (Object o) = asking (λ s. prototype_for_instances s f) (is_instance_of (Object o))
has_instance f v = give (Truth false)

-- `instanceof` (11.8.6)
abbrev pub instance_of : Value → Value → Act
instance_of v (Object f) = asking (λ s. is_function (class_of s (Object f))) (λ b. choose b (has_instance f v) (raise NotFunction))
instance_of v f = raise NotFunction

-- `in` (11.8.7): the right side is judged before the left is converted
abbrev pub is_within : Calls → Value → Value → Act
is_within calls v (Object at) = also (operand_text calls v) (λ x. asking (λ s. has_member s at (text_in x)) (λ b. give (Truth b)))
is_within calls v w = raise NotObject

-- a binary operator on the values of its sides
abbrev pub operate : Calls → BinaryOp → Value → Value → Act
operate calls Mul = on_numbers calls (λ a b. as_number (whole_mul a b))
operate calls Div = on_numbers calls (λ a b. as_number (whole_div a b))
operate calls Rem = on_numbers calls (λ a b. as_number (whole_rem a b))
operate calls Add = on_primitives calls sum_of
operate calls Sub = on_numbers calls (λ a b. as_number (whole_sub a b))
operate calls Shl = on_bits calls bit.Shl
operate calls Shr = on_bits calls bit.Shr
operate calls Ushr = on_bits calls bit.Ushr
operate calls Less = on_primitives calls (less_of yes_or_no)
operate calls Greater = on_primitives calls (λ p q. less_of yes_or_no q p)
operate calls LessEq = on_primitives calls (λ p q. less_of not q p)
operate calls GreaterEq = on_primitives calls (less_of not)
operate calls InstanceOf = instance_of
operate calls Within = is_within calls
operate calls Equal = loosely calls yes_or_no
operate calls Unequal = loosely calls not
operate calls Same = λ v w. give (Truth (same_of v w))
operate calls NotSame = λ v w. give (Truth (not (same_of v w)))
operate calls BitAnd = on_bits calls bit.And
operate calls BitXor = on_bits calls bit.Xor
operate calls BitOr = on_bits calls bit.Or

abbrev pub type_of_object : Bool → List ℕ
type_of_object true = codes "function"
type_of_object false = codes "object"

-- the word for a value's type (11.4.3)
abbrev pub type_of : Store → Value → List ℕ
type_of s Undefined = codes "undefined"
type_of s Null = codes "object"
type_of s (Truth b) = codes "boolean"
type_of s (Num n) = codes "number"
type_of s (Text t) = codes "string"
type_of s (Object at) = type_of_object (is_function (class_of s (Object at)))

abbrev pub give_type : Value → Act
give_type v = asking (λ s. type_of s v) (λ t. give (Text t))

-- a unary operator on a value; `delete` of a value that is no reference gives true
abbrev pub operate_one : Calls → UnaryOp → Value → Act
operate_one calls Void v = give Undefined
operate_one calls Typeof v = give_type v
operate_one calls Plus v = operand_number calls v
operate_one calls Minus v = also (operand_number calls v) (λ n. settle (as_number (whole_sub (Some (pos 0)) (number_in n))))
operate_one calls BitNot v = also (operand_number calls v) (λ n. give (Num (whole_not (number_in n))))
operate_one calls Not v = give (Truth (not (is_true v)))
operate_one calls Delete v = give (Truth true)

-- `++` or `--` on a number
abbrev pub one_more : Bool → Value → Act
one_more true n = settle (as_number (whole_add (number_in n) (Some (pos 1))))
one_more false n = settle (as_number (whole_sub (number_in n) (Some (pos 1))))

-- what an update gives: the new number before its target, and the old one after it
abbrev pub updated_value : Bool → Value → Value → Value
updated_value true old new = new
updated_value false old new = old

-- converts, changes and puts back (11.3, 11.4.4 and 11.4.5)
abbrev pub update_with : Calls → Bool → Bool → (Value → Act) → Value → Act
update_with calls up prefix write v = do
  old ← operand_number calls v
  new ← one_more up old
  _ ← write new
  give (updated_value prefix old new)
