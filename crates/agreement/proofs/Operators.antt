-- Operators on values that are related (sections 11.4 to 11.9).
use Rattle.std.proofs.Common.{◌≡◌, refl, ap, subst, ◌∙◌, ℕ, zero, suc, ℤ, pos, ◌<◌, nat_le, Bool, true, false, not, List, ◌++◌, length, Option, Some, Result, Ok, Err, if◌then◌else◌, codes, arith}
use Rattle.std.specs.Option.{ForSome}
use Rattle.js_core.specs.declared.operators.BinaryOp.{BinaryOp}
use Rattle.js_core.specs.declared.operators.BinaryOp.TheVariants.{Mul, Div, Rem, Add, Sub, Shl, Shr, Ushr, Less, Greater, LessEq, GreaterEq, InstanceOf, Within, Equal as IsEqual, Unequal, Same, NotSame, BitAnd, BitXor, BitOr}
use Rattle.js_core.specs.declared.operators.UnaryOp.{UnaryOp}
use Rattle.js_core.specs.declared.operators.UnaryOp.TheVariants.{Delete, Void, Typeof, Plus, Minus, BitNot, Not}
use Rattle.js_values.specs.declared.ids.ObjId.{ObjId}
use Rattle.js_values.specs.declared.throw.Throw.{Throw}
use Rattle.js_values.specs.declared.throw.Throw.TheVariants.{NotFunction, NotObject, OutOfRange, TextTooLong}
use Rattle.js_values.specs.declared.value.Value.{Value}
use Rattle.js_values.specs.declared.value.Value.TheVariants as value
use Rattle.object_heap.specs.Chain.{AreOlder, HaveOlderTargets, object_at}
use Rattle.object_heap.specs.Object as heap
use Rattle.object_heap.specs.declared.object.Class.{Class}
use Rattle.whole_ops.specs.Arithmetic.{Outcome, whole_add, whole_sub, whole_mul, whole_div, whole_rem}
use Rattle.whole_ops.specs.Bits.{whole_bits, whole_not}
use Rattle.whole_ops.specs.Conversions.{is_true}
use Rattle.whole_ops.specs.Equality.{same_of, loose_of}
use Rattle.whole_ops.specs.Order.{whole_less}
use Rattle.whole_ops.specs.declared.bit_ops.BitOp.{BitOp}
use Rattle.whole_ops.specs.declared.bit_ops.BitOp.TheVariants as bit
use Rattle.whole_ops.specs.declared.fault.LooseFault.{LooseFault}
use Rattle.whole_ops.specs.declared.fault.LooseFault.TheVariants.{NeedsPrimitive, Outside}
use Rattle.page_meaning.specs.Act.{Act, Calls, give}
use Rattle.page_meaning.specs.Convert.{a_number, as_number, number_in, text_in, text_of}
use Rattle.page_meaning.specs.Errors.{settle}
use Rattle.page_meaning.specs.Operators.{as_numbers, give_type, has_instance, instance_of, is_above, is_instance_of, is_within, less_of, loosely, next_target, of_loose, on_bits, on_numbers, on_primitives, one_more, operate, operate_one, prototype_for_instances, says, stands_above, sum_of, target_of, type_of, type_of_object, update_with, updated_value, yes_or_no}
use Rattle.page_host.specs.HostNames.{text_or_long}
use Rattle.page_meaning.specs.Properties.{has_member, is_object}
use Rattle.page_meaning.specs.Store.{Store}
use Rattle.heap_relations.proofs.Callers.{larger_more}
use Rattle.heap_relations.specs.Naming.{Larger, Named, named, World}
use Rattle.heap_relations.specs.Related.{ClassRel, IsOneToOne, Links, Maybe, ObjectIds, ObjectsRel, ValueRel, undefined, null, truth, num, text, object, none, some, plain, array, page, native, bound, fault, math, window, node, event}
use Rattle.agreement.specs.Acts.{Agrees, Continues, Equal, StoreRel}
use Rattle.agreement.proofs.Acts.{also_rel, asking_rel, choose_rel, on_one_to_one}
use Rattle.agreement.proofs.Heap.{named_up, value_up}
use Rattle.agreement.proofs.Properties.{class_of_rel, get_at_rel, has_member_same, is_function_same, text_in_same}
use Rattle.agreement.proofs.Values.{SettledRel, give_rel, number_of_rel, raise_rel, refused, settle_rel, settled, text_of_same, text_same, to_number_rel, to_primitive_rel, to_text_rel}

-- ---- pure parts of values that are related

pub number_in_same : {V : World} {v w : Value} → ValueRel (named V) v w → number_in v ≡ number_in w
number_in_same undefined = refl
number_in_same null = refl
number_in_same truth = refl
number_in_same num = refl
number_in_same text = refl
number_in_same (object n) = refl

pub is_true_same : {V : World} {v w : Value} → ValueRel (named V) v w → is_true v ≡ is_true w
is_true_same undefined = refl
is_true_same null = refl
is_true_same truth = refl
is_true_same num = refl
is_true_same text = refl
is_true_same (object n) = refl

pub truth_same : {V : World} {b c : Bool} → b ≡ c → ValueRel (named V) (value.Bool b) (value.Bool c)
truth_same {V = V} {b = b} e = subst (λ x. ValueRel (named V) (value.Bool b) (value.Bool x)) e truth

-- ---- numbers

-- what is told of two numbers is settled the same
abbrev pub IsSettled : (Option ℤ → Option ℤ → Result Value Throw) → Type 0
IsSettled f = (W : World) (x y : Option ℤ) → SettledRel W (f x y) (f x y)

pub as_number_rel : {V : World} (r : Outcome) → SettledRel V (as_number r) (as_number r)
as_number_rel (Ok n) = settled num
as_number_rel (Err e) = refused OutOfRange

two_numbers : {V : World} {v w p q : Value} (f : Option ℤ → Option ℤ → Result Value Throw) → IsSettled f → ValueRel (named V) v w → ValueRel (named V) p q
    → SettledRel V (f (number_in v) (number_in p)) (f (number_in w) (number_in q))
two_numbers {V = V} {v = v} {w = w} {p = p} f ok h k =
    subst (λ y. SettledRel V (f (number_in v) (number_in p)) (f (number_in w) y)) (number_in_same k)
    (subst (λ x. SettledRel V (f (number_in v) (number_in p)) (f x (number_in p))) (number_in_same h) (ok V (number_in v) (number_in p)))

pub on_numbers_rel : {V : World} {v w p q : Value} (c d : Calls) (f : Option ℤ → Option ℤ → Result Value Throw) → IsSettled f → ValueRel (named V) v w → ValueRel (named V) p q
    → Agrees V (on_numbers c f v p) (on_numbers d f w q)
on_numbers_rel c d f ok h k =
    also_rel (to_number_rel c d h) (λ W l a b r. also_rel (to_number_rel c d (value_up l k)) (λ X j x y s. settle_rel (two_numbers f ok (value_up j r) s)))

pub as_numbers_rel : {V : World} {v w p q : Value} (f : Option ℤ → Option ℤ → Result Value Throw) → IsSettled f → ValueRel (named V) v w → ValueRel (named V) p q
    → Agrees V (as_numbers f v p) (as_numbers f w q)
as_numbers_rel f ok h k =
    also_rel (settle_rel (number_of_rel h)) (λ W l a b r. also_rel (settle_rel (number_of_rel (value_up l k))) (λ X j x y s. settle_rel (two_numbers f ok (value_up j r) s)))

pub on_bits_rel : {V : World} {v w p q : Value} (c d : Calls) (op : BitOp) → ValueRel (named V) v w → ValueRel (named V) p q → Agrees V (on_bits c op v p) (on_bits d op w q)
on_bits_rel c d op h k = on_numbers_rel c d (λ a b. Ok (value.Num (whole_bits op a b))) (λ W x y. settled num) h k

-- what goes on with two pairs of related values
abbrev pub ContinuesTwo : World → (Value → Value → Act) → (Value → Value → Act) → Type 0
ContinuesTwo V f g = (W : World) → Larger V W → (v w p q : Value) → ValueRel (named W) v w → ValueRel (named W) p q → Agrees W (f v p) (g w q)

pub on_primitives_rel : {V : World} {v w p q : Value} {f g : Value → Value → Act} (c d : Calls) → ContinuesTwo V f g → ValueRel (named V) v w → ValueRel (named V) p q
    → Agrees V (on_primitives c f v p) (on_primitives d g w q)
on_primitives_rel c d m h k =
    also_rel (to_primitive_rel c d a_number h) (λ W l a b r. also_rel (to_primitive_rel c d a_number (value_up l k)) (λ X j x y s. m X (larger_more l j) a b x y (value_up j r) s))

-- ---- sums and comparisons

text_or_long_rel : {V : World} (t : List ℕ) → SettledRel V (text_or_long t) (text_or_long t)
text_or_long_rel {V = V} t = by_case (nat_le (length t) _)
  where
    by_case : (b : Bool) → SettledRel V (if b then Ok (value.Text t) else Err TextTooLong) (if b then Ok (value.Text t) else Err TextTooLong)
    by_case true = settled text
    by_case false = refused TextTooLong

joined_rel : {V : World} {t u : List ℕ} → t ≡ u → Agrees V (settle (text_or_long t)) (settle (text_or_long u))
joined_rel {V = V} {t = t} e = subst (λ u. Agrees V (settle (text_or_long t)) (settle (text_or_long u))) e (settle_rel (text_or_long_rel t))

added : IsSettled (λ a b. as_number (whole_add a b))
added W x y = as_number_rel (whole_add x y)

abbrev is_text : Value → Bool
is_text (value.Text t) = true
is_text v = false

-- texts are handled apart
data Textual (V : World) : Value → Value → Type 0 where
  a_text : {t : List ℕ} → Textual V (value.Text t) (value.Text t)
  no_text : {v w : Value} → is_text v ≡ false → is_text w ≡ false → Textual V v w

textual : {V : World} {v w : Value} → ValueRel (named V) v w → Textual V v w
textual undefined = no_text refl refl
textual null = no_text refl refl
textual truth = no_text refl refl
textual num = no_text refl refl
textual text = a_text
textual (object n) = no_text refl refl

sum_with_text : (v : Value) (u : List ℕ) → is_text v ≡ false → sum_of v (value.Text u) ≡ settle (text_or_long (text_of v ++ u))
sum_with_text (value.Text t) u e = absurd (cc e)
sum_with_text v u e = refl

sum_of_numbers : (v p : Value) → is_text v ≡ false → is_text p ≡ false → sum_of v p ≡ as_numbers (λ a b. as_number (whole_add a b)) v p
sum_of_numbers (value.Text t) p e f = absurd (cc e)
sum_of_numbers v (value.Text u) e f = absurd (cc f)
sum_of_numbers v p e f = refl

sum_of_textual : {V : World} {v w p q : Value} → Textual V v w → Textual V p q → ValueRel (named V) v w → ValueRel (named V) p q
    → Agrees V (sum_of v p) (sum_of w q)
sum_of_textual (a_text {t = t}) x h k = joined_rel (ap (λ u. t ++ u) (text_of_same k))
sum_of_textual {v = v} {w = w} (no_text e f) (a_text {t = u}) h k = rw (sum_with_text v u e, sum_with_text w u f) (joined_rel (ap (λ t. t ++ u) (text_of_same h)))
sum_of_textual {v = v} {w = w} {p = p} {q = q} (no_text e f) (no_text i j) h k =
    rw (sum_of_numbers v p e i, sum_of_numbers w q f j) (as_numbers_rel (λ a b. as_number (whole_add a b)) added h k)

pub sum_of_rel : {V : World} {v w p q : Value} → ValueRel (named V) v w → ValueRel (named V) p q → Agrees V (sum_of v p) (sum_of w q)
sum_of_rel h k = sum_of_textual (textual h) (textual k) h k

-- a comparison of numbers
abbrev less_numbers : (Bool → Bool) → Value → Value → Act
less_numbers f p q = as_numbers (λ a b. Ok (value.Bool (says f (whole_less a b)))) p q

less_numbers_rel : {V : World} {v w p q : Value} (f : Bool → Bool) → ValueRel (named V) v w → ValueRel (named V) p q
    → Agrees V (less_numbers f v p) (less_numbers f w q)
less_numbers_rel f h k = as_numbers_rel (λ a b. Ok (value.Bool (says f (whole_less a b)))) (λ W x y. settled truth) h k

less_at_left : (f : Bool → Bool) (v p : Value) → is_text v ≡ false → less_of f v p ≡ less_numbers f v p
less_at_left f (value.Text t) p e = absurd (cc e)
less_at_left f v p e = refl

less_at_right : (f : Bool → Bool) (v p : Value) → is_text p ≡ false → less_of f v p ≡ less_numbers f v p
less_at_right f (value.Text t) (value.Text u) e = absurd (cc e)
less_at_right f v p e = refl

less_of_textual : {V : World} {v w p q : Value} (f : Bool → Bool) → Textual V v w → Textual V p q → ValueRel (named V) v w → ValueRel (named V) p q
    → Agrees V (less_of f v p) (less_of f w q)
less_of_textual f a_text a_text h k = give_rel truth
less_of_textual {v = v} {w = w} {p = p} {q = q} f a_text (no_text i j) h k = rw (less_at_right f v p i, less_at_right f w q j) (less_numbers_rel f h k)
less_of_textual {v = v} {w = w} {p = p} {q = q} f (no_text e i) x h k = rw (less_at_left f v p e, less_at_left f w q i) (less_numbers_rel f h k)

pub less_of_rel : {V : World} {v w p q : Value} (f : Bool → Bool) → ValueRel (named V) v w → ValueRel (named V) p q → Agrees V (less_of f v p) (less_of f w q)
less_of_rel f h k = less_of_textual f (textual h) (textual k) h k

-- ---- equality

-- a primitive value is related to itself, and objects are compared by their ids
data Shape (V : World) : Value → Value → Type 0 where
  primitive : {v : Value} → is_object v ≡ false → Shape V v v
  an_object : {a b : ObjId} → Named V a.0 b.0 → Shape V (value.Object a) (value.Object b)

shape : {V : World} {v w : Value} → ValueRel (named V) v w → Shape V v w
shape undefined = primitive refl
shape null = primitive refl
shape truth = primitive refl
shape num = primitive refl
shape text = primitive refl
shape {v = value.Object a} {w = value.Object b} (object n) = an_object {a = a} {b = b} n

same_at_left : (a b : ObjId) (p : Value) → is_object p ≡ false → same_of (value.Object a) p ≡ same_of (value.Object b) p
same_at_left a b (value.Object x) e = absurd (cc e)
same_at_left a b p e = refl

same_at_right : (v : Value) (x y : ObjId) → is_object v ≡ false → same_of v (value.Object x) ≡ same_of v (value.Object y)
same_at_right (value.Object a) x y e = absurd (cc e)
same_at_right v x y e = refl

same_of_shape : {V : World} {v w p q : Value} → IsOneToOne (named V) → Shape V v w → Shape V p q → same_of v p ≡ same_of w q
same_of_shape o (primitive e) (primitive f) = refl
same_of_shape o (primitive {v = v} e) (an_object {a = x} {b = y} m) = same_at_right v x y e
same_of_shape o (an_object {a = a} {b = b} n) (primitive {v = p} f) = same_at_left a b p f
same_of_shape o (an_object {a = a} {b = b} n) (an_object {a = x} {b = y} m) = o.same a.0 b.0 x.0 y.0 n m

pub same_of_same : {V : World} {v w p q : Value} → IsOneToOne (named V) → ValueRel (named V) v w → ValueRel (named V) p q → same_of v p ≡ same_of w q
same_of_same o h k = same_of_shape o (shape h) (shape k)

loose_at_left : (a b : ObjId) (p : Value) → is_object p ≡ false → loose_of (value.Object a) p ≡ loose_of (value.Object b) p
loose_at_left a b (value.Object x) e = absurd (cc e)
loose_at_left a b p e = refl

loose_at_right : (v : Value) (x y : ObjId) → is_object v ≡ false → loose_of v (value.Object x) ≡ loose_of v (value.Object y)
loose_at_right (value.Object a) x y e = absurd (cc e)
loose_at_right v x y e = refl

loose_of_shape : {V : World} {v w p q : Value} → IsOneToOne (named V) → Shape V v w → Shape V p q → loose_of v p ≡ loose_of w q
loose_of_shape o (primitive e) (primitive f) = refl
loose_of_shape o (primitive {v = v} e) (an_object {a = x} {b = y} m) = loose_at_right v x y e
loose_of_shape o (an_object {a = a} {b = b} n) (primitive {v = p} f) = loose_at_left a b p f
loose_of_shape o (an_object {a = a} {b = b} n) (an_object {a = x} {b = y} m) = ap Ok (o.same a.0 b.0 x.0 y.0 n m)

pub loose_of_same : {V : World} {v w p q : Value} → IsOneToOne (named V) → ValueRel (named V) v w → ValueRel (named V) p q → loose_of v p ≡ loose_of w q
loose_of_same o h k = loose_of_shape o (shape h) (shape k)

of_loose_rel : {V : World} {p q : Act} (f : Bool → Bool) (r : Result Bool LooseFault) → Agrees V p q → Agrees V (of_loose f p r) (of_loose f q r)
of_loose_rel f (Ok b) h = give_rel truth
of_loose_rel f (Err NeedsPrimitive) h = h
of_loose_rel f (Err Outside) h = raise_rel OutOfRange

of_loose_same : {V : World} {p q : Act} {r s : Result Bool LooseFault} (f : Bool → Bool) → r ≡ s → Agrees V p q → Agrees V (of_loose f p r) (of_loose f q s)
of_loose_same {V = V} {p = p} {q = q} {r = r} f e h = subst (λ s. Agrees V (of_loose f p r) (of_loose f q s)) e (of_loose_rel f r h)

pub loosely_rel : {V : World} {v w p q : Value} (c d : Calls) (f : Bool → Bool) → ValueRel (named V) v w → ValueRel (named V) p q → Agrees V (loosely c f v p) (loosely d f w q)
loosely_rel c d f h k =
    on_one_to_one (λ W l o. of_loose_same f (loose_of_same o (value_up l h) (value_up l k))
    (on_primitives_rel c d (λ X j v w p q r s. on_one_to_one (λ Y i u. of_loose_same f (loose_of_same u (value_up i r) (value_up i s)) (give_rel undefined))) (value_up l h) (value_up l k)))

pub give_same_rel : {V : World} {v w p q : Value} (f : Bool → Bool) → ValueRel (named V) v w → ValueRel (named V) p q
    → Agrees V (give (value.Bool (f (same_of v p)))) (give (value.Bool (f (same_of w q))))
give_same_rel f h k = on_one_to_one (λ W l o. give_rel (truth_same (ap f (same_of_same o (value_up l h) (value_up l k)))))

-- ---- chains of prototypes and of targets

-- the bounds differ on both sides, since the ages do
module _ {L : Links} {os ps : List heap.Object} (r : ObjectsRel L os ps) where
  module _ (left : AreOlder os) (right : AreOlder ps) where
    pub stands_above_same : (n m k l : ℕ) (p q : Option ObjId) → L.object k l → Maybe (ObjectIds L) p q → ForSome p (λ a. a.0 < n) → ForSome q (λ b. b.0 < m)
        → stands_above os n k p ≡ stands_above ps m l q
    stands_above_same zero zero k l _ _ h i f g = refl
    stands_above_same zero (suc m) k l _ _ h none f g = refl
    stands_above_same (suc n) zero k l _ _ h none f g = refl
    stands_above_same (suc n) (suc m) k l _ _ h none f g = refl
    stands_above_same zero (suc m) k l _ _ h (some {a = a} i) f g = absurd (omega (arith, f a refl))
    stands_above_same (suc n) zero k l _ _ h (some {b = b} i) f g = absurd (omega (arith, g b refl))
    stands_above_same (suc n) (suc m) k l _ _ h (some {a = a} {b = b} i) f g =
        let above =
        stands_above_same n m k l (object_at os a.0).proto (object_at ps b.0).proto h (r.at a.0 b.0 i.linked).proto
        (λ c e. omega (arith, left a.0 c e, f a refl)) (λ d e. omega (arith, right b.0 d e, g b refl)) in
        λ j. if r.one_to_one.same k l a.0 b.0 h i.linked j then true else above j

  -- what comes of the target, if there is one
  next_target_rel : {c d : Class} (f g : ObjId) (x y : ObjId → ObjId) → ClassRel L c d → L.object f.0 g.0
      → ((t u : ObjId) → heap.target_of c ≡ Some t → heap.target_of d ≡ Some u → L.object t.0 u.0 → L.object (x t).0 (y u).0)
      → L.object (next_target c f x).0 (next_target d g y).0
  next_target_rel f g x y (bound {t = t} {u = u} h v vs) n k = k t u refl refl h
  next_target_rel f g x y plain n k = n
  next_target_rel f g x y array n k = n
  next_target_rel f g x y (page h) n k = n
  next_target_rel f g x y native n k = n
  next_target_rel f g x y fault n k = n
  next_target_rel f g x y math n k = n
  next_target_rel f g x y window n k = n
  next_target_rel f g x y (node h) n k = n
  next_target_rel f g x y (event h) n k = n

  module _ (left : HaveOlderTargets os) (right : HaveOlderTargets ps) where
    pub target_of_rel : (n m : ℕ) (f g : ObjId) → L.object f.0 g.0 → f.0 < n → g.0 < m → L.object (target_of os n f).0 (target_of ps m g).0
    target_of_rel zero m f g i h k = absurd (omega (arith, h))
    target_of_rel (suc n) zero f g i h k = absurd (omega (arith, k))
    target_of_rel (suc n) (suc m) f g i h k =
        next_target_rel f g (λ t. target_of os n t) (λ t. target_of ps m t) (r.at f.0 g.0 i).class i
        (λ t u a b j. target_of_rel n m t u j (omega (arith, left f.0 t a, h)) (omega (arith, right g.0 u b, k)))

pub is_above_same : {W : World} {s t : Store} → StoreRel W s t → (a b c d : ObjId) → Named W a.0 b.0 → Named W c.0 d.0 → is_above s a c ≡ is_above t b d
is_above_same {s = s} {t = t} g a b c d n m =
    stands_above_same g.heap.objects g.heap.left.prototypes g.heap.right.prototypes (suc c.0) (suc d.0) a.0 b.0
    (object_at s.heap.objects c.0).proto (object_at t.heap.objects d.0).proto n (g.heap.objects.at c.0 d.0 m).proto
    (λ x e. omega (arith, g.heap.left.prototypes c.0 x e)) (λ y e. omega (arith, g.heap.right.prototypes d.0 y e))

pub prototype_for_instances_rel : {W : World} {s t : Store} → StoreRel W s t → (a b : ObjId) → Named W a.0 b.0 → ValueRel (named W) (prototype_for_instances s a) (prototype_for_instances t b)
prototype_for_instances_rel {s = s} {t = t} g a b n =
    get_at_rel g (target_of s.heap.objects (suc a.0) a) (target_of t.heap.objects (suc b.0) b)
    (target_of_rel g.heap.objects g.heap.left.targets g.heap.right.targets (suc a.0) (suc b.0) a b n (omega arith) (omega arith)) (codes "prototype")

-- ---- instances

pub is_instance_of_rel : {V : World} {v w p q : Value} → ValueRel (named V) v w → ValueRel (named V) p q → Agrees V (is_instance_of v p) (is_instance_of w q)
is_instance_of_rel {v = value.Object a} {w = value.Object b} {p = value.Object x} {q = value.Object y} (object n) (object m) =
    asking_rel {R = Equal} (λ W l s t g. is_above_same g x y a b (named_up l m) (named_up l n)) (λ W l c d e. give_rel (truth_same e))
is_instance_of_rel (object n) undefined = raise_rel NotObject
is_instance_of_rel (object n) null = raise_rel NotObject
is_instance_of_rel (object n) truth = raise_rel NotObject
is_instance_of_rel (object n) num = raise_rel NotObject
is_instance_of_rel (object n) text = raise_rel NotObject
is_instance_of_rel undefined k = raise_rel NotObject
is_instance_of_rel null k = raise_rel NotObject
is_instance_of_rel truth k = raise_rel NotObject
is_instance_of_rel num k = raise_rel NotObject
is_instance_of_rel text k = raise_rel NotObject

pub has_instance_rel : {V : World} {v w : Value} (a b : ObjId) → Named V a.0 b.0 → ValueRel (named V) v w → Agrees V (has_instance a v) (has_instance b w)
has_instance_rel {v = value.Object x} {w = value.Object y} a b n (object m) =
    asking_rel {R = λ W. ValueRel (named W)} (λ W l s t g. prototype_for_instances_rel g a b (named_up l n))
    (λ W l p q r. is_instance_of_rel {v = value.Object x} {w = value.Object y} (object (named_up l m)) r)
has_instance_rel a b n undefined = give_rel truth
has_instance_rel a b n null = give_rel truth
has_instance_rel a b n truth = give_rel truth
has_instance_rel a b n num = give_rel truth
has_instance_rel a b n text = give_rel truth

pub instance_of_rel : {V : World} {v w p q : Value} → ValueRel (named V) v w → ValueRel (named V) p q → Agrees V (instance_of v p) (instance_of w q)
instance_of_rel {p = value.Object a} {q = value.Object b} h (object n) =
    asking_rel {R = Equal} (λ W l s t g. is_function_same (class_of_rel {v = value.Object a} {w = value.Object b} g (object (named_up l n))))
    (λ W l c d e. choose_rel c d e (has_instance_rel a b (named_up l n) (value_up l h)) (raise_rel NotFunction))
instance_of_rel h undefined = raise_rel NotFunction
instance_of_rel h null = raise_rel NotFunction
instance_of_rel h truth = raise_rel NotFunction
instance_of_rel h num = raise_rel NotFunction
instance_of_rel h text = raise_rel NotFunction

-- a name is looked for in both
has_member_in : {W : World} {s t : Store} {v w : Value} → StoreRel W s t → (a b : ObjId) → Named W a.0 b.0 → ValueRel (named W) v w
    → has_member s a (text_in v) ≡ has_member t b (text_in w)
has_member_in {s = s} {t = t} {v = v} {w = w} g a b n r = has_member_same g a b n (text_in v) ∙ ap (has_member t b) (text_in_same r)

pub is_within_rel : {V : World} {v w p q : Value} (c d : Calls) → ValueRel (named V) v w → ValueRel (named V) p q → Agrees V (is_within c v p) (is_within d w q)
is_within_rel {p = value.Object a} {q = value.Object b} c d h (object n) =
    also_rel (to_text_rel c d h) (λ W l x y r.
    asking_rel {R = Equal} (λ X j s t g. has_member_in g a b (named_up (larger_more l j) n) (value_up j r)) (λ X j x y e. give_rel (truth_same e)))
is_within_rel c d h undefined = raise_rel NotObject
is_within_rel c d h null = raise_rel NotObject
is_within_rel c d h truth = raise_rel NotObject
is_within_rel c d h num = raise_rel NotObject
is_within_rel c d h text = raise_rel NotObject

-- ---- binary operators

pub operate_rel : {V : World} {v w p q : Value} (c d : Calls) (op : BinaryOp) → ValueRel (named V) v w → ValueRel (named V) p q → Agrees V (operate c op v p) (operate d op w q)
operate_rel c d Mul h k = on_numbers_rel c d _ (λ W x y. as_number_rel (whole_mul x y)) h k
operate_rel c d Div h k = on_numbers_rel c d _ (λ W x y. as_number_rel (whole_div x y)) h k
operate_rel c d Rem h k = on_numbers_rel c d _ (λ W x y. as_number_rel (whole_rem x y)) h k
operate_rel c d Add h k = on_primitives_rel c d (λ W l v w p q r s. sum_of_rel r s) h k
operate_rel c d Sub h k = on_numbers_rel c d _ (λ W x y. as_number_rel (whole_sub x y)) h k
operate_rel c d Shl h k = on_bits_rel c d bit.Shl h k
operate_rel c d Shr h k = on_bits_rel c d bit.Shr h k
operate_rel c d Ushr h k = on_bits_rel c d bit.Ushr h k
operate_rel c d Less h k = on_primitives_rel c d (λ W l v w p q r s. less_of_rel yes_or_no r s) h k
operate_rel c d Greater h k = on_primitives_rel c d (λ W l v w p q r s. less_of_rel yes_or_no s r) h k
operate_rel c d LessEq h k = on_primitives_rel c d (λ W l v w p q r s. less_of_rel not s r) h k
operate_rel c d GreaterEq h k = on_primitives_rel c d (λ W l v w p q r s. less_of_rel not r s) h k
operate_rel c d InstanceOf h k = instance_of_rel h k
operate_rel c d Within h k = is_within_rel c d h k
operate_rel c d IsEqual h k = loosely_rel c d yes_or_no h k
operate_rel c d Unequal h k = loosely_rel c d not h k
operate_rel c d Same h k = give_same_rel yes_or_no h k
operate_rel c d NotSame h k = give_same_rel not h k
operate_rel c d BitAnd h k = on_bits_rel c d bit.And h k
operate_rel c d BitXor h k = on_bits_rel c d bit.Xor h k
operate_rel c d BitOr h k = on_bits_rel c d bit.Or h k

-- ---- unary operators

pub type_of_same : {W : World} {s t : Store} {v w : Value} → StoreRel W s t → ValueRel (named W) v w → type_of s v ≡ type_of t w
type_of_same g undefined = refl
type_of_same g null = refl
type_of_same g truth = refl
type_of_same g num = refl
type_of_same g text = refl
type_of_same {v = value.Object a} {w = value.Object b} g (object n) = ap type_of_object (is_function_same (class_of_rel {v = value.Object a} {w = value.Object b} g (object n)))

pub give_type_rel : {V : World} {v w : Value} → ValueRel (named V) v w → Agrees V (give_type v) (give_type w)
give_type_rel h = asking_rel {R = Equal} (λ W l s t g. type_of_same g (value_up l h)) (λ W l x y e. give_rel (text_same e))

-- a number that comes of one that is related
pub settle_number_rel : {V : World} {v w : Value} (f : Option ℤ → Outcome) → ValueRel (named V) v w → Agrees V (settle (as_number (f (number_in v)))) (settle (as_number (f (number_in w))))
settle_number_rel {V = V} {v = v} f h =
    subst (λ x. Agrees V (settle (as_number (f (number_in v)))) (settle (as_number (f x)))) (number_in_same h) (settle_rel (as_number_rel (f (number_in v))))

pub number_same : {V : World} {a b : Option ℤ} → a ≡ b → ValueRel (named V) (value.Num a) (value.Num b)
number_same {V = V} {a = a} e = subst (λ x. ValueRel (named V) (value.Num a) (value.Num x)) e num

pub operate_one_rel : {V : World} {v w : Value} (c d : Calls) (op : UnaryOp) → ValueRel (named V) v w → Agrees V (operate_one c op v) (operate_one d op w)
operate_one_rel c d Void h = give_rel undefined
operate_one_rel c d Typeof h = give_type_rel h
operate_one_rel c d Plus h = to_number_rel c d h
operate_one_rel c d Minus h = also_rel (to_number_rel c d h) (λ W l v w r. settle_number_rel (whole_sub (Some (pos 0))) r)
operate_one_rel c d BitNot h = also_rel (to_number_rel c d h) (λ W l v w r. give_rel (number_same (ap whole_not (number_in_same r))))
operate_one_rel c d Not h = give_rel (truth_same (ap not (is_true_same h)))
operate_one_rel c d Delete h = give_rel truth

-- ---- updates

pub one_more_rel : {V : World} {v w : Value} (up : Bool) → ValueRel (named V) v w → Agrees V (one_more up v) (one_more up w)
one_more_rel true h = settle_number_rel (λ n. whole_add n (Some (pos 1))) h
one_more_rel false h = settle_number_rel (λ n. whole_sub n (Some (pos 1))) h

updated_value_rel : {V : World} {v w p q : Value} (prefix : Bool) → ValueRel (named V) v w → ValueRel (named V) p q → ValueRel (named V) (updated_value prefix v p) (updated_value prefix w q)
updated_value_rel true h k = k
updated_value_rel false h k = h

pub update_with_rel : {V : World} {v w : Value} {f g : Value → Act} (c d : Calls) (up prefix : Bool) → Continues V f g → ValueRel (named V) v w
    → Agrees V (update_with c up prefix f v) (update_with d up prefix g w)
update_with_rel c d up prefix m h =
    also_rel (to_number_rel c d h) (λ W l a b r. also_rel (one_more_rel up r) (λ X j x y s. also_rel (m X (larger_more l j) x y s)
    (λ Y i v w u. give_rel (updated_value_rel prefix (value_up (larger_more j i) r) (value_up i s)))))
