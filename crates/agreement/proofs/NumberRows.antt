-- What goes on with the number or text of related values, and the functions on numbers (sections 15.7 and 15.1.2).
use Rattle.std.proofs.Common.{◌≡◌, refl, subst, ℕ, ℤ, Bool, true, false, List, Option, Some, None, is_none, is_some, Ok, Err}
use Rattle.js_values.specs.declared.throw.Throw.TheVariants.{OutOfRange, WrongArgument}
use Rattle.js_values.specs.declared.value.Value.{Value}
use Rattle.js_values.specs.declared.value.Value.TheVariants as value
use Rattle.whole_ops.specs.Arithmetic.{Outcome}
use Rattle.page_meaning.specs.Act.{Act, Calls, also, give}
use Rattle.page_meaning.specs.Convert.{as_number, number_in, text_in, to_number, to_text}
use Rattle.page_meaning.specs.Errors.{settle}
use Rattle.page_meaning.specs.NumberRows.{is_finite, is_not_a_number, number_from, number_text, on_number, parse_int, parsed, radix_of, text_or_outside}
use Rattle.heap_relations.proofs.Callers.{larger_more}
use Rattle.heap_relations.specs.Naming.{Larger, named, World}
use Rattle.heap_relations.specs.Related.{Each, ValueRel, undefined, null, truth, num, text, object, each, no_more}
use Rattle.agreement.specs.Acts.{Agrees}
use Rattle.agreement.proofs.Acts.{also_rel}
use Rattle.agreement.proofs.Heap.{value_up}
use Rattle.agreement.proofs.Properties.{text_in_same}
use Rattle.agreement.proofs.Values.{SettledRel, settled, refused, give_rel, raise_rel, settle_rel, to_number_rel, to_text_rel}

pub number_in_same : {V : World} {v w : Value} → ValueRel (named V) v w → number_in v ≡ number_in w
number_in_same undefined = refl
number_in_same null = refl
number_in_same truth = refl
number_in_same num = refl
number_in_same text = refl
number_in_same (object n) = refl

-- ---- what goes on with a number or a text that is the same on both sides

pub on_number_in : {V : World} {v w : Value} → ValueRel (named V) v w → (f g : Option ℤ → Act) → ((n : Option ℤ) → Agrees V (f n) (g n))
    → Agrees V (f (number_in v)) (g (number_in w))
on_number_in {V = V} {v = v} h f g k = subst (λ n. Agrees V (f (number_in v)) (g n)) (number_in_same h) (k (number_in v))

pub on_text_in : {V : World} {v w : Value} → ValueRel (named V) v w → (f g : List ℕ → Act) → ((t : List ℕ) → Agrees V (f t) (g t))
    → Agrees V (f (text_in v)) (g (text_in w))
on_text_in {V = V} {v = v} h f g k = subst (λ t. Agrees V (f (text_in v)) (g t)) (text_in_same h) (k (text_in v))

-- a value is made a number, and what follows agrees for each number
pub number_then : {V : World} {v w : Value} (c d : Calls) → ValueRel (named V) v w → (f g : Option ℤ → Act)
    → ((W : World) → Larger V W → (n : Option ℤ) → Agrees W (f n) (g n))
    → Agrees V (also (to_number c v) (λ n. f (number_in n))) (also (to_number d w) (λ n. g (number_in n)))
number_then c d h f g k = also_rel (to_number_rel c d h) (λ W l a b r. on_number_in r f g (k W l))

pub text_then : {V : World} {v w : Value} (c d : Calls) → ValueRel (named V) v w → (f g : List ℕ → Act)
    → ((W : World) → Larger V W → (t : List ℕ) → Agrees W (f t) (g t))
    → Agrees V (also (to_text c v) (λ x. f (text_in x))) (also (to_text d w) (λ x. g (text_in x)))
text_then c d h f g k = also_rel (to_text_rel c d h) (λ W l a b r. on_text_in r f g (k W l))

module _ {V : World} {v w p q : Value} (c d : Calls) (h : ValueRel (named V) v w) (k : ValueRel (named V) p q) where
  pub two_numbers : (f g : Option ℤ → Option ℤ → Act) → ((W : World) → Larger V W → (a b : Option ℤ) → Agrees W (f a b) (g a b))
      → Agrees V (also (to_number c v) (λ a. also (to_number c p) (λ b. f (number_in a) (number_in b))))
      (also (to_number d w) (λ a. also (to_number d q) (λ b. g (number_in a) (number_in b))))
  two_numbers f g e =
      number_then c d h (λ a. also (to_number c p) (λ b. f a (number_in b))) (λ a. also (to_number d q) (λ b. g a (number_in b)))
      (λ W l a. number_then c d (value_up l k) (f a) (g a) (λ X j b. e X (larger_more l j) a b))

  pub text_and_number : (f g : List ℕ → Option ℤ → Act) → ((W : World) → Larger V W → (t : List ℕ) (n : Option ℤ) → Agrees W (f t n) (g t n))
      → Agrees V (also (to_text c v) (λ x. also (to_number c p) (λ n. f (text_in x) (number_in n))))
      (also (to_text d w) (λ x. also (to_number d q) (λ n. g (text_in x) (number_in n))))
  text_and_number f g e =
      text_then c d h (λ t. also (to_number c p) (λ n. f t (number_in n))) (λ t. also (to_number d q) (λ n. g t (number_in n)))
      (λ W l t. number_then c d (value_up l k) (f t) (g t) (λ X j n. e X (larger_more l j) t n))

  pub number_and_text : (f g : Option ℤ → List ℕ → Act) → ((W : World) → Larger V W → (n : Option ℤ) (t : List ℕ) → Agrees W (f n t) (g n t))
      → Agrees V (also (to_number c v) (λ n. also (to_text c p) (λ x. f (number_in n) (text_in x))))
      (also (to_number d w) (λ n. also (to_text d q) (λ x. g (number_in n) (text_in x))))
  number_and_text f g e =
      number_then c d h (λ n. also (to_text c p) (λ x. f n (text_in x))) (λ n. also (to_text d q) (λ x. g n (text_in x)))
      (λ W l n. text_then c d (value_up l k) (f n) (g n) (λ X j t. e X (larger_more l j) n t))

-- a number, or that it is out of range
pub as_number_rel : {V : World} (o : Outcome) → SettledRel V (as_number o) (as_number o)
as_number_rel (Ok n) = settled num
as_number_rel (Err e) = refused OutOfRange

pub settle_number : {V : World} (o : Outcome) → Agrees V (settle (as_number o)) (settle (as_number o))
settle_number o = settle_rel (as_number_rel o)

-- ---- the functions on numbers

pub on_number_rel : {V : World} {this that : Value} → ValueRel (named V) this that → (f g : Option ℤ → Act) → ((n : Option ℤ) → Agrees V (f n) (g n))
    → Agrees V (on_number this f) (on_number that g)
on_number_rel undefined f g k = raise_rel WrongArgument
on_number_rel null f g k = raise_rel WrongArgument
on_number_rel truth f g k = raise_rel WrongArgument
on_number_rel {this = value.Num n} num f g k = k n
on_number_rel text f g k = raise_rel WrongArgument
on_number_rel (object n) f g k = raise_rel WrongArgument

pub number_from_rel : {V : World} {vs ws : List Value} (c d : Calls) (construct : Bool) → Each (ValueRel (named V)) vs ws
    → Agrees V (number_from c construct vs) (number_from d construct ws)
number_from_rel c d true h = raise_rel WrongArgument
number_from_rel c d false no_more = give_rel num
number_from_rel c d false (each h hs) = to_number_rel c d h

pub is_not_a_number_rel : {V : World} {v w : Value} (c d : Calls) → ValueRel (named V) v w → Agrees V (is_not_a_number c v) (is_not_a_number d w)
is_not_a_number_rel c d h = number_then c d h (λ n. give (value.Bool (is_none n))) (λ n. give (value.Bool (is_none n))) (λ W l n. give_rel truth)

pub is_finite_rel : {V : World} {v w : Value} (c d : Calls) → ValueRel (named V) v w → Agrees V (is_finite c v) (is_finite d w)
is_finite_rel c d h = number_then c d h (λ n. give (value.Bool (is_some n))) (λ n. give (value.Bool (is_some n))) (λ W l n. give_rel truth)

radix_of_same : {V : World} {v w : Value} → ValueRel (named V) v w → (n : Option ℤ) → radix_of v n ≡ radix_of w n
radix_of_same undefined n = refl
radix_of_same null n = refl
radix_of_same truth n = refl
radix_of_same num n = refl
radix_of_same text n = refl
radix_of_same (object h) n = refl

text_or_outside_rel : {V : World} (n : Option ℤ) (r : Option ℕ) → SettledRel V (text_or_outside n r) (text_or_outside n r)
text_or_outside_rel n None = refused OutOfRange
text_or_outside_rel n (Some r) = settled text

radix_rel : {V : World} {v w : Value} → ValueRel (named V) v w → (n r : Option ℤ) → SettledRel V (text_or_outside n (radix_of v r)) (text_or_outside n (radix_of w r))
radix_rel {V = V} {v = v} h n r = subst (λ x. SettledRel V (text_or_outside n (radix_of v r)) (text_or_outside n x)) (radix_of_same h r) (text_or_outside_rel n (radix_of v r))

pub number_text_rel : {V : World} {v w : Value} (c d : Calls) → ValueRel (named V) v w → (n : Option ℤ) → Agrees V (number_text c v n) (number_text d w n)
number_text_rel {v = v} {w = w} c d h n =
    number_then c d h (λ r. settle (text_or_outside n (radix_of v r))) (λ r. settle (text_or_outside n (radix_of w r)))
    (λ W l r. settle_rel (radix_rel (value_up l h) n r))

pub parse_int_rel : {V : World} {v w p q : Value} (c d : Calls) → ValueRel (named V) v w → ValueRel (named V) p q → Agrees V (parse_int c v p) (parse_int d w q)
parse_int_rel c d h k = text_and_number c d h k (λ t n. settle (as_number (parsed t n))) (λ t n. settle (as_number (parsed t n))) (λ W l t n. settle_number (parsed t n))
