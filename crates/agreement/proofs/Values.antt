-- Values that are related: how they are converted, and how an error is thrown.
use Rattle.std.proofs.Common.{◌≡◌, refl, subst, ℕ, ℤ, ◌≤◌, List, Option, Some, None, Result, Ok, Err, arith}
use Rattle.js_values.specs.Throw.{kind_of, code_of}
use Rattle.js_values.specs.declared.ids.ObjId.{ObjId}
use Rattle.js_values.specs.declared.throw.ErrorKind.{ErrorKind}
use Rattle.js_values.specs.declared.throw.ErrorKind.TheVariants as kind
use Rattle.js_values.specs.declared.throw.Throw.{Throw}
use Rattle.js_values.specs.declared.throw.Throw.TheVariants.{NoPrimitive, OutOfRange}
use Rattle.js_values.specs.declared.value.Value.{Value}
use Rattle.js_values.specs.declared.value.Value.TheVariants as value
use Rattle.object_heap.specs.Property.{hidden}
use Rattle.page_meaning.specs.Act.{Act, ActOf, Calls, done, give}
use Rattle.whole_ops.specs.Conversions as whole
use Rattle.whole_ops.specs.declared.fault.LooseFault.{LooseFault}
use Rattle.whole_ops.specs.declared.fault.LooseFault.TheVariants.{NeedsPrimitive, Outside}
use Rattle.page_meaning.specs.Convert.{number_value, to_text, to_number, to_primitive, text_of, a_text, a_number, number_of, Need}
use Rattle.page_meaning.specs.Errors.{code_props, error_fit, error_object, on_refusal, raise, settle, unless}
use Rattle.page_meaning.specs.Places.{error_prototype, error_prototype_place, range_error_prototype_place, reference_error_prototype_place, type_error_prototype_place}
use Rattle.heap_relations.specs.Naming.{Larger, Named, named, World}
use Rattle.heap_relations.specs.Related.{Entries, ObjectRel, PropRel, ValueRel, undefined, null, truth, num, text, object, entry, fault, no_entries, some}
use Rattle.page_meaning.specs.Places.{built_in_count}
use Rattle.agreement.specs.Acts.{ActRel, Agrees, Equal, HasBuiltIns, thrown, value as given}
use Rattle.agreement.proofs.Acts.{bind_rel, ret_rel, also_rel, on_built_ins}
use Rattle.agreement.proofs.Heap.{make_rel, named_up, value_up}

pub give_rel : {V : World} {v w : Value} → ValueRel (named V) v w → Agrees V (give v) (give w)
give_rel h = ret_rel (λ W l. given (value_up l h))

pub done_rel : {V : World} → Agrees V done done
done_rel = give_rel undefined

-- ---- errors

hidden_rel : {V : World} {v w : Value} → ValueRel (named V) v w → PropRel (named V) (hidden v) (hidden w)
hidden_rel h = record { value = h; writable = refl; enumerable = refl; configurable = refl }

code_rel : {V : World} (c : Option ℕ) → Entries (PropRel (named V)) (code_props c) (code_props c)
code_rel None = no_entries
code_rel (Some n) = entry (hidden_rel num) no_entries

pub error_place : (k : ErrorKind) → (error_prototype k).0 ≤ built_in_count
unfolding built_in_count error_prototype_place type_error_prototype_place range_error_prototype_place reference_error_prototype_place
error_place kind.Plain = omega arith
error_place kind.Type = omega arith
error_place kind.Range = omega arith
error_place kind.Reference = omega arith

error_rel : {V : World} (t : Throw) → HasBuiltIns V → ObjectRel (named V) (error_object t) (error_object t)
error_rel t there = record {
  class = fault;
  proto = some (record { linked = there (error_prototype (kind_of t)).0 (error_place (kind_of t)) });
  extensible = refl;
  closed = refl;
  props = entry (hidden_rel text) (code_rel (code_of t));
}

pub object_value_rel : {V : World} (a b : ObjId) → Named V a.0 b.0 → ValueRel (named V) (value.Object a) (value.Object b)
object_value_rel a b n = object n

pub raise_rel : {V : World} (t : Throw) → Agrees V (raise t) (raise t)
raise_rel t = on_built_ins (λ U i there. bind_rel (make_rel (error_object t) (error_object t) (error_fit t) (error_fit t) refl refl (error_rel t there) refl refl
    (λ W l s u g. record { kind = kind_of t; is = refl }))
    (λ W l a b n. ret_rel (λ X j. thrown (object_value_rel a b (named_up j n)))))

-- the same error, or values that are related
pub data SettledRel (V : World) : Result Value Throw → Result Value Throw → Type 0 where
  settled : {v w : Value} → ValueRel (named V) v w → SettledRel V (Ok v) (Ok w)
  refused : (t : Throw) → SettledRel V (Err t) (Err t)

pub settle_rel : {V : World} {a b : Result Value Throw} → SettledRel V a b → Agrees V (settle a) (settle b)
settle_rel (settled h) = give_rel h
settle_rel (refused t) = raise_rel t

pub on_refusal_rel : {V : World} {p q : Act} (o r : Option Throw) → o ≡ r → Agrees V p q → Agrees V (on_refusal p o) (on_refusal q r)
on_refusal_rel None None e h = h
on_refusal_rel {V = V} {q = q} (Some t) (Some u) e h = subst (λ r. Agrees V (raise t) (on_refusal q r)) e (raise_rel t)
on_refusal_rel None (Some u) e h = absurd (cc e)
on_refusal_rel (Some t) None e h = absurd (cc e)

pub unless_rel : {V : World} {m n : ActOf (Option Throw)} {p q : Act} → ActRel (Equal {A = Option Throw}) V m n → ((W : World) → Larger V W → Agrees W p q) → Agrees V (unless m p) (unless n q)
unless_rel m h = bind_rel m (λ W l a b r. on_refusal_rel a b r (h W l))

-- ---- conversions

pub to_primitive_rel : {V : World} {v w : Value} (c d : Calls) (need : Need) → ValueRel (named V) v w → Agrees V (to_primitive c need v) (to_primitive d need w)
to_primitive_rel c d need undefined = give_rel undefined
to_primitive_rel c d need null = give_rel null
to_primitive_rel c d need truth = give_rel truth
to_primitive_rel c d need num = give_rel num
to_primitive_rel c d need text = give_rel text
to_primitive_rel c d need (object h) = raise_rel NoPrimitive

pub text_of_same : {V : World} {v w : Value} → ValueRel (named V) v w → text_of v ≡ text_of w
text_of_same undefined = refl
text_of_same null = refl
text_of_same truth = refl
text_of_same num = refl
text_of_same text = refl
text_of_same (object h) = refl

number_rel : {V : World} (r : Result (Option ℤ) LooseFault) → SettledRel V (number_value r) (number_value r)
number_rel (Ok n) = settled num
number_rel (Err NeedsPrimitive) = refused NoPrimitive
number_rel (Err Outside) = refused OutOfRange

pub number_of_rel : {V : World} {v w : Value} → ValueRel (named V) v w → SettledRel V (number_of v) (number_of w)
number_of_rel {v = v} undefined = number_rel (whole.number_of v)
number_of_rel {v = v} null = number_rel (whole.number_of v)
number_of_rel {v = v} truth = number_rel (whole.number_of v)
number_of_rel {v = v} num = number_rel (whole.number_of v)
number_of_rel {v = v} text = number_rel (whole.number_of v)
number_of_rel (object h) = refused NoPrimitive

pub text_same : {V : World} {a b : List ℕ} → a ≡ b → ValueRel (named V) (value.Text a) (value.Text b)
text_same {V = V} {a = a} e = subst (λ t. ValueRel (named V) (value.Text a) (value.Text t)) e text

pub to_text_rel : {V : World} {v w : Value} (c d : Calls) → ValueRel (named V) v w → Agrees V (to_text c v) (to_text d w)
to_text_rel c d h = also_rel (to_primitive_rel c d a_text h) (λ W l v w r. give_rel (text_same (text_of_same r)))

pub to_number_rel : {V : World} {v w : Value} (c d : Calls) → ValueRel (named V) v w → Agrees V (to_number c v) (to_number d w)
to_number_rel c d h = also_rel (to_primitive_rel c d a_number h) (λ W l v w r. settle_rel (number_of_rel r))
