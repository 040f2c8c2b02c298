-- What calls back: calls that agree, and related lists of values (section 15.3.4).
use Rattle.std.proofs.Common.{◌≡◌, refl, subst, ℕ, Bool, true, false, List, if◌then◌else◌}
use Rattle.js_values.specs.declared.value.Value.{Value}
use Rattle.object_heap.specs.Define.{number}
use Rattle.page_meaning.specs.Act.{Calls}
use Rattle.page_meaning.specs.FunctionRows.{is_callable}
use Rattle.page_meaning.specs.Store.{Store}
use Rattle.whole_ops.specs.Conversions.{is_true}
use Rattle.heap_relations.proofs.Callers.{larger_more}
use Rattle.heap_relations.specs.Naming.{Larger, named, World}
use Rattle.heap_relations.specs.Related.{Each, ValueRel, undefined, null, truth, num, text, object}
use Rattle.agreement.specs.Acts.{CallsRel, Relation, StoreRel}
use Rattle.agreement.proofs.Properties.{class_of_rel, is_function_same}

pub calls_up : {V W : World} {c d : Calls} → Larger V W → CallsRel V c d → CallsRel W c d
calls_up l calls = record {
  call = λ X j. calls.call X (larger_more l j);
  construct = λ X j. calls.construct X (larger_more l j);
}

-- ---- lists

abbrev pub Values : Relation (List Value)
Values W = Each (ValueRel (named W))

-- ---- values

pub number_same : {V : World} {m n : ℕ} → m ≡ n → ValueRel (named V) (number m) (number n)
number_same {V = V} {m = m} e = subst (λ k. ValueRel (named V) (number m) (number k)) e num

pub chosen_value : {V : World} {v w x y : Value} (b c : Bool) → b ≡ c → ValueRel (named V) v w → ValueRel (named V) x y → ValueRel (named V) (if b then v else x) (if c then w else y)
chosen_value true true e h k = h
chosen_value false false e h k = k
chosen_value true false e h k = absurd (cc e)
chosen_value false true e h k = absurd (cc e)

pub is_true_same : {V : World} {v w : Value} → ValueRel (named V) v w → is_true v ≡ is_true w
is_true_same undefined = refl
is_true_same null = refl
is_true_same truth = refl
is_true_same num = refl
is_true_same text = refl
is_true_same (object n) = refl

pub is_callable_same : {W : World} {s t : Store} {v w : Value} → StoreRel W s t → ValueRel (named W) v w → is_callable v s ≡ is_callable w t
is_callable_same g h = is_function_same (class_of_rel g h)
