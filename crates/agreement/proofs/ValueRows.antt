-- The constructors of arrays, truth values and errors, and what a truth value's prototype has, in both pages (sections 15.4, 15.6 and 15.11).
use Rattle.std.proofs.Common.{refl, ℕ, suc, pos, Bool, List, ◌∷◌, Option, Some, None}
use Rattle.std.specs.Fmt.{decimal}
use Rattle.js_values.specs.declared.ids.ObjId.{ObjId}
use Rattle.js_values.specs.declared.throw.ErrorKind.{ErrorKind}
use Rattle.js_values.specs.declared.throw.Throw.TheVariants.{InvalidLength, WrongArgument}
use Rattle.js_values.specs.declared.value.Value.{Value}
use Rattle.js_values.specs.declared.value.Value.TheVariants as value
use Rattle.object_heap.specs.Define.{length_name, valid_length}
use Rattle.page_meaning.specs.Act.{Act, Calls, also, bind}
use Rattle.page_meaning.specs.Convert.{text_in, to_text}
use Rattle.page_meaning.specs.Expressions.{new_list}
use Rattle.page_meaning.specs.Functions.{object_of}
use Rattle.page_meaning.specs.Places.{error_prototype}
use Rattle.page_meaning.specs.Primitives.{make}
use Rattle.page_meaning.specs.ValueRows.{error_from, error_saying, is_array, list_from, list_of_length, list_values, saying_fit, silent_error, silent_fit, truth_from, truth_itself, truth_text}
use Rattle.heap_relations.proofs.Callers.{list_same}
use Rattle.heap_relations.specs.Naming.{Named, named, World}
use Rattle.heap_relations.specs.Related.{Each, ValueRel, each, entry, fault, no_entries, no_more, null, num, object, text, truth, undefined}
use Rattle.agreement.proofs.Acts.{also_rel, bind_rel, choose_rel, on_built_ins}
use Rattle.agreement.proofs.Descriptors.{is_true_same, truth_same}
use Rattle.agreement.proofs.Heap.{class_rel, make_rel, named_up, values_up}
use Rattle.agreement.proofs.Made.{made_rel, new_list_rel, whole_rel}
use Rattle.agreement.proofs.ObjectRows.{same_rel, tell_truth_rel}
use Rattle.agreement.proofs.Properties.{define_member_rel, put_in_rel, text_in_same}
use Rattle.agreement.proofs.Values.{error_place, give_rel, raise_rel, to_text_rel}
use Rattle.agreement.specs.Acts.{Agrees}

list_values_rel : {V : World} {vs ws : List Value} (a b : ObjId) → Named V a.0 b.0 → (k : ℕ) → Each (ValueRel (named V)) vs ws → Agrees V (list_values a k vs) (list_values b k ws)
list_values_rel a b n k no_more = give_rel (object n)
list_values_rel {vs = v ∷ vs} {ws = w ∷ ws} a b n k (each h r) = also_rel (define_member_rel a b n (decimal k) h) (λ W l x y m. list_values_rel {vs = vs} {ws = ws} a b (named_up l n) (suc k) (values_up l r))

list_of_length_rel : {V : World} (n : Option ℕ) → Agrees V (list_of_length n) (list_of_length n)
list_of_length_rel None = raise_rel InvalidLength
list_of_length_rel (Some n) = bind_rel new_list_rel (λ W l a b m. also_rel (put_in_rel a b m length_name (num {n = Some (pos n)})) (λ X j v w r. give_rel (object (named_up j m))))

-- an array of all the values
listed_rel : {V : World} {vs ws : List Value} → Each (ValueRel (named V)) vs ws → Agrees V (bind new_list (λ a. list_values a 0 vs)) (bind new_list (λ a. list_values a 0 ws))
listed_rel r = bind_rel new_list_rel (λ W l a b n. list_values_rel a b n 0 (values_up l r))

pub list_from_rel : {V : World} {vs ws : List Value} → Each (ValueRel (named V)) vs ws → Agrees V (list_from vs) (list_from ws)
list_from_rel no_more = listed_rel no_more
list_from_rel (each undefined no_more) = listed_rel (each undefined no_more)
list_from_rel (each null no_more) = listed_rel (each null no_more)
list_from_rel (each truth no_more) = listed_rel (each truth no_more)
list_from_rel (each (num {n = n}) no_more) = list_of_length_rel (valid_length (value.Num n))
list_from_rel (each text no_more) = listed_rel (each text no_more)
list_from_rel (each (object n) no_more) = listed_rel (each (object n) no_more)
list_from_rel (each undefined (each h r)) = listed_rel (each undefined (each h r))
list_from_rel (each null (each h r)) = listed_rel (each null (each h r))
list_from_rel (each truth (each h r)) = listed_rel (each truth (each h r))
list_from_rel (each num (each h r)) = listed_rel (each num (each h r))
list_from_rel (each text (each h r)) = listed_rel (each text (each h r))
list_from_rel (each (object n) (each h r)) = listed_rel (each (object n) (each h r))

pub is_array_rel : {V : World} {v w : Value} → ValueRel (named V) v w → Agrees V (is_array v) (is_array w)
is_array_rel undefined = give_rel truth
is_array_rel null = give_rel truth
is_array_rel truth = give_rel truth
is_array_rel num = give_rel truth
is_array_rel text = give_rel truth
is_array_rel {v = value.Object a} {w = value.Object b} (object n) = tell_truth_rel (λ W l s t g. list_same (class_rel g a.0 b.0 (named_up l n)))

pub truth_from_rel : {V : World} {v w : Value} (b : Bool) → ValueRel (named V) v w → Agrees V (truth_from b v) (truth_from b w)
truth_from_rel b h = choose_rel b b refl (raise_rel WrongArgument) (give_rel (truth_same (is_true_same h)))

pub truth_text_rel : {V : World} {v w : Value} → ValueRel (named V) v w → Agrees V (truth_text v) (truth_text w)
truth_text_rel undefined = raise_rel WrongArgument
truth_text_rel null = raise_rel WrongArgument
truth_text_rel truth = give_rel text
truth_text_rel num = raise_rel WrongArgument
truth_text_rel text = raise_rel WrongArgument
truth_text_rel (object n) = raise_rel WrongArgument

pub truth_itself_rel : {V : World} {v w : Value} → ValueRel (named V) v w → Agrees V (truth_itself v) (truth_itself w)
truth_itself_rel undefined = raise_rel WrongArgument
truth_itself_rel null = raise_rel WrongArgument
truth_itself_rel truth = give_rel truth
truth_itself_rel num = raise_rel WrongArgument
truth_itself_rel text = raise_rel WrongArgument
truth_itself_rel (object n) = raise_rel WrongArgument

-- ---- errors

abbrev silent : ErrorKind → Act
silent k = bind (make (silent_error k) (silent_fit k) refl) object_of

abbrev saying : ErrorKind → List ℕ → Act
saying k t = bind (make (error_saying k t) (saying_fit k t) refl) object_of

silent_rel : {V : World} (k : ErrorKind) → Agrees V (silent k) (silent k)
silent_rel k = made_rel (on_built_ins (λ U i there. make_rel (silent_error k) (silent_error k) (silent_fit k) (silent_fit k) refl refl
    (whole_rel (error_prototype k) (error_place k) there fault no_entries) refl refl (λ W l s t g. record { kind = k; is = refl })))

saying_rel : {V : World} (k : ErrorKind) (t : List ℕ) → Agrees V (saying k t) (saying k t)
saying_rel k t = made_rel (on_built_ins (λ U i there. make_rel (error_saying k t) (error_saying k t) (saying_fit k t) (saying_fit k t) refl refl
    (whole_rel (error_prototype k) (error_place k) there fault (entry (record { value = text; writable = refl; enumerable = refl; configurable = refl }) no_entries)) refl refl
    (λ W l s u g. record { kind = k; is = refl })))

-- with the text of a value
said_rel : {V : World} {v w : Value} (c d : Calls) (k : ErrorKind) → ValueRel (named V) v w
    → Agrees V (also (to_text c v) (λ t. saying k (text_in t))) (also (to_text d w) (λ t. saying k (text_in t)))
said_rel c d k h = also_rel (to_text_rel c d h) (λ W l v w r. same_rel (saying k) (saying_rel k) (text_in_same r))

pub error_from_rel : {V : World} {v w : Value} (c d : Calls) (k : ErrorKind) → ValueRel (named V) v w → Agrees V (error_from c k v) (error_from d k w)
error_from_rel c d k undefined = silent_rel k
error_from_rel c d k null = said_rel c d k null
error_from_rel c d k truth = said_rel c d k truth
error_from_rel c d k num = said_rel c d k num
error_from_rel c d k text = said_rel c d k text
error_from_rel c d k (object n) = said_rel c d k (object n)
