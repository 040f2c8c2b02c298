-- Arrays by index (section 15.4).
use Rattle.std.proofs.Common.{◌≡◌, refl, ℕ, zero, suc, Bool, true, false, List, [], ◌∷◌, Option, Some, None, if◌then◌else◌}
use Rattle.std.specs.Fmt.{decimal}
use Rattle.js_values.specs.declared.ids.ObjId.{ObjId}
use Rattle.js_values.specs.declared.throw.Throw.TheVariants.{WrongArgument}
use Rattle.js_values.specs.declared.value.Value.{Value}
use Rattle.js_values.specs.declared.value.Value.TheVariants as value
use Rattle.object_heap.specs.Define.{length_name, number_in}
use Rattle.object_heap.specs.Object.{is_list}
use Rattle.page_meaning.specs.Act.{Act}
use Rattle.page_meaning.specs.Elements.{define_element, delete_element, element, element_or, length_of, list_in, on_element, on_list, on_some, put_each, put_element, set_length, turns_down, turns_up}
use Rattle.page_meaning.specs.Properties.{class_at}
use Rattle.page_meaning.specs.Store.{Store}
use Rattle.heap_relations.proofs.Callers.{larger_more, larger_same, list_same}
use Rattle.heap_relations.specs.Naming.{Larger, Named, named, World}
use Rattle.heap_relations.specs.Related.{Each, Maybe, ObjectIds, ValueRel, each, no_more, none, some, undefined, null, truth, num, text, object}
use Rattle.agreement.specs.Acts.{Agrees, Continues, StoreRel}
use Rattle.agreement.proofs.Acts.{also_rel, asking_rel, bind_rel}
use Rattle.agreement.proofs.Heap.{class_rel, get_rel, named_up, take_step_rel, value_up, values_up}
use Rattle.agreement.proofs.Properties.{define_member_rel, delete_member_rel, get_at_rel, put_in_rel}
use Rattle.agreement.proofs.Values.{done_rel, raise_rel}

-- the array that a value is on either side
chosen_list : {V : World} (a b : ObjId) (p q : Bool) → p ≡ q → Named V a.0 b.0 → Maybe (ObjectIds (named V)) (if p then Some a else None) (if q then Some b else None)
chosen_list a b true true e n = some (record { linked = n })
chosen_list a b false false e n = none
chosen_list a b true false e n = absurd (cc e)
chosen_list a b false true e n = absurd (cc e)

pub list_in_rel : {W : World} {s t : Store} {v w : Value} → StoreRel W s t → ValueRel (named W) v w → Maybe (ObjectIds (named W)) (list_in v s) (list_in w t)
list_in_rel g undefined = none
list_in_rel g null = none
list_in_rel g truth = none
list_in_rel g num = none
list_in_rel g text = none
list_in_rel {s = s} {t = t} {v = value.Object a} {w = value.Object b} g (object n) =
    chosen_list a b (is_list (class_at s a)) (is_list (class_at t b)) (list_same (class_rel g a.0 b.0 n)) n

-- what is done to an object that is named
abbrev pub ActsOn : World → (ObjId → Act) → (ObjId → Act) → Type 0
ActsOn V f g = (W : World) → Larger V W → (a b : ObjId) → Named W a.0 b.0 → Agrees W (f a) (g b)

pub on_some_rel : {V : World} {f g : ObjId → Act} {o p : Option ObjId} → ActsOn V f g → Maybe (ObjectIds (named V)) o p → Agrees V (on_some f o) (on_some g p)
on_some_rel h none = raise_rel WrongArgument
on_some_rel {o = Some a} {p = Some b} h (some n) = h _ larger_same a b n.linked

pub on_list_rel : {V : World} {f g : ObjId → Act} {v w : Value} → ValueRel (named V) v w → ActsOn V f g → Agrees V (on_list v f) (on_list w g)
on_list_rel r h = asking_rel {R = λ W. Maybe (ObjectIds (named W))} (λ W l s t g. list_in_rel g (value_up l r)) (λ W l a b n. on_some_rel (λ X j. h X (larger_more l j)) n)

number_in_same : {V : World} {v w : Value} → ValueRel (named V) v w → number_in v ≡ number_in w
number_in_same undefined = refl
number_in_same null = refl
number_in_same truth = refl
number_in_same num = refl
number_in_same text = refl
number_in_same (object n) = refl

pub length_of_same : {W : World} {s t : Store} → StoreRel W s t → (a b : ObjId) → Named W a.0 b.0 → length_of a s ≡ length_of b t
length_of_same g a b n = number_in_same (get_at_rel g a b n length_name)

pub element_rel : {W : World} {s t : Store} → StoreRel W s t → (a b : ObjId) → Named W a.0 b.0 → (k : ℕ) → Maybe (ValueRel (named W)) (element a k s) (element b k t)
element_rel g a b n k = get_rel g a.0 b.0 n (decimal k)

pub element_or_rel : {W : World} {s t : Store} → StoreRel W s t → (a b : ObjId) → Named W a.0 b.0 → (k : ℕ) → ValueRel (named W) (element_or a k s) (element_or b k t)
element_or_rel g a b n k = get_at_rel g a b n (decimal k)

pub on_element_rel : {V : World} {p q : Act} {f g : Value → Act} {o r : Option Value} → Agrees V p q → Continues V f g → Maybe (ValueRel (named V)) o r → Agrees V (on_element p f o) (on_element q g r)
on_element_rel h k none = h
on_element_rel h k (some r) = k _ larger_same _ _ r

pub put_element_rel : {V : World} {v w : Value} (a b : ObjId) → Named V a.0 b.0 → (k : ℕ) → ValueRel (named V) v w → Agrees V (put_element a k v) (put_element b k w)
put_element_rel a b n k h = also_rel (put_in_rel a b n (decimal k) h) (λ W l v w r. done_rel)

pub define_element_rel : {V : World} {v w : Value} (a b : ObjId) → Named V a.0 b.0 → (k : ℕ) → ValueRel (named V) v w → Agrees V (define_element a k v) (define_element b k w)
define_element_rel a b n k h = also_rel (define_member_rel a b n (decimal k) h) (λ W l v w r. done_rel)

pub delete_element_rel : {V : World} (a b : ObjId) → Named V a.0 b.0 → (k : ℕ) → Agrees V (delete_element a k) (delete_element b k)
delete_element_rel a b n k = also_rel (delete_member_rel (object {a = a} {b = b} n) (decimal k)) (λ W l v w r. done_rel)

pub set_length_rel : {V : World} (a b : ObjId) → Named V a.0 b.0 → (k : ℕ) → Agrees V (set_length a k) (set_length b k)
set_length_rel a b n k = put_in_rel a b n length_name num

-- what is done in turn
abbrev pub Turns : World → (ℕ → Act) → (ℕ → Act) → Type 0
Turns V f g = (W : World) → Larger V W → (i : ℕ) → Agrees W (f i) (g i)

pub turns_up_rel : {V : World} {f g : ℕ → Act} → Turns V f g → (i m : ℕ) → Agrees V (turns_up f i m) (turns_up g i m)
turns_up_rel h i zero = done_rel
turns_up_rel h i (suc m) = bind_rel take_step_rel (λ W l a b e. also_rel (h W l i) (λ X j v w r. turns_up_rel (λ Y k. h Y (larger_more l (larger_more j k))) (suc i) m))

pub turns_down_rel : {V : World} {f g : ℕ → Act} → Turns V f g → (i : ℕ) → Agrees V (turns_down f i) (turns_down g i)
turns_down_rel h zero = done_rel
turns_down_rel h (suc i) = bind_rel take_step_rel (λ W l a b e. also_rel (h W l i) (λ X j v w r. turns_down_rel (λ Y k. h Y (larger_more l (larger_more j k))) i))

pub put_each_rel : {V : World} (vs ws : List Value) (a b : ObjId) → Named V a.0 b.0 → (k : ℕ) → Each (ValueRel (named V)) vs ws → Agrees V (put_each a k vs) (put_each b k ws)
put_each_rel [] [] a b n k no_more = done_rel
put_each_rel (v ∷ vs) (w ∷ ws) a b n k (each h hs) = also_rel (put_element_rel a b n k h) (λ W l x y r. put_each_rel vs ws a b (named_up l n) (suc k) (values_up l hs))
put_each_rel [] (w ∷ ws) a b n k h = elim h [ ]
put_each_rel (v ∷ vs) [] a b n k h = elim h [ ]
