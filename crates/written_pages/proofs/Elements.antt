-- Arrays by index (section 15.4).
use Rattle.std.proofs.Common.{ℕ, zero, suc, pos, negsuc, ◌≤◌, List, arith}
use Rattle.std.specs.Fmt.{decimal}
use Rattle.std.specs.Prelude.{[], ◌∷◌, Option, Some, None, refl}
use Rattle.js_core.specs.Whole.{largest}
use Rattle.js_values.specs.declared.ids.ObjId.{ObjId}
use Rattle.js_values.specs.declared.throw.Throw.TheVariants.{WrongArgument}
use Rattle.js_values.specs.declared.value.Value.{Value}
use Rattle.js_values.specs.declared.value.Value.TheVariants.{Undefined, Null, Bool as Truth, Num, Text, Object}
use Rattle.object_heap.specs.Define.{length_name, number, number_in}
use Rattle.page_meaning.specs.Act.{Act, ActOf, asking}
use Rattle.page_meaning.specs.Elements.{define_element, delete_element, element, element_or, length_of, on_element, on_list, on_some, put_each, put_element, set_length, turns_down, turns_up}
use Rattle.page_meaning.specs.Store.{Store}
use Rattle.literal_values.specs.Stores.{LiteralStore}
use Rattle.literal_values.specs.Values.{AreBounded, IsBounded, MaybeBounded}
use Rattle.literal_values.proofs.Callers.{decimal_text, get_at_bounded, get_bounded, text_seen}
use Rattle.written_pages.proofs.Acts.{also_is, asking_any, asking_is, done_is, stepped_is}
use Rattle.written_pages.proofs.Primitives.{raise_is}
use Rattle.written_pages.proofs.Properties.{define_member_is, delete_member_is, put_in_is}
use Rattle.written_pages.specs.Acts.{ActIs, Continues, Writes}

on_some_is : {f : ObjId → Act} (o : Option ObjId) → ((at : ObjId) → Writes (f at)) → Writes (on_some f o)
on_some_is None k = raise_is WrongArgument tt
on_some_is (Some at) k = k at

pub on_list_is : {f : ObjId → Act} (v : Value) → ((at : ObjId) → Writes (f at)) → Writes (on_list v f)
on_list_is v k = asking_any (λ o. on_some_is o k)

natural_short : (v : Value) → IsBounded v → number_in v ≤ largest
natural_short (Num (Some (pos n))) h = h
natural_short (Num (Some (negsuc n))) h = omega arith
natural_short (Num None) h = omega arith
natural_short Undefined h = omega arith
natural_short Null h = omega arith
natural_short (Truth b) h = omega arith
natural_short (Text t) h = omega arith
natural_short (Object at) h = omega arith

-- a length that is held
pub length_short : (at : ObjId) (s : Store) → LiteralStore s → length_of at s ≤ largest
length_short at s l = natural_short _ (get_at_bounded s at length_name l)

abbrev pub IsShort : ℕ → Type 0
IsShort n = n ≤ largest

-- what goes on with it
pub on_length_is : {B : Type 0} {Q : B → Type 0} {f : ℕ → ActOf B} (at : ObjId) → ((n : ℕ) → n ≤ largest → ActIs Q (f n)) → ActIs Q (asking (length_of at) f)
on_length_is at k = asking_is IsShort (λ s l. length_short at s l) k

-- what goes on with what an array has at an index
pub on_found_is : {B : Type 0} {Q : B → Type 0} {f : Option Value → ActOf B} (at : ObjId) (k : ℕ) → ((o : Option Value) → MaybeBounded o → ActIs Q (f o))
    → ActIs Q (asking (element at k) f)
on_found_is at k g = asking_is MaybeBounded (λ s l. get_bounded s.heap.objects at.0 (decimal k) l.heap.objects) g

pub on_found_or_is : {B : Type 0} {Q : B → Type 0} {f : Value → ActOf B} (at : ObjId) (k : ℕ) → ((v : Value) → IsBounded v → ActIs Q (f v))
    → ActIs Q (asking (element_or at k) f)
on_found_or_is at k g = asking_is IsBounded (λ s l. get_at_bounded s at (decimal k) l) g

pub on_element_is : {without : Act} {f : Value → Act} (o : Option Value) → MaybeBounded o → Writes without → Continues f → Writes (on_element without f o)
on_element_is None h k g = k
on_element_is (Some v) h k g = g v h

pub put_element_is : (at : ObjId) (k : ℕ) (v : Value) → IsBounded v → Writes (put_element at k v)
put_element_is at k v h = also_is (put_in_is at (decimal k) v (decimal_text k) h) (λ w p. done_is)

pub define_element_is : (at : ObjId) (k : ℕ) (v : Value) → IsBounded v → Writes (define_element at k v)
define_element_is at k v h = also_is (define_member_is at (decimal k) v (decimal_text k) h) (λ w p. done_is)

pub delete_element_is : (at : ObjId) (k : ℕ) → Writes (delete_element at k)
delete_element_is at k = also_is (delete_member_is (Object at) (decimal k)) (λ w p. done_is)

-- a length of the language
pub set_length_is : (at : ObjId) (n : ℕ) → n ≤ largest → Writes (set_length at n)
set_length_is at n h = put_in_is at length_name (number n) (text_seen length_name refl) h

pub turns_up_is : {body : ℕ → Act} → ((i : ℕ) → Writes (body i)) → (i m : ℕ) → Writes (turns_up body i m)
turns_up_is g i zero = done_is
turns_up_is g i (suc m) = stepped_is (λ u. also_is (g i) (λ v p. turns_up_is g (suc i) m))

pub turns_down_is : {body : ℕ → Act} → ((i : ℕ) → Writes (body i)) → (m : ℕ) → Writes (turns_down body m)
turns_down_is g zero = done_is
turns_down_is g (suc i) = stepped_is (λ u. also_is (g i) (λ v p. turns_down_is g i))

pub put_each_is : (at : ObjId) (k : ℕ) (vs : List Value) → AreBounded vs → Writes (put_each at k vs)
put_each_is at k [] h = done_is
put_each_is at k (v ∷ vs) h = also_is (put_element_is at k v h.0) (λ w p. put_each_is at (suc k) vs h.1)
