-- Properties of values that are related (sections 8.7, 8.12 and 11.2.1).
use Rattle.std.proofs.Common.{◌≡◌, refl, ap, subst, ℕ, ◌≤◌, ◌&&◌, Bool, true, false, List, [], ◌∷◌, Option, Some, None, is_some, slice_get, bytes_eq, arith, if◌then◌else◌}
use Rattle.std.specs.Prelude.{Result, unwrap_or}
use Rattle.std.specs.Option.{option_map}
use Rattle.js_values.specs.declared.ids.ObjId.{ObjId}
use Rattle.js_values.specs.declared.throw.Throw.{Throw}
use Rattle.js_values.specs.declared.throw.Throw.TheVariants.{NoProperties, CannotDelete}
use Rattle.js_values.specs.declared.value.Value.{Value}
use Rattle.js_values.specs.declared.value.Value.TheVariants as value
use Rattle.object_heap.specs.Define.{length_name, whole_property}
use Rattle.object_heap.specs.Index.{index_of}
use Rattle.object_heap.specs.declared.object.Class.{Class}
use Rattle.page_host.specs.declared.host_name.HostName.{HostName}
use Rattle.page_host.specs.HostNames.{host_name}
use Rattle.page_meaning.specs.Act.{Calls}
use Rattle.page_meaning.specs.Convert.{text_in}
use Rattle.page_meaning.specs.Places.{at_place, boolean_prototype_place, number_prototype_place, string_prototype_place}
use Rattle.page_meaning.specs.Properties.{class_of, define_member, delete_member, get_at, get_index, get_member, has_member, has_named, has_own_host, has_property, inherited, is_function, is_length_of, is_object, key_of, named_at, own_of_text, property_of, put_in, read_property, stored, unit_at, with_properties}
use Rattle.page_meaning.specs.Store.{Store}
use Rattle.heap_relations.proofs.Callers.{is_some_same, larger_more, list_same}
use Rattle.heap_relations.specs.Naming.{Named, named, World}
use Rattle.heap_relations.specs.Related.{ChangeRel, ClassRel, Maybe, ValueRel, undefined, null, truth, num, text, object, none, some, plain, array, page, native, bound, fault, math, window, node, event}
use Rattle.page_meaning.specs.Places.{built_in_count}
use Rattle.agreement.specs.Acts.{Agrees, Equal, StoreRel}
use Rattle.agreement.proofs.Acts.{also_rel, asking_rel, choose_rel}
use Rattle.agreement.proofs.Heap.{class_rel, define_at_rel, delete_at_rel, get_rel, get_property_rel, named_up, put_at_rel, value_up}
use Rattle.agreement.proofs.HostReads.{has_named_host_same, seen_at_rel, seen_value_rel}
use Rattle.host_relations.specs.HostNames.{ReadRel, fails, reads}
use Rattle.agreement.proofs.Values.{SettledRel, give_rel, number_of_rel, refused, settled, raise_rel, settle_rel, to_text_rel, unless_rel}

-- ---- what is read

pub or_undefined : {V : World} {a b : Option Value} → Maybe (ValueRel (named V)) a b → ValueRel (named V) (unwrap_or a value.Undefined) (unwrap_or b value.Undefined)
or_undefined none = undefined
or_undefined (some h) = h

pub get_at_rel : {W : World} {s t : Store} → StoreRel W s t → (a b : ObjId) → Named W a.0 b.0 → (x : List ℕ) → ValueRel (named W) (get_at s a x) (get_at t b x)
get_at_rel g a b n x = or_undefined (get_rel g a.0 b.0 n x)

inherited_rel : {W : World} {s t : Store} → StoreRel W s t → (at : ObjId) → at.0 ≤ built_in_count → (x : List ℕ) → ValueRel (named W) (inherited s (Some at) x) (inherited t (Some at) x)
inherited_rel g at h x = get_at_rel g at at (g.built_ins at.0 h) x

unwrap_rel : {V : World} {a b : Option Value} {v w : Value} → Maybe (ValueRel (named V)) a b → ValueRel (named V) v w → ValueRel (named V) (unwrap_or a v) (unwrap_or b w)
unwrap_rel none r = r
unwrap_rel (some h) r = h

-- what a text has does not depend on the page
one_unit_rel : {V : World} (o : Option ℕ) → Maybe (ValueRel (named V)) (option_map (λ u. value.Text (u ∷ [])) o) (option_map (λ u. value.Text (u ∷ [])) o)
one_unit_rel None = none
one_unit_rel (Some u) = some text

pub unit_at_rel : {V : World} (t : List ℕ) (i : Option ℕ) → Maybe (ValueRel (named V)) (unit_at t i) (unit_at t i)
unit_at_rel t None = none
unit_at_rel t (Some i) = one_unit_rel (slice_get t i)

chosen : {A : Type 0} (R : A → A → Type 0) (b : Bool) {x y : A} → R x x → R y y → R (if b then x else y) (if b then x else y)
chosen R true h k = h
chosen R false h k = k

pub own_of_text_rel : {V : World} (t x : List ℕ) → Maybe (ValueRel (named V)) (own_of_text t x) (own_of_text t x)
own_of_text_rel {V = V} t x = chosen (Maybe (ValueRel (named V))) (bytes_eq x length_name) (some num) (unit_at_rel t (index_of x))

pub string_place : string_prototype_place ≤ built_in_count
unfolding string_prototype_place built_in_count
string_place = omega arith

pub number_place : number_prototype_place ≤ built_in_count
unfolding number_prototype_place built_in_count
number_place = omega arith

pub boolean_place : boolean_prototype_place ≤ built_in_count
unfolding boolean_prototype_place built_in_count
boolean_place = omega arith

read_settled : {W : World} {a b : Result Value Throw} → ReadRel W a b → SettledRel W a b
read_settled (reads h) = settled h
read_settled (fails {e = t}) = refused t

-- also where the name is one of the host's
named_at_rel : {W : World} {s t : Store} → StoreRel W s t → (a b : ObjId) → Named W a.0 b.0 → (x : List ℕ) (o : Option HostName) → SettledRel W (named_at s a x o) (named_at t b x o)
named_at_rel g a b n x None = settled (get_at_rel g a b n x)
named_at_rel g a b n x (Some m) = read_settled (seen_value_rel g m (seen_at_rel g a b n x m))

pub property_of_rel : {W : World} {s t : Store} {v w : Value} → StoreRel W s t → ValueRel (named W) v w → (x : List ℕ) → SettledRel W (property_of s v x) (property_of t w x)
property_of_rel g undefined x = settled undefined
property_of_rel g null x = settled undefined
property_of_rel g truth x = settled (inherited_rel g (at_place boolean_prototype_place) boolean_place x)
property_of_rel g num x = settled (inherited_rel g (at_place number_prototype_place) number_place x)
property_of_rel {v = value.Text t} g text x = settled (unwrap_rel (own_of_text_rel t x) (inherited_rel g (at_place string_prototype_place) string_place x))
property_of_rel {v = value.Object a} {w = value.Object b} g (object n) x = named_at_rel g a b n x (host_name x)

pub read_property_rel : {V : World} {v w : Value} → ValueRel (named V) v w → (x : List ℕ) → Agrees V (read_property v x) (read_property w x)
read_property_rel h x = asking_rel {R = SettledRel} (λ W l s t g. property_of_rel g (value_up l h) x) (λ W l a b r. settle_rel r)

pub with_properties_rel : {V : World} {v w : Value} → ValueRel (named V) v w → Agrees V (with_properties v) (with_properties w)
with_properties_rel undefined = raise_rel NoProperties
with_properties_rel null = raise_rel NoProperties
with_properties_rel truth = give_rel truth
with_properties_rel num = give_rel num
with_properties_rel text = give_rel text
with_properties_rel (object n) = give_rel (object n)

pub get_member_rel : {V : World} {v w : Value} → ValueRel (named V) v w → (x : List ℕ) → Agrees V (get_member v x) (get_member w x)
get_member_rel h x = also_rel (with_properties_rel h) (λ W l a b r. read_property_rel (value_up l h) x)

pub text_in_same : {V : World} {v w : Value} → ValueRel (named V) v w → text_in v ≡ text_in w
text_in_same undefined = refl
text_in_same null = refl
text_in_same truth = refl
text_in_same num = refl
text_in_same text = refl
text_in_same (object n) = refl

pub key_of_rel : {V : World} {v w k l : Value} (c d : Calls) → ValueRel (named V) v w → ValueRel (named V) k l → Agrees V (key_of c v k) (key_of d w l)
key_of_rel c d h k = also_rel (with_properties_rel h) (λ W l a b r. to_text_rel c d (value_up l k))

-- a name is read of both
named_read : {V : World} {v w a b : Value} → ValueRel (named V) v w → ValueRel (named V) a b → Agrees V (read_property v (text_in a)) (read_property w (text_in b))
named_read {V = V} {v = v} {w = w} {a = a} h r = subst (λ x. Agrees V (read_property v (text_in a)) (read_property w x)) (text_in_same r) (read_property_rel h (text_in a))

pub get_index_rel : {V : World} {v w k l : Value} (c d : Calls) → ValueRel (named V) v w → ValueRel (named V) k l → Agrees V (get_index c v k) (get_index d w l)
get_index_rel c d h k = also_rel (key_of_rel c d h k) (λ W l a b r. named_read (value_up l h) r)

-- ---- classes

pub is_function_same : {V : World} {c d : Option Class} → Maybe (ClassRel (named V)) c d → is_function c ≡ is_function d
is_function_same none = refl
is_function_same (some plain) = refl
is_function_same (some array) = refl
is_function_same (some (page h)) = refl
is_function_same (some native) = refl
is_function_same (some (bound h v vs)) = refl
is_function_same (some fault) = refl
is_function_same (some math) = refl
is_function_same (some window) = refl
is_function_same (some (node h)) = refl
is_function_same (some (event h)) = refl

pub class_of_rel : {W : World} {s t : Store} {v w : Value} → StoreRel W s t → ValueRel (named W) v w → Maybe (ClassRel (named W)) (class_of s v) (class_of t w)
class_of_rel g undefined = none
class_of_rel g null = none
class_of_rel g truth = none
class_of_rel g num = none
class_of_rel g text = none
class_of_rel {v = value.Object a} {w = value.Object b} g (object n) = some (class_rel g a.0 b.0 n)

pub is_object_same : {V : World} {v w : Value} → ValueRel (named V) v w → is_object v ≡ is_object w
is_object_same undefined = refl
is_object_same null = refl
is_object_same truth = refl
is_object_same num = refl
is_object_same text = refl
is_object_same (object n) = refl

pub has_property_same : {W : World} {s t : Store} → StoreRel W s t → (a b : ObjId) → Named W a.0 b.0 → (x : List ℕ) → has_property s a x ≡ has_property t b x
has_property_same g a b n x = is_some_same (get_property_rel g a.0 b.0 n x)

has_named_same : {W : World} {s t : Store} → StoreRel W s t → (a b : ObjId) → Named W a.0 b.0 → (x : List ℕ) (o : Option HostName) → has_named s a x o ≡ has_named t b x o
has_named_same g a b n x None = has_property_same g a b n x
has_named_same g a b n x (Some m) = is_some_same (seen_at_rel g a b n x m)

pub has_member_same : {W : World} {s t : Store} → StoreRel W s t → (a b : ObjId) → Named W a.0 b.0 → (x : List ℕ) → has_member s a x ≡ has_member t b x
has_member_same g a b n x = has_named_same g a b n x (host_name x)

pub has_own_host_same : {W : World} {s t : Store} → StoreRel W s t → (a b : ObjId) → Named W a.0 b.0 → (x : List ℕ) → has_own_host s a x ≡ has_own_host t b x
has_own_host_same g a b n x = has_named_host_same g (host_name x) (class_rel g a.0 b.0 n)

pub is_length_of_same : {W : World} {s t : Store} → StoreRel W s t → (a b : ObjId) → Named W a.0 b.0 → (x : List ℕ) → is_length_of s a x ≡ is_length_of t b x
is_length_of_same g a b n x = ap (λ l. l && bytes_eq x length_name) (list_same (class_rel g a.0 b.0 n))

-- ---- what is put, defined and deleted

stored_rel : {V : World} {v w : Value} (a b : ObjId) → Named V a.0 b.0 → (x : List ℕ) → ValueRel (named V) v w → Agrees V (stored a x v) (stored b x w)
stored_rel {v = v} {w = w} a b n x h = unless_rel (put_at_rel a b x v w n h) (λ W l. give_rel (value_up l h))

pub put_in_rel : {V : World} {v w : Value} (a b : ObjId) → Named V a.0 b.0 → (x : List ℕ) → ValueRel (named V) v w → Agrees V (put_in a x v) (put_in b x w)
put_in_rel a b n x h =
    asking_rel {R = Equal} (λ W l s t g. is_length_of_same g a b (named_up l n) x) (λ W l c d e. choose_rel c d e
    (also_rel (settle_rel (number_of_rel (value_up l h))) (λ X j v w r. stored_rel a b (named_up (larger_more l j) n) x r))
    (stored_rel a b (named_up l n) x (value_up l h)))

pub delete_member_rel : {V : World} {a b : Value} → ValueRel (named V) a b → (x : List ℕ) → Agrees V (delete_member a x) (delete_member b x)
delete_member_rel undefined x = give_rel truth
delete_member_rel null x = give_rel truth
delete_member_rel truth x = give_rel truth
delete_member_rel num x = give_rel truth
delete_member_rel {a = value.Text t} text x = choose_rel (is_some (own_of_text t x)) _ refl (raise_rel CannotDelete) (give_rel truth)
delete_member_rel {a = value.Object a} {b = value.Object b} (object n) x =
    asking_rel {R = Equal} (λ W l s t g. has_own_host_same g a b (named_up l n) x) (λ W l c d e. choose_rel c d e (raise_rel CannotDelete)
    (unless_rel (delete_at_rel a b x (named_up l n)) (λ X j. give_rel (truth {b = true}))))

pub whole_property_rel : {V : World} {v w : Value} → ValueRel (named V) v w → ChangeRel (named V) (whole_property v) (whole_property w)
whole_property_rel h = record { value = some h; writable = refl; enumerable = refl; configurable = refl }

pub define_member_rel : {V : World} {v w : Value} (a b : ObjId) → Named V a.0 b.0 → (x : List ℕ) → ValueRel (named V) v w → Agrees V (define_member a x v) (define_member b x w)
define_member_rel {v = v} {w = w} a b n x h = unless_rel (define_at_rel a b x (whole_property v) (whole_property w) n (whole_property_rel h)) (λ W l. give_rel (value_up l h))
