-- Property descriptors of both pages, and definitions by them (sections 8.10 and 15.2.3).
use Rattle.std.proofs.Common.{◌≡◌, refl, ap, subst, ℕ, Bool, true, false, if◌then◌else◌, ◌||◌, List, Option, Some, Result, Ok, Err, codes}
use Rattle.std.specs.Option.{option_map}
use Rattle.js_values.specs.declared.ids.ObjId.{ObjId}
use Rattle.js_values.specs.declared.throw.Throw.{Throw}
use Rattle.js_values.specs.declared.throw.Throw.TheVariants.{WrongArgument}
use Rattle.js_values.specs.declared.value.Value.{Value}
use Rattle.js_values.specs.declared.value.Value.TheVariants as value
use Rattle.object_heap.specs.Define.{length_name}
use Rattle.object_heap.specs.declared.property.Change.{Change}
use Rattle.object_heap.specs.declared.property.Prop.{Prop}
use Rattle.page_host.specs.declared.host_name.HostName.{HostName}
use Rattle.page_host.specs.declared.host_name.HostName.TheVariants.{Value as HasValue}
use Rattle.page_meaning.specs.HostNames.{Seen}
use Rattle.page_meaning.specs.Descriptors.{change_in, change_of, change_to, change_with, define_in, define_length, define_or_throw, descriptor_fit, descriptor_object, flag_of, has_accessor, new_descriptor, open_property, some_ok, value_field}
use Rattle.page_meaning.specs.Places.{object_prototype}
use Rattle.page_meaning.specs.Store.{Store}
use Rattle.whole_ops.specs.Conversions.{is_true}
use Rattle.heap_relations.specs.Naming.{Named, named, World}
use Rattle.heap_relations.specs.Related.{ChangeRel, Maybe, ObjectRel, PropRel, ValueRel, entry, no_entries, none, null, num, object, plain, some, text, truth, undefined}
use Rattle.host_relations.specs.HostNames.{ReadRel, fails, reads}
use Rattle.agreement.proofs.Acts.{also_rel, asking_rel, choose_rel, on_built_ins}
use Rattle.agreement.proofs.Heap.{change_up, define_at_rel, get_rel, make_rel, named_up, prop_up}
use Rattle.agreement.proofs.HostReads.{SeenRel, held_rel, host_reads_rel, hosted_rel, seen_at_rel}
use Rattle.agreement.proofs.Made.{made_rel, object_place, whole_rel}
use Rattle.agreement.proofs.Properties.{has_property_same, is_length_of_same}
use Rattle.agreement.proofs.Values.{give_rel, number_of_rel, settle_rel, unless_rel}
use Rattle.agreement.specs.Acts.{Agrees, Equal, HasBuiltIns, StoreRel}

pub truth_same : {V : World} {a b : Bool} → a ≡ b → ValueRel (named V) (value.Bool a) (value.Bool b)
truth_same {V = V} {a = a} e = subst (λ c. ValueRel (named V) (value.Bool a) (value.Bool c)) e truth

-- ---- a descriptor as an object

open_rel : {V : World} {v w : Value} → ValueRel (named V) v w → PropRel (named V) (open_property v) (open_property w)
open_rel h = record { value = h; writable = refl; enumerable = refl; configurable = refl }

descriptor_rel : {V : World} {p q : Prop} → HasBuiltIns V → PropRel (named V) p q → ObjectRel (named V) (descriptor_object p) (descriptor_object q)
descriptor_rel there r = whole_rel object_prototype object_place there plain
    (entry (open_rel r.value) (entry (open_rel (truth_same r.writable)) (entry (open_rel (truth_same r.enumerable)) (entry (open_rel (truth_same r.configurable)) no_entries))))

pub new_descriptor_rel : {V : World} {p q : Prop} → PropRel (named V) p q → Agrees V (new_descriptor p) (new_descriptor q)
new_descriptor_rel {p = p} {q = q} r = made_rel (on_built_ins (λ U i there. make_rel (descriptor_object p) (descriptor_object q) (descriptor_fit p) (descriptor_fit q) refl refl (descriptor_rel there (prop_up i r)) refl refl (λ W l s t g. tt)))

-- ---- what a descriptor asks for

pub is_true_same : {V : World} {v w : Value} → ValueRel (named V) v w → is_true v ≡ is_true w
is_true_same undefined = refl
is_true_same null = refl
is_true_same truth = refl
is_true_same num = refl
is_true_same text = refl
is_true_same (object n) = refl

truths_same : {V : World} {o p : Option Value} → Maybe (ValueRel (named V)) o p → option_map is_true o ≡ option_map is_true p
truths_same none = refl
truths_same (some h) = ap Some (is_true_same h)

flag_of_same : {W : World} {s t : Store} → StoreRel W s t → (a b : ObjId) → Named W a.0 b.0 → (x : List ℕ) → flag_of s a x ≡ flag_of t b x
flag_of_same g a b n x = truths_same (get_rel g a.0 b.0 n x)

-- what is related, or the same error
pub data TriedRel {A : Type 0} (R : A → A → Type 0) : Result A Throw → Result A Throw → Type 0 where
  told : {a b : A} → R a b → TriedRel R (Ok a) (Ok b)
  failed : (t : Throw) → TriedRel R (Err t) (Err t)

some_ok_rel : {W : World} {a b : Result Value Throw} → ReadRel W a b → TriedRel (Maybe (ValueRel (named W))) (some_ok a) (some_ok b)
some_ok_rel (reads h) = told (some h)
some_ok_rel (fails {e = t}) = failed t

value_field_rel : {W : World} {s t : Store} {o p : Option Seen} → StoreRel W s t → (a b : ObjId) (m : HostName) → Maybe (SeenRel W) o p → TriedRel (Maybe (ValueRel (named W))) (value_field s a m o) (value_field t b m p)
value_field_rel g a b m none = told none
value_field_rel g a b m (some (held_rel h)) = told (some h.value)
value_field_rel g a b m (some (hosted_rel h)) = some_ok_rel (host_reads_rel g m h)

pub change_of_rel : {W : World} {s t : Store} {o p : Option Value} → StoreRel W s t → (a b : ObjId) → Named W a.0 b.0 → Maybe (ValueRel (named W)) o p
    → ChangeRel (named W) (change_of s a o) (change_of t b p)
change_of_rel g a b n r = record {
  value = r;
  writable = flag_of_same g a b n (codes "writable");
  enumerable = flag_of_same g a b n (codes "enumerable");
  configurable = flag_of_same g a b n (codes "configurable");
}

has_accessor_same : {W : World} {s t : Store} → StoreRel W s t → (a b : ObjId) → Named W a.0 b.0 → has_accessor s a ≡ has_accessor t b
has_accessor_same g a b n = λ i. has_property_same g a b n (codes "get") i || has_property_same g a b n (codes "set") i

unless_accessor : {V : World} {c d : Change} (a b : Bool) → a ≡ b → ChangeRel (named V) c d
    → TriedRel (ChangeRel (named V)) (if a then Err WrongArgument else Ok c) (if b then Err WrongArgument else Ok d)
unless_accessor true true e r = failed WrongArgument
unless_accessor true false e r = absurd (cc)
unless_accessor false true e r = absurd (cc)
unless_accessor false false e r = told r

change_with_rel : {W : World} {s t : Store} {x y : Result (Option Value) Throw} → StoreRel W s t → (a b : ObjId) → Named W a.0 b.0 → TriedRel (Maybe (ValueRel (named W))) x y
    → TriedRel (ChangeRel (named W)) (change_with s a x) (change_with t b y)
change_with_rel g a b n (failed e) = failed e
change_with_rel {s = s} {t = t} g a b n (told r) = unless_accessor (has_accessor s a) (has_accessor t b) (has_accessor_same g a b n) (change_of_rel g a b n r)

pub change_in_rel : {W : World} {s t : Store} {v w : Value} → StoreRel W s t → ValueRel (named W) v w → TriedRel (ChangeRel (named W)) (change_in s v) (change_in t w)
change_in_rel g undefined = failed WrongArgument
change_in_rel g null = failed WrongArgument
change_in_rel g truth = failed WrongArgument
change_in_rel g num = failed WrongArgument
change_in_rel g text = failed WrongArgument
change_in_rel {s = s} {t = t} {v = value.Object a} {w = value.Object b} g (object n) =
    change_with_rel g a b n (value_field_rel g a b HasValue (seen_at_rel g a b n (codes "value") HasValue))

-- ---- definitions

pub define_or_throw_rel : {V : World} {c d : Change} (a b : ObjId) → Named V a.0 b.0 → (x : List ℕ) → ChangeRel (named V) c d → Agrees V (define_or_throw a x c) (define_or_throw b x d)
define_or_throw_rel {c = c} {d = d} a b n x r = unless_rel (define_at_rel a b x c d n r) (λ W l. give_rel undefined)

pub change_to_rel : {V : World} {c d : Change} {v w : Value} → ChangeRel (named V) c d → ValueRel (named V) v w → ChangeRel (named V) (change_to c v) (change_to d w)
change_to_rel r h = record { value = some h; writable = r.writable; enumerable = r.enumerable; configurable = r.configurable }

define_length_rel : {V : World} {c d : Change} {o p : Option Value} (a b : ObjId) → Named V a.0 b.0 → ChangeRel (named V) c d → Maybe (ValueRel (named V)) o p
    → Agrees V (define_length a c o) (define_length b d p)
define_length_rel a b n r none = define_or_throw_rel a b n length_name r
define_length_rel a b n r (some h) = also_rel (settle_rel (number_of_rel h)) (λ W l v w k. define_or_throw_rel a b (named_up l n) length_name (change_to_rel (change_up l r) k))

pub define_in_rel : {V : World} {c d : Change} (a b : ObjId) → Named V a.0 b.0 → (x : List ℕ) → ChangeRel (named V) c d → Agrees V (define_in a x c) (define_in b x d)
define_in_rel a b n x r =
    asking_rel {R = Equal} (λ W l s t g. is_length_of_same g a b (named_up l n) x) (λ W l p q e. choose_rel p q e
    (define_length_rel a b (named_up l n) (change_up l r) (change_up l r).value)
    (define_or_throw_rel a b (named_up l n) x (change_up l r)))
