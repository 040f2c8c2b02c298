-- The constructor `Object`, what it has, and what its prototype has, in both pages (section 15.2).
use Rattle.std.proofs.Common.{◌≡◌, refl, ap, subst, ℕ, zero, suc, Bool, true, false, not, cond, ◌&&◌, List, [], ◌∷◌, ◌++◌, Option, Result, filter, codes}
use Rattle.std.specs.Fmt.{decimal}
use Rattle.std.specs.List.{list_all}
use Rattle.std.specs.Map.{keys_of}
use Rattle.js_values.specs.declared.ids.ObjId.{ObjId}
use Rattle.js_values.specs.declared.throw.Throw.{Throw}
use Rattle.js_values.specs.declared.throw.Throw.TheVariants.{WrongArgument}
use Rattle.js_values.specs.declared.value.Value.{Value}
use Rattle.js_values.specs.declared.value.Value.TheVariants as value
use Rattle.object_heap.proofs.Callers.{new_fit}
use Rattle.object_heap.specs.Heap.{new_object}
use Rattle.object_heap.specs.Object as heap
use Rattle.object_heap.specs.Property.{Props, own_property}
use Rattle.object_heap.specs.declared.object.Class.TheVariants as class
use Rattle.object_heap.specs.declared.property.Change.{Change}
use Rattle.object_heap.specs.declared.property.Prop.{Prop}
use Rattle.page_meaning.specs.Act.{Act, Calls, asking, give}
use Rattle.page_meaning.specs.Convert.{text_in}
use Rattle.page_meaning.specs.ObjectRows.{Changes, all_changes, argument, change_all, change_each, changes_in, create, define_as, define_each, define_given, define_properties, define_property, described, enumerable_names, freezing, get_descriptor, get_prototype, has_own, heap_object, is_frozen, is_listed, is_prototype_of, is_sealed, list_texts, lists_own, new_texts, new_with, object_from, on_object, one_change, own_enumerable_names, own_names, prevent, props_at, sealing, tag_of, tagged, telling, value_itself, value_of_prototype, with_given}
use Rattle.page_meaning.specs.Store.{Store}
use Rattle.heap_relations.proofs.Callers.{is_some_same, larger_more}
use Rattle.heap_relations.specs.Naming.{Larger, Named, named, World}
use Rattle.heap_relations.specs.Related.{ChangeRel, Each, Entries, Maybe, ObjectIds, ObjectRel, PropRel, ValueRel, each, entry, no_entries, no_more, none, null, num, object, plain, some, text, truth, undefined}
use Rattle.agreement.proofs.Acts.{also_rel, asking_rel, bind_rel}
use Rattle.agreement.proofs.Descriptors.{TriedRel, change_in_rel, define_in_rel, failed, new_descriptor_rel, told, truth_same}
use Rattle.agreement.proofs.Heap.{change_up, class_rel, make_rel, named_up, object_rel, own_rel, prevent_at_rel, value_up}
use Rattle.agreement.proofs.Lines.{class_name_same}
use Rattle.agreement.proofs.Made.{made_rel, new_list_rel, new_plain_rel}
use Rattle.agreement.proofs.Operators.{is_above_same}
use Rattle.agreement.proofs.Properties.{define_member_rel, get_at_rel, text_in_same}
use Rattle.agreement.proofs.Values.{give_rel, object_value_rel, raise_rel, text_same, to_text_rel, unless_rel}
use Rattle.agreement.specs.Acts.{Agrees, Equal, StoreRel}

-- ---- arguments

pub argument_rel : {V : World} {vs ws : List Value} → Each (ValueRel (named V)) vs ws → (k : ℕ) → ValueRel (named V) (argument vs k) (argument ws k)
argument_rel no_more k = undefined
argument_rel (each h r) zero = h
argument_rel (each h r) (suc k) = argument_rel r k

pub on_object_rel : {V : World} {v w : Value} {f g : ObjId → Act} → ValueRel (named V) v w → ((a b : ObjId) → Named V a.0 b.0 → Agrees V (f a) (g b)) → Agrees V (on_object v f) (on_object w g)
on_object_rel undefined h = raise_rel WrongArgument
on_object_rel null h = raise_rel WrongArgument
on_object_rel truth h = raise_rel WrongArgument
on_object_rel num h = raise_rel WrongArgument
on_object_rel text h = raise_rel WrongArgument
on_object_rel {v = value.Object a} {w = value.Object b} (object n) h = h a b n

-- an act for things that are equal
pub same_rel : {A : Type 0} {V : World} {a b : A} (f : A → Act) → ((x : A) → Agrees V (f x) (f x)) → a ≡ b → Agrees V (f a) (f b)
same_rel {V = V} {a = a} f h e = subst (λ x. Agrees V (f a) (f x)) e (h a)

-- a truth value is given
pub tell_truth_rel : {V : World} {f g : Store → Bool} → ((W : World) → Larger V W → (s t : Store) → StoreRel W s t → f s ≡ g t)
    → Agrees V (asking f (λ b. give (value.Bool b))) (asking g (λ b. give (value.Bool b)))
tell_truth_rel h = asking_rel {R = Equal} h (λ W l a b e. give_rel (truth_same e))

pub telling_rel : {V : World} (f : heap.Object → Bool) → ((W : World) (o p : heap.Object) → ObjectRel (named W) o p → f o ≡ f p) → (a b : ObjId) → Named V a.0 b.0 → Agrees V (telling f a) (telling f b)
telling_rel f h a b n = tell_truth_rel (λ W l s t g. h W (heap_object s a) (heap_object t b) (object_rel g a.0 b.0 (named_up l n)))

-- ---- what the constructor makes and tells

pub object_from_rel : {V : World} {v w : Value} → ValueRel (named V) v w → Agrees V (object_from v) (object_from w)
object_from_rel undefined = made_rel new_plain_rel
object_from_rel null = made_rel new_plain_rel
object_from_rel truth = raise_rel WrongArgument
object_from_rel num = raise_rel WrongArgument
object_from_rel text = raise_rel WrongArgument
object_from_rel (object n) = give_rel (object n)

value_of_prototype_rel : {V : World} {p q : Option ObjId} → Maybe (ObjectIds (named V)) p q → ValueRel (named V) (value_of_prototype p) (value_of_prototype q)
value_of_prototype_rel none = null
value_of_prototype_rel (some {a = a} {b = b} h) = object_value_rel a b h.linked

pub get_prototype_rel : {V : World} (a b : ObjId) → Named V a.0 b.0 → Agrees V (get_prototype a) (get_prototype b)
get_prototype_rel a b n =
    asking_rel {R = λ W. ValueRel (named W)} (λ W l s t g. value_of_prototype_rel (object_rel g a.0 b.0 (named_up l n)).proto) (λ W l v w r. give_rel r)

described_rel : {V : World} {p q : Option Prop} → Maybe (PropRel (named V)) p q → Agrees V (described p) (described q)
described_rel none = give_rel undefined
described_rel (some r) = new_descriptor_rel r

own_same : {W : World} {s t : Store} {x y : List ℕ} → StoreRel W s t → (a b : ObjId) → Named W a.0 b.0 → x ≡ y → Maybe (PropRel (named W)) (own_property (props_at s a) x) (own_property (props_at t b) y)
own_same {W = W} {s = s} {t = t} {x = x} g a b n e = subst (λ y. Maybe (PropRel (named W)) (own_property (props_at s a) x) (own_property (props_at t b) y)) e (own_rel g a.0 b.0 n x)

pub get_descriptor_rel : {V : World} {v w : Value} (c d : Calls) → ValueRel (named V) v w → (a b : ObjId) → Named V a.0 b.0 → Agrees V (get_descriptor c v a) (get_descriptor d w b)
get_descriptor_rel c d h a b n = also_rel (to_text_rel c d h) (λ W l v w r.
    asking_rel {R = λ W. Maybe (PropRel (named W))} (λ X j s t g. own_same g a b (named_up (larger_more l j) n) (text_in_same r)) (λ X j p q k. described_rel k))

-- ---- names

list_texts_rel : {V : World} (a b : ObjId) → Named V a.0 b.0 → (k : ℕ) (xs : List (List ℕ)) → Agrees V (list_texts a k xs) (list_texts b k xs)
list_texts_rel a b n k [] = give_rel (object n)
list_texts_rel a b n k (x ∷ xs) = also_rel (define_member_rel a b n (decimal k) text) (λ W l v w r. list_texts_rel a b (named_up l n) (suc k) xs)

pub new_texts_rel : {V : World} (xs : List (List ℕ)) → Agrees V (new_texts xs) (new_texts xs)
new_texts_rel xs = bind_rel new_list_rel (λ W l a b n. list_texts_rel a b n 0 xs)

pub keys_same : {A : Type 0} {R : A → A → Type 0} {xs ys : List (List ℕ × A)} → Entries R xs ys → keys_of xs ≡ keys_of ys
keys_same no_entries = refl
keys_same (entry {name = x} h r) = ap (λ l. x ∷ l) (keys_same r)

pub enumerable_names_same : {V : World} {xs ys : Props} → Entries (PropRel (named V)) xs ys → enumerable_names xs ≡ enumerable_names ys
enumerable_names_same no_entries = refl
enumerable_names_same (entry {name = x} {a = p} {b = q} {xs = xs} {ys = ys} h r) = listed_same p.enumerable q.enumerable h.enumerable (enumerable_names_same r) where
  listed_same : (c d : Bool) → c ≡ d → enumerable_names xs ≡ enumerable_names ys
      → keys_of (cond c ((x, p) ∷ filter (λ e. e.1.enumerable) xs) (filter (λ e. e.1.enumerable) xs)) ≡ keys_of (cond d ((x, q) ∷ filter (λ e. e.1.enumerable) ys) (filter (λ e. e.1.enumerable) ys))
  listed_same true true e k = ap (λ l. x ∷ l) k
  listed_same true false e k = absurd (cc)
  listed_same false true e k = absurd (cc)
  listed_same false false e k = k

pub own_names_rel : {V : World} (a b : ObjId) → Named V a.0 b.0 → Agrees V (own_names a) (own_names b)
own_names_rel a b n = asking_rel {R = Equal} (λ W l s t g. keys_same (object_rel g a.0 b.0 (named_up l n)).props) (λ W l xs ys e. same_rel new_texts new_texts_rel e)

pub own_enumerable_names_rel : {V : World} (a b : ObjId) → Named V a.0 b.0 → Agrees V (own_enumerable_names a) (own_enumerable_names b)
own_enumerable_names_rel a b n = asking_rel {R = Equal} (λ W l s t g. enumerable_names_same (object_rel g a.0 b.0 (named_up l n)).props) (λ W l xs ys e. same_rel new_texts new_texts_rel e)

-- ---- definitions

define_as_rel : {V : World} {c d : Result Change Throw} (a b : ObjId) → Named V a.0 b.0 → (x : List ℕ) → TriedRel (ChangeRel (named V)) c d → Agrees V (define_as a x c) (define_as b x d)
define_as_rel a b n x (failed t) = raise_rel t
define_as_rel a b n x (told r) = also_rel (define_in_rel a b n x r) (λ W l v w h. give_rel (object (named_up l n)))

define_named_rel : {V : World} {c d : Result Change Throw} {x y : List ℕ} (a b : ObjId) → Named V a.0 b.0 → x ≡ y → TriedRel (ChangeRel (named V)) c d → Agrees V (define_as a x c) (define_as b y d)
define_named_rel {V = V} {c = c} {d = d} {x = x} a b n e r = subst (λ y. Agrees V (define_as a x c) (define_as b y d)) e (define_as_rel a b n x r)

pub define_property_rel : {V : World} {v w p q : Value} (c d : Calls) → ValueRel (named V) v w → ValueRel (named V) p q → (a b : ObjId) → Named V a.0 b.0
    → Agrees V (define_property c v p a) (define_property d w q b)
define_property_rel c d h k a b n = also_rel (to_text_rel c d h) (λ W l v w r.
    asking_rel {R = λ W. TriedRel (ChangeRel (named W))} (λ X j s t g. change_in_rel g (value_up (larger_more l j) k))
    (λ X j x y m. define_named_rel a b (named_up (larger_more l j) n) (text_in_same r) m))

abbrev pub ChangesRel : World → Changes → Changes → Type 0
ChangesRel W = Entries (ChangeRel (named W))

one_change_rel : {V : World} {c d : Result Change Throw} {cs ds : Result Changes Throw} (x : List ℕ) → TriedRel (ChangeRel (named V)) c d → TriedRel (ChangesRel V) cs ds
    → TriedRel (ChangesRel V) (one_change x c cs) (one_change x d ds)
one_change_rel x (failed t) k = failed t
one_change_rel x (told h) (failed t) = failed t
one_change_rel x (told h) (told k) = told (entry h k)

changes_in_rel : {W : World} {s t : Store} → StoreRel W s t → (a b : ObjId) → Named W a.0 b.0 → (xs : List (List ℕ)) → TriedRel (ChangesRel W) (changes_in s a xs) (changes_in t b xs)
changes_in_rel g a b n [] = told no_entries
changes_in_rel g a b n (x ∷ xs) = one_change_rel x (change_in_rel g (get_at_rel g a b n x)) (changes_in_rel g a b n xs)

pub all_changes_rel : {W : World} {s t : Store} → StoreRel W s t → (a b : ObjId) → Named W a.0 b.0 → TriedRel (ChangesRel W) (all_changes s a) (all_changes t b)
all_changes_rel {W = W} {s = s} {t = t} g a b n =
    subst (λ xs. TriedRel (ChangesRel W) (all_changes s a) (changes_in t b xs)) (enumerable_names_same (object_rel g a.0 b.0 n).props)
    (changes_in_rel g a b n (enumerable_names (props_at s a)))

changes_up : {V W : World} {cs ds : Changes} → Larger V W → ChangesRel V cs ds → ChangesRel W cs ds
changes_up l no_entries = no_entries
changes_up l (entry h r) = entry (change_up l h) (changes_up l r)

define_each_rel : {V : World} {cs ds : Changes} (a b : ObjId) → Named V a.0 b.0 → ChangesRel V cs ds → Agrees V (define_each a cs) (define_each b ds)
define_each_rel a b n no_entries = give_rel (object n)
define_each_rel {cs = c ∷ cs} {ds = d ∷ ds} a b n (entry {name = x} h r) = also_rel (define_in_rel a b n x h) (λ W l v w k. define_each_rel {cs = cs} {ds = ds} a b (named_up l n) (changes_up l r))

define_given_rel : {V : World} {cs ds : Result Changes Throw} (a b : ObjId) → Named V a.0 b.0 → TriedRel (ChangesRel V) cs ds → Agrees V (define_given a cs) (define_given b ds)
define_given_rel a b n (failed t) = raise_rel t
define_given_rel a b n (told r) = define_each_rel a b n r

pub define_properties_rel : {V : World} {v w : Value} → ValueRel (named V) v w → (a b : ObjId) → Named V a.0 b.0 → Agrees V (define_properties v a) (define_properties w b)
define_properties_rel undefined a b n = raise_rel WrongArgument
define_properties_rel null a b n = raise_rel WrongArgument
define_properties_rel truth a b n = give_rel (object n)
define_properties_rel num a b n = give_rel (object n)
define_properties_rel {v = value.Text []} text a b n = give_rel (object n)
define_properties_rel {v = value.Text (u ∷ us)} text a b n = raise_rel WrongArgument
define_properties_rel {v = value.Object p} {w = value.Object q} (object m) a b n =
    asking_rel {R = λ W. TriedRel (ChangesRel W)} (λ W l s t g. all_changes_rel g p q (named_up l m)) (λ W l cs ds r. define_given_rel a b (named_up l n) r)

with_given_rel : {V : World} {v w : Value} → ValueRel (named V) v w → (a b : ObjId) → Named V a.0 b.0 → Agrees V (with_given v a) (with_given w b)
with_given_rel undefined a b n = give_rel (object n)
with_given_rel null a b n = define_properties_rel null a b n
with_given_rel (truth {b = p}) a b n = define_properties_rel (truth {b = p}) a b n
with_given_rel (num {n = p}) a b n = define_properties_rel (num {n = p}) a b n
with_given_rel text a b n = define_properties_rel text a b n
with_given_rel (object m) a b n = define_properties_rel (object m) a b n

plain_rel : {V : World} {p q : Option ObjId} → Maybe (ObjectIds (named V)) p q → ObjectRel (named V) (new_object class.Plain p) (new_object class.Plain q)
plain_rel h = record { class = plain; proto = h; extensible = refl; closed = refl; props = no_entries }

new_with_rel : {V : World} {p q : Option ObjId} {v w : Value} → Maybe (ObjectIds (named V)) p q → ValueRel (named V) v w → Agrees V (new_with p v) (new_with q w)
new_with_rel {p = p} {q = q} h k = bind_rel (make_rel (new_object class.Plain p) (new_object class.Plain q) (new_fit class.Plain p) (new_fit class.Plain q) refl refl (plain_rel h) refl refl (λ W l s t g. tt))
    (λ W l a b n. with_given_rel (value_up l k) a b n)

pub create_rel : {V : World} {p q v w : Value} → ValueRel (named V) p q → ValueRel (named V) v w → Agrees V (create p v) (create q w)
create_rel undefined k = raise_rel WrongArgument
create_rel null k = new_with_rel none k
create_rel truth k = raise_rel WrongArgument
create_rel num k = raise_rel WrongArgument
create_rel text k = raise_rel WrongArgument
create_rel (object n) k = new_with_rel (some (record { linked = n })) k

-- ---- seals

change_each_rel : {V : World} {c d : Change} (a b : ObjId) → Named V a.0 b.0 → ChangeRel (named V) c d → (xs : List (List ℕ)) → Agrees V (change_each a c xs) (change_each b d xs)
change_each_rel a b n r [] = give_rel undefined
change_each_rel a b n r (x ∷ xs) = also_rel (define_in_rel a b n x r) (λ W l v w h. change_each_rel a b (named_up l n) (change_up l r) xs)

changed_names_rel : {V : World} {c d : Change} {xs ys : List (List ℕ)} (a b : ObjId) → Named V a.0 b.0 → ChangeRel (named V) c d → xs ≡ ys → Agrees V (change_each a c xs) (change_each b d ys)
changed_names_rel {V = V} {c = c} {d = d} {xs = xs} a b n r e = subst (λ ys. Agrees V (change_each a c xs) (change_each b d ys)) e (change_each_rel a b n r xs)

pub prevent_rel : {V : World} (a b : ObjId) → Named V a.0 b.0 → Agrees V (prevent a) (prevent b)
prevent_rel a b n = unless_rel (prevent_at_rel a b n) (λ W l. give_rel (object (named_up l n)))

pub change_all_rel : {V : World} {c d : Change} → ChangeRel (named V) c d → (a b : ObjId) → Named V a.0 b.0 → Agrees V (change_all c a) (change_all d b)
change_all_rel r a b n = also_rel
    (asking_rel {R = Equal} (λ W l s t g. keys_same (object_rel g a.0 b.0 (named_up l n)).props) (λ W l xs ys e. changed_names_rel a b (named_up l n) (change_up l r) e))
    (λ W l v w h. prevent_rel a b (named_up l n))

pub sealing_rel : {V : World} → ChangeRel (named V) sealing sealing
sealing_rel = record { value = none; writable = refl; enumerable = refl; configurable = refl }

pub freezing_rel : {V : World} → ChangeRel (named V) freezing freezing
freezing_rel = record { value = none; writable = refl; enumerable = refl; configurable = refl }

all_same : {V : World} {xs ys : Props} (f : Prop → Bool) → ((p q : Prop) → PropRel (named V) p q → f p ≡ f q) → Entries (PropRel (named V)) xs ys → list_all (λ e. f e.1) xs ≡ list_all (λ e. f e.1) ys
all_same f h no_entries = refl
all_same f h (entry {a = p} {b = q} k r) = λ i. h p q k i && all_same f h r i

pub is_sealed_same : (W : World) (o p : heap.Object) → ObjectRel (named W) o p → is_sealed o ≡ is_sealed p
is_sealed_same W o p r = λ i. not (r.extensible i) && all_same (λ p. not p.configurable) (λ p q k. ap not k.configurable) r.props i

pub is_frozen_same : (W : World) (o p : heap.Object) → ObjectRel (named W) o p → is_frozen o ≡ is_frozen p
is_frozen_same W o p r = λ i. not (r.extensible i) && all_same (λ p. not p.configurable && not p.writable) (λ p q k j. not (k.configurable j) && not (k.writable j)) r.props i

pub extensible_same : (W : World) (o p : heap.Object) → ObjectRel (named W) o p → o.extensible ≡ p.extensible
extensible_same W o p r = r.extensible

-- ---- what the prototype has

tag_of_same : {W : World} {s t : Store} {v w : Value} → StoreRel W s t → ValueRel (named W) v w → tag_of s v ≡ tag_of t w
tag_of_same g undefined = refl
tag_of_same g null = refl
tag_of_same g truth = refl
tag_of_same g num = refl
tag_of_same g text = refl
tag_of_same {v = value.Object a} {w = value.Object b} g (object n) = class_name_same (class_rel g a.0 b.0 n)

pub tagged_rel : {V : World} {v w : Value} → ValueRel (named V) v w → Agrees V (tagged v) (tagged w)
tagged_rel h = asking_rel {R = Equal} (λ W l s t g. ap (λ x. codes "[object " ++ x ++ codes "]") (tag_of_same g (value_up l h))) (λ W l x y e. give_rel (text_same e))

pub value_itself_rel : {V : World} {v w : Value} → ValueRel (named V) v w → Agrees V (value_itself v) (value_itself w)
value_itself_rel undefined = raise_rel WrongArgument
value_itself_rel null = raise_rel WrongArgument
value_itself_rel truth = give_rel truth
value_itself_rel num = give_rel num
value_itself_rel text = give_rel text
value_itself_rel (object n) = give_rel (object n)

has_own_rel : {V : World} {v w : Value} → ValueRel (named V) v w → (x : List ℕ) → Agrees V (has_own v x) (has_own w x)
has_own_rel undefined x = raise_rel WrongArgument
has_own_rel null x = raise_rel WrongArgument
has_own_rel truth x = give_rel truth
has_own_rel num x = give_rel truth
has_own_rel text x = give_rel truth
has_own_rel {v = value.Object a} {w = value.Object b} (object n) x = tell_truth_rel (λ W l s t g. is_some_same (own_rel g a.0 b.0 (named_up l n) x))

-- for the name that a text gives
pub has_named_rel : {V : World} {v w p q : Value} → ValueRel (named V) v w → ValueRel (named V) p q → Agrees V (has_own v (text_in p)) (has_own w (text_in q))
has_named_rel {V = V} {v = v} {w = w} {p = p} h r = subst (λ x. Agrees V (has_own v (text_in p)) (has_own w x)) (text_in_same r) (has_own_rel h (text_in p))

pub is_prototype_of_rel : {V : World} {v w p q : Value} → ValueRel (named V) v w → ValueRel (named V) p q → Agrees V (is_prototype_of v p) (is_prototype_of w q)
is_prototype_of_rel undefined undefined = give_rel truth
is_prototype_of_rel undefined null = give_rel truth
is_prototype_of_rel undefined truth = give_rel truth
is_prototype_of_rel undefined num = give_rel truth
is_prototype_of_rel undefined text = give_rel truth
is_prototype_of_rel undefined (object m) = raise_rel WrongArgument
is_prototype_of_rel null undefined = give_rel truth
is_prototype_of_rel null null = give_rel truth
is_prototype_of_rel null truth = give_rel truth
is_prototype_of_rel null num = give_rel truth
is_prototype_of_rel null text = give_rel truth
is_prototype_of_rel null (object m) = raise_rel WrongArgument
is_prototype_of_rel truth k = give_rel truth
is_prototype_of_rel num k = give_rel truth
is_prototype_of_rel text k = give_rel truth
is_prototype_of_rel (object n) undefined = give_rel truth
is_prototype_of_rel (object n) null = give_rel truth
is_prototype_of_rel (object n) truth = give_rel truth
is_prototype_of_rel (object n) num = give_rel truth
is_prototype_of_rel (object n) text = give_rel truth
is_prototype_of_rel {v = value.Object a} {w = value.Object b} {p = value.Object p} {q = value.Object q} (object n) (object m) =
    tell_truth_rel (λ W l s t g. is_above_same g a b p q (named_up l n) (named_up l m))

is_listed_same : {V : World} {p q : Option Prop} → Maybe (PropRel (named V)) p q → is_listed p ≡ is_listed q
is_listed_same none = refl
is_listed_same (some r) = r.enumerable

lists_own_rel : {V : World} {v w : Value} → ValueRel (named V) v w → (x : List ℕ) → Agrees V (lists_own v x) (lists_own w x)
lists_own_rel undefined x = raise_rel WrongArgument
lists_own_rel null x = raise_rel WrongArgument
lists_own_rel truth x = give_rel truth
lists_own_rel num x = give_rel truth
lists_own_rel text x = give_rel truth
lists_own_rel {v = value.Object a} {w = value.Object b} (object n) x = tell_truth_rel (λ W l s t g. is_listed_same (own_rel g a.0 b.0 (named_up l n) x))

pub lists_named_rel : {V : World} {v w p q : Value} → ValueRel (named V) v w → ValueRel (named V) p q → Agrees V (lists_own v (text_in p)) (lists_own w (text_in q))
lists_named_rel {V = V} {v = v} {w = w} {p = p} h r = subst (λ x. Agrees V (lists_own v (text_in p)) (lists_own w x)) (text_in_same r) (lists_own_rel h (text_in p))
