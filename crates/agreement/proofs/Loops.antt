-- Loops of acts that agree (section 12.6).
use Rattle.std.proofs.Common.{◌≡◌, refl, ap, subst, ◌∙◌, ℕ, zero, suc, ◌<◌, ◌≤◌, ◌&&◌, Bool, true, false, not, List, [], ◌∷◌, ◌++◌, map, Option, Some, if◌then◌else◌, bytes_eq, arith}
use Rattle.std.specs.List.{list_any}
use Rattle.std.specs.Map.{keys_of}
use Rattle.std.specs.Option.{ForSome}
use Rattle.js_values.specs.declared.ids.ObjId.{ObjId}
use Rattle.js_values.specs.declared.value.Value.{Value}
use Rattle.js_values.specs.declared.value.Value.TheVariants as value
use Rattle.object_heap.specs.Chain.{AreOlder, object_at}
use Rattle.object_heap.specs.Define.{length_name}
use Rattle.object_heap.specs.Object as heap
use Rattle.object_heap.specs.Property.{Props}
use Rattle.page_meaning.specs.Act.{Act}
use Rattle.page_meaning.specs.Loops.{Listed, each_name, is_held, listed_from, listed_of, listed_own, listed_up, loop, turn, turn_if, turned, turns, unit_names}
use Rattle.page_meaning.specs.Places.{at_place, boolean_prototype_place, number_prototype_place, string_prototype_place}
use Rattle.page_meaning.specs.Store.{Store}
use Rattle.page_meaning.specs.declared.signal.Signal.{Signal}
use Rattle.heap_relations.proofs.Callers.{each_append, is_some_same, larger_more}
use Rattle.heap_relations.specs.Naming.{Larger, Named, named, World}
use Rattle.heap_relations.specs.Related.{Each, Entries, Maybe, ObjectIds, ObjectsRel, PropRel, ValueRel, each, entry, no_entries, no_more, none, some, undefined, null, truth, num, text, object}
use Rattle.page_meaning.specs.Places.{built_in_count}
use Rattle.agreement.specs.Acts.{Agrees, Continues, Equal, Relation, SignalRel, StoreRel, break, continue, return, thrown, value as given}
use Rattle.agreement.proofs.Acts.{act_up, also_rel, asking_rel, bind_rel, choose_rel, ret_rel}
use Rattle.agreement.proofs.Heap.{named_up, own_rel, stop_rel, take_step_rel, value_up}
use Rattle.agreement.proofs.Operators.{is_true_same}
use Rattle.agreement.proofs.Properties.{boolean_place, number_place, string_place}
use Rattle.agreement.proofs.Values.{done_rel, text_same}

-- ---- turns

pub turned_rel : {V : World} {p q : Act} {a b : Signal} → Agrees V p q → SignalRel V a b → Agrees V (turned p a) (turned q b)
turned_rel h (given r) = h
turned_rel h continue = h
turned_rel h break = done_rel
turned_rel h (thrown r) = ret_rel (λ W l. thrown (value_up l r))
turned_rel h (return r) = ret_rel (λ W l. return (value_up l r))

pub turn_rel : {V : World} {p q m n : Act} → Agrees V p q → Agrees V m n → Agrees V (turn p m) (turn q n)
turn_rel h k = bind_rel take_step_rel (λ W l a b e. bind_rel (act_up l h) (λ X j x y r. turned_rel (act_up (larger_more l j) k) r))

pub turn_if_rel : {V : World} {p q m n : Act} {v w : Value} → Agrees V p q → Agrees V m n → ValueRel (named V) v w → Agrees V (turn_if p m v) (turn_if q n w)
turn_if_rel h k r = choose_rel _ _ (is_true_same r) (turn_rel h k) done_rel

pub turns_rel : {V : World} {test that p q m n : Act} (k : ℕ) → Agrees V test that → Agrees V p q → Agrees V m n → Agrees V (turns k test p m) (turns k that q n)
turns_rel zero t h k = stop_rel
turns_rel (suc n) t h k =
    also_rel t (λ W l v w r. turn_if_rel (act_up l h) (also_rel (act_up l k) (λ X j x y s. act_up (larger_more l j) (turns_rel n t h k))) r)

pub loop_rel : {V : World} {test that p q m n : Act} → Agrees V test that → Agrees V p q → Agrees V m n → Agrees V (loop test p m) (loop that q n)
loop_rel t h k = record { run = λ W l s u n g. (turns_rel (suc n) t h k).run W l s u n g }

-- ---- names that are listed

-- the same name, of objects that are named
pub record ListedOne (V : World) (p q : Option ObjId × List ℕ) : Type 0 where
  pub holder : Maybe (ObjectIds (named V)) p.0 q.0
  pub name : p.1 ≡ q.1

abbrev pub ListedRel : Relation Listed
ListedRel V = Each (ListedOne V)

pub keys_of_same : {A : Type 0} {R : A → A → Type 0} {xs ys : List (List ℕ × A)} → Entries R xs ys → keys_of xs ≡ keys_of ys
keys_of_same no_entries = refl
keys_of_same (entry {name = name} r h) = ap (λ l. name ∷ l) (keys_of_same h)

unit_names_rel : {V : World} (k : ℕ) (t : List ℕ) → ListedRel V (unit_names k t) (unit_names k t)
unit_names_rel k [] = no_more
unit_names_rel k (u ∷ us) = each (record { holder = none; name = refl }) (unit_names_rel (suc k) us)

more_listed : {V : World} (b c : Bool) {p q : Option ObjId × List ℕ} {xs ys : Listed} → b ≡ c → ListedOne V p q → ListedRel V xs ys
    → ListedRel V (if b then p ∷ xs else xs) (if c then q ∷ ys else ys)
more_listed true true e r h = each r h
more_listed true false e r h = absurd (cc e)
more_listed false true e r h = absurd (cc e)
more_listed false false e r h = h

pub listed_own_rel : {V : World} {xs ys : Props} (a b : ObjId) (seen : List (List ℕ)) → Named V a.0 b.0 → Entries (PropRel (named V)) xs ys
    → ListedRel V (listed_own a seen xs) (listed_own b seen ys)
listed_own_rel a b seen n no_entries = no_more
listed_own_rel a b seen n (entry {name = name} r h) =
    more_listed _ _ (ap (λ e. e && not (list_any (bytes_eq name) seen)) r.enumerable) (record { holder = some (record { linked = n }); name = refl }) (listed_own_rel a b seen n h)

-- the bounds differ on both sides, since the ages do
module _ {V : World} {os ps : List heap.Object} (r : ObjectsRel (named V) os ps) (left : AreOlder os) (right : AreOlder ps) where
  pub listed_from_rel : (n m : ℕ) (seen : List (List ℕ)) (p q : Option ObjId) → Maybe (ObjectIds (named V)) p q → ForSome p (λ a. a.0 < n) → ForSome q (λ b. b.0 < m)
      → ListedRel V (listed_from os n seen p) (listed_from ps m seen q)
  listed_from_rel zero zero seen _ _ i f g = no_more
  listed_from_rel zero (suc m) seen _ _ none f g = no_more
  listed_from_rel (suc n) zero seen _ _ none f g = no_more
  listed_from_rel (suc n) (suc m) seen _ _ none f g = no_more
  listed_from_rel zero (suc m) seen _ _ (some {a = a} i) f g = absurd (omega (arith, f a refl))
  listed_from_rel (suc n) zero seen _ _ (some {b = b} i) f g = absurd (omega (arith, g b refl))
  listed_from_rel (suc n) (suc m) seen _ _ (some {a = a} {b = b} i) f g =
      let o = object_at os a.0 in
      let p = object_at ps b.0 in
      let k = r.at a.0 b.0 i.linked in
      each_append (listed_own_rel a b seen i.linked k.props)
      (subst (λ x. ListedRel V (listed_from os n (seen ++ keys_of o.props) o.proto) (listed_from ps m (seen ++ x) p.proto)) (keys_of_same k.props)
      (listed_from_rel n m (seen ++ keys_of o.props) o.proto p.proto k.proto (λ c e. omega (arith, left a.0 c e, f a refl)) (λ d e. omega (arith, right b.0 d e, g b refl))))

pub listed_up_rel : {W : World} {s t : Store} → StoreRel W s t → (seen : List (List ℕ)) (a b : ObjId) → Named W a.0 b.0 → ListedRel W (listed_up s seen (Some a)) (listed_up t seen (Some b))
listed_up_rel g seen a b n =
    listed_from_rel g.heap.objects g.heap.left.prototypes g.heap.right.prototypes (suc a.0) (suc b.0) seen (Some a) (Some b) (some (record { linked = n })) (within a) (within b)
  where
    within : (a b : ObjId) → Some a ≡ Some b → b.0 < suc a.0
    within a b e =
        let same : a.0 ≡ b.0 = cc e in
        omega (arith, same)

built_in_up : {W : World} {s t : Store} → StoreRel W s t → (seen : List (List ℕ)) (at : ObjId) → at.0 ≤ built_in_count → ListedRel W (listed_up s seen (Some at)) (listed_up t seen (Some at))
built_in_up g seen at h = listed_up_rel g seen at at (g.built_ins at.0 h)

pub listed_of_rel : {W : World} {s t : Store} {v w : Value} → StoreRel W s t → ValueRel (named W) v w → ListedRel W (listed_of s v) (listed_of t w)
listed_of_rel g undefined = no_more
listed_of_rel g null = no_more
listed_of_rel g truth = built_in_up g [] (at_place boolean_prototype_place) boolean_place
listed_of_rel g num = built_in_up g [] (at_place number_prototype_place) number_place
listed_of_rel {v = value.Text t} g text = each_append (unit_names_rel 0 t) (built_in_up g (length_name ∷ map (λ p. p.1) (unit_names 0 t)) (at_place string_prototype_place) string_place)
listed_of_rel {v = value.Object a} {w = value.Object b} g (object n) = listed_up_rel g [] a b n

-- ---- for-in

pub is_held_same : {W : World} {s t : Store} {p q : Option ObjId} → StoreRel W s t → Maybe (ObjectIds (named W)) p q → (x : List ℕ) → is_held p x s ≡ is_held q x t
is_held_same g none x = refl
is_held_same g (some {a = a} {b = b} i) x = is_some_same (own_rel g a.0 b.0 i.linked x)

holder_up : {V W : World} {p q : Option ObjId} → Larger V W → Maybe (ObjectIds (named V)) p q → Maybe (ObjectIds (named W)) p q
holder_up l none = none
holder_up l (some i) = some (record { linked = named_up l i.linked })

pub each_name_rel : {V : World} {f g : Value → Act} {p q : Act} {xs ys : Listed} → Continues V f g → Agrees V p q → ListedRel V xs ys → Agrees V (each_name f p xs) (each_name g q ys)
each_name_rel m h no_more = done_rel
each_name_rel m h (each {a = a} {b = b} r rest) = bind_rel take_step_rel (λ W l x y e.
    asking_rel {R = Equal} (λ X j s t g. is_held_same g (holder_up (larger_more l j) r.holder) a.1 ∙ ap (λ x. is_held b.0 x t) r.name) (λ X j c d e.
    let more = larger_more l j in
    choose_rel c d e (also_rel (m X more (value.Text a.1) (value.Text b.1) (text_same r.name)) (λ Y i v w u.
    bind_rel (act_up (larger_more more i) h) (λ Z o x y k. turned_rel (act_up (larger_more more (larger_more i o)) (each_name_rel m h rest)) k)))
    (act_up more (each_name_rel m h rest))))
