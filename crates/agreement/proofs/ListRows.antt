-- What the prototype of arrays has, but for what calls back (section 15.4.4).
use Rattle.std.proofs.Common.{◌≡◌, refl, ap, subst, ℕ, zero, suc, ℤ, ◌+◌, ◌-◌, nat_lt, nat_le, Bool, true, false, List, [], ◌∷◌, ◌++◌, length, drop, Option, Some, Ok, Err, if◌then◌else◌}
use Rattle.std.specs.Option.{option_map}
use Rattle.js_values.specs.declared.ids.ObjId.{ObjId}
use Rattle.js_values.specs.declared.throw.Throw.TheVariants.{TextTooLong}
use Rattle.js_values.specs.declared.value.Value.{Value}
use Rattle.js_values.specs.declared.value.Value.TheVariants as value
use Rattle.object_heap.specs.Define.{number}
use Rattle.whole_ops.specs.Equality.{same_of}
use Rattle.page_meaning.specs.Act.{Act, Calls, asking, choose, give}
use Rattle.page_meaning.specs.Convert.{number_in, text_in}
use Rattle.page_meaning.specs.Elements.{element, element_or, length_of}
use Rattle.page_meaning.specs.ListRows as list
use Rattle.page_host.specs.HostNames.{text_limit, text_or_long}
use Rattle.page_meaning.specs.Properties.{is_object}
use Rattle.page_meaning.specs.Store.{Store}
use Rattle.heap_relations.proofs.Callers.{larger_more}
use Rattle.heap_relations.specs.Naming.{Larger, Named, named, World}
use Rattle.heap_relations.specs.Related.{Each, IsOneToOne, Maybe, ObjectIds, ValueRel, each, no_more, none, some, undefined, null, truth, num, text, object}
use Rattle.agreement.specs.Acts.{Agrees, StoreRel}
use Rattle.agreement.proofs.Acts.{also_rel, asking_rel, bind_rel, choose_rel}
use Rattle.agreement.proofs.Elements.{define_element_rel, delete_element_rel, element_or_rel, element_rel, length_of_same, list_in_rel, on_element_rel, put_each_rel, put_element_rel, set_length_rel, turns_down_rel, turns_up_rel}
use Rattle.agreement.proofs.Heap.{named_up, take_step_rel, value_up, values_up}
use Rattle.agreement.proofs.Made.{new_list_rel}
use Rattle.agreement.proofs.ObjectRows.{argument_rel}
use Rattle.agreement.proofs.Properties.{text_in_same}
use Rattle.agreement.proofs.Values.{SettledRel, done_rel, give_rel, object_value_rel, refused, settle_rel, settled, to_number_rel, to_text_rel}

-- ---- lists of values, and numbers

pub length_same : {A : Type 0} {R : A → A → Type 0} {xs ys : List A} → Each R xs ys → length xs ≡ length ys
length_same no_more = refl
length_same (each h hs) = ap suc (length_same hs)

pub drop_rel : {A : Type 0} {R : A → A → Type 0} {xs ys : List A} (k : ℕ) → Each R xs ys → Each R (drop k xs) (drop k ys)
drop_rel zero h = h
drop_rel (suc k) no_more = no_more
drop_rel (suc k) (each h hs) = drop_rel k hs

number_same : {V : World} {v w : Value} → ValueRel (named V) v w → number_in v ≡ number_in w
number_same undefined = refl
number_same null = refl
number_same truth = refl
number_same num = refl
number_same text = refl
number_same (object n) = refl

maybe_up : {V W : World} {o p : Option Value} → Larger V W → Maybe (ValueRel (named V)) o p → Maybe (ValueRel (named W)) o p
maybe_up l none = none
maybe_up l (some h) = some (value_up l h)

-- ---- what is done at one index

put_or_delete_rel : {V : World} {o p : Option Value} (a b : ObjId) → Named V a.0 b.0 → (k : ℕ) → Maybe (ValueRel (named V)) o p
    → Agrees V (list.put_or_delete a k o) (list.put_or_delete b k p)
put_or_delete_rel a b n k none = delete_element_rel a b n k
put_or_delete_rel a b n k (some h) = put_element_rel a b n k h

move_rel : {V : World} (a b : ObjId) → Named V a.0 b.0 → (from to : ℕ) → Agrees V (list.move a from to) (list.move b from to)
move_rel a b n from to = asking_rel {R = λ W. Maybe (ValueRel (named W))} (λ W l s t g. element_rel g a b (named_up l n) from) (λ W l o p r. put_or_delete_rel a b (named_up l n) to r)

copy_rel : {V : World} (a b : ObjId) → Named V a.0 b.0 → (k : ℕ) (c d : ObjId) → Named V c.0 d.0 → (j : ℕ) → Agrees V (list.copy a k c j) (list.copy b k d j)
copy_rel a b n k c d m j = asking_rel {R = λ W. Maybe (ValueRel (named W))} (λ W l s t g. element_rel g a b (named_up l n) k)
    (λ W l o p r. on_element_rel done_rel (λ X i v w h. define_element_rel c d (named_up (larger_more l i) m) j h) r)

put_both_rel : {V : World} {o p q r : Option Value} (a b : ObjId) → Named V a.0 b.0 → (low high : ℕ) → Maybe (ValueRel (named V)) o p → Maybe (ValueRel (named V)) q r
    → Agrees V (list.put_both a low high o q) (list.put_both b low high p r)
put_both_rel a b n low high h k = also_rel (put_or_delete_rel a b n low k) (λ W l v w e. put_or_delete_rel a b (named_up l n) high (maybe_up l h))

exchange_rel : {V : World} {o p q r : Option Value} (a b : ObjId) → Named V a.0 b.0 → (low high : ℕ) → Maybe (ValueRel (named V)) o p → Maybe (ValueRel (named V)) q r
    → Agrees V (list.exchange a low high o q) (list.exchange b low high p r)
exchange_rel a b n low high none none = done_rel
exchange_rel a b n low high none (some k) = put_both_rel a b n low high none (some k)
exchange_rel a b n low high (some h) none = put_both_rel a b n low high (some h) none
exchange_rel a b n low high (some h) (some k) = put_both_rel a b n low high (some h) (some k)

move_down_rel : {V : World} (a b : ObjId) → Named V a.0 b.0 → (from to m : ℕ) → Agrees V (list.move_down a from to m) (list.move_down b from to m)
move_down_rel a b n from to m = turns_up_rel (λ W l i. move_rel a b (named_up l n) (from + i) (to + i)) 0 m

move_up_rel : {V : World} (a b : ObjId) → Named V a.0 b.0 → (from to m : ℕ) → Agrees V (list.move_up a from to m) (list.move_up b from to m)
move_up_rel a b n from to m = turns_down_rel (λ W l i. move_rel a b (named_up l n) (from + i) (to + i)) m

copy_all_rel : {V : World} (a b : ObjId) → Named V a.0 b.0 → (k : ℕ) (c d : ObjId) → Named V c.0 d.0 → (j m : ℕ) → Agrees V (list.copy_all a k c j m) (list.copy_all b k d j m)
copy_all_rel a b n k c d e j m = turns_up_rel (λ W l i. copy_rel a b (named_up l n) (k + i) c d (named_up l e) (j + i)) 0 m

-- ---- concat

-- the elements of two arrays that are named, as many
data SpreadRel (V : World) : ObjId × ℕ → ObjId × ℕ → Type 0 where
  spread : {a b : ObjId} {k : ℕ} → Named V a.0 b.0 → SpreadRel V (a, k) (b, k)

as_long : {V : World} (a b : ObjId) → Named V a.0 b.0 → (k m : ℕ) → k ≡ m → SpreadRel V (a, k) (b, m)
as_long {V = V} a b n k m e = subst (λ z. SpreadRel V (a, k) (b, z)) e (spread n)

spread_some_rel : {W : World} {s t : Store} {o p : Option ObjId} → StoreRel W s t → Maybe (ObjectIds (named W)) o p
    → Maybe (SpreadRel W) (option_map (λ at. (at, length_of at s)) o) (option_map (λ at. (at, length_of at t)) p)
spread_some_rel g none = none
spread_some_rel {s = s} {t = t} {o = Some a} {p = Some b} g (some n) = some (as_long a b n.linked (length_of a s) (length_of b t) (length_of_same g a b n.linked))

spread_of_rel : {W : World} {s t : Store} {v w : Value} → StoreRel W s t → ValueRel (named W) v w → Maybe (SpreadRel W) (list.spread_of v s) (list.spread_of w t)
spread_of_rel g h = spread_some_rel g (list_in_rel g h)

add_item_rel : {V : World} {v w : Value} {o p : Option (ObjId × ℕ)} (a b : ObjId) → Named V a.0 b.0 → (k : ℕ) → ValueRel (named V) v w → Maybe (SpreadRel V) o p
    → Agrees V (list.add_item a k v o) (list.add_item b k w p)
add_item_rel a b n k h none = define_element_rel a b n k h
add_item_rel a b n k h (some (spread {a = c} {b = d} {k = m} e)) = copy_all_rel c d e 0 a b n k m

past_item_same : {V : World} {o p : Option (ObjId × ℕ)} (k : ℕ) → Maybe (SpreadRel V) o p → list.past_item k o ≡ list.past_item k p
past_item_same k none = refl
past_item_same k (some (spread n)) = refl

concat_from_rel : {V : World} (vs ws : List Value) (a b : ObjId) → Named V a.0 b.0 → (k : ℕ) → Each (ValueRel (named V)) vs ws → Agrees V (list.concat_from a k vs) (list.concat_from b k ws)
concat_from_rel [] [] a b n k no_more = give_rel (object_value_rel a b n)
concat_from_rel (v ∷ vs) (w ∷ ws) a b n k (each h hs) =
    asking_rel {R = λ W. Maybe (SpreadRel W)} (λ W l s t g. spread_of_rel g (value_up l h)) (λ W l o p r. also_rel (add_item_rel a b (named_up l n) k (value_up l h) r)
    (λ X j x y e. subst (λ z. Agrees X (list.concat_from a (list.past_item k o) vs) (list.concat_from b z ws)) (past_item_same k r)
    (concat_from_rel vs ws a b (named_up (larger_more l j) n) (list.past_item k o) (values_up (larger_more l j) hs))))
concat_from_rel [] (w ∷ ws) a b n k h = elim h [ ]
concat_from_rel (v ∷ vs) [] a b n k h = elim h [ ]

pub concat_rel : {V : World} {vs ws : List Value} (a b : ObjId) → Named V a.0 b.0 → Each (ValueRel (named V)) vs ws → Agrees V (list.concat a vs) (list.concat b ws)
concat_rel {vs = vs} {ws = ws} a b n h = bind_rel new_list_rel (λ W l c d m. concat_from_rel (value.Object a ∷ vs) (value.Object b ∷ ws) c d m 0 (each (object_value_rel a b (named_up l n)) (values_up l h)))

-- ---- join

element_text_rel : {V : World} {v w : Value} (c d : Calls) → ValueRel (named V) v w → Agrees V (list.element_text c v) (list.element_text d w)
element_text_rel c d undefined = give_rel text
element_text_rel c d null = give_rel text
element_text_rel c d truth = to_text_rel c d truth
element_text_rel c d num = to_text_rel c d num
element_text_rel c d text = to_text_rel c d text
element_text_rel {v = value.Object a} {w = value.Object b} c d (object n) = to_text_rel c d (object_value_rel a b n)

-- the element at an index, as a text
text_at_rel : {V : World} (c d : Calls) (a b : ObjId) → Named V a.0 b.0 → (k : ℕ) → Agrees V (asking (element_or a k) (list.element_text c)) (asking (element_or b k) (list.element_text d))
text_at_rel c d a b n k = asking_rel {R = λ W. ValueRel (named W)} (λ W l s t g. element_or_rel g a b (named_up l n) k) (λ W l v w r. element_text_rel c d r)

fitting_rel : {V : World} (t : List ℕ) (b : Bool) → SettledRel V (if b then Ok (value.Text t) else Err TextTooLong) (if b then Ok (value.Text t) else Err TextTooLong)
fitting_rel t true = settled text
fitting_rel t false = refused TextTooLong

long_rel : {V : World} (t u : List ℕ) → t ≡ u → SettledRel V (text_or_long t) (text_or_long u)
long_rel {V = V} t u e = subst (λ z. SettledRel V (text_or_long t) (text_or_long z)) e (fitting_rel t (nat_le (length t) text_limit))

joined_same : {a b c d : List ℕ} → a ≡ b → c ≡ d → a ++ c ≡ b ++ d
joined_same e f = cc (e, f)

join_text_rel : {V : World} {t u v w : Value} → ValueRel (named V) t u → ValueRel (named V) v w → Agrees V (list.join_text t v) (list.join_text u w)
join_text_rel {t = t} {u = u} {v = v} {w = w} h k = settle_rel (long_rel (text_in t ++ text_in v) (text_in u ++ text_in w) (joined_same (text_in_same h) (text_in_same k)))

join_one_rel : {V : World} {t u v w : Value} (c d : Calls) (a b : ObjId) → Named V a.0 b.0 → ValueRel (named V) t u → ValueRel (named V) v w → (k : ℕ)
    → Agrees V (list.join_one c a t v k) (list.join_one d b u w k)
join_one_rel c d a b n h r k = also_rel (join_text_rel r h) (λ W l v w e. also_rel (text_at_rel c d a b (named_up l n) k) (λ X j x y f. join_text_rel (value_up j e) f))

join_from_rel : {V : World} {t u v w : Value} (c d : Calls) (a b : ObjId) → Named V a.0 b.0 → ValueRel (named V) t u → ValueRel (named V) v w → (k m : ℕ)
    → Agrees V (list.join_from c a t v k m) (list.join_from d b u w k m)
join_from_rel c d a b n h r k zero = give_rel r
join_from_rel c d a b n h r k (suc m) = bind_rel take_step_rel (λ W l i j e. also_rel (join_one_rel c d a b (named_up l n) (value_up l h) (value_up l r) k)
    (λ X o v w f. join_from_rel c d a b (named_up (larger_more l o) n) (value_up (larger_more l o) h) f (suc k) m))

join_all_rel : {V : World} {t u : Value} (c d : Calls) (a b : ObjId) → Named V a.0 b.0 → (k : ℕ) → ValueRel (named V) t u → Agrees V (list.join_all c a k t) (list.join_all d b k u)
join_all_rel c d a b n zero h = give_rel text
join_all_rel c d a b n (suc m) h = also_rel (text_at_rel c d a b n 0) (λ W l v w r. join_from_rel c d a b (named_up l n) (value_up l h) r 1 m)

separator_rel : {V : World} {v w : Value} (c d : Calls) → ValueRel (named V) v w → Agrees V (list.separator c v) (list.separator d w)
separator_rel c d undefined = give_rel text
separator_rel c d null = to_text_rel c d null
separator_rel c d truth = to_text_rel c d truth
separator_rel c d num = to_text_rel c d num
separator_rel c d text = to_text_rel c d text
separator_rel {v = value.Object a} {w = value.Object b} c d (object n) = to_text_rel c d (object_value_rel a b n)

pub join_rel : {V : World} {vs ws : List Value} (c d : Calls) (a b : ObjId) → Named V a.0 b.0 → (k : ℕ) → Each (ValueRel (named V)) vs ws → Agrees V (list.join c a k vs) (list.join d b k ws)
join_rel c d a b n k h = also_rel (separator_rel c d (argument_rel h 0)) (λ W l v w r. join_all_rel c d a b (named_up l n) k r)

-- ---- pop and push

drop_last_rel : {V : World} {v w : Value} (a b : ObjId) → Named V a.0 b.0 → (k : ℕ) → ValueRel (named V) v w → Agrees V (list.drop_last a k v) (list.drop_last b k w)
drop_last_rel a b n k h = also_rel (delete_element_rel a b n k)
    (λ W l x y e. also_rel (set_length_rel a b (named_up l n) k) (λ X j p q f. give_rel (value_up (larger_more l j) h)))

no_elements_rel : {V : World} (a b : ObjId) → Named V a.0 b.0 → Agrees V (list.no_elements a) (list.no_elements b)
no_elements_rel a b n = also_rel (set_length_rel a b n 0) (λ W l v w r. give_rel undefined)

pub pop_rel : {V : World} (a b : ObjId) → Named V a.0 b.0 → (k : ℕ) → Agrees V (list.pop a k) (list.pop b k)
pop_rel a b n zero = no_elements_rel a b n
pop_rel a b n (suc k) = asking_rel {R = λ W. ValueRel (named W)} (λ W l s t g. element_or_rel g a b (named_up l n) k) (λ W l v w r. drop_last_rel a b (named_up l n) k r)

put_all_rel : {V : World} {vs ws : List Value} (a b : ObjId) → Named V a.0 b.0 → (k : ℕ) → Each (ValueRel (named V)) vs ws → (m : ℕ) → Agrees V (list.put_all a k vs m) (list.put_all b k ws m)
put_all_rel {vs = vs} {ws = ws} a b n k h m = also_rel (put_each_rel vs ws a b n k h) (λ W l v w r. set_length_rel a b (named_up l n) m)

-- the array becomes longer by as many on either side
put_longer_rel : {V : World} {vs ws : List Value} (a b : ObjId) → Named V a.0 b.0 → (k : ℕ) → Each (ValueRel (named V)) vs ws → (m : ℕ)
    → Agrees V (list.put_all a k vs (m + length vs)) (list.put_all b k ws (m + length ws))
put_longer_rel {V = V} {vs = vs} {ws = ws} a b n k h m = subst (λ z. Agrees V (list.put_all a k vs (m + length vs)) (list.put_all b k ws (m + z))) (length_same h) (put_all_rel a b n k h (m + length vs))

pub push_rel : {V : World} {vs ws : List Value} (a b : ObjId) → Named V a.0 b.0 → (k : ℕ) → Each (ValueRel (named V)) vs ws → Agrees V (list.push a k vs) (list.push b k ws)
push_rel a b n k h = put_longer_rel a b n k h k

-- ---- reverse and shift

turn_at_rel : {V : World} (a b : ObjId) → Named V a.0 b.0 → (low high : ℕ) → Agrees V (list.turn_at a low high) (list.turn_at b low high)
turn_at_rel a b n low high = asking_rel {R = λ W. Maybe (ValueRel (named W))} (λ W l s t g. element_rel g a b (named_up l n) low)
    (λ W l o p h. asking_rel {R = λ X. Maybe (ValueRel (named X))} (λ X j s t g. element_rel g a b (named_up (larger_more l j) n) high)
    (λ X j q r k. exchange_rel a b (named_up (larger_more l j) n) low high (maybe_up j h) k))

pub reverse_rel : {V : World} (a b : ObjId) → Named V a.0 b.0 → (k : ℕ) → Agrees V (list.reverse a k) (list.reverse b k)
reverse_rel a b n k = also_rel (turns_up_rel (λ W l i. turn_at_rel a b (named_up l n) i (k - suc i)) 0 (list.half k)) (λ W l v w r. give_rel (object_value_rel a b (named_up l n)))

shift_all_rel : {V : World} {v w : Value} (a b : ObjId) → Named V a.0 b.0 → (k : ℕ) → ValueRel (named V) v w → Agrees V (list.shift_all a k v) (list.shift_all b k w)
shift_all_rel a b n k h = also_rel (move_down_rel a b n 1 0 k) (λ W l x y r. drop_last_rel a b (named_up l n) k (value_up l h))

pub shift_rel : {V : World} (a b : ObjId) → Named V a.0 b.0 → (k : ℕ) → Agrees V (list.shift a k) (list.shift b k)
shift_rel a b n zero = no_elements_rel a b n
shift_rel a b n (suc k) = asking_rel {R = λ W. ValueRel (named W)} (λ W l s t g. element_or_rel g a b (named_up l n) 0) (λ W l v w r. shift_all_rel a b (named_up l n) k r)

-- ---- slice

end_in_rel : {V : World} {v w : Value} (c d : Calls) (k : ℕ) → ValueRel (named V) v w → Agrees V (list.end_in c k v) (list.end_in d k w)
end_in_rel c d k undefined = give_rel num
end_in_rel c d k null = to_number_rel c d null
end_in_rel c d k truth = to_number_rel c d truth
end_in_rel c d k num = to_number_rel c d num
end_in_rel c d k text = to_number_rel c d text
end_in_rel {v = value.Object a} {w = value.Object b} c d k (object n) = to_number_rel c d (object_value_rel a b n)

-- what stands between two places
abbrev copy_between : ObjId → ℕ → ObjId → Option ℤ → Option ℤ → Act
copy_between at n a p q = list.copy_all at (list.place_in n p) a 0 (list.place_in n q - list.place_in n p)

copy_between_rel : {V : World} {p q x y : Option ℤ} (a b : ObjId) → Named V a.0 b.0 → (k : ℕ) (c d : ObjId) → Named V c.0 d.0 → p ≡ q → x ≡ y
    → Agrees V (copy_between a k c p x) (copy_between b k d q y)
copy_between_rel {V = V} {p = p} {q = q} {x = x} {y = y} a b n k c d m e f =
    subst (λ z. Agrees V (copy_between a k c p x) (copy_between b k d z y)) e (subst (λ z. Agrees V (copy_between a k c p x) (copy_between b k d p z)) f
    (copy_all_rel a b n (list.place_in k p) c d m 0 (list.place_in k x - list.place_in k p)))

slice_of_rel : {V : World} {v w x y : Value} (a b : ObjId) → Named V a.0 b.0 → (k : ℕ) (c d : ObjId) → Named V c.0 d.0 → ValueRel (named V) v w → ValueRel (named V) x y
    → Agrees V (list.slice_of a k c v x) (list.slice_of b k d w y)
slice_of_rel a b n k c d m h r = also_rel (copy_between_rel a b n k c d m (number_same h) (number_same r)) (λ W l p q e. give_rel (object_value_rel c d (named_up l m)))

slice_between_rel : {V : World} {v w x y : Value} (c d : Calls) (a b : ObjId) → Named V a.0 b.0 → (k : ℕ) (e f : ObjId) → Named V e.0 f.0 → ValueRel (named V) v w → ValueRel (named V) x y
    → Agrees V (list.slice_between c a k e v x) (list.slice_between d b k f w y)
slice_between_rel c d a b n k e f m h r = also_rel (to_number_rel c d h) (λ W l p q u. also_rel (end_in_rel c d k (value_up l r))
    (λ X j g i o. slice_of_rel a b (named_up (larger_more l j) n) k e f (named_up (larger_more l j) m) (value_up j u) o))

pub slice_rel : {V : World} {vs ws : List Value} (c d : Calls) (a b : ObjId) → Named V a.0 b.0 → (k : ℕ) → Each (ValueRel (named V)) vs ws → Agrees V (list.slice c a k vs) (list.slice d b k ws)
slice_rel c d a b n k h = bind_rel new_list_rel (λ W l e f m. slice_between_rel c d a b (named_up l n) k e f m (value_up l (argument_rel h 0)) (value_up l (argument_rel h 1)))

-- ---- splice and unshift

acts_chosen : {V : World} {p q u v : Act} (b : Bool) → Agrees V p q → Agrees V u v → Agrees V (if b then p else u) (if b then q else v)
acts_chosen true h k = h
acts_chosen false h k = k

delete_last_rel : {V : World} (a b : ObjId) → Named V a.0 b.0 → (k m : ℕ) → Agrees V (list.delete_last a k m) (list.delete_last b k m)
delete_last_rel a b n k m = turns_down_rel (λ W l i. delete_element_rel a b (named_up l n) (k + i)) m

close_up_rel : {V : World} (a b : ObjId) → Named V a.0 b.0 → (n k less more : ℕ) → Agrees V (list.close_up a n k less more) (list.close_up b n k less more)
close_up_rel a b m n k less more = also_rel (move_down_rel a b m (k + less) (k + more) (n - less - k)) (λ W l v w r. delete_last_rel a b (named_up l m) (n - less + more) (less - more))

make_room_rel : {V : World} (a b : ObjId) → Named V a.0 b.0 → (n k less more : ℕ) → Agrees V (list.make_room a n k less more) (list.make_room b n k less more)
make_room_rel a b m n k less more =
    acts_chosen (nat_lt more less) (close_up_rel a b m n k less more) (acts_chosen (nat_lt less more) (move_up_rel a b m (k + less) (k + more) (n - less - k)) done_rel)

-- room for as many on either side
make_equal_room_rel : {V : World} {vs ws : List Value} (a b : ObjId) → Named V a.0 b.0 → (n k less : ℕ) → Each (ValueRel (named V)) vs ws
    → Agrees V (list.make_room a n k less (length vs)) (list.make_room b n k less (length ws))
make_equal_room_rel {V = V} {vs = vs} a b m n k less h =
    subst (λ z. Agrees V (list.make_room a n k less (length vs)) (list.make_room b n k less z)) (length_same h) (make_room_rel a b m n k less (length vs))

splice_at_rel : {V : World} {vs ws : List Value} (a b : ObjId) → Named V a.0 b.0 → (n : ℕ) (c d : ObjId) → Named V c.0 d.0 → (k less : ℕ) → Each (ValueRel (named V)) vs ws
    → Agrees V (list.splice_at a n c k less vs) (list.splice_at b n d k less ws)
splice_at_rel a b m n c d e k less h = also_rel (copy_all_rel a b m k c d e 0 less)
    (λ W l v w r. also_rel (make_equal_room_rel a b (named_up l m) n k less (values_up l h))
    (λ X j x y f. also_rel (put_longer_rel a b (named_up (larger_more l j) m) k (values_up (larger_more l j) h) (n - less))
    (λ Y i p q g. give_rel (object_value_rel c d (named_up (larger_more l (larger_more j i)) e)))))

splice_from_rel : {V : World} {vs ws : List Value} {p q : Option ℤ} (a b : ObjId) → Named V a.0 b.0 → (n : ℕ) (c d : ObjId) → Named V c.0 d.0 → Each (ValueRel (named V)) vs ws → (x y : Option ℤ)
    → x ≡ y → p ≡ q → Agrees V (list.splice_from a n c vs (list.place_in n x) p) (list.splice_from b n d ws (list.place_in n y) q)
splice_from_rel {V = V} {vs = vs} {ws = ws} {p = p} {q = q} a b m n c d e h x y r f =
    subst (λ z. Agrees V (list.splice_from a n c vs (list.place_in n x) p) (list.splice_from b n d ws (list.place_in n z) q)) r
    (subst (λ z. Agrees V (list.splice_from a n c vs (list.place_in n x) p) (list.splice_from b n d ws (list.place_in n x) z)) f
    (splice_at_rel a b m n c d e (list.place_in n x) (list.count_in (n - list.place_in n x) p) (drop_rel 2 h)))

splice_with_rel : {V : World} {vs ws : List Value} (c d : Calls) (a b : ObjId) → Named V a.0 b.0 → (n : ℕ) (e f : ObjId) → Named V e.0 f.0 → Each (ValueRel (named V)) vs ws
    → Agrees V (list.splice_with c a n e vs) (list.splice_with d b n f ws)
splice_with_rel c d a b m n e f g h = also_rel (to_number_rel c d (argument_rel h 0)) (λ W l v w r. also_rel (to_number_rel c d (value_up l (argument_rel h 1)))
    (λ X j x y s. splice_from_rel a b (named_up (larger_more l j) m) n e f (named_up (larger_more l j) g) (values_up (larger_more l j) h) (number_in v) (number_in w) (number_same r) (number_same s)))

pub splice_rel : {V : World} {vs ws : List Value} (c d : Calls) (a b : ObjId) → Named V a.0 b.0 → (k : ℕ) → Each (ValueRel (named V)) vs ws → Agrees V (list.splice c a k vs) (list.splice d b k ws)
splice_rel c d a b n k h = bind_rel new_list_rel (λ W l e f m. splice_with_rel c d a b (named_up l n) k e f m (values_up l h))

move_by_length_rel : {V : World} {vs ws : List Value} (a b : ObjId) → Named V a.0 b.0 → (k : ℕ) → Each (ValueRel (named V)) vs ws → Agrees V (list.move_up a 0 (length vs) k) (list.move_up b 0 (length ws) k)
move_by_length_rel {V = V} {vs = vs} a b n k h = subst (λ z. Agrees V (list.move_up a 0 (length vs) k) (list.move_up b 0 z k)) (length_same h) (move_up_rel a b n 0 (length vs) k)

pub unshift_rel : {V : World} {vs ws : List Value} (a b : ObjId) → Named V a.0 b.0 → (k : ℕ) → Each (ValueRel (named V)) vs ws → Agrees V (list.unshift a k vs) (list.unshift b k ws)
unshift_rel a b n k h = also_rel (move_by_length_rel a b n k h) (λ W l v w r. put_longer_rel a b (named_up l n) 0 (values_up l h) k)

-- ---- indexOf and lastIndexOf

-- values that are related are the same as each other on both sides or on neither
none_same : (v : Value) (a b : ObjId) → is_object v ≡ false → same_of v (value.Object a) ≡ same_of v (value.Object b)
none_same (value.Object c) a b e = absurd (cc e)
none_same v a b e = refl

plain_same : {V : World} {x y : Value} (v : Value) → is_object v ≡ false → ValueRel (named V) x y → same_of v x ≡ same_of v y
plain_same v e (object {a = a} {b = b} n) = none_same v a b e
plain_same v e h = refl

object_same : {V : World} {x y : Value} (a b : ObjId) → IsOneToOne (named V) → Named V a.0 b.0 → ValueRel (named V) x y → same_of (value.Object a) x ≡ same_of (value.Object b) y
object_same a b o m (object {a = c} {b = d} n) = o.same a.0 b.0 c.0 d.0 m n
object_same a b o m h = refl

pub same_of_same : {V : World} {v w x y : Value} → IsOneToOne (named V) → ValueRel (named V) v w → ValueRel (named V) x y → same_of v x ≡ same_of w y
same_of_same o (object {a = a} {b = b} m) k = object_same a b o m k
same_of_same {v = v} o h k = plain_same v refl k

-- what is read is related, and what is the same is so on both sides
record ReadRel (W : World) (o p : Option Value) : Type 0 where
  values : Maybe (ValueRel (named W)) o p
  one_to_one : IsOneToOne (named W)

is_there_same : {V : World} {v w : Value} {o p : Option Value} → IsOneToOne (named V) → ValueRel (named V) v w → Maybe (ValueRel (named V)) o p → list.is_there v o ≡ list.is_there w p
is_there_same u h none = refl
is_there_same u h (some k) = same_of_same u h k

not_found_rel : {V : World} → Agrees V list.not_found list.not_found
not_found_rel = give_rel num

-- the element at an index is the value, or the search goes on
found_rel : {V : World} {v w : Value} {p q : Act} (a b : ObjId) → Named V a.0 b.0 → ValueRel (named V) v w → (k : ℕ) → ((W : World) → Larger V W → Agrees W p q)
    → Agrees V (asking (element a k) (λ e. choose (list.is_there v e) (give (number k)) p)) (asking (element b k) (λ e. choose (list.is_there w e) (give (number k)) q))
found_rel a b n h k f = asking_rel {R = ReadRel} (λ W l s t g. record { values = element_rel g a b (named_up l n) k; one_to_one = g.heap.objects.one_to_one })
    (λ W l o p r. choose_rel _ _ (is_there_same r.one_to_one (value_up l h) r.values) (give_rel num) (f W l))

find_up_rel : {V : World} {v w : Value} (a b : ObjId) → Named V a.0 b.0 → ValueRel (named V) v w → (k m : ℕ) → Agrees V (list.find_up a v k m) (list.find_up b w k m)
find_up_rel a b n h k zero = not_found_rel
find_up_rel a b n h k (suc m) = bind_rel take_step_rel (λ W l i j e. found_rel a b (named_up l n) (value_up l h) k
    (λ X o. find_up_rel a b (named_up (larger_more l o) n) (value_up (larger_more l o) h) (suc k) m))

find_at_rel : {V : World} {v w : Value} {p q : Option ℤ} (a b : ObjId) → Named V a.0 b.0 → (k : ℕ) → ValueRel (named V) v w → p ≡ q
    → Agrees V (list.find_up a v (list.place_in k p) (k - list.place_in k p)) (list.find_up b w (list.place_in k q) (k - list.place_in k q))
find_at_rel {V = V} {v = v} {w = w} {p = p} a b n k h e =
    subst (λ z. Agrees V (list.find_up a v (list.place_in k p) (k - list.place_in k p)) (list.find_up b w (list.place_in k z) (k - list.place_in k z))) e
    (find_up_rel a b n h (list.place_in k p) (k - list.place_in k p))

find_from_rel : {V : World} {v w x y : Value} (c d : Calls) (a b : ObjId) → Named V a.0 b.0 → (k : ℕ) → ValueRel (named V) v w → ValueRel (named V) x y
    → Agrees V (list.find_from c a k v x) (list.find_from d b k w y)
find_from_rel c d a b n k h r = also_rel (to_number_rel c d r) (λ W l p q e. find_at_rel a b (named_up l n) k (value_up l h) (number_same e))

pub index_of_rel : {V : World} {vs ws : List Value} (c d : Calls) (a b : ObjId) → Named V a.0 b.0 → (k : ℕ) → Each (ValueRel (named V)) vs ws → Agrees V (list.index_of c a k vs) (list.index_of d b k ws)
index_of_rel c d a b n zero h = not_found_rel
index_of_rel c d a b n (suc k) h = find_from_rel c d a b n (suc k) (argument_rel h 0) (argument_rel h 1)

find_down_rel : {V : World} {v w : Value} (a b : ObjId) → Named V a.0 b.0 → ValueRel (named V) v w → (k : ℕ) → Agrees V (list.find_down a v k) (list.find_down b w k)
find_down_rel a b n h zero = not_found_rel
find_down_rel a b n h (suc k) = bind_rel take_step_rel (λ W l i j e. found_rel a b (named_up l n) (value_up l h) k
    (λ X o. find_down_rel a b (named_up (larger_more l o) n) (value_up (larger_more l o) h) k))

find_down_to_rel : {V : World} {v w : Value} {p q : Option ℤ} (a b : ObjId) → Named V a.0 b.0 → (k : ℕ) → ValueRel (named V) v w → p ≡ q
    → Agrees V (list.find_down a v (list.count_to k p)) (list.find_down b w (list.count_to k q))
find_down_to_rel {V = V} {v = v} {w = w} {p = p} a b n k h e =
    subst (λ z. Agrees V (list.find_down a v (list.count_to k p)) (list.find_down b w (list.count_to k z))) e (find_down_rel a b n h (list.count_to k p))

find_to_rel : {V : World} {v w x y : Value} (c d : Calls) (a b : ObjId) → Named V a.0 b.0 → (k : ℕ) → ValueRel (named V) v w → ValueRel (named V) x y
    → Agrees V (list.find_to c a k v x) (list.find_to d b k w y)
find_to_rel c d a b n k h r = also_rel (to_number_rel c d r) (λ W l p q e. find_down_to_rel a b (named_up l n) k (value_up l h) (number_same e))

pub last_index_of_rel : {V : World} {vs ws : List Value} (c d : Calls) (a b : ObjId) → Named V a.0 b.0 → (k : ℕ) → Each (ValueRel (named V)) vs ws → Agrees V (list.last_index_of c a k vs) (list.last_index_of d b k ws)
last_index_of_rel c d a b n zero h = not_found_rel
last_index_of_rel c d a b n (suc k) (each h (each r hs)) = find_to_rel c d a b n (suc k) h r
last_index_of_rel c d a b n (suc k) (each h no_more) = find_down_rel a b n (argument_rel (each h no_more) 0) (suc k)
last_index_of_rel c d a b n (suc k) no_more = find_down_rel a b n (argument_rel no_more 0) (suc k)
