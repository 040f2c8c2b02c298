-- What calls back for the elements of an array (sections 15.4.4.16 to 15.4.4.21).
use Rattle.std.proofs.Common.{◌≡◌, subst, ℕ, zero, suc, List}
use Rattle.js_values.specs.declared.built_in.BuiltIn.{BuiltIn}
use Rattle.js_values.specs.declared.built_in.BuiltIn.TheVariants as built_in
use Rattle.js_values.specs.declared.ids.ObjId.{ObjId}
use Rattle.js_values.specs.declared.throw.Throw.TheVariants.{WrongArgument}
use Rattle.js_values.specs.declared.value.Value.{Value}
use Rattle.js_values.specs.declared.value.Value.TheVariants as value
use Rattle.whole_ops.specs.Conversions.{is_true}
use Rattle.page_meaning.specs.Act.{Act, Calls, also}
use Rattle.page_meaning.specs.ObjectRows.{argument}
use Rattle.page_meaning.specs.VisitRows.{arguments_of, filter_all, map_all, past_last, reduce, reduce_from, this_of, told, visit_list, visit_on, visit_row, visits}
use Rattle.page_meaning.specs.declared.visit.Visit.{Visit}
use Rattle.page_meaning.specs.declared.visit.Visit.TheVariants as visit
use Rattle.heap_relations.proofs.Callers.{larger_more, larger_same}
use Rattle.heap_relations.specs.Naming.{Larger, Named, named, World}
use Rattle.heap_relations.specs.Related.{Each, Maybe, ValueRel, each, no_more, num, truth, undefined}
use Rattle.agreement.specs.Acts.{Agrees, CallsRel, Equal}
use Rattle.agreement.proofs.Acts.{also_rel, asking_rel, bind_rel, choose_rel}
use Rattle.agreement.proofs.Called.{calls_up, is_callable_same, is_true_same}
use Rattle.agreement.proofs.Elements.{define_element_rel, element_rel, length_of_same, on_element_rel, on_list_rel, set_length_rel}
use Rattle.agreement.proofs.Heap.{named_up, take_step_rel, value_up, values_up}
use Rattle.agreement.proofs.Made.{new_list_rel}
use Rattle.agreement.proofs.ObjectRows.{argument_rel}
use Rattle.agreement.proofs.Values.{give_rel, object_value_rel, raise_rel}

-- visits of the same kind, with arrays that are named and totals that are related
pub data VisitRel (W : World) : Visit → Visit → Type 0 where
  every : VisitRel W visit.Every visit.Every
  any : VisitRel W visit.Some visit.Some
  for_each : VisitRel W visit.ForEach visit.ForEach
  mapped : {a b : ObjId} → Named W a.0 b.0 → VisitRel W (visit.Map a) (visit.Map b)
  filtered : {a b : ObjId} {to : ℕ} → Named W a.0 b.0 → VisitRel W (visit.Filter a to) (visit.Filter b to)
  reduced : {v w : Value} → ValueRel (named W) v w → VisitRel W (visit.Reduce v) (visit.Reduce w)

pub visit_up : {V W : World} {x y : Visit} → Larger V W → VisitRel V x y → VisitRel W x y
visit_up l every = every
visit_up l any = any
visit_up l for_each = for_each
visit_up l (mapped n) = mapped (named_up l n)
visit_up l (filtered n) = filtered (named_up l n)
visit_up l (reduced h) = reduced (value_up l h)

this_of_rel : {V : World} {x y : Visit} {this that : Value} → VisitRel V x y → ValueRel (named V) this that → ValueRel (named V) (this_of x this) (this_of y that)
this_of_rel every h = h
this_of_rel any h = h
this_of_rel for_each h = h
this_of_rel (mapped n) h = h
this_of_rel (filtered n) h = h
this_of_rel (reduced k) h = undefined

-- the element, its index and the array
three_rel : {V : World} {v w : Value} (k : ℕ) (a b : ObjId) → ValueRel (named V) v w → Named V a.0 b.0 → Each (ValueRel (named V)) (arguments_of visit.Every v k a) (arguments_of visit.Every w k b)
three_rel k a b h n = each h (each num (each (object_value_rel a b n) no_more))

arguments_of_rel : {V : World} {x y : Visit} {v w : Value} (k : ℕ) (a b : ObjId) → VisitRel V x y → ValueRel (named V) v w → Named V a.0 b.0
    → Each (ValueRel (named V)) (arguments_of x v k a) (arguments_of y w k b)
arguments_of_rel k a b every h n = three_rel k a b h n
arguments_of_rel k a b any h n = three_rel k a b h n
arguments_of_rel k a b for_each h n = three_rel k a b h n
arguments_of_rel k a b (mapped m) h n = three_rel k a b h n
arguments_of_rel k a b (filtered m) h n = three_rel k a b h n
arguments_of_rel k a b (reduced t) h n = each t (three_rel k a b h n)

past_last_rel : {V : World} {x y : Visit} → VisitRel V x y → ValueRel (named V) (past_last x) (past_last y)
past_last_rel every = truth
past_last_rel any = truth
past_last_rel for_each = undefined
past_last_rel {x = visit.Map a} {y = visit.Map b} (mapped n) = object_value_rel a b n
past_last_rel {x = visit.Filter a i} {y = visit.Filter b j} (filtered n) = object_value_rel a b n
past_last_rel (reduced h) = h

-- what goes on with the visit as it is then
abbrev pub GoesOn : World → (Visit → Act) → (Visit → Act) → Type 0
GoesOn V f g = (W : World) → Larger V W → (x y : Visit) → VisitRel W x y → Agrees W (f x) (g y)

told_rel : {V : World} {x y : Visit} {v w : Value} {f g : Visit → Act} (k : ℕ) (p q : Value) → VisitRel V x y → ValueRel (named V) v w → ValueRel (named V) p q → GoesOn V f g
    → Agrees V (told x v k p f) (told y w k q g)
told_rel k p q every h r next = choose_rel (is_true p) (is_true q) (is_true_same r) (next _ larger_same _ _ every) (give_rel truth)
told_rel k p q any h r next = choose_rel (is_true p) (is_true q) (is_true_same r) (give_rel truth) (next _ larger_same _ _ any)
told_rel k p q for_each h r next = next _ larger_same _ _ for_each
told_rel {x = visit.Map a} {y = visit.Map b} k p q (mapped n) h r next = also_rel (define_element_rel a b n k r) (λ W l u v e. next W l _ _ (mapped (named_up l n)))
told_rel {x = visit.Filter a i} {y = visit.Filter b j} k p q (filtered n) h r next =
    choose_rel (is_true p) (is_true q) (is_true_same r) (also_rel (define_element_rel a b n i h) (λ W l u v e. next W l _ _ (filtered (named_up l n))))
    (next _ larger_same _ _ (filtered n))
told_rel k p q (reduced t) h r next = next _ larger_same _ _ (reduced r)

-- what is related at all turns of a visit
record Visiting (V : World) (c d : Calls) (f g this that : Value) (a b : ObjId) : Type 0 where
  calls : CallsRel V c d
  callback : ValueRel (named V) f g
  receiver : ValueRel (named V) this that
  array : Named V a.0 b.0

visiting_up : {V W : World} {c d : Calls} {f g this that : Value} {a b : ObjId} → Larger V W → Visiting V c d f g this that a b → Visiting W c d f g this that a b
visiting_up l r = record { calls = calls_up l r.calls; callback = value_up l r.callback; receiver = value_up l r.receiver; array = named_up l r.array }

-- an element, and what goes on after it
one_rel : {V : World} {c d : Calls} {f g this that v w : Value} {x y : Visit} (a b : ObjId) (k : ℕ) {p q : Visit → Act} → Visiting V c d f g this that a b → VisitRel V x y → ValueRel (named V) v w → GoesOn V p q
    → Agrees V (also (c.call f (this_of x this) (arguments_of x v k a)) (λ r. told x v k r p)) (also (d.call g (this_of y that) (arguments_of y w k b)) (λ r. told y w k r q))
one_rel a b k r z h next =
    also_rel (r.calls.call _ larger_same r.callback (this_of_rel z r.receiver) (arguments_of_rel k a b z h r.array))
    (λ W l v w e. told_rel k v w (visit_up l z) (value_up l h) e (λ X j. next X (larger_more l j)))

turn_rel : {V : World} {c d : Calls} {f g this that : Value} {x y : Visit} (a b : ObjId) (k m : ℕ) → Visiting V c d f g this that a b → VisitRel V x y
    → GoesOn V (λ u. visits c f this a u (suc k) m) (λ u. visits d g that b u (suc k) m) → Agrees V (visits c f this a x k (suc m)) (visits d g that b y k (suc m))
turn_rel a b k m r z next =
    bind_rel take_step_rel (λ W l u v e. asking_rel {R = λ X. Maybe (ValueRel (named X))} (λ X j s t g. element_rel g a b (named_up (larger_more l j) r.array) k)
    (λ X j o p h. on_element_rel (next X (larger_more l j) _ _ (visit_up (larger_more l j) z))
    (λ Y i v w e. one_rel a b k (visiting_up (larger_more l (larger_more j i)) r) (visit_up (larger_more l (larger_more j i)) z) e (λ Z q. next Z (larger_more l (larger_more j (larger_more i q))))) h))

visits_rel : {V : World} {c d : Calls} {f g this that : Value} {x y : Visit} (a b : ObjId) (k m : ℕ) → Visiting V c d f g this that a b → VisitRel V x y
    → Agrees V (visits c f this a x k m) (visits d g that b y k m)
visits_rel a b k zero r z = give_rel (past_last_rel z)
visits_rel a b k (suc m) r z = turn_rel a b k m r z (λ W l x y u. visits_rel a b (suc k) m (visiting_up l r) u)

-- ---- reduce

-- `this` is undefined
without_this : {V : World} {c d : Calls} {f g : Value} {a b : ObjId} → CallsRel V c d → ValueRel (named V) f g → Named V a.0 b.0 → Visiting V c d f g value.Undefined value.Undefined a b
without_this calls h n = record { calls = calls; callback = h; receiver = undefined; array = n }

reduce_from_rel : {V : World} {f g : Value} (c d : Calls) (a b : ObjId) (k m : ℕ) → CallsRel V c d → ValueRel (named V) f g → Named V a.0 b.0
    → Agrees V (reduce_from c f a k m) (reduce_from d g b k m)
reduce_from_rel c d a b k zero calls h n = raise_rel WrongArgument
reduce_from_rel c d a b k (suc m) calls h n =
    bind_rel take_step_rel (λ W l u v e. asking_rel {R = λ X. Maybe (ValueRel (named X))} (λ X j s t g. element_rel g a b (named_up (larger_more l j) n) k)
    (λ X j o p r. on_element_rel (reduce_from_rel c d a b (suc k) m (calls_up (larger_more l j) calls) (value_up (larger_more l j) h) (named_up (larger_more l j) n))
    (λ Y i v w e. visits_rel a b (suc k) m (visiting_up (larger_more l (larger_more j i)) (without_this calls h n)) (reduced e)) r))

reduce_rel : {V : World} {vs ws : List Value} (c d : Calls) (a b : ObjId) (m : ℕ) → CallsRel V c d → Each (ValueRel (named V)) vs ws → Named V a.0 b.0
    → Agrees V (reduce c a m vs) (reduce d b m ws)
reduce_rel c d a b m calls no_more n = reduce_from_rel c d a b 0 m calls (argument_rel no_more 0) n
reduce_rel c d a b m calls (each h no_more) n = reduce_from_rel c d a b 0 m calls (argument_rel (each h no_more) 0) n
reduce_rel c d a b m calls (each h (each t hs)) n = visits_rel a b 0 m (without_this calls h n) (reduced t)

-- ---- the others

-- they take a function and what `this` is in it
with_this : {V : World} {c d : Calls} {vs ws : List Value} {a b : ObjId} → CallsRel V c d → Each (ValueRel (named V)) vs ws → Named V a.0 b.0
    → Visiting V c d (argument vs 0) (argument ws 0) (argument vs 1) (argument ws 1) a b
with_this calls hs n = record { calls = calls; callback = argument_rel hs 0; receiver = argument_rel hs 1; array = n }

map_all_rel : {V : World} {c d : Calls} {f g this that : Value} (a b : ObjId) (m : ℕ) → Visiting V c d f g this that a b → Agrees V (map_all c f this a m) (map_all d g that b m)
map_all_rel a b m r =
    bind_rel new_list_rel (λ W l p q n. also_rel (set_length_rel p q n m)
    (λ X j v w e. visits_rel a b 0 m (visiting_up (larger_more l j) r) (mapped (named_up j n))))

filter_all_rel : {V : World} {c d : Calls} {f g this that : Value} (a b : ObjId) (m : ℕ) → Visiting V c d f g this that a b → Agrees V (filter_all c f this a m) (filter_all d g that b m)
filter_all_rel a b m r = bind_rel new_list_rel (λ W l p q n. visits_rel a b 0 m (visiting_up l r) (filtered n))

visit_list_rel : {V : World} {vs ws : List Value} (c d : Calls) (which : BuiltIn) (a b : ObjId) (m : ℕ) → CallsRel V c d → Each (ValueRel (named V)) vs ws → Named V a.0 b.0
    → Agrees V (visit_list c which a m vs) (visit_list d which b m ws)
visit_list_rel c d built_in.ArrayPrototypeEvery a b m calls hs n = visits_rel a b 0 m (with_this calls hs n) every
visit_list_rel c d built_in.ArrayPrototypeSome a b m calls hs n = visits_rel a b 0 m (with_this calls hs n) any
visit_list_rel c d built_in.ArrayPrototypeForEach a b m calls hs n = visits_rel a b 0 m (with_this calls hs n) for_each
visit_list_rel c d built_in.ArrayPrototypeMap a b m calls hs n = map_all_rel a b m (with_this calls hs n)
visit_list_rel c d built_in.ArrayPrototypeFilter a b m calls hs n = filter_all_rel a b m (with_this calls hs n)
visit_list_rel c d built_in.ArrayPrototypeReduce a b m calls hs n = reduce_rel c d a b m calls hs n
visit_list_rel c d which a b m calls hs n = raise_rel WrongArgument

-- of the same length
same_length_rel : {V : World} {vs ws : List Value} (c d : Calls) (which : BuiltIn) (a b : ObjId) (i m : ℕ) → i ≡ m → CallsRel V c d → Each (ValueRel (named V)) vs ws → Named V a.0 b.0
    → Agrees V (visit_list c which a i vs) (visit_list d which b m ws)
same_length_rel {V = V} {vs = vs} {ws = ws} c d which a b i m e calls hs n =
    subst (λ k. Agrees V (visit_list c which a i vs) (visit_list d which b k ws)) e (visit_list_rel c d which a b i calls hs n)

visit_on_rel : {V : World} {vs ws : List Value} (c d : Calls) (which : BuiltIn) (a b : ObjId) → CallsRel V c d → Each (ValueRel (named V)) vs ws → Named V a.0 b.0
    → Agrees V (visit_on c which vs a) (visit_on d which ws b)
visit_on_rel c d which a b calls hs n =
    asking_rel {R = Equal} (λ W l s t g. length_of_same g a b (named_up l n)) (λ W l i m e.
    asking_rel {R = Equal} (λ X j s t g. is_callable_same g (argument_rel (values_up (larger_more l j) hs) 0)) (λ X j p q u. choose_rel p q u
    (same_length_rel c d which a b i m e (calls_up (larger_more l j) calls) (values_up (larger_more l j) hs) (named_up (larger_more l j) n)) (raise_rel WrongArgument)))

pub visit_row_rel : {V : World} {this that : Value} {vs ws : List Value} (c d : Calls) (which : BuiltIn) → CallsRel V c d → ValueRel (named V) this that → Each (ValueRel (named V)) vs ws
    → Agrees V (visit_row c which this vs) (visit_row d which that ws)
visit_row_rel c d which calls h hs = on_list_rel h (λ W l a b n. visit_on_rel c d which a b (calls_up l calls) (values_up l hs) n)
