-- What calls back for the elements of an array (sections 15.4.4.16 to 15.4.4.21).
use Rattle.std.proofs.Common.{ℕ, zero, suc, ◌+◌, ◌≤◌, List, true, false, arith}
use Rattle.std.specs.Prelude.{[], ◌∷◌}
use Rattle.js_core.specs.Whole.{largest}
use Rattle.js_values.specs.declared.built_in.BuiltIn.{BuiltIn}
use Rattle.js_values.specs.declared.built_in.BuiltIn.TheVariants as built_in
use Rattle.js_values.specs.declared.ids.ObjId.{ObjId}
use Rattle.js_values.specs.declared.throw.Throw.TheVariants.{WrongArgument}
use Rattle.js_values.specs.declared.value.Value.{Value}
use Rattle.js_values.specs.declared.value.Value.TheVariants.{Undefined, Bool as Truth}
use Rattle.whole_ops.specs.Conversions.{is_true}
use Rattle.page_meaning.specs.Act.{Act, Calls}
use Rattle.page_meaning.specs.FunctionRows.{is_callable}
use Rattle.page_meaning.specs.ObjectRows.{argument}
use Rattle.page_meaning.specs.VisitRows.{arguments_of, filter_all, map_all, past_last, reduce, reduce_from, this_of, told, visit_list, visit_on, visit_row, visits}
use Rattle.page_meaning.specs.declared.visit.Visit.{Visit}
use Rattle.page_meaning.specs.declared.visit.Visit.TheVariants as visit
use Rattle.literal_values.specs.Values.{AreBounded, IsBounded}
use Rattle.written_pages.proofs.Acts.{also_is, asking_any, bind_is, choose_is, give_is, stepped_is}
use Rattle.written_pages.proofs.Elements.{define_element_is, on_element_is, on_found_is, on_length_is, on_list_is, set_length_is}
use Rattle.written_pages.proofs.Made.{new_list_is}
use Rattle.written_pages.proofs.ObjectRows.{argument_is}
use Rattle.written_pages.proofs.Primitives.{raise_is}
use Rattle.written_pages.specs.Acts.{CallsAre, Writes}

-- what was accumulated is bounded
abbrev pub VisitIs : Visit → Type 0
VisitIs (visit.Reduce total) = IsBounded total
VisitIs kind = Unit {0}

this_bounded : (kind : Visit) (this : Value) → IsBounded this → IsBounded (this_of kind this)
this_bounded visit.Every this h = h
this_bounded visit.Some this h = h
this_bounded visit.ForEach this h = h
this_bounded (visit.Map a) this h = h
this_bounded (visit.Filter a to) this h = h
this_bounded (visit.Reduce total) this h = tt

arguments_bounded : (kind : Visit) (v : Value) (k : ℕ) (at : ObjId) → k ≤ largest → VisitIs kind → IsBounded v → AreBounded (arguments_of kind v k at)
arguments_bounded visit.Every v k at short i h = (h, (short, (tt, tt)))
arguments_bounded visit.Some v k at short i h = (h, (short, (tt, tt)))
arguments_bounded visit.ForEach v k at short i h = (h, (short, (tt, tt)))
arguments_bounded (visit.Map a) v k at short i h = (h, (short, (tt, tt)))
arguments_bounded (visit.Filter a to) v k at short i h = (h, (short, (tt, tt)))
arguments_bounded (visit.Reduce total) v k at short i h = (i, (h, (short, (tt, tt))))

last_bounded : (kind : Visit) → VisitIs kind → IsBounded (past_last kind)
last_bounded visit.Every i = tt
last_bounded visit.Some i = tt
last_bounded visit.ForEach i = tt
last_bounded (visit.Map a) i = tt
last_bounded (visit.Filter a to) i = tt
last_bounded (visit.Reduce total) i = i

told_is : (kind : Visit) (v : Value) (k : ℕ) (w : Value) (next : Visit → Act) → VisitIs kind → IsBounded v → IsBounded w → ((x : Visit) → VisitIs x → Writes (next x))
    → Writes (told kind v k w next)
told_is visit.Every v k w next i h g on = choose_is (is_true w) (on visit.Every tt) (give_is (Truth false) tt)
told_is visit.Some v k w next i h g on = choose_is (is_true w) (give_is (Truth true) tt) (on visit.Some tt)
told_is visit.ForEach v k w next i h g on = on visit.ForEach tt
told_is (visit.Map a) v k w next i h g on = also_is (define_element_is a k w g) (λ u p. on (visit.Map a) tt)
told_is (visit.Filter a to) v k w next i h g on =
    choose_is (is_true w) (also_is (define_element_is a to v h) (λ u p. on (visit.Filter a (suc to)) tt)) (on (visit.Filter a to) tt)
told_is (visit.Reduce total) v k w next i h g on = on (visit.Reduce w) g

visits_is : {calls : Calls} → CallsAre calls → (f this : Value) (at : ObjId) (kind : Visit) (k m : ℕ) → k + m ≤ largest → IsBounded this → VisitIs kind
    → Writes (visits calls f this at kind k m)
visits_is c f this at kind k zero short h i = give_is (past_last kind) (last_bounded kind i)
visits_is {calls = calls} c f this at kind k (suc m) short h i =
    stepped_is (λ u. on_found_is at k (λ o p. on_element_is o p (visits_is c f this at kind (suc k) m (omega (arith, short)) h i) (λ v q.
    also_is (c.call f (this_of kind this) (arguments_of kind v k at) (this_bounded kind this h) (arguments_bounded kind v k at (omega (arith, short)) i q)) (λ w r.
    told_is kind v k w (λ next. visits calls f this at next (suc k) m) i q r (λ next j. visits_is c f this at next (suc k) m (omega (arith, short)) h j)))))

-- ---- reduce

reduce_from_is : {calls : Calls} → CallsAre calls → (f : Value) (at : ObjId) (k m : ℕ) → k + m ≤ largest → Writes (reduce_from calls f at k m)
reduce_from_is c f at k zero short = raise_is WrongArgument tt
reduce_from_is c f at k (suc m) short =
    stepped_is (λ u. on_found_is at k (λ o p. on_element_is o p (reduce_from_is c f at (suc k) m (omega (arith, short))) (λ v q. visits_is c f Undefined at (visit.Reduce v) (suc k) m (omega (arith, short)) tt q)))

reduce_is : {calls : Calls} → CallsAre calls → (at : ObjId) (n : ℕ) (vs : List Value) → n ≤ largest → AreBounded vs → Writes (reduce calls at n vs)
reduce_is c at n [] short h = reduce_from_is c (argument [] 0) at 0 n (omega (arith, short))
reduce_is c at n (f ∷ []) short h = reduce_from_is c f at 0 n (omega (arith, short))
reduce_is c at n (f ∷ total ∷ vs) short h = visits_is c f Undefined at (visit.Reduce total) 0 n (omega (arith, short)) tt h.1.0

-- ---- the others

map_all_is : {calls : Calls} → CallsAre calls → (f this : Value) (at : ObjId) (n : ℕ) → n ≤ largest → IsBounded this → Writes (map_all calls f this at n)
map_all_is c f this at n short h = bind_is new_list_is (λ a p. also_is (set_length_is a n short) (λ v q. visits_is c f this at (visit.Map a) 0 n (omega (arith, short)) h tt))

filter_all_is : {calls : Calls} → CallsAre calls → (f this : Value) (at : ObjId) (n : ℕ) → n ≤ largest → IsBounded this → Writes (filter_all calls f this at n)
filter_all_is c f this at n short h = bind_is new_list_is (λ a p. visits_is c f this at (visit.Filter a 0) 0 n (omega (arith, short)) h tt)

visit_list_is : {calls : Calls} → CallsAre calls → (which : BuiltIn) (at : ObjId) (n : ℕ) (vs : List Value) → n ≤ largest → AreBounded vs → Writes (visit_list calls which at n vs)
visit_list_is c built_in.ArrayPrototypeEvery at n vs short h = visits_is c (argument vs 0) (argument vs 1) at visit.Every 0 n (omega (arith, short)) (argument_is vs 1 h) tt
visit_list_is c built_in.ArrayPrototypeSome at n vs short h = visits_is c (argument vs 0) (argument vs 1) at visit.Some 0 n (omega (arith, short)) (argument_is vs 1 h) tt
visit_list_is c built_in.ArrayPrototypeForEach at n vs short h = visits_is c (argument vs 0) (argument vs 1) at visit.ForEach 0 n (omega (arith, short)) (argument_is vs 1 h) tt
visit_list_is c built_in.ArrayPrototypeMap at n vs short h = map_all_is c (argument vs 0) (argument vs 1) at n short (argument_is vs 1 h)
visit_list_is c built_in.ArrayPrototypeFilter at n vs short h = filter_all_is c (argument vs 0) (argument vs 1) at n short (argument_is vs 1 h)
visit_list_is c built_in.ArrayPrototypeReduce at n vs short h = reduce_is c at n vs short h
visit_list_is c which at n vs short h = raise_is WrongArgument tt

visit_on_is : {calls : Calls} → CallsAre calls → (which : BuiltIn) (vs : List Value) → AreBounded vs → (at : ObjId) → Writes (visit_on calls which vs at)
visit_on_is c which vs h at =
    on_length_is at (λ n short. asking_any {f = is_callable (argument vs 0)} (λ b. choose_is b (visit_list_is c which at n vs short h) (raise_is WrongArgument tt)))

pub visit_row_is : {calls : Calls} → CallsAre calls → (which : BuiltIn) (this : Value) (vs : List Value) → AreBounded vs → Writes (visit_row calls which this vs)
visit_row_is c which this vs h = on_list_is this (λ at. visit_on_is c which vs h at)
