-- Acts are put together.
use Rattle.std.proofs.Common.{◌≡◌, Bool, true, false}
use Rattle.js_values.specs.declared.value.Value.{Value}
use Rattle.page_meaning.specs.Act.{Act, ActOf, Outcome, also, asking, bind, choose, give, on_value, ret, then_on}
use Rattle.page_meaning.specs.Store.{Store}
use Rattle.page_meaning.specs.declared.signal.Signal.{Signal}
use Rattle.heap_relations.proofs.Callers.{larger_more, larger_same}
use Rattle.heap_relations.specs.Naming.{Larger, named, World}
use Rattle.heap_relations.specs.Related.{IsOneToOne}
use Rattle.agreement.proofs.Heap.{value_up}
use Rattle.agreement.specs.Acts.{ActRel, Agrees, Continues, HasBuiltIns, OutcomeRel, Relation, SignalRel, StoreRel, break, continue, ended, return, stopped, thrown, value}

pub outcome_up : {A : Type 0} {R : Relation A} {U V : World} {o p : Outcome A} → Larger U V → OutcomeRel R V o p → OutcomeRel R U o p
outcome_up l (ended W m h g) = ended W (larger_more l m) h g
outcome_up l (stopped W m g) = stopped W (larger_more l m) g

pub ret_rel : {A : Type 0} {R : Relation A} {V : World} {a b : A} → ((W : World) → Larger V W → R W a b) → ActRel R V (ret a) (ret b)
ret_rel h = record { run = λ W l s t n g. ended W larger_same (h W l) g }

pub then_rel : {A B : Type 0} {R : Relation A} {S : Relation B} {V : World} {o p : Outcome A} {f g : A → ActOf B} → OutcomeRel R V o p
    → ((W : World) → Larger V W → (a b : A) → R W a b → ActRel S W (f a) (g b)) → OutcomeRel S V (then_on o f) (then_on p g)
then_rel (ended {a = a} {b = b} {s = s} {t = t} {n = n} W l h k) f = outcome_up l ((f W l a b h).run W larger_same s t n k)
then_rel (stopped W l k) f = stopped W l k

pub bind_rel : {A B : Type 0} {R : Relation A} {S : Relation B} {V : World} {p q : ActOf A} {f g : A → ActOf B} → ActRel R V p q
    → ((W : World) → Larger V W → (a b : A) → R W a b → ActRel S W (f a) (g b)) → ActRel S V (bind p f) (bind q g)
bind_rel m f = record { run = λ W l s t n k. then_rel (m.run W l s t n k) (λ X j a b h. f X (larger_more l j) a b h) }

pub asking_rel : {A B : Type 0} {R : Relation A} {S : Relation B} {V : World} {a b : Store → A} {f g : A → ActOf B}
    → ((W : World) → Larger V W → (s t : Store) → StoreRel W s t → R W (a s) (b t))
    → ((W : World) → Larger V W → (x y : A) → R W x y → ActRel S W (f x) (g y)) → ActRel S V (asking a f) (asking b g)
asking_rel h k = record { run = λ W l s t n r. (k W l _ _ (h W l s t r)).run W larger_same s t n r }

pub choose_rel : {A : Type 0} {R : Relation A} {V : World} {p q u v : ActOf A} (b c : Bool) → b ≡ c → ActRel R V p q → ActRel R V u v → ActRel R V (choose b p u) (choose c q v)
choose_rel true true e h k = h
choose_rel true false e h k = absurd (cc)
choose_rel false true e h k = absurd (cc)
choose_rel false false e h k = k

pub on_value_rel : {V : World} {f g : Value → Act} {a b : Signal} → Continues V f g → SignalRel V a b → Agrees V (on_value f a) (on_value g b)
on_value_rel h (value r) = h _ larger_same _ _ r
on_value_rel h (thrown r) = ret_rel (λ W l. thrown (value_up l r))
on_value_rel h (return r) = ret_rel (λ W l. return (value_up l r))
on_value_rel h break = ret_rel (λ W l. break)
on_value_rel h continue = ret_rel (λ W l. continue)

pub also_rel : {V : World} {p q : Act} {f g : Value → Act} → Agrees V p q → Continues V f g → Agrees V (also p f) (also q g)
also_rel m h = bind_rel m (λ W l a b r. on_value_rel (λ X j. h X (larger_more l j)) r)

-- on the right a value is given before
pub after_given : {R : Relation Signal} {V : World} {p : Act} (w : Value) (g : Value → Act) → ActRel R V p (g w) → ActRel R V p (also (give w) g)
after_given w g h = record { run = λ W l s t n r. h.run W l s t n r }

-- an act may speak of what is built in
pub on_built_ins : {A : Type 0} {R : Relation A} {V : World} {p q : ActOf A} → ((W : World) → Larger V W → HasBuiltIns W → ActRel R W p q) → ActRel R V p q
on_built_ins h = record { run = λ W l s t n g. (h W l g.built_ins).run W larger_same s t n g }

-- an act may compare ids
pub on_one_to_one : {A : Type 0} {R : Relation A} {V : World} {p q : ActOf A} → ((W : World) → Larger V W → IsOneToOne (named W) → ActRel R W p q) → ActRel R V p q
on_one_to_one h = record { run = λ W l s t n g. (h W l g.heap.objects.one_to_one).run W larger_same s t n g }

-- ---- larger namings

pub act_up : {A : Type 0} {R : Relation A} {V W : World} {p q : ActOf A} → Larger V W → ActRel R V p q → ActRel R W p q
act_up l h = record { run = λ X j. h.run X (larger_more l j) }

pub continues_up : {V W : World} {f g : Value → Act} → Larger V W → Continues V f g → Continues W f g
continues_up l h = λ X j. h X (larger_more l j)
