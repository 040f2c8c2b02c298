-- References to names of both pages (sections 8.7 and 10.2.2.1).
use Rattle.std.proofs.Common.{◌≡◌, refl, sym, ap, subst, ◌∙◌, ℕ, ◌≤◌, Bool, true, false, not, List, Option, Some, None, arith}
use Rattle.std.proofs.lemmas.Bool.{and_parts, not-true}
use Rattle.js_values.specs.declared.ids.EnvId.{EnvId}
use Rattle.js_values.specs.declared.throw.Throw.TheVariants.{NotDefined}
use Rattle.js_values.specs.declared.value.Value.{Value}
use Rattle.object_heap.specs.Environment.{AreInside}
use Rattle.object_heap.specs.Heap.{look_in}
use Rattle.object_heap.specs.Object.{Object}
use Rattle.page_meaning.specs.Act.{Act, bind, give, then_on}
use Rattle.page_meaning.specs.Names.{Here, found_or_raise, global_or_not, held, read, read_name, resolve as resolve_here, resolved, type_of_name, type_of_reference, write}
use Rattle.page_meaning.specs.Operators.{give_type}
use Rattle.page_meaning.specs.Places.{window}
use Rattle.page_meaning.specs.Primitives.{bind_name, find_name}
use Rattle.page_meaning.specs.Store.{Store}
use Rattle.page_meaning.specs.declared.reference.Reference.{Reference}
use Rattle.page_meaning.specs.declared.reference.Reference.TheVariants.{Environment, Global, Nowhere}
use Rattle.heap_relations.proofs.Callers.{larger_same}
use Rattle.heap_relations.proofs.Callers as heap
use Rattle.heap_relations.specs.Naming as naming
use Rattle.heap_relations.specs.Naming.{FoundRel, Frame, Free, In, Itself, Kept, Larger, named, Place, resolve, Round, Slot, World, env_id, inside, is_captured, is_copied, is_free, is_reserved, is_sealed, is_unused, nowhere as unbound}
use Rattle.heap_relations.specs.Related.{Maybe, ValueRel, none, some, undefined}
use Rattle.object_heap.specs.Laws.{binds}
use Rattle.object_shapes.proofs.Callers as shapes
use Rattle.page_meaning.specs.Places.{built_in_count}
use Rattle.page_meaning.specs.Steps.{in_heap}
use Rattle.agreement.proofs.Constants.{kept_set, ready_up}
use Rattle.agreement.proofs.Linked.{value_below}
use Rattle.agreement.specs.Acts.{ActRel, Agrees, Continues, Equal, OutcomeRel, SignalRel, StoreRel, ended}
use Rattle.instrumenter.specs.Around.{Around}
use Rattle.agreement.specs.Opened.{Demand, HereRel, may_use, name_stands}
use Rattle.agreement.specs.Trees.{is_reached}
use Rattle.agreement.proofs.Acts.{also_rel, asking_rel, bind_rel, on_built_ins, ret_rel}
use Rattle.agreement.proofs.EqualTrees.{trees_up}
use Rattle.agreement.proofs.Heap.{get_rel, tells_rel, value_up}
use Rattle.agreement.proofs.Operators.{give_type_rel}
use Rattle.agreement.proofs.Properties.{has_property_same, put_in_rel}
use Rattle.agreement.proofs.Values.{give_rel, raise_rel}

-- what a name that may be assigned is resolved to
pub data ReferenceRel (x : List ℕ) (W : World) : Reference → Reference → Type 0 where
  bound : (s : Slot) → In s W.slots → s.frame.keeps x ≡ Free → is_reserved W.opens x ≡ false → ReferenceRel x W (Environment (env_id s.one)) (Environment (env_id s.two))
  global : ReferenceRel x W Global Global
  nowhere : ReferenceRel x W Nowhere Nowhere

-- ---- larger namings

pub reserved_up : {V W : World} (x : List ℕ) → Larger V W → is_reserved V.opens x ≡ false → is_reserved W.opens x ≡ false
reserved_up x l own = subst (λ b. is_reserved b x ≡ false) l.opens own

pub reference_up : {x : List ℕ} {V W : World} {r q : Reference} → Larger V W → ReferenceRel x V r q → ReferenceRel x W r q
reference_up {x = x} l (bound s i free own) = bound s (l.slots s i) free (reserved_up x l own)
reference_up l global = global
reference_up l nowhere = nowhere

abbrev pub here_up : {V W : World} {k : Around} {fs : List Frame} {a b : Here} → Larger V W → HereRel V k fs a b → HereRel W k fs a b
here_up l h = record { trees = trees_up l h.trees; opens = h.opens; fields = h.fields; own = h.own; round = heap.round_up l h.round; ready = ready_up l h.ready; this = value_up l h.this }

-- ---- the object that has the globals

window_place : window.0 ≤ built_in_count
unfolding built_in_count
window_place = omega arith

global_same : {x : List ℕ} {V : World} (b c : Bool) → b ≡ c → ReferenceRel x V (global_or_not b) (global_or_not c)
global_same true true e = global
global_same false false e = nowhere
global_same true false e = absurd (cc e)
global_same false true e = absurd (cc e)

-- a name that no environment binds
pub outside_rel : {V : World} (x : List ℕ) → ActRel (ReferenceRel x) V (resolved x None) (resolved x None)
outside_rel x = tells_rel (λ W l s t g. global_same _ _ (has_property_same g window window (g.built_ins window.0 window_place) x))

found_or_raise_rel : {V : World} {o p : Option Value} (x : List ℕ) → Maybe (ValueRel (named V)) o p → Agrees V (found_or_raise x o) (found_or_raise x p)
found_or_raise_rel x none = raise_rel (NotDefined x)
found_or_raise_rel x (some h) = give_rel h

global_rel : {V : World} (x : List ℕ) → Agrees V (read x Global) (read x Global)
global_rel x = asking_rel {R = λ W. Maybe (ValueRel (named W))} (λ W l s t g. get_rel g window.0 window.0 (g.built_ins window.0 window_place) x) (λ W l a b r. found_or_raise_rel x r)

-- ---- a reference is made

-- a name that stands somewhere is no scope object's, and may be used where it is found
pub own_name : {V : World} {k : Around} {fs : List Frame} {a b : Here} (assigns : Bool) (x : List ℕ) (h : HereRel V k fs a b) → name_stands h.trees.demand assigns fs x ≡ true → is_reserved V.opens x ≡ false
own_name {fs = fs} assigns x h f =
    ap (λ o. is_reserved o x) h.trees.opens
    ∙ not-true (is_reserved h.trees.demand.opens x) (and_parts (not (is_reserved h.trees.demand.opens x)) (may_use h.trees.demand.opens assigns (resolve fs x)) f).0

pub used : (d : Demand) (fs : List Frame) (assigns : Bool) (x : List ℕ) → name_stands d assigns fs x ≡ true → may_use d.opens assigns (resolve fs x) ≡ true
used d fs assigns x f = (and_parts (not (is_reserved d.opens x)) (may_use d.opens assigns (resolve fs x)) f).1

-- a name that may be assigned, from where it is bound
found_rel : {V : World} {ps : List Object} {look : List ℕ → Option (EnvId × Value)} {x : List ℕ} {p : Place} {o q : Option (EnvId × Value)} → FoundRel V ps look x p o q → is_reached true p ≡ true → is_reserved V.opens x ≡ false
    → ActRel (ReferenceRel x) V (resolved x o) (resolved x q)
found_rel {x = x} unbound e own = outside_rel x
found_rel (is_free s i free v) e own = ret_rel (λ W l. reference_up l (bound s i free own))
found_rel (is_captured s i held opens plain look p v) e own = absurd (cc e)
found_rel (is_copied s opens plain look p v) e own = absurd (cc e)
found_rel (is_sealed v) e own = absurd (cc e)
found_rel is_unused e own = absurd (cc e)

pub resolve_rel : {V : World} (k : Around) (fs : List Frame) (a b : Here) (x : List ℕ) → (h : HereRel V k fs a b) → name_stands h.trees.demand true fs x ≡ true → is_reached true (resolve fs x) ≡ true
    → ActRel (ReferenceRel x) V (resolve_here a x) (resolve_here b x)
resolve_rel k fs a b x h f e = record {
  run = λ W l s t n g.
      let i = here_up l h in
      (found_rel (heap.name_found g.heap x i.round (own_name true x i f)) e (own_name true x i f)).run W larger_same s t n g;
}

-- ---- it is read

held_rel : {V : World} {ps : List Object} {look : List ℕ → Option (EnvId × Value)} {x : List ℕ} {p : Place} {o q : Option (EnvId × Value)} → FoundRel V ps look x p o q → p ≡ Itself → ValueRel (named V) (held o) (held q)
held_rel unbound e = undefined
held_rel (is_free s i free v) e = v
held_rel (is_captured s i held opens plain look p v) e = absurd (cc e)
held_rel (is_copied s opens plain look p v) e = absurd (cc e)
held_rel (is_sealed v) e = v
held_rel is_unused e = absurd (cc e)

free_place : (k : Kept) (d : ℕ) (p : Place) → k ≡ Free → naming.resolved k d p ≡ Itself
free_place k d p e = ap (λ z. naming.resolved z d p) e

find_name_rel : {V : World} (s : Slot) (x : List ℕ) → In s V.slots → s.frame.keeps x ≡ Free → is_reserved V.opens x ≡ false
    → ActRel (λ W o q. ValueRel (named W) (held o) (held q)) V (find_name (Some (env_id s.one)) x) (find_name (Some (env_id s.two)) x)
find_name_rel s x i free own = tells_rel (λ W l u t g. held_rel (heap.name_found g.heap x (inside s (l.slots s i)) (reserved_up x l own)) (free_place (s.frame.keeps x) s.frame.number (resolve s.round x) free))

bound_rel : {V : World} (s : Slot) (x : List ℕ) → In s V.slots → s.frame.keeps x ≡ Free → is_reserved V.opens x ≡ false → Agrees V (read x (Environment (env_id s.one))) (read x (Environment (env_id s.two)))
bound_rel s x i free own = bind_rel (find_name_rel s x i free own) (λ W l o q v. give_rel v)

pub read_rel : {V : World} {r q : Reference} (x : List ℕ) → ReferenceRel x V r q → Agrees V (read x r) (read x q)
read_rel x (bound s i free own) = bound_rel s x i free own
read_rel x global = global_rel x
read_rel x nowhere = raise_rel (NotDefined x)

-- ---- it takes a value

bind_name_rel : {V : World} {v w : Value} (s : Slot) (x : List ℕ) → In s V.slots → s.frame.keeps x ≡ Free → is_reserved V.opens x ≡ false → ValueRel (named V) v w
    → ActRel (Equal {A = Unit {0}}) V (bind_name (env_id s.one) x v) (bind_name (env_id s.two) x w)
bind_name_rel {v = v} s x i free own r = record {
  run = λ W l u t n g. ended W larger_same refl (record {
    heap = heap.name_set g.heap s x (l.slots s i) (reserved_up x l own) free (value_up l r);
    lines = g.lines;
    host = g.host;
    built_ins = g.built_ins;
    shaped = shapes.step_shaped u (in_heap (binds s.one x v) refl) g.heap.left g.shaped (value_below g (value_up l r));
    kept = kept_set g.kept g.heap s (l.slots s i) x v (λ c. absurd (cc (sym free ∙ c)));
  });
}

pub write_rel : {V : World} {r q : Reference} {v w : Value} (x : List ℕ) → ReferenceRel x V r q → ValueRel (named V) v w → Agrees V (write x r v) (write x q w)
write_rel x (bound s i free own) r = bind_rel (bind_name_rel s x i free own r) (λ W l a b e. give_rel (value_up l r))
write_rel x global r = on_built_ins (λ W l there. put_in_rel window window (there window.0 window_place) x (value_up l r))
write_rel x nowhere r = raise_rel (NotDefined x)

-- ---- a name is read at once, also one that is never assigned

-- f goes on with a reference as m does with its value
abbrev pub GoesOn : List ℕ → (Reference → Act) → (Value → Act) → Type 0
GoesOn x f m = (e : EnvId) (s : Store) (n : ℕ) → (f (Environment e)).run s n ≡ (m (held (look_in s.heap.environments (Some e) x))).run s n

pub value_at : (x : List ℕ) (f : Reference → Act) (m : Value → Act) (s : Store) (n : ℕ) (d : Option EnvId) (e : EnvId) (v : Value) → GoesOn x f m
    → AreInside s.heap.environments → look_in s.heap.environments d x ≡ Some (e, v) → (f (Environment e)).run s n ≡ (m v).run s n
value_at x f m s n d e v goes ages found = goes e s n ∙ ap (λ o. (m (held o)).run s n) (heap.found_there s.heap.environments d x e v ages found)

module _ {W : World} {s t : Store} (n : ℕ) (g : StoreRel W s t) (x : List ℕ) (f : Reference → Act) (m : Value → Act) (goes : GoesOn x f m)
    (outside : Agrees W (bind (resolved x None) f) (bind (resolved x None) f)) (go : Continues W m m) (a b : Option EnvId) where
  both_values : {v w : Value} (d e : EnvId) → look_in s.heap.environments a x ≡ Some (d, v) → look_in t.heap.environments b x ≡ Some (e, w) → ValueRel (named W) v w
      → OutcomeRel SignalRel W ((f (Environment d)).run s n) ((f (Environment e)).run t n)
  both_values {v = v} {w = w} d e i j r = rw (value_at x f m s n a d v goes g.heap.left.environments i, value_at x f m t n b e w goes g.heap.right.environments j) ((go W larger_same v w r).run W larger_same s t n g)

  reached_rel : {ps : List Object} {look : List ℕ → Option (EnvId × Value)} {p : Place} {o q : Option (EnvId × Value)} → FoundRel W ps look x p o q → is_reached false p ≡ true
      → look_in s.heap.environments a x ≡ o → look_in t.heap.environments b x ≡ q → OutcomeRel SignalRel W (then_on ((resolved x o).run s n) f) (then_on ((resolved x q).run t n) f)
  reached_rel unbound e i j = outside.run W larger_same s t n g
  reached_rel (is_free z k free r) e i j = both_values (env_id z.one) (env_id z.two) i j r
  reached_rel (is_captured z k held opens plain look p r) e i j = absurd (cc e)
  reached_rel (is_copied z opens plain look p r) e i j = absurd (cc e)
  reached_rel (is_sealed {e = c} {f = d} r) e i j = both_values c d i j r
  reached_rel is_unused e i j = absurd (cc e)

pub read_round_rel : {V : World} (fs : List Frame) (a b : Here) (x : List ℕ) → Round V fs a.env b.env → is_reserved V.opens x ≡ false → is_reached false (resolve fs x) ≡ true
    → Agrees V (read_name a x) (read_name b x)
read_round_rel fs a b x o own e = record {
  run = λ W l s t n g.
      reached_rel n g x (read x) give (λ d u m. refl) (bind_rel (outside_rel x) (λ X j r q p. read_rel x p)) (λ X j v w r. give_rel r) a.env b.env (heap.name_found g.heap x (heap.round_up l o) (reserved_up x l own)) e refl refl;
}

pub read_name_rel : {V : World} (k : Around) (fs : List Frame) (a b : Here) (x : List ℕ) → (h : HereRel V k fs a b) → name_stands h.trees.demand false fs x ≡ true → is_reached false (resolve fs x) ≡ true
    → Agrees V (read_name a x) (read_name b x)
read_name_rel k fs a b x h f e = read_round_rel fs a b x h.round (own_name false x h f) e

type_of_rel : {V : World} {r q : Reference} (x : List ℕ) → ReferenceRel x V r q → Agrees V (type_of_reference x r) (type_of_reference x q)
type_of_rel x (bound s i free own) = also_rel (bound_rel s x i free own) (λ W l v w r. give_type_rel r)
type_of_rel x global = also_rel (global_rel x) (λ W l v w r. give_type_rel r)
type_of_rel x nowhere = give_type_rel undefined

pub type_of_name_rel : {V : World} (k : Around) (fs : List Frame) (a b : Here) (x : List ℕ) → (h : HereRel V k fs a b) → name_stands h.trees.demand false fs x ≡ true → is_reached false (resolve fs x) ≡ true
    → Agrees V (type_of_name a x) (type_of_name b x)
type_of_name_rel k fs a b x h f e = record {
  run = λ W l s t n g.
      let i = here_up l h in
      reached_rel n g x (type_of_reference x) give_type (λ d u m. refl) (bind_rel (outside_rel x) (λ X j r q p. type_of_rel x p)) (λ X j v w r. give_type_rel r) a.env b.env (heap.name_found g.heap x i.round (own_name false x i f)) e refl refl;
}

-- a name outside all environments
pub read_global_rel : {V : World} (a b : Here) (x : List ℕ) → a.env ≡ None → b.env ≡ None → Agrees V (read_name a x) (read_name b x)
read_global_rel a b x outside around = record {
  run = λ W l s t n g.
      let one = ap (λ e. then_on ((resolved x (look_in s.heap.environments e x)).run s n) (read x)) outside in
      let two = ap (λ e. then_on ((resolved x (look_in t.heap.environments e x)).run t n) (read x)) around in
      rw (one, two) ((bind_rel {S = SignalRel} {f = read x} {g = read x} (outside_rel x) (λ X j r q p. read_rel x p)).run W larger_same s t n g);
}
