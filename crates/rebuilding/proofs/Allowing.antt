-- Phases that make nothing: what comes after them may name as many things as they might.
use Rattle.std.proofs.Common.{◌≡◌, refl, subst, ◌∙◌, ℕ, zero, suc, ◌+◌, Bool, true, false, nat_eq, List, [], ◌∷◌, ◌++◌, Option, Some, None, if◌then◌else◌, arith}
use Rattle.std.proofs.lemmas.Bool.{and_from, and_parts, eqb-true}
use Rattle.std.proofs.lemmas.List.Folds.{list_all-append}
use Rattle.std.specs.List.{list_all}
use Rattle.dom_tree.specs.Attributes.{Pairs}
use Rattle.heap_walker.specs.Weight.{greatest}
use Rattle.js_values.specs.declared.ids.ObjId.{ObjId}
use Rattle.page_meaning.specs.Places.{document}
use Rattle.page_writer.specs.Literals.{HaveLiterals}
use Rattle.rebuild_plan.specs.Compact.{Compact, Thing}
use Rattle.rebuild_plan.specs.Nodes.{SavedListener}
use Rattle.rebuild_plan.specs.Plan as plan
use Rattle.rebuild_plan.specs.Plan.{thing_place}
use Rattle.rebuild_plan.specs.Stands.{made_by, standing}
use Rattle.rebuild_plan.specs.declared.phase.Phase.{Phase}
use Rattle.rebuild_plan.specs.declared.phase.Phase.TheVariants as phase
use Rattle.rebuild_plan.specs.declared.statement.Rebuild.{Rebuild}
use Rattle.rebuild_plan.specs.declared.statement.Rebuild.TheVariants.{Clear}
use Rattle.rebuilding.proofs.Going.{Allowed, range_rest}
use Rattle.timer_queue.specs.Timers.{is_live}
use Rattle.timer_queue.specs.declared.timer.Live.{Live}

-- a list without makers
abbrev pub make_nothing : List Rebuild → Bool
make_nothing rs = list_all (λ r. nat_eq (made_by r) 0) rs

past : (n : ℕ) (xs rs : List Rebuild) → make_nothing xs ≡ true → standing n (xs ++ rs) ≡ true → standing n rs ≡ true
past n [] rs none h = h
past n (x ∷ xs) rs none h =
    let parts = and_parts (nat_eq (made_by x) 0) (make_nothing xs) none in
    let later = (and_parts _ (standing (made_by x + n) (xs ++ rs)) h).1 in
    let same : made_by x + n ≡ n = omega (arith, eqb-true (made_by x) 0 parts.0) in
    past n xs rs parts.1 (subst (λ m. standing m (xs ++ rs) ≡ true) same later)

range_past : (xs rs : List Rebuild) → HaveLiterals (xs ++ rs) → HaveLiterals rs
range_past [] rs h = h
range_past (x ∷ xs) rs h = range_past xs rs (range_rest x (xs ++ rs) h)

pub allowed_past : (n : ℕ) (xs rs : List Rebuild) → make_nothing xs ≡ true → Allowed n (xs ++ rs) → Allowed n rs
allowed_past n xs rs none allowed = record { stands = past n xs rs none allowed.stands; in_range = range_past xs rs allowed.in_range }

-- ---- phases

both : (xs ys : List Rebuild) → make_nothing xs ≡ true → make_nothing ys ≡ true → make_nothing (xs ++ ys) ≡ true
both xs ys h g = list_all-append (λ r. nat_eq (made_by r) 0) xs ys ∙ and_from (make_nothing xs) (make_nothing ys) h g

appends_none : (at : ObjId) (cs : List ObjId) → make_nothing (plan.appends at cs) ≡ true
appends_none at [] = refl
appends_none at (c ∷ cs) = appends_none at cs

attributes_none : (at : ObjId) (as' : Pairs) → make_nothing (plan.attributes at as') ≡ true
attributes_none at [] = refl
attributes_none at (a ∷ as') = attributes_none at as'

value_none : (at : ObjId) (v : Option (List ℕ)) → make_nothing (plan.set_value at v) ≡ true
value_none at None = refl
value_none at (Some text) = refl

listens_none : (at : ObjId) (ls : List SavedListener) → make_nothing (plan.listens at ls) ≡ true
listens_none at [] = refl
listens_none at (l ∷ ls) = listens_none at ls

-- of a phase that has no maker for any object
abbrev MakesNothing : Phase → Type 0
MakesNothing p = (at : ObjId) (t : Thing) → make_nothing (plan.statements_of p at t) ≡ true

each_none : (p : Phase) → MakesNothing p → (n : ℕ) (ts : List Thing) → make_nothing (plan.each p n ts) ≡ true
each_none p none n [] = refl
each_none p none n (t ∷ ts) = both (plan.statements_of p (thing_place n) t) (plan.each p (suc n) ts) (none (thing_place n) t) (each_none p none (suc n) ts)

whole_none : (p : Phase) → MakesNothing p → (c : Compact) → make_nothing (plan.whole p c) ≡ true
whole_none p none c = both (plan.statements_of p document c.document) (plan.each p 0 c.things) (none document c.document) (each_none p none 0 c.things)

pub children_none : (c : Compact) → make_nothing (plan.whole phase.Children c) ≡ true
children_none c = whole_none phase.Children (λ at t. appends_none at t.node.children) c

pub contents_none : (c : Compact) → make_nothing (plan.whole phase.Contents c) ≡ true
contents_none c =
    whole_none phase.Contents (λ at t. both (plan.attributes at t.node.attributes) (plan.set_value at t.node.value)
    (attributes_none at t.node.attributes) (value_none at t.node.value)) c

pub listeners_none : (c : Compact) → make_nothing (plan.whole phase.Listeners c) ≡ true
listeners_none c = whole_none phase.Listeners (λ at t. listens_none at t.node.listeners) c

-- ---- timers

fillers_none : (n : ℕ) → make_nothing (plan.fillers n) ≡ true
fillers_none zero = refl
fillers_none (suc n) = fillers_none n

start_none : (t : Live) (period : Option ℕ) (rs : List Rebuild) → make_nothing rs ≡ true → make_nothing (plan.start t period ∷ rs) ≡ true
start_none t None rs h = h
start_none t (Some n) rs h = h

starts_none : (ts : List Live) → make_nothing (plan.starts ts) ≡ true
starts_none [] = refl
starts_none (t ∷ ts) = start_none t t.period (plan.starts ts) (starts_none ts)

clears_none : (n id : ℕ) (ts : List Live) → make_nothing (plan.clears n id ts) ≡ true
clears_none zero id ts = refl
clears_none (suc n) id ts = by (is_live ts id) (clears_none n (id + 1) ts)
  where
    by : (b : Bool) → make_nothing (plan.clears n (id + 1) ts) ≡ true
        → make_nothing ((if b then [] else Clear id ∷ []) ++ plan.clears n (id + 1) ts) ≡ true
    by true h = h
    by false h = h

pub timers_none : (ts : List Live) → make_nothing (plan.timers ts) ≡ true
timers_none ts =
    both (plan.fillers (greatest ts)) (plan.starts ts ++ plan.clears (greatest ts) 1 ts) (fillers_none (greatest ts))
    (both (plan.starts ts) (plan.clears (greatest ts) 1 ts) (starts_none ts) (clears_none (greatest ts) 1 ts))
