-- Parts of a dispatch, one after another.
use Rattle.std.proofs.Common.{◌≡◌, refl, sym, ap, ◌∙◌, ℕ, ◌*◌, ◌^◌, ◌<◌, ◌≤◌, Bool, true, false, List, [], ◌∷◌, length, Result, Ok, Err, IfOk, arith, le_refl, subst}
use Rattle.js_values.specs.declared.ids.ObjId.{ObjId}
use Rattle.page_host.specs.declared.listener.Listener.{Listener}
use Rattle.page_host.specs.declared.path.Place.{Place}
use Rattle.page_meaning.specs.Act.{Act, ActOf, Calls, asking, bind}
use Rattle.page_meaning.specs.Calls.{calls_at}
use Rattle.page_meaning.specs.Dispatch.{ended, is_registered, run_listeners, visit_places}
use Rattle.page_meaning.specs.Dispatch as dispatch
use Rattle.page_meaning.specs.Events.{arrives, is_stopped}
use Rattle.page_meaning.specs.Primitives.{changes_event}
use Rattle.page_meaning.specs.Store.{Store}
use Rattle.page_frames.specs.declared.meter.Next.{Next}
use Rattle.page_frames.specs.Step.{Leads}
use Rattle.page_frames.specs.Weight.{many}
use Rattle.page_frames.proofs.Callers.{no_heavier}
use Rattle.page_state.specs.Does.{Does}
use Rattle.event_dispatch.specs.Turning.{Turns, left_at, next_at, registered_from, weigh_left}

-- an act that runs as another does, and may weigh more
pub turns_as : {E : Type 0} (a b : Calls → Act) (u v : ℕ) (s t : Store) (r : Result Next E) → ((calls : Calls) (n : ℕ) → (a calls).run s n ≡ (b calls).run s n) → u ≤ v → IfOk r (λ n. Turns u b s n t)
    → IfOk r (λ n. Turns v a s n t)
turns_as a b u v s t (Err x) e le h = h
turns_as a b u v s t (Ok n) e le h = λ m.
    let l : Leads (b (calls_at m.depth)) u s m n t m = h m in
    record { follows = e (calls_at m.depth) m.steps ∙ l.follows; levels = l.levels; lighter = no_heavier u v m n m le l.lighter }

-- what is done at once comes first
pub does_turn : {A E : Type 0} (a : Calls → ActOf A) (k : Calls → A → Act) (x : A) (u : ℕ) (s t v : Store) (r : Result Next E) → Does a s x t → IfOk r (λ n. Turns u (λ calls. k calls x) t n v)
    → IfOk r (λ n. Turns u (λ calls. bind (a calls) (k calls)) s n v)
does_turn a k x u s t v (Err e) does h = h
does_turn a k x u s t v (Ok n) does h = λ m.
    let l : Leads (k (calls_at m.depth) x) u t m n v m = h m in
    record { follows = rw (does.is (calls_at m.depth) m.steps) (l.follows); levels = l.levels; lighter = l.lighter }

-- ---- the listeners of a place

-- those that are gone are passed over
passes_gone : (calls : Calls) (e : ObjId) (p : Place) (next : Act) (s : Store) (n : ℕ) (ls : List Listener) → (run_listeners calls e p next ls).run s n ≡ (run_listeners calls e p next (registered_from s ls)).run s n
passes_gone calls e p next s n [] = refl
passes_gone calls e p next s n (l ∷ ls) = by_case (is_registered l s) refl (passes_gone calls e p next s n ls)
  where
    by_case : (b : Bool) → is_registered l s ≡ b → (run_listeners calls e p next ls).run s n ≡ (run_listeners calls e p next (registered_from s ls)).run s n
        → (run_listeners calls e p next (l ∷ ls)).run s n ≡ (run_listeners calls e p next (registered_from s (l ∷ ls))).run s n
    by_case true h rest = rw h (rw h refl)
    by_case false h rest = rw h rest

-- the next one is registered
next_there : (s : Store) (ls rest : List Listener) (l : Listener) → registered_from s ls ≡ l ∷ rest → is_registered l s ≡ true
next_there s [] rest l e = cc
next_there s (k ∷ ls) rest l e = by_case (is_registered k s) refl (next_there s ls rest l)
  where
    by_case : (b : Bool) → is_registered k s ≡ b → (registered_from s ls ≡ l ∷ rest → is_registered l s ≡ true) → is_registered l s ≡ true
    by_case true h later = let same : k ∷ ls ≡ l ∷ rest = rw h at e in let one : k ≡ l = cc in rw (← one) h
    by_case false h later = later (rw h at e)

-- no more are left
fewer_left : (s : Store) (ls : List Listener) → length (registered_from s ls) ≤ length ls
fewer_left s [] = le_refl 0
fewer_left s (l ∷ ls) = by_case (is_registered l s) refl (fewer_left s ls)
  where
    by_case : (b : Bool) → is_registered l s ≡ b → length (registered_from s ls) ≤ length ls → length (registered_from s (l ∷ ls)) ≤ length (l ∷ ls)
    by_case true h less = rw h (le_refl (length (l ∷ ls)))
    by_case false h less = rw h (omega (arith, less))

-- a listener that is not registered is passed over; one that is is the next
pub gone_passed : (s : Store) (ls rest all : List Listener) (l : Listener) → ls ≡ l ∷ rest → false ≡ is_registered l s → registered_from s all ≡ registered_from s ls → registered_from s all ≡ registered_from s rest
gone_passed s ls rest all l is gone h = h ∙ ap (registered_from s) is ∙ rw (← gone) refl

pub next_found : (s : Store) (ls rest all : List Listener) (l : Listener) → ls ≡ l ∷ rest → true ≡ is_registered l s → registered_from s all ≡ registered_from s ls → registered_from s all ≡ l ∷ rest
next_found s ls rest all l is there h = h ∙ ap (registered_from s) is ∙ rw (← there) refl

-- the next listener runs
pub runs_next : {E : Type 0} (e : ObjId) (p : Place) (ls rest : List Listener) (l : Listener) (ps : List Place) (weight : ℕ) (s t : Store) (r : Result Next E) → registered_from s ls ≡ l ∷ rest
    → weigh_left ls ps ≤ weight → IfOk r (λ n. Turns (weigh_left (l ∷ rest) ps) (next_at e p l rest ps) s n t) → IfOk r (λ n. Turns weight (left_at e p ls ps) s n t)
runs_next e p ls rest l ps weight s t r is le h =
    let there : is_registered l s ≡ true = next_there s ls rest l is in
    let fewer : length (l ∷ rest) ≤ length ls = subst (λ k. length k ≤ length ls) is (fewer_left s ls) in
    turns_as (left_at e p ls ps) (next_at e p l rest ps) (weigh_left (l ∷ rest) ps) weight s t r
    (λ calls n. passes_gone calls e p (visit_places calls e ps) s n ls ∙ ap (λ k. (left_at e p k ps calls).run s n) is ∙ rw there refl)
    (omega (arith, fewer, le)) h

-- none is left, and the places after have their turns
pub runs_none : {E : Type 0} (e : ObjId) (p : Place) (ls : List Listener) (ps : List Place) (weight : ℕ) (s t : Store) (r : Result Next E) → registered_from s ls ≡ []
    → length ps * many ≤ weight → IfOk r (λ n. Turns (length ps * many) (λ calls. visit_places calls e ps) s n t) → IfOk r (λ n. Turns weight (left_at e p ls ps) s n t)
runs_none e p ls ps weight s t r is le h =
    turns_as (left_at e p ls ps) (λ calls. visit_places calls e ps) (length ps * many) weight s t r
    (λ calls n. passes_gone calls e p (visit_places calls e ps) s n ls ∙ ap (λ k. (left_at e p k ps calls).run s n) is) le h

-- ---- the places

-- a place pays for its listeners
place_pays : (ls : List Listener) (p : Place) (ps : List Place) → length ls < 2 ^ 64 → weigh_left ls ps ≤ length (p ∷ ps) * many
unfolding many
place_pays ls p ps few = omega (arith, few)

-- propagation was stopped
pub stopped_at : {E : Type 0} (e : ObjId) (p : Place) (ps all : List Place) (s t : Store) (r : Result Next E) → all ≡ p ∷ ps → true ≡ is_stopped (dispatch.parts_at s e).phase
    → IfOk r (λ n. Turns 0 (λ _. ended e) s n t) → IfOk r (λ n. Turns (length all * many) (λ calls. visit_places calls e all) s n t)
stopped_at e p ps all s t r is stopped h =
    turns_as (λ calls. visit_places calls e all) (λ _. ended e) 0 (length all * many) s t r (λ calls n. rw is (rw (← stopped) refl)) (omega arith) h

-- none is left
pub places_end : {E : Type 0} (e : ObjId) (all : List Place) (s t : Store) (r : Result Next E) → all ≡ [] → IfOk r (λ n. Turns 0 (λ _. ended e) s n t)
    → IfOk r (λ n. Turns (length all * many) (λ calls. visit_places calls e all) s n t)
places_end e all s t r is h = turns_as (λ calls. visit_places calls e all) (λ _. ended e) 0 (length all * many) s t r (λ calls n. rw is refl) (omega arith) h

abbrev in_turn : ObjId → Place → List Place → Calls → Act
in_turn e p ps calls = asking (dispatch.round e p) (run_listeners calls e p (visit_places calls e ps))

-- it was not, the event arrives, and the listeners of the place have their turns
pub arrived_at : {E : Type 0} (e : ObjId) (p : Place) (ps all : List Place) (ls : List Listener) (s u t : Store) (r : Result Next E) → all ≡ p ∷ ps → false ≡ is_stopped (dispatch.parts_at s e).phase
    → Does (λ _. changes_event e (arrives (dispatch.object_of_place p.node s) p.phase)) s tt u → ls ≡ dispatch.round e p u
    → IfOk r (λ n. Turns (length all * many) (left_at e p ls ps) u n t) → IfOk r (λ n. Turns (length all * many) (λ calls. visit_places calls e all) s n t)
arrived_at e p ps all ls s u t r is going does round h =
    turns_as (λ calls. visit_places calls e all) (λ calls. bind (changes_event e (arrives (dispatch.object_of_place p.node s) p.phase)) (λ _. in_turn e p ps calls)) (length all * many)
    (length all * many) s t r (λ calls n. rw is (rw (← going) refl)) (le_refl (length all * many))
    (does_turn (λ _. changes_event e (arrives (dispatch.object_of_place p.node s) p.phase)) (λ calls _. in_turn e p ps calls) tt (length all * many) s u t r does
    (turns_as (in_turn e p ps) (left_at e p ls ps) (length all * many) (length all * many) u t r (λ calls n. ap (λ k. (left_at e p k ps calls).run u n) (sym round)) (le_refl (length all * many)) h))

pub pays_place : (ls : List Listener) (p : Place) (ps all : List Place) → all ≡ p ∷ ps → length ls < 2 ^ 64 → weigh_left ls ps ≤ length all * many
pays_place ls p ps all is few = rw is (place_pays ls p ps few)

pub pays_later : (p : Place) (ps all : List Place) → all ≡ p ∷ ps → length ps * many ≤ length all * many
pays_later p ps all is = rw is (omega arith)
