-- How a for-in goes from name to name.
use Rattle.std.proofs.Common.{◌≡◌, refl, sym, ap, subst, ◌∙◌, ℕ, zero, suc, ◌+◌, ◌≤◌, List, [], ◌∷◌, length, drop, Option, Some, None, Bool, true, false, Result, Ok, Err, IfOk, slice_get, drop-cons, le_refl, arith}
use Rattle.std.proofs.lemmas.Option.{get_or_from_slice_get, slice_get_within}
use Rattle.code_table.specs.Node.{and_child}
use Rattle.js_values.specs.declared.ids.ObjId.{ObjId}
use Rattle.js_values.specs.declared.value.Value.{Value}
use Rattle.js_values.specs.declared.value.Value.TheVariants.{Text, Undefined}
use Rattle.page_meaning.specs.declared.signal.Signal.{Signal}
use Rattle.page_meaning.specs.declared.signal.Signal.TheVariants.{Value as Val}
use Rattle.page_meaning.specs.Act.{Act, also, bind, choose, nothing, on_value, then_on}
use Rattle.page_meaning.specs.Calls.{calls_at}
use Rattle.page_meaning.specs.Loops.{Listed, each_name, is_held, turned}
use Rattle.page_meaning.specs.Store.{Store}
use Rattle.page_frames.specs.declared.frame.Begin.TheVariants as begin
use Rattle.page_frames.specs.declared.frame.Frame.TheVariants as frame
use Rattle.page_frames.specs.declared.meter.Meter.{Meter}
use Rattle.page_frames.specs.declared.meter.Next.{Next}
use Rattle.page_frames.specs.declared.meter.Next.TheVariants.{Give, Go, Then, Stopped}
use Rattle.page_frames.specs.Parts.{mean_node, mean_target, part}
use Rattle.page_frames.specs.RestLoops.{each_of, rest_each}
use Rattle.page_frames.specs.Step.{Leads, LeadsTo}
use Rattle.page_frames.specs.Weight.{HasFewNodes, cost, weigh, weigh_each}
use Rattle.page_frames.specs.Where.{Where, here_of, numbered, spot_node}
use Rattle.page_frames.proofs.Callers.{early_part, step_pays, weigh_less, weigh_paid}
use Rattle.step_stmt.specs.Visits.{visit}
use Rattle.step_stmt.proofs.AtTurns.{EndsSo}
use Rattle.step_stmt.proofs.Ending.{ended, passes_on, same_leads}

-- ---- the names from an index on

left_at : {X : Type 0} (xs : List X) (i : ℕ) (x : X) → slice_get xs i ≡ Some x → drop i xs ≡ x ∷ drop (suc i) xs
left_at xs i x e = drop-cons xs i x (slice_get_within xs i x e) ∙ ap (λ y. y ∷ drop (suc i) xs) (get_or_from_slice_get xs i x x e)

none_left : {X : Type 0} (xs : List X) (i : ℕ) → length xs ≤ i → drop i xs ≡ []
none_left [] zero h = refl
none_left [] (suc i) h = refl
none_left (x ∷ xs) zero h = absurd (omega (arith, h))
none_left (x ∷ xs) (suc i) h = none_left xs i (omega (arith, h))

none_at : {X : Type 0} (xs : List X) (i : ℕ) → slice_get xs i ≡ None → drop i xs ≡ []
none_at [] zero e = refl
none_at [] (suc i) e = refl
none_at (x ∷ xs) zero e = cc
none_at (x ∷ xs) (suc i) e = none_at xs i e

abbrev Each : Where → Listed → ℕ → Meter → Act
Each f names i m = each_of (calls_at m.depth) (here_of f) (spot_node f) (drop i names)

no_name : (f : Where) (names : Listed) (i : ℕ) (w : Store) (m : Meter) → drop i names ≡ [] → Leads (Each f names i m) 0 w m (Give nothing) w m
no_name f names i w m e = record { follows = rw e refl; levels = refl; lighter = le_refl m.steps }

pub each_done : (f : Where) (names : Listed) (i : ℕ) (w : Store) (m : Meter) → None ≡ slice_get names i → Leads (Each f names i m) 0 w m (Give nothing) w m
each_done f names i w m e = no_name f names i w m (none_at names i (sym e))

pub each_past : (f : Where) (names : Listed) (i : ℕ) (w : Store) (m : Meter) → length names ≤ i → Leads (Each f names (suc i) m) 0 w m (Give nothing) w m
each_past f names i w m h = no_name f names (suc i) w m (none_left names (suc i) (omega (arith, h)))

pub each_stops : (f : Where) (names : Listed) (i : ℕ) (p : Option ObjId × List ℕ) (w : Store) (m : Meter) → Some p ≡ slice_get names i → m.steps ≡ 0 → Leads (Each f names i m) 0 w m Stopped w m
each_stops f names i p w m e z = record { follows = rw (left_at names i p (sym e), z) refl; levels = tt; lighter = tt }

pub each_taken : {E : Type 0} (f : Where) (names : Listed) (i : ℕ) (holder : Option ObjId) (x : List ℕ) (w : Store) (m m1 : Meter) (r : Result Next E) → HasFewNodes f.code → Some (holder, x) ≡ slice_get names i
    → m.steps ≡ suc m1.steps → m1.depth ≡ m.depth
    → IfOk r (λ n. Leads (visit (calls_at m1.depth) (here_of f) (spot_node f) holder x (drop (suc i) names)) (suc (weigh (spot_node f) 2) + suc (cost (and_child (spot_node f) 0))) w m1 n w m1)
    → IfOk r (λ n. Leads (Each f names i m) 0 w m n w m1)
each_taken f names i holder x w m m1 (Err y) few e s d g = g
each_taken f names i holder x w m m1 (Ok n) few e s d g =
    let target : Value → Act = mean_target (calls_at m.depth) (here_of f) (and_child (spot_node f) 0) in
    let body : Act = part (calls_at m.depth) (here_of f) (spot_node f) 2 in
    let weight : ℕ = suc (weigh (spot_node f) 2) + suc (cost (and_child (spot_node f) 0)) in
    let a : LeadsTo (visit (calls_at m.depth) (here_of f) (spot_node f) holder x (drop (suc i) names)) weight m.depth w m1 n w m1 =
    subst (λ q. LeadsTo (visit (calls_at q) (here_of f) (spot_node f) holder x (drop (suc i) names)) weight q w m1 n w m1) d g in
    record {
      follows =
          ap (λ ps. (each_name target body ps).run w m.steps) (left_at names i (holder, x) (sym e)) ∙ ap (λ k. (each_name target body ((holder, x) ∷ drop (suc i) names)).run w k) s ∙ a.follows;
      levels = a.levels;
      lighter = step_pays _ 0 m m1 n m1 s (weigh_paid f.code f.node 2 0 few) a.lighter;
    }

-- ---- a name

abbrev Body : Where → Listed → ℕ → Meter → Act
Body f names i m = bind (part (calls_at m.depth) (here_of f) (spot_node f) 2) (turned (Each f names (suc i) m))

pub each_held : (f : Where) (names : Listed) (i j : ℕ) (holder : Option ObjId) (x : List ℕ) (w : Store) (m : Meter) → true ≡ is_held holder x w → spot_node (numbered f j) ≡ and_child (spot_node f) 0
    → Leads (visit (calls_at m.depth) (here_of f) (spot_node f) holder x (drop (suc i) names)) (suc (weigh (spot_node f) 2) + suc (cost (and_child (spot_node f) 0))) w m
    (Then (frame.Each (record { spot = f; names = names; index = i; assigning = true })) (begin.Target (numbered f j) (Text x))) w m
each_held f names i j holder x w m e p =
    let next : Value → Act = λ _. Body f names i m in
    record {
      follows =
          ap (λ b. (choose b (also (mean_target (calls_at m.depth) (here_of f) (and_child (spot_node f) 0) (Text x)) next) (Each f names (suc i) m)).run w m.steps) (sym e)
          ∙ ap (λ o. then_on ((mean_target (calls_at m.depth) (here_of f) o (Text x)).run w m.steps) (on_value next)) (sym p);
      levels = refl;
      lighter = rw p (omega arith);
    }

pub each_gone : (f : Where) (names : Listed) (i : ℕ) (holder : Option ObjId) (x : List ℕ) (w : Store) (m : Meter) → false ≡ is_held holder x w
    → Leads (visit (calls_at m.depth) (here_of f) (spot_node f) holder x (drop (suc i) names)) (suc (weigh (spot_node f) 2) + suc (cost (and_child (spot_node f) 0))) w m
    (Go (frame.Each (record { spot = f; names = names; index = i; assigning = false })) (Val Undefined)) w m
each_gone f names i holder x w m e = record { follows = rw (← e) refl; levels = refl; lighter = omega (arith, weigh_less (spot_node f) 2) }

pub each_runs : (f : Where) (names : Listed) (i j : ℕ) (w : Store) (m : Meter) → spot_node (numbered f j) ≡ and_child (spot_node f) 2
    → Leads (Body f names i m) (weigh (spot_node f) 2) w m (Then (frame.Each (record { spot = f; names = names; index = i; assigning = false })) (begin.Node (numbered f j))) w m
each_runs f names i j w m p = record { follows = ap (λ o. then_on ((mean_node (calls_at m.depth) (here_of f) o).run w m.steps) (turned (Each f names (suc i) m))) (sym p); levels = refl; lighter = rw p (omega (arith, early_part (spot_node f) 2 (omega arith))) }

-- ---- from an end

abbrev Goes : Where → Listed → ℕ → Bool → Signal → Store → Meter → Next → Meter → Type 0
Goes f names i b s w m n m1 = Leads (rest_each (calls_at m.depth) (here_of f) (spot_node f) names i b s) (weigh_each (spot_node f) b) w m n w m1

pub each_on : {E : Type 0} (f : Where) (names : Listed) (i : ℕ) (b : Bool) (s : Signal) (o : Option Signal) (w : Store) (m m1 : Meter) (r : Result Next E) → b ≡ false → EndsSo s o → o ≡ None
    → IfOk r (λ n. Leads (Each f names (suc i) m) 0 w m n w m1) → IfOk r (λ n. Goes f names i b s w m n m1)
each_on f names i true s o w m m1 r z h e g = cc
each_on f names i false s o w m m1 r z h e g = same_leads (Each f names (suc i) m) _ 0 _ w w m m1 r (ap (λ (a : Act). a.run w m.steps) (rw e at (h (Each f names (suc i) m)))) (omega arith) g

pub each_over : (f : Where) (names : Listed) (i : ℕ) (b : Bool) (s last : Signal) (o : Option Signal) (w : Store) (m : Meter) → b ≡ false → EndsSo s o → o ≡ Some last
    → Goes f names i b s w m (Give last) m
each_over f names i true s last o w m z h e = cc
each_over f names i false s last o w m z h e = ended _ last _ w m (rw e at (h (Each f names (suc i) m)))

pub each_passes : (f : Where) (names : Listed) (i : ℕ) (b : Bool) (s : Signal) (w : Store) (m : Meter) → b ≡ true → ((v : Value) → s ≡ Val v → ⊥) → Goes f names i b s w m (Give s) m
each_passes f names i true s w m z h = ended _ s _ w m (passes_on _ s h)
each_passes f names i false s w m z h = cc

pub each_assigned : {E : Type 0} (f : Where) (names : Listed) (i : ℕ) (b : Bool) (s : Signal) (v : Value) (w : Store) (m : Meter) (r : Result Next E) → b ≡ true → s ≡ Val v
    → IfOk r (λ n. Leads (Body f names i m) (weigh (spot_node f) 2) w m n w m) → IfOk r (λ n. Goes f names i b s w m n m)
each_assigned f names i true s v w m r z e g = rw e g
each_assigned f names i false s v w m r z e g = cc
