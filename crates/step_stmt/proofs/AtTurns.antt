-- How loops with a test go on by the turn that they are at.
use Rattle.std.proofs.Common.{◌≡◌, refl, ap, ℕ, zero, suc, ◌+◌, ◌<◌, ◌≤◌, List, Option, Some, None, Result, IfOk, le_refl, arith}
use Rattle.code_table.specs.declared.kind.Kind.TheVariants as kind
use Rattle.js_values.specs.declared.value.Value.{Value}
use Rattle.page_meaning.specs.declared.signal.Signal.{Signal}
use Rattle.page_meaning.specs.declared.signal.Signal.TheVariants.{Value as Val}
use Rattle.page_meaning.specs.Act.{Act, also, bind, done, ret}
use Rattle.page_meaning.specs.Calls.{calls_at}
use Rattle.page_meaning.specs.Loops.{turn_if, turned}
use Rattle.page_meaning.specs.Store.{Store}
use Rattle.page_frames.specs.declared.meter.Meter.{Meter}
use Rattle.page_frames.specs.declared.meter.Next.{Next}
use Rattle.page_frames.specs.declared.meter.Next.TheVariants.{Give}
use Rattle.page_frames.specs.RestLoops.{do_loop, for_again, for_loop, rest_do, rest_for, rest_while, while_loop}
use Rattle.page_frames.specs.RestStatements.{given_back, rest_clause, rest_last, rest_try}
use Rattle.page_frames.specs.Step.{Leads}
use Rattle.page_frames.specs.Weight.{weigh, weigh_signal}
use Rattle.page_frames.specs.Where.{Where, here_of, spot_node}
use Rattle.step_stmt.specs.Ends.{ended_or}
use Rattle.step_stmt.specs.Turns.{body_of}
use Rattle.step_stmt.proofs.Ending.{ended, passes_on, same_leads}

-- what a loop makes of the end of its body
abbrev pub EndsSo : Signal → Option Signal → Type 0
EndsSo s o = (next : Act) → turned next s ≡ ended_or o next

on : (next : Act) (s : Signal) (o : Option Signal) → EndsSo s o → o ≡ None → turned next s ≡ next
on next s o h z = rw z at (h next)

over : (next : Act) (s last : Signal) (o : Option Signal) → EndsSo s o → o ≡ Some last → turned next s ≡ ret last
over next s last o h z = rw z at (h next)

-- ---- while

pub while_test : {E : Type 0} (f : Where) (turn : ℕ) (v : Value) (w : Store) (m m1 : Meter) (r : Result Next E) → turn ≡ 0
    → IfOk r (λ n. Leads (turn_if (body_of f m.depth 1) (also done (λ _. while_loop (calls_at m.depth) (here_of f) (spot_node f))) v) 0 w m n w m1)
    → IfOk r (λ n. Leads (rest_while (calls_at m.depth) (here_of f) (spot_node f) turn (Val v)) (weigh_signal (spot_node f) kind.While turn) w m n w m1)
while_test f zero v w m m1 r z g = same_leads _ _ _ _ w w m m1 r refl (omega arith) g
while_test f (suc k) v w m m1 r z g = absurd (omega arith)

pub while_passes : (f : Where) (turn : ℕ) (s : Signal) (w : Store) (m : Meter) → turn ≡ 0 → ((v : Value) → s ≡ Val v → ⊥)
    → Leads (rest_while (calls_at m.depth) (here_of f) (spot_node f) turn s) (weigh_signal (spot_node f) kind.While turn) w m (Give s) w m
while_passes f zero s w m z h = ended _ s _ w m (passes_on _ s h)
while_passes f (suc k) s w m z h = absurd (omega arith)

pub while_on : {E : Type 0} (f : Where) (turn : ℕ) (s : Signal) (o : Option Signal) (w : Store) (m m1 : Meter) (r : Result Next E) → (turn ≡ 0 → ⊥) → EndsSo s o → o ≡ None
    → IfOk r (λ n. Leads (while_loop (calls_at m.depth) (here_of f) (spot_node f)) (weigh (spot_node f) 0) w m n w m1)
    → IfOk r (λ n. Leads (rest_while (calls_at m.depth) (here_of f) (spot_node f) turn s) (weigh_signal (spot_node f) kind.While turn) w m n w m1)
while_on f zero s o w m m1 r z h e g = absurd (z refl)
while_on f (suc k) s o w m m1 r z h e g =
    same_leads (while_loop (calls_at m.depth) (here_of f) (spot_node f)) _ (weigh (spot_node f) 0) (weigh (spot_node f) 0) w w m m1 r
    (ap (λ (a : Act). a.run w m.steps) (on (also done (λ _. while_loop (calls_at m.depth) (here_of f) (spot_node f))) s o h e)) (le_refl (weigh (spot_node f) 0)) g

pub while_over : (f : Where) (turn : ℕ) (s last : Signal) (o : Option Signal) (w : Store) (m : Meter) → (turn ≡ 0 → ⊥) → EndsSo s o → o ≡ Some last
    → Leads (rest_while (calls_at m.depth) (here_of f) (spot_node f) turn s) (weigh_signal (spot_node f) kind.While turn) w m (Give last) w m
while_over f zero s last o w m z h e = absurd (z refl)
while_over f (suc k) s last o w m z h e = ended _ last _ w m (over _ s last o h e)

-- ---- do

pub do_on : {E : Type 0} (f : Where) (turn : ℕ) (s : Signal) (o : Option Signal) (w : Store) (m m1 : Meter) (r : Result Next E) → turn ≡ 0 → EndsSo s o → o ≡ None
    → IfOk r (λ n. Leads (do_loop (calls_at m.depth) (here_of f) (spot_node f)) (weigh (spot_node f) 1) w m n w m1)
    → IfOk r (λ n. Leads (rest_do (calls_at m.depth) (here_of f) (spot_node f) turn s) (weigh_signal (spot_node f) kind.Do turn) w m n w m1)
do_on f zero s o w m m1 r z h e g =
    same_leads (do_loop (calls_at m.depth) (here_of f) (spot_node f)) _ (weigh (spot_node f) 1) (weigh (spot_node f) 1) w w m m1 r
    (ap (λ (a : Act). a.run w m.steps) (on (do_loop (calls_at m.depth) (here_of f) (spot_node f)) s o h e)) (le_refl (weigh (spot_node f) 1)) g
do_on f (suc k) s o w m m1 r z h e g = absurd (omega arith)

pub do_over : (f : Where) (turn : ℕ) (s last : Signal) (o : Option Signal) (w : Store) (m : Meter) → turn ≡ 0 → EndsSo s o → o ≡ Some last
    → Leads (rest_do (calls_at m.depth) (here_of f) (spot_node f) turn s) (weigh_signal (spot_node f) kind.Do turn) w m (Give last) w m
do_over f zero s last o w m z h e = ended _ last _ w m (over _ s last o h e)
do_over f (suc k) s last o w m z h e = absurd (omega arith)

pub do_test : {E : Type 0} (f : Where) (turn : ℕ) (v : Value) (w : Store) (m m1 : Meter) (r : Result Next E) → (turn ≡ 0 → ⊥)
    → IfOk r (λ n. Leads (turn_if (body_of f m.depth 0) (also done (λ _. do_loop (calls_at m.depth) (here_of f) (spot_node f))) v) 0 w m n w m1)
    → IfOk r (λ n. Leads (rest_do (calls_at m.depth) (here_of f) (spot_node f) turn (Val v)) (weigh_signal (spot_node f) kind.Do turn) w m n w m1)
do_test f zero v w m m1 r z g = absurd (z refl)
do_test f (suc k) v w m m1 r z g = same_leads _ _ _ _ w w m m1 r refl (omega arith) g

pub do_passes : (f : Where) (turn : ℕ) (s : Signal) (w : Store) (m : Meter) → (turn ≡ 0 → ⊥) → ((v : Value) → s ≡ Val v → ⊥)
    → Leads (rest_do (calls_at m.depth) (here_of f) (spot_node f) turn s) (weigh_signal (spot_node f) kind.Do turn) w m (Give s) w m
do_passes f zero s w m z h = absurd (z refl)
do_passes f (suc k) s w m z h = ended _ s _ w m (passes_on _ s h)

-- ---- for

pub for_on : {E : Type 0} (f : Where) (s : Signal) (o : Option Signal) (w : Store) (m m1 : Meter) (r : Result Next E) → EndsSo s o → o ≡ None
    → IfOk r (λ n. Leads (for_again (calls_at m.depth) (here_of f) (spot_node f)) (weigh (spot_node f) 1 + weigh (spot_node f) 1) w m n w m1)
    → IfOk r (λ n. Leads (turned (for_again (calls_at m.depth) (here_of f) (spot_node f)) s) (weigh (spot_node f) 1 + weigh (spot_node f) 1) w m n w m1)
for_on f s o w m m1 r h e g =
    same_leads (for_again (calls_at m.depth) (here_of f) (spot_node f)) _ (weigh (spot_node f) 1 + weigh (spot_node f) 1) (weigh (spot_node f) 1 + weigh (spot_node f) 1) w w m m1 r
    (ap (λ (a : Act). a.run w m.steps) (on (for_again (calls_at m.depth) (here_of f) (spot_node f)) s o h e)) (le_refl (weigh (spot_node f) 1 + weigh (spot_node f) 1)) g

pub for_over : (f : Where) (s last : Signal) (o : Option Signal) (w : Store) (m : Meter) → EndsSo s o → o ≡ Some last
    → Leads (turned (for_again (calls_at m.depth) (here_of f) (spot_node f)) s) (weigh (spot_node f) 1 + weigh (spot_node f) 1) w m (Give last) w m
for_over f s last o w m h e = ended _ last _ w m (over _ s last o h e)

pub for_body : {E : Type 0} (f : Where) (turn : ℕ) (s : Signal) (w : Store) (m m1 : Meter) (r : Result Next E) → 2 < turn
    → IfOk r (λ n. Leads (turned (for_again (calls_at m.depth) (here_of f) (spot_node f)) s) (weigh (spot_node f) 1 + weigh (spot_node f) 1) w m n w m1)
    → IfOk r (λ n. Leads (rest_for (calls_at m.depth) (here_of f) (spot_node f) turn s) (weigh_signal (spot_node f) kind.For turn) w m n w m1)
for_body f zero s w m m1 r z g = absurd (omega arith)
for_body f (suc zero) s w m m1 r z g = absurd (omega arith)
for_body f (suc (suc zero)) s w m m1 r z g = absurd (omega arith)
for_body f (suc (suc (suc k))) s w m m1 r z g = g

pub for_tests : {E : Type 0} (f : Where) (turn : ℕ) (v : Value) (w : Store) (m m1 : Meter) (r : Result Next E) → turn ≡ 1
    → IfOk r (λ n. Leads (turn_if (body_of f m.depth 3) (for_again (calls_at m.depth) (here_of f) (spot_node f)) v) 0 w m n w m1)
    → IfOk r (λ n. Leads (rest_for (calls_at m.depth) (here_of f) (spot_node f) turn (Val v)) (weigh_signal (spot_node f) kind.For turn) w m n w m1)
for_tests f zero v w m m1 r z g = absurd (omega arith)
for_tests f (suc zero) v w m m1 r z g = same_leads _ _ _ _ w w m m1 r refl (omega arith) g
for_tests f (suc (suc k)) v w m m1 r z g = absurd (omega arith)

pub for_goes_on : {E : Type 0} (f : Where) (turn : ℕ) (v : Value) (w : Store) (m m1 : Meter) (r : Result Next E) → (turn ≡ 1 → ⊥) → turn ≤ 2
    → IfOk r (λ n. Leads (for_loop (calls_at m.depth) (here_of f) (spot_node f)) (weigh (spot_node f) 1) w m n w m1)
    → IfOk r (λ n. Leads (rest_for (calls_at m.depth) (here_of f) (spot_node f) turn (Val v)) (weigh_signal (spot_node f) kind.For turn) w m n w m1)
for_goes_on f zero v w m m1 r z h g = g
for_goes_on f (suc zero) v w m m1 r z h g = absurd (z refl)
for_goes_on f (suc (suc zero)) v w m m1 r z h g = g
for_goes_on f (suc (suc (suc k))) v w m m1 r z h g = absurd (omega arith)

pub for_passes : (f : Where) (turn : ℕ) (s : Signal) (w : Store) (m : Meter) → turn ≤ 2 → ((v : Value) → s ≡ Val v → ⊥)
    → Leads (rest_for (calls_at m.depth) (here_of f) (spot_node f) turn s) (weigh_signal (spot_node f) kind.For turn) w m (Give s) w m
for_passes f zero s w m z h = ended _ s _ w m (passes_on _ s h)
for_passes f (suc zero) s w m z h = ended _ s _ w m (passes_on _ s h)
for_passes f (suc (suc zero)) s w m z h = ended _ s _ w m (passes_on _ s h)
for_passes f (suc (suc (suc k))) s w m z h = absurd (omega arith)

-- ---- try

pub try_begun : {E : Type 0} (f : Where) (x : Option (List ℕ)) (turn : ℕ) (kept : Option Signal) (s : Signal) (w w1 : Store) (m : Meter) (r : Result Next E) → turn ≡ 0
    → IfOk r (λ n. Leads (bind (rest_clause (calls_at m.depth) (here_of f) (spot_node f) x s) (rest_last (calls_at m.depth) (here_of f) (spot_node f))) (weigh (spot_node f) 1) w m n w1 m)
    → IfOk r (λ n. Leads (rest_try (calls_at m.depth) (here_of f) (spot_node f) x turn kept s) (weigh (spot_node f) (suc turn)) w m n w1 m)
try_begun f x zero kept s w w1 m r z g = g
try_begun f x (suc k) kept s w w1 m r z g = absurd (omega arith)

pub try_last : {E : Type 0} (f : Where) (x : Option (List ℕ)) (turn : ℕ) (kept : Option Signal) (s : Signal) (w : Store) (m : Meter) (r : Result Next E) → turn ≡ 1
    → IfOk r (λ n. Leads (rest_last (calls_at m.depth) (here_of f) (spot_node f) s) (weigh (spot_node f) 2) w m n w m)
    → IfOk r (λ n. Leads (rest_try (calls_at m.depth) (here_of f) (spot_node f) x turn kept s) (weigh (spot_node f) (suc turn)) w m n w m)
try_last f x zero kept s w m r z g = absurd (omega arith)
try_last f x (suc zero) kept s w m r z g = g
try_last f x (suc (suc k)) kept s w m r z g = absurd (omega arith)

pub try_over : (f : Where) (x : Option (List ℕ)) (turn : ℕ) (kept : Option Signal) (s : Signal) (w : Store) (m : Meter) → (turn ≡ 0 → ⊥) → (turn ≡ 1 → ⊥)
    → Leads (rest_try (calls_at m.depth) (here_of f) (spot_node f) x turn kept s) (weigh (spot_node f) (suc turn)) w m (Give (given_back kept s)) w m
try_over f x zero kept s w m z h = absurd (z refl)
try_over f x (suc zero) kept s w m z h = absurd (h refl)
try_over f x (suc (suc k)) kept s w m z h = record { follows = refl; levels = refl; lighter = le_refl m.steps }
