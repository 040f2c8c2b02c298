-- How loops go on.
use Rattle.std.proofs.Common.{◌≡◌, refl, ap, ◌∙◌, ℕ, ◌+◌, Result, Ok, Err, IfOk, None, Some, Option, true, false, is_some, arith}
use Rattle.code_table.specs.Kind.{kind_of}
use Rattle.code_table.specs.Node.{Node, and_child}
use Rattle.code_table.specs.declared.kind.Kind.TheVariants.{While, Do, For}
use Rattle.js_values.specs.declared.value.Value.TheVariants.{Bool as Truth}
use Rattle.js_values.specs.declared.value.Value.{Value}
use Rattle.page_meaning.specs.Act.{Act, Calls, also, done, give}
use Rattle.page_meaning.specs.Calls.{calls_at}
use Rattle.page_meaning.specs.declared.signal.Signal.{Signal}
use Rattle.page_meaning.specs.declared.signal.Signal.TheVariants.{Value as Val, Thrown, Return, Break, Continue}
use Rattle.page_meaning.specs.Loops.{turn_if, turned}
use Rattle.page_meaning.specs.Names.{Here}
use Rattle.page_meaning.specs.Store.{Store}
use Rattle.page_frames.specs.declared.meter.Meter.{Meter}
use Rattle.page_frames.specs.declared.meter.Next.{Next}
use Rattle.page_frames.specs.Parts.{mean_node, node_or, part, part_or}
use Rattle.page_frames.specs.RestLoops.{while_loop, do_loop, for_loop, for_again}
use Rattle.page_frames.specs.Step.{Leads}
use Rattle.page_frames.specs.Weight.{HasFewNodes, weigh}
use Rattle.page_frames.specs.Where.{Where, here_of, spot_node}
use Rattle.page_frames.proofs.Callers.{early_part, loop_turns, no_heavier, node_paid, weigh_less, weigh_paid}
use Rattle.page_state.specs.Does.{Does}
use Rattle.step_parts.specs.Running.{Awaits}
use Rattle.step_stmt.specs.Turns.{GoesOnAs, IsPaid, body_of}

pub while_pays : (f : Where) → kind_of (spot_node f) ≡ While → HasFewNodes f.code → IsPaid f 1 1
while_pays f k h = rw k (weigh_paid f.code f.node 0 1 h)

pub do_pays : (f : Where) → kind_of (spot_node f) ≡ Do → HasFewNodes f.code → IsPaid f 0 0
do_pays f k h = rw k (weigh_paid f.code f.node 1 0 h)

pub for_pays : (f : Where) → kind_of (spot_node f) ≡ For → HasFewNodes f.code → IsPaid f 3 3
for_pays f k h = rw k (node_paid f.code f.node 1 1 3 h)

-- what is done in between does nothing
idle : (next : Act) (s : Signal) (w : Store) (n : ℕ) → (turned next s).run w n ≡ (turned (also done (λ _. next)) s).run w n
idle next (Val v) w n = refl
idle next Continue w n = refl
idle next Break w n = refl
idle next (Thrown v) w n = refl
idle next (Return v) w n = refl

pub while_goes : (f : Where) (d : ℕ) → kind_of (spot_node f) ≡ While → GoesOnAs f 1 d (also done (λ _. while_loop (calls_at d) (here_of f) (spot_node f)))
while_goes f d k = record { is = λ s w n. rw k refl }

pub do_goes : (f : Where) (d : ℕ) → kind_of (spot_node f) ≡ Do → GoesOnAs f 0 d (also done (λ _. do_loop (calls_at d) (here_of f) (spot_node f)))
do_goes f d k = record { is = λ s w n. rw k (idle (do_loop (calls_at d) (here_of f) (spot_node f)) s w n) }

-- a turn with no test before it
pub do_starts : (f : Where) (d : ℕ) → kind_of (spot_node f) ≡ Do → GoesOnAs f 0 d (do_loop (calls_at d) (here_of f) (spot_node f))
do_starts f d k = record { is = λ s w n. rw k refl }

pub for_goes : (f : Where) (d : ℕ) → kind_of (spot_node f) ≡ For → GoesOnAs f 3 d (for_again (calls_at d) (here_of f) (spot_node f))
for_goes f d k = record { is = λ s w n. rw k refl }

pub while_turns : {E : Type 0} (f : Where) (w : Store) (m : Meter) (r : Result Next E) → kind_of (spot_node f) ≡ While → IfOk r (λ n. Awaits f 0 None 0 w m n)
    → IfOk r (λ n. Leads (while_loop (calls_at m.depth) (here_of f) (spot_node f)) (weigh (spot_node f) 0) w m n w m)
while_turns f w m (Err x) k h = h
while_turns f w m (Ok n) k h = let calls = calls_at m.depth in let a : Awaits f 0 None 0 w m n = h in record {
  follows = loop_turns (part calls (here_of f) (spot_node f) 0) (part calls (here_of f) (spot_node f) 1) done w m.steps ∙ (rw k at (a.follows));
  levels = a.levels;
  lighter = no_heavier _ _ m n m (early_part (spot_node f) 0 (omega arith)) (rw k at (a.lighter));
}

pub do_turns : {E : Type 0} (f : Where) (w : Store) (m : Meter) (r : Result Next E) → kind_of (spot_node f) ≡ Do → IfOk r (λ n. Awaits f 1 None 1 w m n)
    → IfOk r (λ n. Leads (do_loop (calls_at m.depth) (here_of f) (spot_node f)) (weigh (spot_node f) 1) w m n w m)
do_turns f w m (Err x) k h = h
do_turns f w m (Ok n) k h = let calls = calls_at m.depth in let a : Awaits f 1 None 1 w m n = h in record {
  follows = loop_turns (part calls (here_of f) (spot_node f) 1) (part calls (here_of f) (spot_node f) 0) done w m.steps ∙ (rw k at (a.follows));
  levels = a.levels;
  lighter = no_heavier _ _ m n m (early_part (spot_node f) 1 (omega arith)) (rw k at (a.lighter));
}

there : (calls : Calls) (here : Here) (o : Option Node) (v : Value) → true ≡ is_some o → node_or calls here o v ≡ mean_node calls here o
there calls here (Some n) v e = refl
there calls here None v e = cc e

absent : (calls : Calls) (here : Here) (o : Option Node) (v : Value) → false ≡ is_some o → node_or calls here o v ≡ give v
absent calls here (Some n) v e = cc e
absent calls here None v e = refl

nothing_there : (calls : Calls) (here : Here) (o : Option Node) → false ≡ is_some o → mean_node calls here o ≡ done
nothing_there calls here (Some n) e = cc e
nothing_there calls here None e = refl

-- ---- tests that are read at once

abbrev Known : Where → ℕ → Store → Value → Type 0
Known f k w v = Does (λ calls. part calls (here_of f) (spot_node f) k) w (Val v) w

pub while_known : {E : Type 0} (f : Where) (v : Value) (w : Store) (m m1 : Meter) (r : Result Next E) → Known f 0 w v
    → IfOk r (λ n. Leads (turn_if (body_of f m.depth 1) (also done (λ _. while_loop (calls_at m.depth) (here_of f) (spot_node f))) v) 0 w m n w m1)
    → IfOk r (λ n. Leads (while_loop (calls_at m.depth) (here_of f) (spot_node f)) (weigh (spot_node f) 0) w m n w m1)
while_known f v w m m1 (Err x) d h = h
while_known f v w m m1 (Ok n) d h = let calls = calls_at m.depth in record {
  follows = loop_turns (part calls (here_of f) (spot_node f) 0) (part calls (here_of f) (spot_node f) 1) done w m.steps ∙ (rw (d.is calls m.steps) (h.follows));
  levels = h.levels;
  lighter = no_heavier 0 (weigh (spot_node f) 0) m n m1 (omega arith) h.lighter;
}

pub do_known : {E : Type 0} (f : Where) (v : Value) (w : Store) (m m1 : Meter) (r : Result Next E) → Known f 1 w v
    → IfOk r (λ n. Leads (turn_if (body_of f m.depth 0) (also done (λ _. do_loop (calls_at m.depth) (here_of f) (spot_node f))) v) 0 w m n w m1)
    → IfOk r (λ n. Leads (do_loop (calls_at m.depth) (here_of f) (spot_node f)) (weigh (spot_node f) 1) w m n w m1)
do_known f v w m m1 (Err x) d h = h
do_known f v w m m1 (Ok n) d h = let calls = calls_at m.depth in record {
  follows = loop_turns (part calls (here_of f) (spot_node f) 1) (part calls (here_of f) (spot_node f) 0) done w m.steps ∙ (rw (d.is calls m.steps) (h.follows));
  levels = h.levels;
  lighter = no_heavier 0 (weigh (spot_node f) 1) m n m1 (omega arith) h.lighter;
}

pub for_known : {E : Type 0} (f : Where) (v : Value) (w : Store) (m m1 : Meter) (r : Result Next E) → true ≡ is_some (and_child (spot_node f) 1) → Known f 1 w v
    → IfOk r (λ n. Leads (turn_if (body_of f m.depth 3) (for_again (calls_at m.depth) (here_of f) (spot_node f)) v) 0 w m n w m1)
    → IfOk r (λ n. Leads (for_loop (calls_at m.depth) (here_of f) (spot_node f)) (weigh (spot_node f) 1) w m n w m1)
for_known f v w m m1 (Err x) t d h = h
for_known f v w m m1 (Ok n) t d h = let calls = calls_at m.depth in record {
  follows =
      loop_turns (part_or calls (here_of f) (spot_node f) 1 (Truth true)) (part calls (here_of f) (spot_node f) 3) (part calls (here_of f) (spot_node f) 2) w m.steps
      ∙ ap (λ a. (also a (turn_if (part calls (here_of f) (spot_node f) 3) (for_again calls (here_of f) (spot_node f)))).run w m.steps)
      (there calls (here_of f) (and_child (spot_node f) 1) (Truth true) t) ∙ (rw (d.is calls m.steps) (h.follows));
  levels = h.levels;
  lighter = no_heavier 0 (weigh (spot_node f) 1) m n m1 (omega arith) h.lighter;
}

-- ---- a `for` with a test, and one without

pub for_turns : {E : Type 0} (f : Where) (w : Store) (m : Meter) (r : Result Next E) → kind_of (spot_node f) ≡ For → true ≡ is_some (and_child (spot_node f) 1) → IfOk r (λ n. Awaits f 1 None 1 w m n)
    → IfOk r (λ n. Leads (for_loop (calls_at m.depth) (here_of f) (spot_node f)) (weigh (spot_node f) 1) w m n w m)
for_turns f w m (Err x) k t h = h
for_turns f w m (Ok n) k t h = let calls = calls_at m.depth in let a : Awaits f 1 None 1 w m n = h in record {
  follows =
      loop_turns (part_or calls (here_of f) (spot_node f) 1 (Truth true)) (part calls (here_of f) (spot_node f) 3) (part calls (here_of f) (spot_node f) 2) w m.steps
      ∙ ap (λ a. (also a (turn_if (part calls (here_of f) (spot_node f) 3) (for_again calls (here_of f) (spot_node f)))).run w m.steps)
      (there calls (here_of f) (and_child (spot_node f) 1) (Truth true) t) ∙ (rw k at (a.follows));
  levels = a.levels;
  lighter = no_heavier _ _ m n m (early_part (spot_node f) 1 (omega arith)) (rw k at (a.lighter));
}

pub for_untested : {E : Type 0} (f : Where) (w : Store) (m m1 : Meter) (r : Result Next E) → false ≡ is_some (and_child (spot_node f) 1)
    → IfOk r (λ n. Leads (turn_if (body_of f m.depth 3) (for_again (calls_at m.depth) (here_of f) (spot_node f)) (Truth true)) 0 w m n w m1)
    → IfOk r (λ n. Leads (for_loop (calls_at m.depth) (here_of f) (spot_node f)) (weigh (spot_node f) 1) w m n w m1)
for_untested f w m m1 (Err x) t h = h
for_untested f w m m1 (Ok n) t h = let calls = calls_at m.depth in record {
  follows =
      loop_turns (part_or calls (here_of f) (spot_node f) 1 (Truth true)) (part calls (here_of f) (spot_node f) 3) (part calls (here_of f) (spot_node f) 2) w m.steps
      ∙ ap (λ a. (also a (turn_if (part calls (here_of f) (spot_node f) 3) (for_again calls (here_of f) (spot_node f)))).run w m.steps)
      (absent calls (here_of f) (and_child (spot_node f) 1) (Truth true) t) ∙ h.follows;
  levels = h.levels;
  lighter = no_heavier 0 (weigh (spot_node f) 1) m n m1 (omega arith) h.lighter;
}

-- what stands last in its header, or nothing
pub for_last : {E : Type 0} (f : Where) (w : Store) (m : Meter) (r : Result Next E) → kind_of (spot_node f) ≡ For → IfOk r (λ n. Awaits f 2 None 2 w m n)
    → IfOk r (λ n. Leads (for_again (calls_at m.depth) (here_of f) (spot_node f)) (weigh (spot_node f) 1 + weigh (spot_node f) 1) w m n w m)
for_last f w m (Err x) k h = h
for_last f w m (Ok n) k h = let a : Awaits f 2 None 2 w m n = h in record {
  follows = rw k at (a.follows);
  levels = a.levels;
  lighter = no_heavier _ _ m n m (omega (arith, early_part (spot_node f) 2 (omega arith), weigh_less (spot_node f) 1)) (rw k at (a.lighter));
}

pub for_no_last : {E : Type 0} (f : Where) (w : Store) (m m1 : Meter) (r : Result Next E) → false ≡ is_some (and_child (spot_node f) 2)
    → IfOk r (λ n. Leads (for_loop (calls_at m.depth) (here_of f) (spot_node f)) (weigh (spot_node f) 1) w m n w m1)
    → IfOk r (λ n. Leads (for_again (calls_at m.depth) (here_of f) (spot_node f)) (weigh (spot_node f) 1 + weigh (spot_node f) 1) w m n w m1)
for_no_last f w m m1 (Err x) t h = h
for_no_last f w m m1 (Ok n) t h = record {
  follows =
      ap (λ a. (also a (λ _. for_loop (calls_at m.depth) (here_of f) (spot_node f))).run w m.steps) (nothing_there (calls_at m.depth) (here_of f) (and_child (spot_node f) 2) t) ∙ h.follows;
  levels = h.levels;
  lighter = no_heavier (weigh (spot_node f) 1) _ m n m1 (omega arith) h.lighter;
}
