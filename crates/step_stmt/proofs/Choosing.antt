-- What is chosen, and what stands last.
use Rattle.std.proofs.Common.{◌≡◌, refl, sym, ap, ◌∙◌, ℕ, suc, ◌≤◌, Bool, true, false, List, [], ◌∷◌, Option, Some, None, Result, Ok, Err, IfOk, is_some, arith}
use Rattle.code_table.specs.Kind.{kind_of}
use Rattle.code_table.specs.Node.{Node, and_child}
use Rattle.code_table.specs.declared.kind.Kind.TheVariants.{Try}
use Rattle.js_values.specs.declared.ids.EnvId.{EnvId}
use Rattle.js_values.specs.declared.value.Value.{Value}
use Rattle.page_meaning.specs.declared.signal.Signal.{Signal}
use Rattle.page_meaning.specs.declared.signal.Signal.TheVariants.{Value as Val, Thrown, Return, Break, Continue}
use Rattle.page_meaning.specs.Act.{Act, Calls, bind, ret, choose, then_on}
use Rattle.page_meaning.specs.Calls.{calls_at}
use Rattle.page_meaning.specs.Names.{Here, in_scope}
use Rattle.page_meaning.specs.Statements.{last_signal}
use Rattle.page_meaning.specs.Primitives.{make_environment}
use Rattle.page_meaning.specs.Store.{Store}
use Rattle.whole_ops.specs.Conversions.{is_true}
use Rattle.page_frames.specs.declared.frame.Begin.TheVariants as begin
use Rattle.page_frames.specs.declared.frame.Frame.TheVariants as frame
use Rattle.page_frames.specs.declared.meter.Meter.{Meter}
use Rattle.page_frames.specs.declared.meter.Next.{Next}
use Rattle.page_frames.specs.declared.meter.Next.TheVariants.{Then}
use Rattle.page_frames.specs.Parts.{mean_node, part}
use Rattle.page_frames.specs.Rest.{rest_of}
use Rattle.page_frames.specs.RestStatements.{last_of, rest_if, rest_clause, rest_last}
use Rattle.page_frames.specs.Step.{Leads}
use Rattle.page_frames.specs.Weight.{cost, weigh}
use Rattle.page_frames.specs.Where.{Where, here_of, numbered, scoped, spot_node}
use Rattle.page_frames.proofs.Callers.{early_part, no_heavier, weigh_less}
use Rattle.page_state.specs.Does.{Does}
use Rattle.step_parts.specs.Running.{Awaits, Enters}
use Rattle.step_stmt.proofs.Turning.{same_after}

-- the part of an `if` that its test chooses
abbrev pub chosen_part : Bool → ℕ
chosen_part true = 1
chosen_part false = 2

chosen_weight : (at : Option Node) (b : Bool) → suc (cost (and_child at (chosen_part b))) ≤ weigh at 1
chosen_weight at true = omega (arith, early_part at 1 (omega arith))
chosen_weight at false = omega (arith, early_part at 2 (omega arith), weigh_less at 1)

chosen_act : (b : Bool) (x y : Act) (f : ℕ → Act) → f 1 ≡ x → f 2 ≡ y → f (chosen_part b) ≡ choose b x y
chosen_act true x y f e g = e
chosen_act false x y f e g = g

pub chosen : {E : Type 0} (f : Where) (k : ℕ) (v : Value) (w : Store) (m : Meter) (r : Result Next E) → k ≡ chosen_part (is_true v) → IfOk r (λ n. Enters f k w m n)
    → IfOk r (λ n. Leads (rest_if (calls_at m.depth) (here_of f) (spot_node f) v) (weigh (spot_node f) 1) w m n w m)
chosen f k v w m (Err x) e h = h
chosen f k v w m (Ok n) e h = let a : Enters f (chosen_part (is_true v)) w m n = rw e at h in record {
  follows =
      sym (ap (λ (x : Act). x.run w m.steps) (chosen_act (is_true v) (part (calls_at m.depth) (here_of f) (spot_node f) 1) (part (calls_at m.depth) (here_of f) (spot_node f) 2) (part (calls_at m.depth) (here_of f) (spot_node f)) refl refl))
      ∙ a.follows;
  levels = a.levels;
  lighter = no_heavier _ _ m n m (chosen_weight (spot_node f) (is_true v)) a.lighter;
}

last_there : (calls : Calls) (here : Here) (o : Option Node) (s : Signal) → true ≡ is_some o → last_of calls here o s ≡ bind (mean_node calls here o) (λ t. ret (last_signal s t))
last_there calls here (Some n) s e = refl
last_there calls here None s e = cc e

-- what stands last runs, and keeps the end
pub last_runs : {E : Type 0} (f : Where) (x : Option (List ℕ)) (s : Signal) (w : Store) (m : Meter) (r : Result Next E) → kind_of (spot_node f) ≡ Try x → true ≡ is_some (and_child (spot_node f) 2)
    → IfOk r (λ n. Awaits f 2 (Some s) 2 w m n) → IfOk r (λ n. Leads (rest_last (calls_at m.depth) (here_of f) (spot_node f) s) (weigh (spot_node f) 2) w m n w m)
last_runs f x s w m (Err y) k t h = h
last_runs f x s w m (Ok n) k t h = let a : Awaits f 2 (Some s) 2 w m n = h in record {
  follows = ap (λ (o : Act). o.run w m.steps) (last_there (calls_at m.depth) (here_of f) (and_child (spot_node f) 2) s t) ∙ (rw k at (a.follows));
  levels = a.levels;
  lighter = no_heavier _ _ m n m (early_part (spot_node f) 2 (omega arith)) (rw k at (a.lighter));
}

-- a clause catches exceptions alone
passed : (calls : Calls) (here : Here) (at : Option Node) (x : List ℕ) (s : Signal) → ((v : Value) → s ≡ Thrown v → ⊥) → rest_clause calls here at (Some x) s ≡ ret s
passed calls here at x (Thrown v) h = absurd (h v refl)
passed calls here at x (Val v) h = refl
passed calls here at x (Return v) h = refl
passed calls here at x Break h = refl
passed calls here at x Continue h = refl

pub not_caught : {E : Type 0} (f : Where) (x : List ℕ) (s : Signal) (w : Store) (m : Meter) (r : Result Next E) → ((v : Value) → s ≡ Thrown v → ⊥)
    → IfOk r (λ n. Leads (rest_last (calls_at m.depth) (here_of f) (spot_node f) s) (weigh (spot_node f) 2) w m n w m)
    → IfOk r (λ n. Leads (bind (rest_clause (calls_at m.depth) (here_of f) (spot_node f) (Some x) s) (rest_last (calls_at m.depth) (here_of f) (spot_node f))) (weigh (spot_node f) 1) w m n w m)
not_caught f x s w m (Err y) h g = g
not_caught f x s w m (Ok n) h g = record {
  follows = ap (λ (o : Act). (bind o (rest_last (calls_at m.depth) (here_of f) (spot_node f))).run w m.steps) (passed (calls_at m.depth) (here_of f) (spot_node f) x s h) ∙ g.follows;
  levels = g.levels;
  lighter = no_heavier _ _ m n m (weigh_less (spot_node f) 1) g.lighter;
}

-- the clause runs, and what stands last waits for it
pub caught : (f : Where) (x : List ℕ) (v : Value) (e : EnvId) (j : ℕ) (w w1 : Store) (m : Meter) → kind_of (spot_node f) ≡ Try (Some x) → spot_node (numbered f j) ≡ and_child (spot_node f) 1
    → Does (λ _. make_environment f.env ((x, v) ∷ [])) w e w1
    → Leads (bind (rest_clause (calls_at m.depth) (here_of f) (spot_node f) (Some x) (Thrown v)) (rest_last (calls_at m.depth) (here_of f) (spot_node f))) (weigh (spot_node f) 1) w m
    (Then (frame.Stmt (record { spot = f; turn = 1; kept = None })) (begin.Node (numbered (scoped f e) j))) w1 m
caught f x v e j w w1 m k p d = record {
  follows =
      ap (λ o. then_on (then_on o (λ e. part (calls_at m.depth) (in_scope (here_of f) e) (spot_node f) 1)) (rest_last (calls_at m.depth) (here_of f) (spot_node f))) (d.is (calls_at m.depth) m.steps)
      ∙ ap (λ o. then_on ((mean_node (calls_at m.depth) (in_scope (here_of f) e) o).run w1 m.steps) (rest_last (calls_at m.depth) (here_of f) (spot_node f))) (sym p)
      ∙ same_after ((mean_node (calls_at m.depth) (in_scope (here_of f) e) (spot_node (numbered f j))).run w1 m.steps) (rest_last (calls_at m.depth) (here_of f) (spot_node f))
      (rest_of (calls_at m.depth) (frame.Stmt (record { spot = f; turn = 1; kept = None }))) (λ s u n. rw k refl);
  levels = refl;
  lighter = rw (k, p) (omega (arith, early_part (spot_node f) 1 (omega arith)));
}
