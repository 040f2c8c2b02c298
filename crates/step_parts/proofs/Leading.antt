-- Steps that follow what was done at once, and ends that are handed on.
use Rattle.std.proofs.Common.{◌≡◌, refl, ap, subst, ◌∙◌, ℕ, suc, ◌+◌, ◌≤◌, List, Option, Some, None, true, is_some, Result, Ok, Err, IfOk, le_refl}
use Rattle.code_table.specs.Kind.{kind_of}
use Rattle.code_table.specs.Node.{Node, and_child}
use Rattle.code_table.specs.declared.kind.Kind.{Kind}
use Rattle.code_table.specs.declared.kind.Kind.TheVariants.{Nothing}
use Rattle.js_values.specs.declared.value.Value.{Value}
use Rattle.page_meaning.specs.declared.signal.Signal.{Signal}
use Rattle.page_meaning.specs.declared.signal.Signal.TheVariants.{Value as Val, Thrown, Return, Break, Continue}
use Rattle.page_meaning.specs.Act.{Act, ActOf, Calls, Ended, LeadsTo, also, on_value, ret}
use Rattle.page_meaning.specs.Calls.{calls_at}
use Rattle.page_meaning.specs.Store.{Store}
use Rattle.page_frames.specs.declared.meter.Meter.{Meter}
use Rattle.page_frames.specs.declared.meter.Next.{Next}
use Rattle.page_frames.specs.declared.meter.Next.TheVariants.{Give}
use Rattle.page_frames.specs.Parts.{part}
use Rattle.page_frames.specs.Rest.{rest_value}
use Rattle.page_frames.specs.Step.{Goes, Leads, Moves}
use Rattle.page_frames.specs.Weight.{cost, weigh_value}
use Rattle.page_frames.specs.Where.{Where, here_of, spot_node}
use Rattle.page_frames.proofs.Callers.{no_heavier}
use Rattle.page_state.specs.Does.{Does}

-- an act that runs as another does, and may weigh more
pub leads_as : {E : Type 0} (a b : Act) (u v : ℕ) (s t : Store) (m m1 : Meter) (r : Result Next E) → a.run s m.steps ≡ b.run s m.steps → u ≤ v
    → IfOk r (λ n. Leads b u s m n t m1) → IfOk r (λ n. Leads a v s m n t m1)
leads_as a b u v s t m m1 (Err x) e le h = h
leads_as a b u v s t m m1 (Ok n) e le h = record { follows = e ∙ h.follows; levels = h.levels; lighter = no_heavier u v m n m1 le h.lighter }

-- no more steps are left
pub fewer : {A : Type 0} (act : ActOf A) (s t : Store) (n j : ℕ) (a : A) → act.run s n ≡ Ended a t j → j ≤ n
fewer act s t n j a e = (subst (LeadsTo s n) e (act.leads s n)).0

-- what is done at once gives a value, and then comes a step
pub also_leads : {E : Type 0} (a : Calls → Act) (k : Value → Act) (v : Value) (weight : ℕ) (s t u : Store) (m m1 : Meter) (r : Result Next E) → Does a s (Val v) t
    → IfOk r (λ n. Leads (k v) weight t m n u m1) → IfOk r (λ n. Leads (also (a (calls_at m.depth)) k) weight s m n u m1)
also_leads a k v weight s t u m m1 (Err x) d h = h
also_leads a k v weight s t u m m1 (Ok n) d h = record { follows = rw (d.is (calls_at m.depth) m.steps) (h.follows); levels = h.levels; lighter = h.lighter }

-- a part runs that the frame can pay for
pub goes_as : {E : Type 0} (f : Where) (q : Kind) (turn k weight : ℕ) (got : List Value) (w : Store) (m : Meter) (r : Result Next E) → kind_of (spot_node f) ≡ q
    → suc (weigh_value (spot_node f) q turn got) + suc (cost (and_child (spot_node f) k)) ≤ weight → IfOk r (λ n. Goes f (kind_of (spot_node f)) turn got k w m n)
    → IfOk r (λ n. Leads (also (part (calls_at m.depth) (here_of f) (spot_node f) k) (rest_value (calls_at m.depth) (here_of f) (spot_node f) q turn got)) weight w m n w m)
goes_as f q turn k weight got w m (Err x) e le h = h
goes_as f q turn k weight got w m (Ok n) e le h =
    let g : Goes f q turn got k w m n = rw e at h in
    record { follows = g.follows; levels = g.levels; lighter = no_heavier _ weight m n m le g.lighter }

-- what was got is known
pub goes_got : {E : Type 0} (f : Where) (turn : ℕ) (xs ys : List Value) (k : ℕ) (w : Store) (m : Meter) (r : Result Next E) → xs ≡ ys
    → IfOk r (λ n. Goes f (kind_of (spot_node f)) turn xs k w m n) → IfOk r (λ n. Goes f (kind_of (spot_node f)) turn ys k w m n)
goes_got f turn xs ys k w m r e h = rw e at h

-- the kind of the node is known
pub moves_as : {E : Type 0} (f : Where) (q : Kind) (turn : ℕ) (got : List Value) (v : Value) (s t : Store) (m : Meter) (r : Result Next E) → kind_of (spot_node f) ≡ q
    → IfOk r (λ n. Moves f q turn got v s m n t) → IfOk r (λ n. Moves f (kind_of (spot_node f)) turn got v s m n t)
moves_as f q turn got v s t m r e h = rw e h

-- a node of a kind is there
pub there_is : (at : Option Node) → (kind_of at ≡ Nothing → ⊥) → is_some at ≡ true
there_is None h = absurd (h refl)
there_is (Some n) h = refl

handed_on : (f : Value → Act) (g : Signal) → ((v : Value) → g ≡ Val v → ⊥) → on_value f g ≡ ret g
handed_on f (Val v) h = absurd (h v refl)
handed_on f (Thrown v) h = refl
handed_on f (Return v) h = refl
handed_on f Break h = refl
handed_on f Continue h = refl

-- an end that is no value passes
pub passes : (f : Value → Act) (g : Signal) (weight : ℕ) (w : Store) (m : Meter) → ((v : Value) → g ≡ Val v → ⊥) → Leads (on_value f g) weight w m (Give g) w m
passes f g weight w m h = record { follows = ap (λ (a : Act). a.run w m.steps) (handed_on f g h); levels = refl; lighter = le_refl m.steps }
