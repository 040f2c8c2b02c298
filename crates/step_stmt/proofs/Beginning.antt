-- How statements begin.
use Rattle.std.proofs.Common.{◌≡◌, ◌≢◌, refl, ap, ◌∙◌, ℕ, suc, ◌+◌, ◌≤◌, ◌<◌, List, Option, Some, None, Result, Ok, Err, IfOk, true, is_some, le_refl, arith}
use Rattle.code_table.specs.Kind.{kind_of}
use Rattle.code_table.specs.Node.{Node, and_child}
use Rattle.code_table.specs.declared.kind.Kind.{Kind}
use Rattle.code_table.specs.declared.kind.Kind.TheVariants as kind
use Rattle.js_values.specs.declared.value.Value.{Value}
use Rattle.page_meaning.specs.declared.signal.Signal.{Signal}
use Rattle.page_meaning.specs.declared.signal.Signal.TheVariants.{Value as Val}
use Rattle.page_meaning.specs.Act.{Act, Calls, ret}
use Rattle.page_meaning.specs.Calls.{calls_at}
use Rattle.page_meaning.specs.Names.{Here}
use Rattle.page_meaning.specs.Store.{Store}
use Rattle.page_frames.specs.declared.meter.Meter.{Meter}
use Rattle.page_frames.specs.declared.meter.Next.{Next}
use Rattle.page_frames.specs.declared.meter.Next.TheVariants.{Give}
use Rattle.page_frames.specs.Parts.{part}
use Rattle.page_frames.specs.Start.{first_of, start_of}
use Rattle.page_frames.specs.Step.{Leads, Opens, Shifts}
use Rattle.page_frames.specs.Weight.{cost, weigh, weigh_signal}
use Rattle.page_frames.specs.Where.{Where, here_of, spot_node}
use Rattle.page_frames.proofs.Callers.{begin_weigh, begins_by_kind, early_part, no_heavier, weigh_less}
use Rattle.page_state.specs.Does.{Does}
use Rattle.step_parts.specs.Families.{family_of}
use Rattle.step_parts.specs.Running.{Awaits}
use Rattle.step_parts.specs.declared.family.Family.TheVariants.{Statement}
use Rattle.step_stmt.specs.Ends.{StartsWith}

-- a statement is a node
pub stands : (at : Option Node) → family_of (kind_of at) ≡ Statement → is_some at ≡ true
stands None h = cc
stands (Some n) h = refl

whole : (at : Option Node) → is_some at ≡ true → weigh at 0 ≤ cost at
whole at h = omega (arith, begin_weigh at h)

-- it begins as its kind does
pub opens : {E : Type 0} (f : Where) (q : Kind) (weight : ℕ) (w w1 : Store) (m m1 : Meter) (r : Result Next E) → kind_of (spot_node f) ≡ q → weight ≤ cost (spot_node f)
    → IfOk r (λ n. Leads (start_of (calls_at m.depth) (here_of f) (spot_node f) q) weight w m n w1 m1) → IfOk r (λ n. Opens f w m n w1 m1)
opens f q weight w w1 m m1 (Err x) e h g = g
opens f q weight w w1 m m1 (Ok n) e h g = record {
  follows = begins_by_kind (calls_at m.depth) (here_of f) (spot_node f) w m.steps ∙ (rw e (g.follows));
  levels = g.levels;
  lighter = no_heavier weight (cost (spot_node f)) m n m1 h g.lighter;
}

-- with all its parts
pub opens_whole : {E : Type 0} (f : Where) (q : Kind) (w w1 : Store) (m m1 : Meter) (r : Result Next E) → family_of (kind_of (spot_node f)) ≡ Statement → kind_of (spot_node f) ≡ q
    → IfOk r (λ n. Leads (start_of (calls_at m.depth) (here_of f) (spot_node f) q) (weigh (spot_node f) 0) w m n w1 m1) → IfOk r (λ n. Opens f w m n w1 m1)
opens_whole f q w w1 m m1 r s e g = opens f q (weigh (spot_node f) 0) w w1 m m1 r e (whole (spot_node f) (stands (spot_node f) s)) g

-- with a step
pub opens_paid : {E : Type 0} (f : Where) (q : Kind) (w w1 : Store) (m m1 : Meter) (r : Result Next E) → kind_of (spot_node f) ≡ q
    → IfOk r (λ n. Leads (start_of (calls_at m.depth) (here_of f) (spot_node f) q) 0 w m n w1 m1) → IfOk r (λ n. Opens f w m n w1 m1)
opens_paid f q w w1 m m1 r e g = opens f q 0 w w1 m m1 r e (omega arith) g

-- it ends as it begins
pub opens_ended : (f : Where) (q : Kind) (s : Signal) (w : Store) (m : Meter) → kind_of (spot_node f) ≡ q → start_of (calls_at m.depth) (here_of f) (spot_node f) q ≡ ret s → Opens f w m (Give s) w m
opens_ended f q s w m e h =
    record {
      follows = begins_by_kind (calls_at m.depth) (here_of f) (spot_node f) w m.steps ∙ (rw e (ap (λ (a : Act). a.run w m.steps) h));
      levels = refl;
      lighter = le_refl m.steps;
    }

-- with its kth part
pub opens_part : {E : Type 0} (f : Where) (k : ℕ) (w : Store) (m : Meter) (r : Result Next E) → family_of (kind_of (spot_node f)) ≡ Statement → StartsWith (kind_of (spot_node f)) k
    → IfOk r (λ n. Awaits f k None k w m n) → IfOk r (λ n. Opens f w m n w m)
opens_part f k w m (Err x) s h g = g
opens_part f k w m (Ok n) s h g = let a : Awaits f k None k w m n = g in record {
  follows =
      begins_by_kind (calls_at m.depth) (here_of f) (spot_node f) w m.steps ∙ ap (λ (a : Act). a.run w m.steps) (h.starts (calls_at m.depth) (here_of f) (spot_node f)) ∙ a.follows;
  levels = a.levels;
  lighter = no_heavier _ _ m n m (h.pays (spot_node f) (stands (spot_node f) s)) a.lighter;
}

-- its part is read at once
pub opens_valued : {E : Type 0} (f : Where) (v : Value) (w w1 : Store) (m m1 : Meter) (r : Result Next E) → family_of (kind_of (spot_node f)) ≡ Statement → StartsWith (kind_of (spot_node f)) 0
    → Does (λ calls. part calls (here_of f) (spot_node f) 0) w (Val v) w → IfOk r (λ n. Shifts f (kind_of (spot_node f)) 0 None (Val v) w m n w1 m1) → IfOk r (λ n. Opens f w m n w1 m1)
opens_valued f v w w1 m m1 (Err x) s h d g = g
opens_valued f v w w1 m m1 (Ok n) s h d g = record {
  follows =
      begins_by_kind (calls_at m.depth) (here_of f) (spot_node f) w m.steps ∙ ap (λ (a : Act). a.run w m.steps) (h.starts (calls_at m.depth) (here_of f) (spot_node f))
      ∙ (rw (d.is (calls_at m.depth) m.steps) (g.follows));
  levels = g.levels;
  lighter = no_heavier _ _ m n m1 (omega (arith, h.pays (spot_node f) (stands (spot_node f) s))) g.lighter;
}

pays_with : (at : Option Node) (k : ℕ) → k < 8 → weigh at k ≤ weigh at 0 → is_some at ≡ true → suc (weigh at (suc k)) + suc (cost (and_child at k)) ≤ cost at
pays_with at k l h s = omega (arith, early_part at k l, h, whole at s)

-- a for-in begins with its object
pub for_in_starts : (q : Kind) → q ≡ kind.ForIn → StartsWith q 1
for_in_starts q e = rw e record { starts = λ calls here at. refl; pays = λ at s. pays_with at 1 (omega arith) (weigh_less at 0) s }

early : (q : Kind) → ((calls : Calls) (here : Here) (at : Option Node) → start_of calls here at q ≡ first_of calls here at q 0) → ((at : Option Node) → weigh_signal at q 0 ≡ weigh at 1) → StartsWith q 0
early q h g = record { starts = h; pays = λ at s. rw (g at) (pays_with at 0 (omega arith) (le_refl (weigh at 0)) s) }

-- the other statements that have parts begin with the one that stands first
pub starts_early : (q : Kind) → family_of q ≡ Statement → q ≢ kind.Empty → q ≢ kind.Continue → q ≢ kind.Break → q ≢ kind.Var → q ≢ kind.Block → q ≢ kind.While → q ≢ kind.Do → q ≢ kind.ForIn
    → StartsWith q 0
starts_early kind.Discard s e c b v l w d f = early kind.Discard (λ calls here at. refl) (λ at. refl)
starts_early kind.If s e c b v l w d f = early kind.If (λ calls here at. refl) (λ at. refl)
starts_early kind.For s e c b v l w d f = early kind.For (λ calls here at. refl) (λ at. refl)
starts_early kind.Return s e c b v l w d f = early kind.Return (λ calls here at. refl) (λ at. refl)
starts_early kind.Throw s e c b v l w d f = early kind.Throw (λ calls here at. refl) (λ at. refl)
starts_early (kind.Try x) s e c b v l w d f = early (kind.Try x) (λ calls here at. refl) (λ at. refl)
starts_early kind.Switch s e c b v l w d f = early kind.Switch (λ calls here at. refl) (λ at. refl)
starts_early kind.Empty s e c b v l w d f = absurd (e refl)
starts_early kind.Continue s e c b v l w d f = absurd (c refl)
starts_early kind.Break s e c b v l w d f = absurd (b refl)
starts_early kind.Var s e c b v l w d f = absurd (v refl)
starts_early kind.Block s e c b v l w d f = absurd (l refl)
starts_early kind.While s e c b v l w d f = absurd (w refl)
starts_early kind.Do s e c b v l w d f = absurd (d refl)
starts_early kind.ForIn s e c b v l w d f = absurd (f refl)
starts_early q s e c b v l w d f = cc

-- the two that begin so and take more than values
pub for_starts : (q : Kind) → q ≡ kind.For → StartsWith q 0
for_starts q e = rw e (early kind.For (λ calls here at. refl) (λ at. refl))

pub try_starts : (x : Option (List ℕ)) (q : Kind) → q ≡ kind.Try x → StartsWith q 0
try_starts x q e = rw e (early (kind.Try x) (λ calls here at. refl) (λ at. refl))
