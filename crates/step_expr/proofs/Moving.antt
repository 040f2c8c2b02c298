-- How expressions go on with a value.
use Rattle.std.proofs.Common.{◌≡◌, refl, sym, ◌∙◌, subst, ℕ, suc, ◌+◌, ◌≤◌, List, [], ◌∷◌, Option, Some, None, Result, Ok, Err, IfOk, true, false, arith, le_refl}
use Rattle.std.specs.Prelude.{slice_get}
use Rattle.std.specs.Result.{IsErr, IsErrAnd}
use Rattle.code_table.specs.Kind.{kind_of}
use Rattle.code_table.specs.Node.{Node, and_child}
use Rattle.code_table.specs.declared.kind.Kind.{Kind}
use Rattle.code_table.specs.declared.kind.Kind.TheVariants as kind
use Rattle.js_core.specs.declared.operators.BinaryOp.{BinaryOp}
use Rattle.js_core.specs.declared.operators.UnaryOp.{UnaryOp}
use Rattle.js_values.specs.declared.value.Value.{Value}
use Rattle.page_meaning.specs.declared.signal.Signal.TheVariants.{Value as Val}
use Rattle.page_meaning.specs.Act.{Act, Calls, also, give}
use Rattle.page_meaning.specs.Calls.{calls_at}
use Rattle.page_meaning.specs.Names.{Here}
use Rattle.page_meaning.specs.Store.{Store}
use Rattle.whole_ops.specs.Conversions.{is_true}
use Rattle.page_frames.specs.declared.meter.Meter.{Meter}
use Rattle.page_frames.specs.declared.meter.Next.{Next}
use Rattle.page_frames.specs.declared.meter.Next.TheVariants.{Give}
use Rattle.page_frames.specs.Parts.{part}
use Rattle.page_frames.specs.Rest.{rest_value}
use Rattle.page_frames.specs.Step.{Goes, Moves}
use Rattle.page_frames.specs.Weight.{cost, weigh, weigh_value}
use Rattle.page_frames.specs.Where.{Where, here_of, spot_node}
use Rattle.page_frames.proofs.Callers.{early_part, no_heavier, weigh_less}
use Rattle.js_core.specs.declared.memory.Failure.{Failure}
use Rattle.page_state.specs.Does.{Gives, Raises, itself}
use Rattle.step_parts.specs.Families.{family_of}
use Rattle.step_parts.specs.Running.{Enters}
use Rattle.step_parts.specs.declared.family.Family.TheVariants.{Operator, Property}

-- no other kinds are of these families
pub no_operator : (q : Kind) → family_of q ≡ Operator → ((op : UnaryOp) → q ≡ kind.Unary op → ⊥) → ((op : BinaryOp) → q ≡ kind.Binary op → ⊥) → (q ≡ kind.And → ⊥) → (q ≡ kind.Or → ⊥) → (q ≡ kind.Cond → ⊥) → ⊥
no_operator (kind.Unary op) h a b c d e = a op refl
no_operator (kind.Binary op) h a b c d e = b op refl
no_operator kind.And h a b c d e = c refl
no_operator kind.Or h a b c d e = d refl
no_operator kind.Cond h a b c d e = e refl
no_operator q h a b c d e = cc h

pub no_property : (q : Kind) → family_of q ≡ Property → ((x : List ℕ) → q ≡ kind.Member x → ⊥) → (q ≡ kind.Index → ⊥) → ((x : List ℕ) → q ≡ kind.DeleteMember x → ⊥) → (q ≡ kind.DeleteIndex → ⊥) → ⊥
no_property (kind.Member x) h a b c d = a x refl
no_property kind.Index h a b c d = b refl
no_property (kind.DeleteMember x) h a b c d = c x refl
no_property kind.DeleteIndex h a b c d = d refl
no_property q h a b c d = cc h

-- ---- two sides

-- what it does after its left side is to run the right side
pub record TakesRight (q : Kind) (v : Value) : Type 0 where
  pub follows : (calls : Calls) (here : Here) (at : Option Node) (w : Store) (n : ℕ) → (rest_value calls here at q 0 [] v).run w n ≡ (also (part calls here at 1) (rest_value calls here at q 1 (v ∷ []))).run w n
  pub before : (at : Option Node) → weigh_value at q 0 [] ≡ weigh at 1
  pub after : (at : Option Node) → weigh_value at q 1 (v ∷ []) ≡ weigh at 2

pub binary_right : (op : BinaryOp) (v : Value) → TakesRight (kind.Binary op) v
binary_right op v = record { follows = λ calls here at w n. refl; before = λ at. refl; after = λ at. refl }

pub index_right : (v : Value) → TakesRight kind.Index v
index_right v = record { follows = λ calls here at w n. refl; before = λ at. refl; after = λ at. refl }

pub delete_right : (v : Value) → TakesRight kind.DeleteIndex v
delete_right v = record { follows = λ calls here at w n. refl; before = λ at. refl; after = λ at. refl }

pays_right : (at : Option Node) (a b : ℕ) → a ≡ weigh at 1 → b ≡ weigh at 2 → suc b + suc (cost (and_child at 1)) ≤ a
pays_right at a b e g = omega (arith, e, g, early_part at 1 (omega arith))

right_of_none : {E : Type 0} (f : Where) (q : Kind) (v : Value) (w : Store) (m : Meter) (r : Result Next E) → kind_of (spot_node f) ≡ q → TakesRight q v
    → IfOk r (λ n. Goes f (kind_of (spot_node f)) 1 (v ∷ []) 1 w m n) → IfOk r (λ n. Moves f q 0 [] v w m n w)
right_of_none f q v w m (Err x) k t h = h
right_of_none f q v w m (Ok n) k t h =
    let a : Goes f q 1 (v ∷ []) 1 w m n = subst (λ (k : Kind). Goes f k 1 (v ∷ []) 1 w m n) k h in record {
      follows = t.follows (calls_at m.depth) (here_of f) (spot_node f) w m.steps ∙ a.follows;
      levels = a.levels;
      lighter = no_heavier _ _ m n m (pays_right (spot_node f) _ _ (t.before (spot_node f)) (t.after (spot_node f))) a.lighter;
    }

-- where nothing is held
pub takes_right : {E : Type 0} (f : Where) (q : Kind) (got : List Value) (v : Value) (w : Store) (m : Meter) (r : Result Next E) → kind_of (spot_node f) ≡ q → None ≡ slice_get got 0 → TakesRight q v
    → IfOk r (λ n. Goes f (kind_of (spot_node f)) 1 (v ∷ []) 1 w m n) → IfOk r (λ n. Moves f q 0 got v w m n w)
takes_right f q [] v w m r k e t h = right_of_none f q v w m r k t h
takes_right f q (x ∷ got) v w m r k e t h = absurd (cc e)

-- where this is held
pub with_left : {E : Type 0} (f : Where) (q : Kind) (got : List Value) (left v : Value) (w w' : Store) (m : Meter) (r : Result Next E) → Some left ≡ slice_get got 0
    → ((more : List Value) → IfOk r (λ n. Moves f q 0 (left ∷ more) v w m n w')) → IfOk r (λ n. Moves f q 0 got v w m n w')
with_left f q [] left v w w' m r e h = absurd (cc e)
with_left f q (x ∷ got) left v w w' m r e h =
    let i : left ≡ x = cc e in subst (λ (y : Value). IfOk r (λ n. Moves f q 0 (y ∷ got) v w m n w')) i (h got)

-- ---- choices

pub and_right : {E : Type 0} (f : Where) (v : Value) (w : Store) (m : Meter) (r : Result Next E) → is_true v ≡ true → IfOk r (λ n. Enters f 1 w m n) → IfOk r (λ n. Moves f kind.And 0 [] v w m n w)
and_right f v w m (Err x) e h = h
and_right f v w m (Ok n) e h = record {
  follows = rw e (h.follows);
  levels = h.levels;
  lighter = no_heavier _ (weigh (spot_node f) 1) m n m (omega (arith, early_part (spot_node f) 1 (omega arith))) h.lighter;
}

pub and_left : (f : Where) (v : Value) (w : Store) (m : Meter) → is_true v ≡ false → Moves f kind.And 0 [] v w m (Give (Val v)) w
and_left f v w m e = record { follows = rw e refl; levels = refl; lighter = le_refl m.steps }

pub or_right : {E : Type 0} (f : Where) (v : Value) (w : Store) (m : Meter) (r : Result Next E) → is_true v ≡ false → IfOk r (λ n. Enters f 1 w m n) → IfOk r (λ n. Moves f kind.Or 0 [] v w m n w)
or_right f v w m (Err x) e h = h
or_right f v w m (Ok n) e h = record {
  follows = rw e (h.follows);
  levels = h.levels;
  lighter = no_heavier _ (weigh (spot_node f) 1) m n m (omega (arith, early_part (spot_node f) 1 (omega arith))) h.lighter;
}

pub or_left : (f : Where) (v : Value) (w : Store) (m : Meter) → is_true v ≡ true → Moves f kind.Or 0 [] v w m (Give (Val v)) w
or_left f v w m e = record { follows = rw e refl; levels = refl; lighter = le_refl m.steps }

pub chosen_yes : {E : Type 0} (f : Where) (v : Value) (w : Store) (m : Meter) (r : Result Next E) → is_true v ≡ true → IfOk r (λ n. Enters f 1 w m n) → IfOk r (λ n. Moves f kind.Cond 0 [] v w m n w)
chosen_yes f v w m (Err x) e h = h
chosen_yes f v w m (Ok n) e h = record {
  follows = rw e (h.follows);
  levels = h.levels;
  lighter = no_heavier _ (weigh (spot_node f) 1) m n m (omega (arith, early_part (spot_node f) 1 (omega arith))) h.lighter;
}

pub chosen_no : {E : Type 0} (f : Where) (v : Value) (w : Store) (m : Meter) (r : Result Next E) → is_true v ≡ false → IfOk r (λ n. Enters f 2 w m n) → IfOk r (λ n. Moves f kind.Cond 0 [] v w m n w)
chosen_no f v w m (Err x) e h = h
chosen_no f v w m (Ok n) e h = record {
  follows = rw e (h.follows);
  levels = h.levels;
  lighter = no_heavier _ (weigh (spot_node f) 1) m n m (omega (arith, early_part (spot_node f) 2 (omega arith), weigh_less (spot_node f) 1)) h.lighter;
}

-- ---- what is done at once

-- a fault that is handed on
pub handed : (act : Calls → Act) (s t : Store) (e : Failure Value) (r : Result Value (Failure Value)) → Raises act s t e → IsErr r × IsErrAnd r (λ d. d ≡ e) → Gives itself act s t r
handed act s t e (Ok x) d h = cc (h.0)
handed act s t e (Err x) d h = rw (h.1) d

-- a value that is there
pub gives_same : (v u : Value) (s : Store) → u ≡ v → Gives itself (λ _. give v) s s (Ok u)
gives_same v u s e = record { is = λ calls n. rw e refl }
