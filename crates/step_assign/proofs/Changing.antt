-- Properties that are updated or assigned.
use Rattle.std.proofs.Common.{◌≡◌, refl, ℕ, suc, ◌+◌, ◌≤◌, Bool, List, [], ◌∷◌, length, Option, Some, None, Result, IfOk, arith}
use Rattle.code_table.specs.Kind.{kind_of}
use Rattle.code_table.specs.Node.{Node, and_child}
use Rattle.code_table.specs.declared.kind.Kind.TheVariants.{UpdateIndex, AssignMember, AssignIndex}
use Rattle.js_core.specs.declared.operators.BinaryOp.{BinaryOp}
use Rattle.js_values.specs.declared.value.Value.{Value}
use Rattle.js_values.specs.declared.value.Value.TheVariants.{Text}
use Rattle.page_meaning.specs.Act.{also}
use Rattle.page_meaning.specs.Calls.{calls_at}
use Rattle.page_meaning.specs.Convert.{text_in}
use Rattle.page_meaning.specs.Properties.{get_member, key_of, read_property, with_properties}
use Rattle.page_meaning.specs.declared.signal.Signal.TheVariants.{Value as Val}
use Rattle.page_meaning.specs.Store.{Store}
use Rattle.page_frames.specs.declared.meter.Meter.{Meter}
use Rattle.page_frames.specs.declared.meter.Next.{Next}
use Rattle.page_frames.specs.Parts.{part}
use Rattle.page_frames.specs.RestProperties.{put_right, then_right}
use Rattle.page_frames.specs.Step.{Goes, Moves}
use Rattle.page_frames.specs.Weight.{cost, weigh}
use Rattle.page_frames.specs.Where.{Where, here_of, spot_node}
use Rattle.page_frames.proofs.Callers.{early_part, weigh_less}
use Rattle.page_state.specs.Does.{Does}
use Rattle.step_assign.specs.Waiting.{RunsNamed}
use Rattle.step_parts.proofs.Callers.{also_leads, goes_as}

-- nothing was got
pub nothing_got : (got : List Value) → length got ≡ 0 → got ≡ []
nothing_got [] e = refl
nothing_got (v ∷ got) e = cc

-- the second part pays
second_part : (at : Option Node) → suc (weigh at 2) + suc (cost (and_child at 1)) ≤ weigh at 1
second_part at = early_part at 1 (omega arith)

second_beside : (at : Option Node) → suc (weigh at 3) + suc (cost (and_child at 1)) ≤ weigh at 1
second_beside at = omega (arith, early_part at 1 (omega arith), weigh_less at 2)

third_part : (at : Option Node) → suc (weigh at 3) + suc (cost (and_child at 2)) ≤ weigh at 2
third_part at = early_part at 2 (omega arith)

third_beside : (at : Option Node) → suc (weigh at 4) + suc (cost (and_child at 2)) ≤ weigh at 2
third_beside at = omega (arith, early_part at 2 (omega arith), weigh_less at 3)

-- an update waits for its key
pub update_waits : {E : Type 0} (f : Where) (up prefix : Bool) (base : Value) (w : Store) (m : Meter) (r : Result Next E) → kind_of (spot_node f) ≡ UpdateIndex up prefix
    → IfOk r (λ n. Goes f (kind_of (spot_node f)) 1 (base ∷ []) 1 w m n) → IfOk r (λ n. Moves f (UpdateIndex up prefix) 0 [] base w m n w)
update_waits f up prefix base w m r k h = goes_as f (UpdateIndex up prefix) 1 1 (weigh (spot_node f) 1) (base ∷ []) w m r k (second_part (spot_node f)) h

-- an assignment waits for its key
pub index_waits : {E : Type 0} (f : Where) (op : Option BinaryOp) (base : Value) (w : Store) (m : Meter) (r : Result Next E) → kind_of (spot_node f) ≡ AssignIndex op
    → IfOk r (λ n. Goes f (kind_of (spot_node f)) 1 (base ∷ []) 1 w m n) → IfOk r (λ n. Moves f (AssignIndex op) 0 [] base w m n w)
index_waits f op base w m r k h = goes_as f (AssignIndex op) 1 1 (weigh (spot_node f) 1) (base ∷ []) w m r k (second_part (spot_node f)) h

-- a base that was tested waits for the right side
pub member_waits : {E : Type 0} (f : Where) (x : List ℕ) (base o : Value) (w t : Store) (m : Meter) (r : Result Next E) → kind_of (spot_node f) ≡ AssignMember None x
    → Does (λ _. with_properties base) w (Val o) t → IfOk r (λ n. Goes f (kind_of (spot_node f)) 1 (o ∷ []) 1 t m n)
    → IfOk r (λ n. Moves f (AssignMember None x) 0 [] base w m n t)
member_waits f x base o w t m r k d h =
    also_leads (λ _. with_properties base) (λ v. also (part (calls_at m.depth) (here_of f) (spot_node f) 1) (put_right (calls_at m.depth) None v x [])) o (weigh (spot_node f) 1)
    w t t m m r d (goes_as f (AssignMember None x) 1 1 (weigh (spot_node f) 1) (o ∷ []) t m r k (second_part (spot_node f)) h)

-- a property that was read waits for the right side
pub old_waits : {E : Type 0} (f : Where) (op : BinaryOp) (x : List ℕ) (base old : Value) (w t : Store) (m : Meter) (r : Result Next E) → kind_of (spot_node f) ≡ AssignMember (Some op) x
    → Does (λ _. get_member base x) w (Val old) t → IfOk r (λ n. Goes f (kind_of (spot_node f)) 1 (base ∷ old ∷ []) 1 t m n)
    → IfOk r (λ n. Moves f (AssignMember (Some op) x) 0 [] base w m n t)
old_waits f op x base old w t m r k d h =
    also_leads (λ _. get_member base x) (λ v. also (part (calls_at m.depth) (here_of f) (spot_node f) 1) (put_right (calls_at m.depth) (Some op) base x (v ∷ []))) old (weigh (spot_node f) 1)
    w t t m m r d (goes_as f (AssignMember (Some op) x) 1 1 (weigh (spot_node f) 1) (base ∷ old ∷ []) t m r k (second_beside (spot_node f)) h)

-- the name is known, and the right side runs
pub right_waits : {E : Type 0} (f : Where) (base : Value) (x : List ℕ) (w : Store) (m : Meter) (r : Result Next E) → kind_of (spot_node f) ≡ AssignIndex None
    → IfOk r (λ n. Goes f (kind_of (spot_node f)) 2 (base ∷ Text x ∷ []) 2 w m n)
    → IfOk r (λ n. RunsNamed f None base x w m n w)
right_waits f base x w m r k h = goes_as f (AssignIndex None) 2 2 (weigh (spot_node f) 2) (base ∷ Text x ∷ []) w m r k (third_part (spot_node f)) h

-- and so it is where the property was read before
pub right_beside : {E : Type 0} (f : Where) (op : BinaryOp) (base old : Value) (x : List ℕ) (w t : Store) (m : Meter) (r : Result Next E) → kind_of (spot_node f) ≡ AssignIndex (Some op)
    → Does (λ _. read_property base x) w (Val old) t → IfOk r (λ n. Goes f (kind_of (spot_node f)) 2 (base ∷ Text x ∷ old ∷ []) 2 t m n)
    → IfOk r (λ n. RunsNamed f (Some op) base x w m n t)
right_beside f op base old x w t m r k d h =
    also_leads (λ _. read_property base x) (λ v. also (part (calls_at m.depth) (here_of f) (spot_node f) 2) (put_right (calls_at m.depth) (Some op) base x (v ∷ []))) old (weigh (spot_node f) 2)
    w t t m m r d
    (goes_as f (AssignIndex (Some op)) 2 2 (weigh (spot_node f) 2) (base ∷ Text x ∷ old ∷ []) t m r k (third_beside (spot_node f)) h)

-- the name is made of the key
pub key_known : {E : Type 0} (f : Where) (op : Option BinaryOp) (base key : Value) (x : List ℕ) (w t u : Store) (m : Meter) (r : Result Next E)
    → Does (λ calls. key_of calls base key) w (Val (Text x)) t
    → IfOk r (λ n. RunsNamed f op base x t m n u)
    → IfOk r (λ n. Moves f (AssignIndex op) 0 (base ∷ []) key w m n u)
key_known f op base key x w t u m r d h =
    also_leads (λ calls. key_of calls base key) (λ k. then_right (calls_at m.depth) (here_of f) (spot_node f) op 2 base (text_in k)) (Text x) (weigh (spot_node f) 2) w t u m m r d h
