-- What is called, and `this`.
use Rattle.std.proofs.Common.{◌≡◌, refl, sym, ap, ◌∙◌, ℕ, ◌<◌, ◌≤◌, ◌⊎◌, inl, inr, List, [], ◌∷◌, ◌++◌, length, get_or, Result, Ok, Err, IfOk, arith}
use Rattle.code_table.specs.Kind.{kind_of}
use Rattle.code_table.specs.declared.kind.Kind.{Kind}
use Rattle.code_table.specs.declared.kind.Kind.TheVariants as kind
use Rattle.js_values.specs.declared.value.Value.{Value}
use Rattle.js_values.specs.declared.value.Value.TheVariants.{Undefined}
use Rattle.page_meaning.specs.declared.signal.Signal.TheVariants.{Value as Val}
use Rattle.page_meaning.specs.Act.{Act, Calls, also, on_value, then_on}
use Rattle.page_meaning.specs.Calls.{calls_at}
use Rattle.page_meaning.specs.Properties.{get_index, get_member}
use Rattle.page_meaning.specs.Store.{Store}
use Rattle.page_frames.specs.declared.meter.Meter.{Meter}
use Rattle.page_frames.specs.declared.meter.Next.{Next}
use Rattle.page_frames.specs.RestCalls.{args_from, one_more_arg}
use Rattle.page_frames.specs.Step.{Goes, Leads, Moves}
use Rattle.page_frames.specs.Weight.{weigh, weigh_value}
use Rattle.page_frames.specs.Where.{Where, here_of, spot_node}
use Rattle.page_frames.proofs.Callers.{early_part, no_heavier}
use Rattle.page_state.specs.Does.{Does}
use Rattle.step_parts.specs.Families.{family_of}
use Rattle.step_parts.specs.declared.family.Family.TheVariants.{Call}
use Rattle.step_call.specs.Arguments.{arg_part}

pub of_plain : (q : Kind) → (q ≡ kind.Call) ⊎ (q ≡ kind.New) → family_of q ≡ Call
of_plain q (inl e) = ap family_of e
of_plain q (inr e) = ap family_of e

-- arguments before the next, with `this` and the callee
abbrev Leaves : Where → List Value → ℕ → Store → Meter → Next → Type 0
Leaves f got weight w m n = Leads (args_from (calls_at m.depth) (here_of f) (spot_node f) got) weight w m n w m

-- ---- a callee that is no property, or is constructed

pub plain_begins : {E : Type 0} (f : Where) (turn : ℕ) (got : List Value) (v : Value) (w : Store) (m : Meter) (r : Result Next E) → (kind_of (spot_node f) ≡ kind.Call) ⊎ (kind_of (spot_node f) ≡ kind.New) → length got ≡ 0
    → IfOk r (λ n. Leaves f (Undefined ∷ v ∷ []) (weigh (spot_node f) (arg_part (kind_of (spot_node f)) (Undefined ∷ v ∷ []))) w m n)
    → IfOk r (λ n. Moves f (kind_of (spot_node f)) turn got v w m n w)
plain_begins f turn (t ∷ got) v w m r k l h = absurd (omega arith)
plain_begins f turn [] v w m r (inl k) l h = rw k (rw k at h)
plain_begins f turn [] v w m r (inr k) l h = rw k (rw k at h)

abbrev OneMore : Where → ℕ → List Value → Value → Store → Meter → Next → Type 0
OneMore f turn got v w m n = Leads (one_more_arg (calls_at m.depth) (here_of f) (spot_node f) got v) (weigh_value (spot_node f) (kind_of (spot_node f)) turn got) w m n w m

pub plain_more : {E : Type 0} (f : Where) (turn : ℕ) (got : List Value) (v : Value) (w : Store) (m : Meter) (r : Result Next E) → (kind_of (spot_node f) ≡ kind.Call) ⊎ (kind_of (spot_node f) ≡ kind.New) → 1 ≤ length got
    → IfOk r (λ n. OneMore f turn got v w m n) → IfOk r (λ n. Moves f (kind_of (spot_node f)) turn got v w m n w)
plain_more f turn [] v w m r k l h = absurd (omega arith)
plain_more f turn (t ∷ got) v w m r (inl k) l h = rw k (rw k at h)
plain_more f turn (t ∷ got) v w m r (inr k) l h = rw k (rw k at h)

-- ---- a property that is named

pub member_begins : {E : Type 0} (f : Where) (x : List ℕ) (turn : ℕ) (got : List Value) (v : Value) (s t : Store) (m : Meter) (r : Result Next E) → kind_of (spot_node f) ≡ kind.CallMember x → length got ≡ 0
    → IfOk r (λ n. Leads (also (get_member v x) (λ c. args_from (calls_at m.depth) (here_of f) (spot_node f) (v ∷ c ∷ []))) (weigh (spot_node f) (arg_part (kind_of (spot_node f)) (v ∷ Undefined ∷ []))) s m n t m)
    → IfOk r (λ n. Moves f (kind_of (spot_node f)) turn got v s m n t)
member_begins f x turn (u ∷ got) v s t m r k l h = absurd (omega arith)
member_begins f x turn [] v s t m r k l h = rw k (rw k at h)

pub member_more : {E : Type 0} (f : Where) (x : List ℕ) (turn : ℕ) (got : List Value) (v : Value) (w : Store) (m : Meter) (r : Result Next E) → kind_of (spot_node f) ≡ kind.CallMember x → 1 ≤ length got
    → IfOk r (λ n. OneMore f turn got v w m n) → IfOk r (λ n. Moves f (kind_of (spot_node f)) turn got v w m n w)
member_more f x turn [] v w m r k l h = absurd (omega arith)
member_more f x turn (t ∷ got) v w m r k l h = rw k (rw k at h)

-- ---- a property in brackets

pub index_waits : {E : Type 0} (f : Where) (turn : ℕ) (got base : List Value) (v : Value) (w : Store) (m : Meter) (r : Result Next E) → kind_of (spot_node f) ≡ kind.CallIndex → length got ≡ 0 → base ≡ got ++ v ∷ []
    → IfOk r (λ n. Goes f (kind_of (spot_node f)) turn base 1 w m n) → IfOk r (λ n. Moves f (kind_of (spot_node f)) turn got v w m n w)
index_waits f turn got base v w m (Err x) k l e h = h
index_waits f turn (u ∷ got) base v w m (Ok n) k l e h = absurd (omega arith)
index_waits f turn [] base v w m (Ok n) k l e h =
    let a : Goes f kind.CallIndex turn (v ∷ []) 1 w m n = rw (k, e) at h in
    let b : Moves f kind.CallIndex turn [] v w m n w = record { follows = a.follows; levels = a.levels; lighter = no_heavier _ _ m n m (early_part (spot_node f) 1 (omega arith)) a.lighter } in
    rw k b

pub index_begins : {E : Type 0} (f : Where) (turn : ℕ) (got : List Value) (base v : Value) (s t : Store) (m : Meter) (r : Result Next E) → kind_of (spot_node f) ≡ kind.CallIndex → got ≡ base ∷ []
    → IfOk r (λ n. Leads (also (get_index (calls_at m.depth) base v) (λ c. args_from (calls_at m.depth) (here_of f) (spot_node f) (base ∷ c ∷ []))) (weigh (spot_node f) (arg_part (kind_of (spot_node f)) (base ∷ Undefined ∷ []))) s m n t m)
    → IfOk r (λ n. Moves f (kind_of (spot_node f)) turn got v s m n t)
index_begins f turn got base v s t m r k e h = rw (e, k) (rw k at h)

-- a list of one value
pub lone : (xs : List Value) (u v : Value) → 1 ≤ length xs → length xs < 2 → u ≡ get_or xs 0 u → v ≡ u → xs ≡ v ∷ []
lone [] u v l h e g = absurd (omega arith)
lone (t ∷ []) u v l h e g = ap (λ x. x ∷ []) (sym (g ∙ e))
lone (t ∷ s ∷ xs) u v l h e g = absurd (omega arith)

pub index_more : {E : Type 0} (f : Where) (turn : ℕ) (got : List Value) (v : Value) (w : Store) (m : Meter) (r : Result Next E) → kind_of (spot_node f) ≡ kind.CallIndex → 2 ≤ length got
    → IfOk r (λ n. OneMore f turn got v w m n) → IfOk r (λ n. Moves f (kind_of (spot_node f)) turn got v w m n w)
index_more f turn [] v w m r k l h = absurd (omega arith)
index_more f turn (t ∷ []) v w m r k l h = absurd (omega arith)
index_more f turn (t ∷ c ∷ args) v w m r k l h = rw k (rw k at h)

-- ---- the callee is there

same_part : (q : Kind) (t c d : Value) → arg_part q (t ∷ c ∷ []) ≡ arg_part q (t ∷ d ∷ [])
same_part kind.CallIndex t c d = refl
same_part q t c d = refl

pub callee_got : {E : Type 0} (f : Where) (t c : Value) (act : Calls → Act) (s w : Store) (m : Meter) (r : Result Next E) → Does act s (Val c) w
    → IfOk r (λ n. Leaves f (t ∷ c ∷ []) (weigh (spot_node f) (arg_part (kind_of (spot_node f)) (t ∷ c ∷ []))) w m n)
    → IfOk r (λ n. Leads (also (act (calls_at m.depth)) (λ v. args_from (calls_at m.depth) (here_of f) (spot_node f) (t ∷ v ∷ []))) (weigh (spot_node f) (arg_part (kind_of (spot_node f)) (t ∷ Undefined ∷ []))) s m n w m)
callee_got f t c act s w m (Err x) d h = h
callee_got f t c act s w m (Ok n) d h =
    let a : Leaves f (t ∷ c ∷ []) (weigh (spot_node f) (arg_part (kind_of (spot_node f)) (t ∷ c ∷ []))) w m n = h in
    record {
      follows = ap (λ o. then_on o (on_value (λ v. args_from (calls_at m.depth) (here_of f) (spot_node f) (t ∷ v ∷ [])))) (d.is (calls_at m.depth) m.steps) ∙ a.follows;
      levels = a.levels;
      lighter = rw (same_part (kind_of (spot_node f)) t Undefined c) (a.lighter);
    }
