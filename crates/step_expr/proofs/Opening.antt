-- How expressions begin.
use Rattle.std.proofs.Common.{◌≡◌, refl, sym, ◌∙◌, subst, ℕ, suc, ◌+◌, ◌≤◌, List, [], Option, Some, None, Result, Ok, Err, IfOk, true, is_some, Bool, ℤ, arith}
use Rattle.code_table.specs.Kind.{kind_of}
use Rattle.code_table.specs.Node.{Node, and_child}
use Rattle.code_table.specs.declared.kind.Kind.{Kind}
use Rattle.code_table.specs.declared.kind.Kind.TheVariants as kind
use Rattle.js_core.specs.Tree as tree
use Rattle.js_values.specs.declared.value.Value.{Value}
use Rattle.page_meaning.specs.declared.signal.Signal.TheVariants.{Value as Val}
use Rattle.page_meaning.specs.Act.{Calls}
use Rattle.page_meaning.specs.Calls.{calls_at}
use Rattle.page_meaning.specs.Names.{Here}
use Rattle.page_meaning.specs.Store.{Store}
use Rattle.page_frames.specs.declared.meter.Meter.{Meter}
use Rattle.page_frames.specs.declared.meter.Next.{Next}
use Rattle.page_frames.specs.Parts.{part}
use Rattle.page_frames.specs.Start.{first_part, start_of}
use Rattle.page_frames.specs.Step.{Goes, Leads, Moves, Opens}
use Rattle.page_frames.specs.Weight.{cost, weigh, weigh_value}
use Rattle.page_frames.specs.Where.{Where, here_of, spot_node}
use Rattle.page_frames.proofs.Callers.{begin_weigh, begins_by_kind, early_part, no_heavier}
use Rattle.js_core.specs.declared.memory.Failure.{Failure}
use Rattle.page_state.specs.Does.{Does, Gives, itself}
use Rattle.step_parts.specs.Families.{family_of}
use Rattle.step_parts.specs.declared.family.Family.TheVariants.{Plain}
use Rattle.step_expr.specs.Begins.{begins_first}

-- the kind of a node says how it begins
pub opens : {E : Type 0} (f : Where) (w w' : Store) (m m' : Meter) (r : Result Next E)
    → IfOk r (λ n. Leads (start_of (calls_at m.depth) (here_of f) (spot_node f) (kind_of (spot_node f))) (cost (spot_node f)) w m n w' m') → IfOk r (λ n. Opens f w m n w' m')
opens f w w' m m' (Err x) h = h
opens f w w' m m' (Ok n) h = record {
  follows = begins_by_kind (calls_at m.depth) (here_of f) (spot_node f) w m.steps ∙ h.follows;
  levels = h.levels;
  lighter = h.lighter;
}

-- and so does a kind that it is known to have
pub opens_as : {E : Type 0} (f : Where) (q : Kind) (w w' : Store) (m m' : Meter) (r : Result Next E) → kind_of (spot_node f) ≡ q
    → IfOk r (λ n. Leads (start_of (calls_at m.depth) (here_of f) (spot_node f) q) (cost (spot_node f)) w m n w' m') → IfOk r (λ n. Opens f w m n w' m')
opens_as f q w w' m m' r e h =
    opens f w w' m m' r (subst (λ k. IfOk r (λ n. Leads (start_of (calls_at m.depth) (here_of f) (spot_node f) k) (cost (spot_node f)) w m n w' m')) (sym e) h)

-- ---- the first part

-- the first part runs with nothing got
record StartsFirst (at : Option Node) (q : Kind) : Type 0 where
  starts : (calls : Calls) (here : Here) (w : Store) (n : ℕ) → (start_of calls here at q).run w n ≡ (first_part calls here at q).run w n
  weighs : weigh_value at q 0 [] ≡ weigh at 1

starts_first : (at : Option Node) (q : Kind) → begins_first (family_of q) ≡ true → StartsFirst at q
starts_first at (kind.Unary op) b = record { starts = λ calls here w n. refl; weighs = refl }
starts_first at (kind.Binary op) b = record { starts = λ calls here w n. refl; weighs = refl }
starts_first at kind.And b = record { starts = λ calls here w n. refl; weighs = refl }
starts_first at kind.Or b = record { starts = λ calls here w n. refl; weighs = refl }
starts_first at kind.Cond b = record { starts = λ calls here w n. refl; weighs = refl }
starts_first at (kind.Member x) b = record { starts = λ calls here w n. refl; weighs = refl }
starts_first at kind.Index b = record { starts = λ calls here w n. refl; weighs = refl }
starts_first at (kind.DeleteMember x) b = record { starts = λ calls here w n. refl; weighs = refl }
starts_first at kind.DeleteIndex b = record { starts = λ calls here w n. refl; weighs = refl }
starts_first at (kind.UpdateMember up prefix x) b = record { starts = λ calls here w n. refl; weighs = refl }
starts_first at (kind.UpdateIndex up prefix) b = record { starts = λ calls here w n. refl; weighs = refl }
starts_first at (kind.AssignMember op x) b = record { starts = λ calls here w n. refl; weighs = refl }
starts_first at (kind.AssignIndex op) b = record { starts = λ calls here w n. refl; weighs = refl }
starts_first at (kind.CallMember x) b = record { starts = λ calls here w n. refl; weighs = refl }
starts_first at kind.CallIndex b = record { starts = λ calls here w n. refl; weighs = refl }
starts_first at kind.Call b = record { starts = λ calls here w n. refl; weighs = refl }
starts_first at kind.New b = record { starts = λ calls here w n. refl; weighs = refl }
starts_first at q b = cc b

there : (at : Option Node) → begins_first (family_of (kind_of at)) ≡ true → is_some at ≡ true
there None b = cc b
there (Some n) b = refl

pays_first : (at : Option Node) (weight : ℕ) → is_some at ≡ true → weight ≡ weigh at 1 → suc weight + suc (cost (and_child at 0)) ≤ cost at
pays_first at weight t e = omega (arith, e, early_part at 0 (omega arith), begin_weigh at t)

pub begins_with_first : {E : Type 0} (f : Where) (got : List Value) (w : Store) (m : Meter) (r : Result Next E) → begins_first (family_of (kind_of (spot_node f))) ≡ true → got ≡ []
    → IfOk r (λ n. Goes f (kind_of (spot_node f)) 0 got 0 w m n) → IfOk r (λ n. Opens f w m n w m)
begins_with_first f got w m (Err x) b e h = h
begins_with_first f got w m (Ok n) b e h =
    let a : Goes f (kind_of (spot_node f)) 0 [] 0 w m n = subst (λ (g : List Value). Goes f (kind_of (spot_node f)) 0 g 0 w m n) e h in
    let s : StartsFirst (spot_node f) (kind_of (spot_node f)) = starts_first (spot_node f) (kind_of (spot_node f)) b in record {
      follows = begins_by_kind (calls_at m.depth) (here_of f) (spot_node f) w m.steps ∙ s.starts (calls_at m.depth) (here_of f) w m.steps ∙ a.follows;
      levels = a.levels;
      lighter = no_heavier _ _ m n m (pays_first (spot_node f) _ (there (spot_node f) b) s.weighs) a.lighter;
    }

-- the first part is read at once
pub opens_moved : {E : Type 0} (f : Where) (got : List Value) (v : Value) (w t : Store) (m : Meter) (r : Result Next E) → begins_first (family_of (kind_of (spot_node f))) ≡ true → got ≡ []
    → Does (λ calls. part calls (here_of f) (spot_node f) 0) w (Val v) w → IfOk r (λ n. Moves f (kind_of (spot_node f)) 0 got v w m n t) → IfOk r (λ n. Opens f w m n t m)
opens_moved f got v w t m (Err x) b e d h = h
opens_moved f got v w t m (Ok n) b e d h =
    let a : Moves f (kind_of (spot_node f)) 0 [] v w m n t = rw e at h in
    let s : StartsFirst (spot_node f) (kind_of (spot_node f)) = starts_first (spot_node f) (kind_of (spot_node f)) b in record {
      follows = begins_by_kind (calls_at m.depth) (here_of f) (spot_node f) w m.steps ∙ s.starts (calls_at m.depth) (here_of f) w m.steps ∙ (rw (d.is (calls_at m.depth) m.steps) (a.follows));
      levels = a.levels;
      lighter = no_heavier _ _ m n m (omega (arith, pays_first (spot_node f) _ (there (spot_node f) b) s.weighs)) a.lighter;
    }

-- ---- what is done at once

-- a value by the kind of its node
pub plain_as : (f : Where) (q : Kind) (s t : Store) (r : Result Value (Failure Value)) → kind_of (spot_node f) ≡ q → Gives itself (λ calls. start_of calls (here_of f) (spot_node f) q) s t r
    → Gives itself (λ calls. start_of calls (here_of f) (spot_node f) (kind_of (spot_node f))) s t r
plain_as f q s t r e g = subst (λ k. Gives itself (λ calls. start_of calls (here_of f) (spot_node f) k) s t r) (sym e) g

-- no other kind is of the family
pub no_plain : (q : Kind) → family_of q ≡ Plain → (q ≡ kind.Nothing → ⊥) → ((x : List ℕ) → q ≡ kind.Name x → ⊥) → ((n : Option ℤ) → q ≡ kind.Num n → ⊥) → ((t : List ℕ) → q ≡ kind.Text t → ⊥)
    → ((b : Bool) → q ≡ kind.Bool b → ⊥) → (q ≡ kind.Null → ⊥) → (q ≡ kind.This → ⊥) → ((c : tree.Code) → q ≡ kind.Func c → ⊥) → ((x : List ℕ) → q ≡ kind.TypeofName x → ⊥)
    → ((up prefix : Bool) (x : List ℕ) → q ≡ kind.UpdateName up prefix x → ⊥) → ⊥
no_plain kind.Nothing h a b c d e g i j k l = a refl
no_plain (kind.Name x) h a b c d e g i j k l = b x refl
no_plain (kind.Num n) h a b c d e g i j k l = c n refl
no_plain (kind.Text t) h a b c d e g i j k l = d t refl
no_plain (kind.Bool y) h a b c d e g i j k l = e y refl
no_plain kind.Null h a b c d e g i j k l = g refl
no_plain kind.This h a b c d e g i j k l = i refl
no_plain (kind.Func z) h a b c d e g i j k l = j z refl
no_plain (kind.TypeofName x) h a b c d e g i j k l = k x refl
no_plain (kind.UpdateName up prefix x) h a b c d e g i j k l = l up prefix x refl
no_plain q h a b c d e g i j k l = cc h
