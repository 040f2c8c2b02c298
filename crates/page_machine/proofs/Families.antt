-- What the families of kinds have in common.
use Rattle.std.proofs.Common.{◌≡◌, refl, ap, Bool, true, false, ℕ, List, Option, Result, inl, inr, le_refl}
use Rattle.std.specs.Prelude.{◌⊎◌}
use Rattle.code_table.specs.Kind.{kind_of}
use Rattle.code_table.specs.Node.{Node}
use Rattle.code_table.specs.declared.kind.Kind.{Kind}
use Rattle.code_table.specs.declared.kind.Kind.TheVariants as kind
use Rattle.js_values.specs.declared.value.Value.{Value}
use Rattle.page_meaning.specs.declared.signal.Signal.{Signal}
use Rattle.page_meaning.specs.declared.signal.Signal.TheVariants.{Value as Val}
use Rattle.page_meaning.specs.Act.{Act, Calls, give}
use Rattle.page_meaning.specs.Calls.{calls_at}
use Rattle.page_meaning.specs.Names.{Here}
use Rattle.page_meaning.specs.Store.{Store}
use Rattle.page_frames.specs.declared.frame.ExprFrame.{ExprFrame}
use Rattle.page_frames.specs.declared.frame.Frame.TheVariants as frame
use Rattle.page_frames.specs.declared.meter.Meter.{Meter}
use Rattle.page_frames.specs.declared.meter.Next.{Next}
use Rattle.page_frames.specs.declared.meter.Next.TheVariants.{Give}
use Rattle.page_frames.specs.Rest.{rest_value}
use Rattle.page_frames.specs.Step.{Moves, Steps}
use Rattle.page_frames.specs.Weight.{weigh_frame}
use Rattle.page_frames.specs.Where.{Where, here_of, spot_node}
use Rattle.step_parts.proofs.Callers.{passes}
use Rattle.step_parts.specs.Families.{family_of}
use Rattle.step_parts.specs.declared.family.Family.{Family}
use Rattle.step_parts.specs.declared.family.Family.TheVariants.{Plain, Sequence, Operator, Property, Change, Call, Named, Statement}

-- whether expressions of the family wait for values
abbrev waits : Family → Bool
waits Plain = false
waits Named = false
waits Statement = false
waits f = true

gives_back : (calls : Calls) (here : Here) (at : Option Node) (q : Kind) (turn : ℕ) (got : List Value) (v : Value) → waits (family_of q) ≡ false → rest_value calls here at q turn got v ≡ give v
gives_back calls here at kind.List turn got v h = cc
gives_back calls here at (kind.Literal xs) turn got v h = cc
gives_back calls here at (kind.Member x) turn got v h = cc
gives_back calls here at kind.Index turn got v h = cc
gives_back calls here at (kind.CallMember x) turn got v h = cc
gives_back calls here at kind.CallIndex turn got v h = cc
gives_back calls here at kind.Call turn got v h = cc
gives_back calls here at kind.New turn got v h = cc
gives_back calls here at (kind.DeleteMember x) turn got v h = cc
gives_back calls here at kind.DeleteIndex turn got v h = cc
gives_back calls here at (kind.Unary op) turn got v h = cc
gives_back calls here at (kind.UpdateMember up prefix x) turn got v h = cc
gives_back calls here at (kind.UpdateIndex up prefix) turn got v h = cc
gives_back calls here at (kind.Binary op) turn got v h = cc
gives_back calls here at kind.And turn got v h = cc
gives_back calls here at kind.Or turn got v h = cc
gives_back calls here at kind.Cond turn got v h = cc
gives_back calls here at (kind.AssignMember op x) turn got v h = cc
gives_back calls here at (kind.AssignIndex op) turn got v h = cc
gives_back calls here at kind.Comma turn got v h = cc
gives_back calls here at q turn got v h = refl

none_waits : (f : Family) → (f ≡ Plain) ⊎ ((f ≡ Named) ⊎ (f ≡ Statement)) → waits f ≡ false
none_waits f (inl e) = rw e refl
none_waits f (inr (inl e)) = rw e refl
none_waits f (inr (inr e)) = rw e refl

-- a node that waits for no value gives it back
pub given_back : (f : Where) (g : Family) (turn : ℕ) (got : List Value) (v : Value) (w : Store) (m : Meter) → g ≡ family_of (kind_of (spot_node f)) → (g ≡ Plain) ⊎ ((g ≡ Named) ⊎ (g ≡ Statement))
    → Moves f (kind_of (spot_node f)) turn got v w m (Give (Val v)) w
given_back f g turn got v w m e h = record {
  follows = ap (λ (a : Act). a.run w m.steps) (gives_back (calls_at m.depth) (here_of f) (spot_node f) (kind_of (spot_node f)) turn got v (rw (← e) (none_waits g h)));
  levels = refl;
  lighter = le_refl m.steps;
}

-- an end that is no value passes
pub passed_on : (f : ExprFrame) (s : Signal) (w : Store) (m : Meter) → ((v : Value) → s ≡ Val v → ⊥) → Steps (frame.Expr f) s w m (Give s) w m
passed_on f s w m h =
    passes (rest_value (calls_at m.depth) (here_of f.spot) (spot_node f.spot) (kind_of (spot_node f.spot)) f.turn f.got) s (weigh_frame (frame.Expr f)) w m h
