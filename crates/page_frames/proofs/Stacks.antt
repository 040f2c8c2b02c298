-- A step of the first frame keeps what the stack has yet to do.
use Rattle.std.proofs.Common.{◌≡◌, ℕ, zero, suc, ◌*◌, ◌^◌, ◌<◌, ◌≤◌, List, [], ◌∷◌, ◌++◌, reverse, refl, sym, ap, ◌∙◌, subst, arith}
use Rattle.std.proofs.lemmas.List.{reverse-append}
use Rattle.page_meaning.specs.declared.signal.Signal.{Signal}
use Rattle.page_meaning.specs.Act.{Act, Outcome, Ended, Stopped, then_on, bind}
use Rattle.page_meaning.specs.Calls.{calls_at}
use Rattle.page_meaning.specs.Store.{Store}
use Rattle.page_frames.specs.declared.frame.Begin.{Begin}
use Rattle.page_frames.specs.declared.frame.Frame.{Frame}
use Rattle.page_frames.specs.declared.frame.Frame.TheVariants.{Expr, Name, Target, Stmt, Each, Case, Called, Visit, Deliver}
use Rattle.page_frames.specs.declared.meter.Meter.{Meter}
use Rattle.page_frames.specs.declared.meter.Next.TheVariants.{Give, Go, Enter, Then, Stopped as Halt}
use Rattle.page_frames.specs.Laws.{Before, StacksFall, StacksFollow}
use Rattle.page_frames.specs.Rest.{mean_of, rest_of}
use Rattle.page_frames.specs.Stack.{rest_all, deep, Runs, GoesOn}
use Rattle.page_frames.specs.Step.{LeadsTo, depth_after}
use Rattle.page_frames.specs.Weight.{heavy}

then_assoc : (o : Outcome Signal) (f g : Signal → Act) → then_on (then_on o f) g ≡ then_on o (λ s. bind (f s) g)
then_assoc (Ended s w n) f g = refl
then_assoc (Stopped w) f g = refl

depth_rises : (f : Frame) (d : ℕ) → d ≤ depth_after f d
depth_rises (Called f) d = omega arith
depth_rises (Visit f) d = omega arith
depth_rises (Expr f) d = omega arith
depth_rises (Name f) d = omega arith
depth_rises (Target f) d = omega arith
depth_rises (Stmt f) d = omega arith
depth_rises (Each f) d = omega arith
depth_rises (Case f) d = omega arith
depth_rises (Deliver f) d = omega arith

deep_rises : (d : ℕ) (fs : List Frame) → d ≤ deep d fs
deep_rises d [] = omega arith
deep_rises d (f ∷ fs) = omega (arith, depth_rises f d, deep_rises (depth_after f d) fs)

-- a signal is given
pub gives : (act : Act) (weight level : ℕ) (below : List Frame) (s : Signal) (w w' : Store) (m m' : Meter) (o : Outcome Signal) → LeadsTo act weight level w m (Give s) w' m' → Before act level below w m o → GoesOn below s w' m' o
gives act weight level below s w w' m m' o l b =
    record {
      same = rw l.levels (ap (λ r. then_on r (rest_all level below)) (sym l.follows) ∙ b.0);
      fits = rw l.levels b.1;
    }

-- a frame goes on at once
pub goes : (act : Act) (weight level : ℕ) (below : List Frame) (f : Frame) (s : Signal) (w w' : Store) (m m' : Meter) (o : Outcome Signal) → LeadsTo act weight level w m (Go f s) w' m' → Before act level below w m o → GoesOn (f ∷ below) s w' m' o
goes act weight level below f s w w' m m' o l b =
    record {
      same = subst (λ d. then_on ((rest_of (calls_at m'.depth) f s).run w' m'.steps) (rest_all d below) ≡ o) (sym l.levels) (ap (λ r. then_on r (rest_all level below)) (sym l.follows) ∙ b.0);
      fits = rw l.levels b.1;
    }

-- something runs in its place
pub enters : (act : Act) (weight level : ℕ) (below : List Frame) (x : Begin) (w w' : Store) (m m' : Meter) (o : Outcome Signal) → LeadsTo act weight level w m (Enter x) w' m' → Before act level below w m o → Runs x below w' m' o
enters act weight level below x w w' m m' o l b =
    record {
      same = subst (λ d. then_on ((mean_of (calls_at m'.depth) x).run w' m'.steps) (rest_all d below) ≡ o) (sym l.levels) (ap (λ r. then_on r (rest_all level below)) (sym l.follows) ∙ b.0);
      fits = rw l.levels b.1;
    }

-- something runs, and a frame waits for it
pub waits : (act : Act) (weight level : ℕ) (below : List Frame) (f : Frame) (x : Begin) (w w' : Store) (m m' : Meter) (o : Outcome Signal) → LeadsTo act weight level w m (Then f x) w' m' → Before act level below w m o → Runs x (f ∷ below) w' m' o
waits act weight level below f x w w' m m' o l b =
    let y : Outcome Signal = (mean_of (calls_at m'.depth) x).run w' m'.steps in
    record {
      same = subst (λ d. then_on y (λ s. bind (rest_of (calls_at m'.depth) f s) (rest_all d below)) ≡ o) (sym l.levels) (sym (then_assoc y (rest_of (calls_at m'.depth) f) (rest_all level below)) ∙ ap (λ r. then_on r (rest_all level below)) (sym l.follows) ∙ b.0);
      fits = rw l.levels b.1;
    }

-- all stops
pub stops : (act : Act) (weight level : ℕ) (below : List Frame) (w w' : Store) (m m' : Meter) (o : Outcome Signal) → LeadsTo act weight level w m Halt w' m' → Before act level below w m o → Stopped w' ≡ o
stops act weight level below w w' m m' o l b = ap (λ r. then_on r (rest_all level below)) (sym l.follows) ∙ b.0

pub stacks_follow : StacksFollow
stacks_follow act weight level below (Give s) w w' m m' o l b = gives act weight level below s w w' m m' o l b
stacks_follow act weight level below (Go f s) w w' m m' o l b = goes act weight level below f s w w' m m' o l b
stacks_follow act weight level below (Enter x) w w' m m' o l b = enters act weight level below x w w' m m' o l b
stacks_follow act weight level below (Then f x) w w' m m' o l b = waits act weight level below f x w w' m m' o l b
stacks_follow act weight level below Halt w w' m m' o l b = stops act weight level below w w' m m' o l b

pub before_begin : (x : Begin) (below : List Frame) (w : Store) (m : Meter) (o : Outcome Signal) → Runs x below w m o → Before (mean_of (calls_at m.depth) x) m.depth below w m o
before_begin x below w m o r = (r.same, r.fits)

pub before_frame : (f : Frame) (s : Signal) (below : List Frame) (w : Store) (m : Meter) (o : Outcome Signal) → GoesOn (f ∷ below) s w m o → Before (rest_of (calls_at m.depth) f s) (depth_after f m.depth) below w m o
before_frame f s below w m o r = (r.same, r.fits)

-- the first frame has room for the level that it gives back
pub frame_fits : (f : Frame) (s : Signal) (below : List Frame) (w : Store) (m : Meter) (o : Outcome Signal) → GoesOn (f ∷ below) s w m o → depth_after f m.depth < 2 ^ 32
frame_fits f s below w m o r = omega (arith, r.fits, deep_rises (depth_after f m.depth) below)

-- ---- each turn makes what is left lighter

times : (n k : ℕ) → n ≤ k → n * heavy ≤ k * heavy
times zero k h = omega arith
times (suc n) zero h = absurd (omega (arith, h))
times (suc n) (suc k) h = let h' : n ≤ k = omega (arith, h) in omega (arith, times n k h')

pub stacks_fall : StacksFall
stacks_fall act weight level rest (Give s) w w' m m' l = omega (arith, times m'.steps m.steps l.lighter)
stacks_fall act weight level rest (Go f s) w w' m m' l = omega (arith, l.lighter)
stacks_fall act weight level rest (Enter x) w w' m m' l = omega (arith, l.lighter)
stacks_fall act weight level rest (Then f x) w w' m m' l = omega (arith, l.lighter)
stacks_fall act weight level rest Halt w w' m m' l = tt

pub top_of : (items below : List Frame) (f : Frame) → items ≡ below ++ f ∷ [] → reverse items ≡ f ∷ reverse below
top_of items below f e = ap reverse e ∙ reverse-append below (f ∷ [])
