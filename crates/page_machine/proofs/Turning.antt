-- A turn of the loop keeps what there is yet to do, and makes it lighter.
use Rattle.std.proofs.Common.{◌≡◌, ℕ, suc, ◌+◌, ◌<◌, ◌^◌, List, [], ◌∷◌, ◌++◌, reverse, refl, arith}
use Rattle.page_meaning.specs.declared.signal.Signal.{Signal}
use Rattle.page_meaning.specs.Act.{Outcome, Ended, Stopped, then_on}
use Rattle.page_meaning.specs.Calls.{calls_at}
use Rattle.page_meaning.specs.Store.{Store}
use Rattle.page_frames.specs.declared.frame.Begin.{Begin}
use Rattle.page_frames.specs.declared.frame.Frame.{Frame}
use Rattle.page_frames.specs.declared.meter.Meter.{Meter}
use Rattle.page_frames.specs.declared.meter.Next.{Next}
use Rattle.page_frames.specs.declared.meter.Next.TheVariants.{Give, Go, Enter, Then, Stopped as Halt}
use Rattle.page_frames.specs.Laws.{Afterwards, IsLighter}
use Rattle.page_frames.specs.Rest.{mean_of, rest_of}
use Rattle.page_frames.specs.Stack.{GoesOn, Runs, rest_all, weigh_all}
use Rattle.page_frames.specs.Step.{Begins, Steps, depth_after, weigh_next}
use Rattle.page_frames.specs.Weight.{load, weigh_begin, weigh_frame}
use Rattle.page_frames.proofs.Callers.{before_begin, before_frame, frame_fits, stacks_fall, stacks_follow, top_of}

-- how much there is yet to do; nothing, once all stopped
abbrev pub burden : Next → Meter → List Frame → ℕ
burden Halt m frames = 0
burden (Give s) m frames = suc (load m.steps (weigh_next (Give s) + weigh_all frames))
burden (Go f s) m frames = suc (load m.steps (weigh_next (Go f s) + weigh_all frames))
burden (Enter b) m frames = suc (load m.steps (weigh_next (Enter b) + weigh_all frames))
burden (Then f b) m frames = suc (load m.steps (weigh_next (Then f b) + weigh_all frames))

lighter : (next : Next) (weight : ℕ) (m m' : Meter) (frames : List Frame) → IsLighter next (weigh_all frames) m weight m'
    → burden next m' frames < suc (load m.steps (suc weight + weigh_all frames))
lighter Halt weight m m' frames l = omega arith
lighter (Give s) weight m m' frames l = omega (arith, l)
lighter (Go f s) weight m m' frames l = omega (arith, l)
lighter (Enter b) weight m m' frames l = omega (arith, l)
lighter (Then f b) weight m m' frames l = omega (arith, l)

-- what a turn leaves: the same to do, and less of it than this
pub record Turned (next : Next) (frames : List Frame) (w : Store) (m : Meter) (o : Outcome Signal) (before : ℕ) : Type 0 where
  pub keeps : Afterwards next frames w m o
  pub falls : burden next m frames < before

pub frame_turned : (f : Frame) (s : Signal) (below : List Frame) (next : Next) (w w' : Store) (m m' : Meter) (o : Outcome Signal) → Steps f s w m next w' m' → GoesOn (f ∷ below) s w m o
    → Turned next below w' m' o (suc (load m.steps (suc (weigh_frame f) + weigh_all below)))
frame_turned f s below next w w' m m' o l g = record {
  keeps = stacks_follow (rest_of (calls_at m.depth) f s) (weigh_frame f) (depth_after f m.depth) below next w w' m m' o l (before_frame f s below w m o g);
  falls = lighter next (weigh_frame f) m m' below (stacks_fall (rest_of (calls_at m.depth) f s) (weigh_frame f) (depth_after f m.depth) (weigh_all below) next w w' m m' l);
}

pub begin_turned : (b : Begin) (below : List Frame) (next : Next) (w w' : Store) (m m' : Meter) (o : Outcome Signal) → Begins b w m next w' m' → Runs b below w m o
    → Turned next below w' m' o (suc (load m.steps (suc (weigh_begin b) + weigh_all below)))
begin_turned b below next w w' m m' o l g = record {
  keeps = stacks_follow (mean_of (calls_at m.depth) b) (weigh_begin b) m.depth below next w w' m m' o l (before_begin b below w m o g);
  falls = lighter next (weigh_begin b) m m' below (stacks_fall (mean_of (calls_at m.depth) b) (weigh_begin b) m.depth (weigh_all below) next w w' m m' l);
}

-- ---- the turns of the loop, whose frames stand with the first one last

same_end : (o : Outcome Signal) → then_on o (rest_all 0 []) ≡ o
same_end (Ended s w n) = refl
same_end (Stopped w) = refl

pub begun : (b : Begin) (items : List Frame) (w : Store) (m : Meter) → items ≡ [] → m.depth < 2 ^ 32 → Runs b (reverse items) w m ((mean_of (calls_at m.depth) b).run w m.steps)
begun b items w m e fits = rw e (record { same = same_end ((mean_of (calls_at m.depth) b).run w m.steps); fits = fits })

-- the last frame goes on
pub pop_fits : (items below : List Frame) (now : Next) (f : Frame) (s : Signal) (w : Store) (m : Meter) (o : Outcome Signal) → now ≡ Give s → items ≡ below ++ f ∷ [] → Afterwards now (reverse items) w m o → depth_after f m.depth < 2 ^ 32
pop_fits items below now f s w m o is popped h =
    let g : GoesOn (f ∷ reverse below) s w m o = rw (← top_of items below f popped) (rw is at h) in
    frame_fits f s (reverse below) w m o g

pub pop_turned : (items below : List Frame) (now : Next) (f : Frame) (s : Signal) (next : Next) (w w' : Store) (m m' : Meter) (o : Outcome Signal) → now ≡ Give s → items ≡ below ++ f ∷ [] → Afterwards now (reverse items) w m o
    → Steps f s w m next w' m' → Turned next (reverse below) w' m' o (burden now m (reverse items))
pop_turned items below now f s next w w' m m' o is popped h l =
    let g : GoesOn (f ∷ reverse below) s w m o = rw (← top_of items below f popped) (rw is at h) in
    let t = frame_turned f s (reverse below) next w w' m m' o l g in
    rw (is, top_of items below f popped) (record { keeps = t.keeps; falls = omega (arith, t.falls) })

-- a frame goes on at once
pub go_fits : (below : List Frame) (now : Next) (f : Frame) (s : Signal) (w : Store) (m : Meter) (o : Outcome Signal) → now ≡ Go f s → Afterwards now below w m o → depth_after f m.depth < 2 ^ 32
go_fits below now f s w m o is h = let g : GoesOn (f ∷ below) s w m o = rw is at h in frame_fits f s below w m o g

pub go_turned : (below : List Frame) (now : Next) (f : Frame) (s : Signal) (next : Next) (w w' : Store) (m m' : Meter) (o : Outcome Signal) → now ≡ Go f s → Afterwards now below w m o → Steps f s w m next w' m'
    → Turned next below w' m' o (burden now m below)
go_turned below now f s next w w' m m' o is h l = rw is (frame_turned f s below next w w' m m' o l (rw is at h))

-- something runs in its place
pub enter_turned : (below : List Frame) (now : Next) (b : Begin) (next : Next) (w w' : Store) (m m' : Meter) (o : Outcome Signal) → now ≡ Enter b → Afterwards now below w m o → Begins b w m next w' m'
    → Turned next below w' m' o (burden now m below)
enter_turned below now b next w w' m m' o is h l = rw is (begin_turned b below next w w' m m' o l (rw is at h))

-- something runs, and a frame waits for it
pub then_turned : (items more : List Frame) (now : Next) (f : Frame) (b : Begin) (next : Next) (w w' : Store) (m m' : Meter) (o : Outcome Signal) → now ≡ Then f b → more ≡ items ++ f ∷ [] → Afterwards now (reverse items) w m o
    → Begins b w m next w' m' → Turned next (reverse more) w' m' o (burden now m (reverse items))
then_turned items more now f b next w w' m m' o is pushed h l =
    let t : Turned next (f ∷ reverse items) w' m' o (suc (load m.steps (suc (weigh_begin b) + weigh_all (f ∷ reverse items)))) = begin_turned b (f ∷ reverse items) next w w' m m' o l (rw is at h) in
    rw (is, top_of more items f pushed) (record { keeps = t.keeps; falls = omega (arith, t.falls) })

-- the stack is empty
pub ended_turned : (items : List Frame) (now : Next) (s : Signal) (w : Store) (m : Meter) (o : Outcome Signal) → now ≡ Give s → items ≡ [] → Afterwards now (reverse items) w m o → Ended s w m.steps ≡ o
ended_turned items now s w m o is none h = let g : GoesOn [] s w m o = rw (is, none) at h in g.same

pub stopped_turned : (items : List Frame) (now : Next) (w : Store) (m : Meter) (o : Outcome Signal) → now ≡ Halt → Afterwards now items w m o → Stopped w ≡ o
stopped_turned items now w m o is h = rw is at h
