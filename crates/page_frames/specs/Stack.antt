-- What a stack of frames has yet to do.
use Rattle.std.specs.Prelude.{◌≡◌, ℕ, suc, ◌+◌, ◌<◌, ◌^◌, List, [], ◌∷◌}
use Rattle.page_meaning.specs.declared.signal.Signal.{Signal}
use Rattle.page_meaning.specs.Act.{Act, Outcome, ret, bind}
use Rattle.page_meaning.specs.Calls.{calls_at}
use Rattle.page_meaning.specs.Store.{Store}
use Rattle.page_frames.specs.declared.frame.Begin.{Begin}
use Rattle.page_frames.specs.declared.frame.Frame.{Frame}
use Rattle.page_frames.specs.declared.meter.Meter.{Meter}
use Rattle.page_frames.specs.Rest.{mean_of, rest_of}
use Rattle.page_frames.specs.Step.{depth_after}
use Rattle.page_frames.specs.Weight.{weigh_frame}

-- what frames that wait, the first one first, have yet to do from an end, with so much depth left
abbrev pub rest_all : ℕ → List Frame → Signal → Act
rest_all d [] s = ret s
rest_all d (f ∷ fs) s = bind (rest_of (calls_at d) f s) (rest_all (depth_after f d) fs)

-- the depth that is left once they are done
abbrev pub deep : ℕ → List Frame → ℕ
deep d [] = d
deep d (f ∷ fs) = deep (depth_after f d) fs

abbrev pub weigh_all : List Frame → ℕ
weigh_all [] = 0
weigh_all (f ∷ fs) = suc (weigh_frame f) + weigh_all fs

-- something begins above these frames, and what is left to do has this outcome
pub record Runs (b : Begin) (frames : List Frame) (w : Store) (m : Meter) (o : Outcome Signal) : Type 0 where
  pub same : (bind (mean_of (calls_at m.depth) b) (rest_all m.depth frames)).run w m.steps ≡ o
  pub fits : deep m.depth frames < 2 ^ 32

-- these frames go on from an end, and what is left to do has this outcome
pub record GoesOn (frames : List Frame) (s : Signal) (w : Store) (m : Meter) (o : Outcome Signal) : Type 0 where
  pub same : (rest_all m.depth frames s).run w m.steps ≡ o
  pub fits : deep m.depth frames < 2 ^ 32
