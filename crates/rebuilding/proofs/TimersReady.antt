-- The timers of a page at rest can be started again: ids are distinct, rests are times of the language, and each calls a function that stands.
use Rattle.std.proofs.Common.{◌≡◌, inl, inr, refl, ap, subst, ◌∙◌, ℕ, ◌<◌, ◌==◌, ◌||◌, List, [], ◌∷◌, length, arith}
use Rattle.heap_walker.proofs.Callers.{roots_in_walk, timers_among}
use Rattle.heap_walker.specs.Still.{Still}
use Rattle.heap_walker.specs.Things.{IsWalk}
use Rattle.object_heap.specs.Chain.{object_at}
use Rattle.object_heap.specs.Heap.{Contents}
use Rattle.object_heap.specs.declared.object.Class.TheVariants as class
use Rattle.page_host.specs.Steps.{time_limit}
use Rattle.page_meaning.specs.Places.{document}
use Rattle.page_meaning.specs.Store.{Store}
use Rattle.page_writer.specs.Frame.{nth_node}
use Rattle.rebuild_plan.specs.Timers.{moved_timer, moved_timers}
use Rattle.rebuilding.specs.Rebuilt.{ClassIsRebuilt, nth}
use Rattle.rebuilding.specs.Scene.{IsRunning, Scene}
use Rattle.rebuilding.proofs.Callables.{known_callable, known_stands}
use Rattle.rebuilding.proofs.Known.{IsKnown, timer_in}
use Rattle.rebuilding.proofs.TimerPhase.{IsTimer}
use Rattle.timer_queue.specs.Laws.{HasDistinctIds}
use Rattle.timer_queue.specs.Timely.{AreTimely, IsTimely}
use Rattle.timer_queue.specs.Timers.{IsIn, is_live}
use Rattle.timer_queue.specs.declared.timer.Live.{Live}

live_moved : (things : List ℕ) (clock : ℕ) (ts : List Live) (id : ℕ) → is_live (moved_timers things clock ts) id ≡ is_live ts id
live_moved things clock [] id = refl
live_moved things clock (t ∷ ts) id = ap (λ b. (t.id == id) || b) (live_moved things clock ts id)

pub distinct_moved : (things : List ℕ) (clock : ℕ) (ts : List Live) → HasDistinctIds ts → HasDistinctIds (moved_timers things clock ts)
distinct_moved things clock [] d = tt
distinct_moved things clock (t ∷ ts) d = (live_moved things clock ts t.id ∙ d.0, distinct_moved things clock ts d.1)

-- each is one that was saved
record CameFrom (things : List ℕ) (clock : ℕ) (ts : List Live) (u : Live) : Type 0 where
  timer : Live
  inside : IsIn ts timer
  is : moved_timer things clock timer ≡ u

came_from : (things : List ℕ) (clock : ℕ) (ts : List Live) (u : Live) → IsIn (moved_timers things clock ts) u → CameFrom things clock ts u
came_from things clock [] u i = absurd i
came_from things clock (t ∷ ts) u (inl e) = record { timer = t; inside = inl refl; is = e }
came_from things clock (t ∷ ts) u (inr i) = let f = came_from things clock ts u i in record { timer = f.timer; inside = inr f.inside; is = f.is }

pub timely_moved : (things : List ℕ) (clock : ℕ) (ts : List Live) → AreTimely time_limit clock ts → AreTimely time_limit 0 (moved_timers things clock ts)
timely_moved things clock ts timely u i =
    let f = came_from things clock ts u i in
    let was : IsTimely time_limit clock f.timer = timely f.timer f.inside in
    subst (IsTimely time_limit 0) f.is
    (record { id = was.id; few = was.few; ahead = omega arith; near = omega (arith, was.near, was.ahead); period = was.period })

module _ (c : Scene) (h : Contents) (s : Store) (things sites : List ℕ) (running : IsRunning c h sites) (count : length sites ≡ length things)
    (still : Still s) (walk : IsWalk s things)
    (document_class : (object_at s.heap.objects document.0).class ≡ class.Node (nth_node 0))
    (classes : (n : ℕ) → n < length things
    → ClassIsRebuilt c h.environments s things sites (nth sites n) (object_at s.heap.objects (nth things n)).class (object_at h.objects (nth sites n)).class) where
  pub are_timers : (u : Live) → IsIn (moved_timers things s.host.clock s.host.timers) u → IsTimer h sites u
  are_timers u i =
      let f = came_from things s.host.clock s.host.timers u i in
      let known : IsKnown things f.timer.call.0 =
      roots_in_walk s things still walk f.timer.call.0 (timers_among s f.timer.call.0 (timer_in s.host.timers f.timer f.inside))
      in
      subst (IsTimer h sites) f.is
      (record {
        stands = known_stands c h s things sites running count still walk document_class classes f.timer.call.0 known;
        callable = known_callable c h s things sites running count still walk document_class classes f.timer.call.0 known
            (still.shaped.host.calls f.timer f.inside);
      })
