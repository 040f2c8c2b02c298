-- What a dispatch that waits for a listener has yet to do (DOM Level 2 Events, section 1.2).
use Rattle.std.specs.Prelude.{◌≡◌, ℕ, true, false, List, [], ◌∷◌}
use Rattle.js_values.specs.declared.value.Value.TheVariants.{Object}
use Rattle.page_host.specs.declared.listener.Listener.{Listener}
use Rattle.page_meaning.specs.declared.signal.Signal.{Signal}
use Rattle.page_meaning.specs.Act.{Act, Calls, bind}
use Rattle.page_meaning.specs.Dispatch.{is_registered, object_of_place, run_listeners, visit_places}
use Rattle.page_meaning.specs.Lines.{put_uncaught}
use Rattle.page_meaning.specs.Store.{Store}
use Rattle.page_frames.specs.declared.frame.DeliverFrame.{DeliverFrame}

-- the listeners that are left, and then the places after
abbrev pub go_on : Calls → DeliverFrame → Act
go_on calls f = run_listeners calls f.event f.place (visit_places calls f.event f.later) f.round

abbrev pub rest_deliver : Calls → DeliverFrame → Signal → Act
rest_deliver calls f given = bind (put_uncaught given) (λ _. go_on calls f)

abbrev pub with_round : DeliverFrame → List Listener → DeliverFrame
with_round f ls = record { event = f.event; place = f.place; round = ls; later = f.later }

-- a listener that is registered is called, and the frame waits; another is passed over
pub record RunsInTurn (calls : Calls) (f : DeliverFrame) (l : Listener) (ls : List Listener) (s : Store) (n : ℕ) : Type 0 where
  pub called : is_registered l s ≡ true
      → (go_on calls (with_round f (l ∷ ls))).run s n
      ≡ (bind (calls.call (Object l.call) (Object (object_of_place f.place.node s)) (Object f.event ∷ [])) (rest_deliver calls (with_round f ls))).run s n
  pub passed : is_registered l s ≡ false → (go_on calls (with_round f (l ∷ ls))).run s n ≡ (go_on calls (with_round f ls)).run s n
