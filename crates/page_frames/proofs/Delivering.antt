-- The frame of a dispatch matches the meaning by computing.
use Rattle.std.specs.Prelude.{refl, ℕ, List}
use Rattle.page_host.specs.declared.listener.Listener.{Listener}
use Rattle.page_meaning.specs.Act.{Calls}
use Rattle.page_meaning.specs.Store.{Store}
use Rattle.page_frames.specs.declared.frame.DeliverFrame.{DeliverFrame}
use Rattle.page_frames.specs.RestDeliver.{RunsInTurn}

pub runs_in_turn : (calls : Calls) (f : DeliverFrame) (l : Listener) (ls : List Listener) (s : Store) (n : ℕ) → RunsInTurn calls f l ls s n
runs_in_turn calls f l ls s n = record { called = λ there. rw there refl; passed = λ gone. rw gone refl }
