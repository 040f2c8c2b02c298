use Rattle.page_meaning.specs.Names.{found_or_raise}
use Rattle.page_meaning.specs.Places.{window}
use Rattle.object_heap.specs.Chain.{get}
use Rattle.page_state.proofs.Does.{asked_raises}
use Rattle.page_state.proofs.state.State.read_global.Goals as goal

pub returns-in_ok-clone-in-None : goal.returns-in_ok-clone-in-None
returns-in_ok-clone-in-None c = asked_raises (λ s. get s.heap.objects window.0 c.args.name.now) (λ _. found_or_raise c.args.name.now) c.args.self.now c.raise.new.self c.raise.result (rw (← c.in_ok-value.ensures, c.in-None.is, ← c.in_ok-clone-in-None.ensures) c.raise.ensures)
