use Rattle.page_state.proofs.Bound.{known_bound}
use Rattle.page_state.proofs.state.State.known.Goals as goal

pub returns-in_ok-clone-in-Some : goal.returns-in_ok-clone-in-Some
returns-in_ok-clone-in-Some c = λ here e.
    rw (c.in_ok-clone-in-Some.ensures, ← c.self.view_is)
    (known_bound here c.args.name.now c.args.env c.in-Some.field-0-0 c.in-Some.value.now _ e c.in-Some.ensures.found c.in-Some.ensures.bound)
