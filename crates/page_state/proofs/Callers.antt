-- What other crates cite of these proofs.
pub use Rattle.page_state.proofs.Does.{bind_does, bind_gives, also_gives, also_raises, asked_does, asked_gives, asked_raises, failed, given, passed, refused, told_property}
pub use Rattle.page_state.proofs.Unkept.{define_plain, put_plain}
pub use Rattle.page_state.proofs.Values.{has_properties, no_properties, unset}
pub use Rattle.page_state.proofs.Entering.{enter_goes, enter_is}
pub use Rattle.page_state.proofs.NewFunctions.{build_goes}
pub use Rattle.page_state.proofs.Taking.{also_ends, also_halts, asked_ends, asked_tells, bind_ends, bind_halts, does_comes, faults, gives_ends, hands_on, no_memory, no_memory_tells, no_turn, no_turn_tells, raises_halts, turn_ends, turn_tells}
pub use Rattle.page_state.proofs.InTurn.{handed, one_fails, one_on}
pub use Rattle.page_state.proofs.Finding.{found_gives, wrong_raises}
pub use Rattle.page_state.proofs.Sights.{hosted_has}
