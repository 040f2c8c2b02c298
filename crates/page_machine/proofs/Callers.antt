-- What other crates cite of these proofs.
pub use Rattle.page_machine.proofs.Scripts.{line_put}
