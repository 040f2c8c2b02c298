-- What the crates of steps cite.
pub use Rattle.step_parts.proofs.Going.{goes_then, goes_on, awaits_node, awaits_on, enters_node, enters_on, does_give}
pub use Rattle.step_parts.proofs.Leading.{leads_as, fewer, also_leads, goes_as, goes_got, moves_as, there_is, passes}
pub use Rattle.step_parts.proofs.Lowering.{IsGiven, comes_lower, does_lower, gives_lower, lowers_as, on_no_list, on_the_list}
pub use Rattle.step_parts.proofs.Shapes.{IsBlock, body, braced, block_shape, var_shape, switch_shape, IsSequence, elements, fields, commas, sequence_shape, IsCall, called, built, call_shape}
