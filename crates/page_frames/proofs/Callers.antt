-- What the crates of steps and of the machine cite.
pub use Rattle.page_frames.proofs.Loops.{loop_turns}
pub use Rattle.page_frames.proofs.Stacks.{stacks_follow, stacks_fall, before_begin, before_frame, frame_fits, top_of}
pub use Rattle.page_frames.proofs.Starts.{begins_by_kind}
pub use Rattle.page_frames.proofs.Weights.{no_heavier, weigh_less, early_part, there_part, begin_weigh, node_paid, weigh_paid, body_paid, step_pays, steps_pay, lighter_before}
