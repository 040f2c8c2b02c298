-- What other crates cite: what holds of lists and namings, whatever page was rebuilt.
pub use Rattle.rebuilding.proofs.Agreeing.{placed_round, shape_proto}
pub use Rattle.rebuilding.proofs.Basics.{heads_same, tails_same}
pub use Rattle.rebuilding.proofs.BuiltIns.{as_made, built_in_alike, windows_alike}
pub use Rattle.rebuilding.proofs.ByPlaces.{IsResting, event_rel, needs_rel, props_rel, proto_rel, value_rel, values_rel}
pub use Rattle.rebuilding.proofs.Counterparts.{shaped_sent}
pub use Rattle.rebuilding.proofs.FrameSound.{frame_host_sound}
pub use Rattle.rebuilding.proofs.Frames.{fits_at_rest}
pub use Rattle.rebuilding.proofs.FoundRound.{need_at_rest, other_at_rest, own_at_rest, round_names}
pub use Rattle.rebuilding.proofs.Hosts.{IsNodeToo}
pub use Rattle.rebuilding.proofs.Known.{AreKnown, IsKnown, head_in, left_known, right_known, tail_in}
pub use Rattle.rebuilding.proofs.Naming.{IsBase, IsNodePair, IsSame, base_is, base_of, below_named, differ, in_either, in_left as member_left, in_right as member_right, is_same, node_pair_is, node_pair_of, paired, same_below}
pub use Rattle.rebuilding.proofs.OwnObjects.{node_same}
pub use Rattle.rebuilding.proofs.Placed.{AreYoung, array_low, at_or, error_low, event_low, function_low, node_low, number_at, place_in, place_low, thing_inside}
