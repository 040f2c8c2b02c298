-- What other crates cite.
pub use Rattle.heap_walker.proofs.Globals.{window_globals}
pub use Rattle.heap_walker.proofs.Places.{from_place, past_places, place_of_equal}
pub use Rattle.heap_walker.proofs.Resting.{all_of, among_all, among_left, among_right, document_among, global_among, host_among, link_reached, links_in_walk, made_among, made_older, props_among, root_reached, roots_in_walk, timers_among}
pub use Rattle.heap_walker.proofs.Walks.{thing_of, walks_are_same}
