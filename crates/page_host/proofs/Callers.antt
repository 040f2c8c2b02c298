-- What the crates above use of the proofs here.
pub use Rattle.page_host.proofs.Staying.{hosts_stay_sound, new_hosts_are_sound, new_nodes_stay, new_nodes_stay_plain, steps_stay_plain}
