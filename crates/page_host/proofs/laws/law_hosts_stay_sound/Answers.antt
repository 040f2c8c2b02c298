use Rattle.page_host.proofs.Callers.{hosts_stay_sound, new_hosts_are_sound, new_nodes_stay, new_nodes_stay_plain, steps_stay_plain}
use Rattle.page_host.proofs.laws.law_hosts_stay_sound.Goals as goal

pub returns : goal.returns
returns c = record {
  beginning = new_hosts_are_sound;
  steps = hosts_stay_sound;
  new_nodes = new_nodes_stay;
  plain = steps_stay_plain;
  new_plain = new_nodes_stay_plain;
}
