-- What is done to two hosts that mean the same keeps it.
use Rattle.std.specs.Prelude.{◌≡◌}
use Rattle.page_host.specs.Host.{Host}
use Rattle.page_host.specs.Steps.{HostStep, after_host, is_fit}
use Rattle.heap_relations.specs.Naming.{Larger, World, named}
use Rattle.heap_relations.specs.Related.{IsOneToOne}
use Rattle.host_relations.specs.Hosts.{HostRel, StepRel}
use Rattle.host_relations.specs.Timers.{Clocks}

-- a step fits both or neither, and keeps it
abbrev pub StepsKeep : Type 0
StepsKeep =
    (c : Clocks) (W : World) (h g : Host) (s r : HostStep) → IsOneToOne (named W) → HostRel c W h g → StepRel c W s r
    → (is_fit h s ≡ is_fit g r) × HostRel c W (after_host h s) (after_host g r)

-- where the naming grows by objects, scopes or bases alone, the hosts stay related
abbrev pub HostsStay : Type 0
HostsStay = (c : Clocks) (V W : World) (h g : Host) → Larger V W → V.nodes ≡ W.nodes → HostRel c V h g → HostRel c W h g
