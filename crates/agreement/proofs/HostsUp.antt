-- What hosts keep stays related where a naming grows by objects, scopes or bases alone.
use Rattle.std.proofs.Common.{◌≡◌, subst}
use Rattle.page_host.specs.Host.{Host}
use Rattle.heap_relations.specs.Naming.{Before, Larger, World}
use Rattle.host_relations.proofs.Callers.{hosts_stay}
use Rattle.host_relations.specs.Hosts.{HostRel}
use Rattle.agreement.specs.Acts.{clocks_of}

pub host_up : {V W : World} {h g : Host} → Larger V W → V.nodes ≡ W.nodes → HostRel (clocks_of V) V h g → HostRel (clocks_of W) W h g
host_up {V = V} {W = W} {h = h} {g = g} l same r =
    subst (λ (b : Before). HostRel (record { one = b.one_clock; two = b.two_clock }) W h g) l.before (hosts_stay (clocks_of V) V W h g l same r)
