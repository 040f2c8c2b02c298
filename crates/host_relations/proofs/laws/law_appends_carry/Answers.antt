use Rattle.host_relations.proofs.Appending.{appends_rebuild}
use Rattle.host_relations.proofs.Carrying.{appends_carry}
use Rattle.host_relations.proofs.laws.law_appends_carry.Goals as goal

pub returns : goal.returns
returns c = record { rebuild = appends_rebuild; carry = appends_carry }
