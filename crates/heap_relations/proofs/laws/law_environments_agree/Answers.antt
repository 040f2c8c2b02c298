use Rattle.heap_relations.proofs.Filled.{scopes}
use Rattle.heap_relations.proofs.Entry.{entries, new_environments}
use Rattle.heap_relations.proofs.Kept.{names}
use Rattle.heap_relations.proofs.OwnNames.{own_functions}
use Rattle.heap_relations.proofs.laws.law_environments_agree.Goals as goal

pub returns : goal.returns
returns c = record { names = names; entries = entries; new_environments = new_environments; scopes = scopes; own_functions = own_functions }
