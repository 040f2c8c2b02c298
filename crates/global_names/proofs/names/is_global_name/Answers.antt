use Rattle.global_names.specs.Names.{global_names}
use Rattle.global_names.proofs.NamesLemmas.{names_global-member}
use Rattle.global_names.proofs.names.is_global_name.Goals as goal

pub returns-clause-value : goal.returns-clause-value
unfolding global_names
returns-clause-value c = c.is_among.ensures

pub returns-clause-member : goal.returns-clause-member
returns-clause-member c = names_global-member c.args.name.now c.is_among.result (returns-clause-value c)
