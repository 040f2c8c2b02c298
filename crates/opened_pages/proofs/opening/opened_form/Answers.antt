use Rattle.opened_pages.proofs.Rules.{all_low, opened_rules}
use Rattle.opened_pages.proofs.opening.opened_form.Goals as goal

pub open_scopes-requires : goal.open_scopes-requires
open_scopes-requires c = all_low c.args.scripts.now c.requires

pub returns-clause-rules : goal.returns-clause-rules
returns-clause-rules c = opened_rules c.law_opened_scripts_are_form.ensures c.args.scripts.now (λ v. v.items) c.open_scopes.result c.requires c.open_scopes.ensures.opened
