use Rattle.opened_pages.proofs.Rules.{all_low}
use Rattle.opened_pages.proofs.opening.open_plain.Goals as goal

pub open_scopes-requires : goal.open_scopes-requires
open_scopes-requires c = all_low c.args.scripts.now c.requires
