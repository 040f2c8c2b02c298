use Rattle.std.proofs.Common.{◌∙◌, ◌&&◌, not, ap}
use Rattle.scope_analysis.specs.declared.use_table.NameUses.{NameUses}
use Rattle.scope_analysis.proofs.UseTables.{assigned_once_in}
use Rattle.scope_analysis.proofs.use_table.UseTable.is_assigned_once.Goals as goal

pub returns : goal.returns
returns c us e = c.is_once.ensures ∙ ap (λ (u : NameUses). u.assigns && not u.again) c.uses_of.ensures ∙ assigned_once_in _ us _ e
