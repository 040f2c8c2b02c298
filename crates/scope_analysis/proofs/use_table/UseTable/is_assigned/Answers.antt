use Rattle.std.proofs.Common.{◌∙◌, ap}
use Rattle.scope_analysis.specs.declared.use_table.NameUses.{NameUses}
use Rattle.scope_analysis.proofs.UseTables.{assigned_in}
use Rattle.scope_analysis.proofs.use_table.UseTable.is_assigned.Goals as goal

pub returns : goal.returns
returns c us e = ap (λ (u : NameUses). u.assigns) c.uses_of.ensures ∙ assigned_in _ us _ e
