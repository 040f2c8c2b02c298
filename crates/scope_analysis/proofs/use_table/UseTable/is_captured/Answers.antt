use Rattle.std.proofs.Common.{◌∙◌, ap}
use Rattle.scope_analysis.specs.declared.use_table.NameUses.{NameUses}
use Rattle.scope_analysis.proofs.UseTables.{captured_in}
use Rattle.scope_analysis.proofs.use_table.UseTable.is_captured.Goals as goal

pub returns : goal.returns
returns c us e = ap (λ (u : NameUses). u.crosses) c.uses_of.ensures ∙ captured_in _ us _ e
