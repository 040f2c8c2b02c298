use Rattle.std.proofs.Common.{arith}
use Rattle.std.proofs.lemmas.Grind.{common_steps}
use Rattle.scope_analysis.specs.Names.{is_among}
use Rattle.scope_analysis.proofs.Tables.{next_among}
use Rattle.scope_analysis.proofs.name_tables.name_table.Goals as goal

pub loop-rest-preserved : goal.loop-rest-preserved
loop-rest-preserved c x =
    next_among x c.in_ok-clone.field-0 c.loop-rest.table.keys c.insert.new.self.keys c.loop-rest.rest.now (is_among x c.args.names.now)
    (omega arith) (grind (arith, common_steps)) c.in_ok-insert.ensures.keys (c.loop-rest.invariant x)
