use Rattle.page_state.proofs.Bindings.{seen_next}
use Rattle.page_state.proofs.entry.name_table.Goals as goal

pub loop-name-preserved : goal.loop-name-preserved
loop-name-preserved c =
    seen_next c.loop-name.seen.keys c.insert.new.self.keys c.args.names.now c.loop-name.name-index c.loop-name-item.result c.in_ok-clone.field-0
    c.loop-name.invariant c.loop-name-test.true c.loop-name-item.is c.in_ok-clone.ensures c.in_ok-insert.ensures.keys
