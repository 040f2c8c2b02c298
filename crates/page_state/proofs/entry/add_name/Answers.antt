use Rattle.js_values.specs.declared.value.Value.TheVariants.{Undefined}
use Rattle.page_state.proofs.Bindings.{seen_pushed}
use Rattle.page_state.proofs.entry.add_name.Goals as goal

pub returns-clause-seen : goal.returns-clause-seen
returns-clause-seen c =
    seen_pushed c.args.seen.now.keys c.insert.new.self.keys c.args.names.now.items c.push.new.self.items c.in_ok-clone.field-0 c.in_ok-clone-2.field-0 c.args.name.now Undefined
    c.requires c.in_ok-clone.ensures c.in_ok-clone-2.ensures c.in_ok-insert.ensures.keys c.in_ok-push.ensures.items
