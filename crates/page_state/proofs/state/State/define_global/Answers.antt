use Rattle.page_state.proofs.TopNames.{defined, not_defined}
use Rattle.page_state.proofs.state.State.define_global.Goals as goal

pub returns-in-None : goal.returns-in-None
returns-in-None c = defined c.args.name.now c.script_property.result c.in_ok-define_at.field-0 c.args.self.now c.define_at.new.self c.script_property.ensures c.in-None.is c.in_ok-define_at.ensures

pub returns : goal.returns
returns c =
    not_defined c.args.name.now c.script_property.result c.in_ok-define_at.field-0 c.in-Some.what c.args.self.now c.define_at.new.self c.raise.new.self c.raise.result
    c.script_property.ensures c.in-Some.is c.in_ok-define_at.ensures c.raise.ensures
