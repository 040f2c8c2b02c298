use Rattle.std.proofs.Common.{sym, ◌∙◌}
use Rattle.page_meaning.specs.Classes.{class_at}
use Rattle.page_meaning.specs.HostNames.{has_host_name}
use Rattle.page_state.proofs.Putting.{own_refused, own_taken}
use Rattle.page_state.proofs.state.State.own_put.Goals as goal

pub returns-then-has_host_name : goal.returns-then-has_host_name
returns-then-has_host_name c =
    own_taken c.args.at c.args.host c.args.value.now c.args.self.now c.host_put.new.self (has_host_name c.args.self.now.host.nodes (class_at c.args.self.now c.args.at) c.args.host) c.host_put.result
    (sym c.if-has_host_name.true ∙ c.has_host_name.ensures) c.host_put.ensures

pub returns-else-has_host_name : goal.returns-else-has_host_name
returns-else-has_host_name c =
    own_refused c.args.at c.args.host c.args.value.now c.args.self.now c.raise.new.self (has_host_name c.args.self.now.host.nodes (class_at c.args.self.now c.args.at) c.args.host) c.raise.result
    (sym c.if-has_host_name.false ∙ c.has_host_name.ensures) c.raise.ensures
