use Rattle.step_stmt.proofs.Shifting.{shift_passes, shift_valued}
use Rattle.step_stmt.proofs.statements.go_other.Goals as goal

pub returns-in-Value : goal.returns-in-Value
returns-in-Value c kept =
    shift_valued c.args.spot c.args.turn kept c.args.end c.in-Value.value c.args.state.now c.go_value.new.state c.args.meter.now c.go_value.new.meter c.go_value.result c.in-Value.is (c.go_value.ensures kept)

pub returns-in_default : goal.returns-in_default
returns-in_default c kept = shift_passes c.args.spot c.args.turn kept c.args.end c.args.state.now c.args.meter.now c.requires c.in_default.not-Value
