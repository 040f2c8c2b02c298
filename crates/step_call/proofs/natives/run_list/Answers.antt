use Rattle.std.proofs.Common.{refl}
use Rattle.page_meaning.specs.Rows.{list_row}
use Rattle.step_call.proofs.Running.{turned_descends}
use Rattle.step_call.proofs.natives.run_list.Goals as goal

pub returns : goal.returns
returns c =
    turned_descends (λ calls. list_row calls c.args.which c.args.this.now c.args.values.now) c.row-answer.result c.args.state.now c.row-answer.new.state c.args.meter.now
    (record { steps = c.row-answer.new.steps; depth = c.args.meter.now.depth }) c.give_turned.result refl c.row-answer.ensures c.give_turned.ensures
