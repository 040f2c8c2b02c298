use Rattle.page_meaning.specs.Functions.{enter}
use Rattle.page_meaning.specs.Statements.{exec_all}
use Rattle.step_call.proofs.Descending.{page_called}
use Rattle.step_call.proofs.bodies.call_page.Goals as goal

pub returns : goal.returns
returns c =
    page_called (λ calls. enter (exec_all calls) c.args.code c.args.env c.args.this c.args.args.now) c.args.state.now c.enter_body.new.state c.args.meter.now c.enter_body.new.meter
    c.enter_body.result c.enter_body.ensures
