use Rattle.step_call.proofs.Descending.{page_constructed}
use Rattle.step_call.proofs.bodies.construct_page.Goals as goal

pub returns : goal.returns
returns c =
    page_constructed c.args.at c.args.code c.args.env c.args.args.now c.in_ok-made.made c.args.state.now c.new_instance.new.self c.enter_body.new.state c.args.meter.now
    c.enter_body.new.meter c.enter_body.result c.in_ok-made.ensures c.enter_body.ensures
