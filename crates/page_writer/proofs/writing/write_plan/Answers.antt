use Rattle.std.proofs.Common.{◌∙◌, subst}
use Rattle.page_writer.proofs.Pieces.{puts_no_memory}
use Rattle.page_writer.specs.Page.{page_of}
use Rattle.page_writer.specs.Putting.{Puts}
use Rattle.page_writer.proofs.writing.write_plan.Goals as goal

pub returns-in_err-plan-clause-puts : goal.returns-in_err-plan-clause-puts
returns-in_err-plan-clause-puts g c = puts_no_memory (g.O.Sink.seen c.args.out.now) _ c.from_residual.result c.from_residual.ensures

pub returns-clause-puts : goal.returns-clause-puts
returns-clause-puts g c =
    let seen = g.O.Sink.seen in
    subst (λ rs. Puts (seen c.args.out.now) (seen c.put_page.new.out) (page_of rs) c.put_page.result) (c.as_slice-2.ensures.value ∙ c.in_ok-plan.ensures) c.put_page.ensures
