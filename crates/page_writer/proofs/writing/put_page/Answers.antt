use Rattle.std.proofs.Common.{◌++◌, subst, sym}
use Rattle.page_writer.proofs.Pieces.{puts_both, puts_stopped}
use Rattle.page_writer.proofs.Paged.{page_head, page_parts, page_tail}
use Rattle.page_writer.specs.Page.{lines}
use Rattle.page_writer.specs.Putting.{Puts}
use Rattle.page_writer.proofs.writing.put_page.Goals as goal

pub returns-in_err-put : goal.returns-in_err-put
returns-in_err-put g c =
    let seen = g.O.Sink.seen in
    subst (λ text. Puts (seen c.args.out.now) (seen c.put.new.out) text c.from_residual.result) (sym (page_parts c.args.plan.now))
    (puts_stopped (seen c.args.out.now) (seen c.put.new.out) page_head (lines c.args.plan.now ++ page_tail) c.put.result c.from_residual.result c.in_err-put.field-0.0 c.in_err-put.was c.from_residual.ensures c.put.ensures)

pub returns-in_err-put_lines : goal.returns-in_err-put_lines
returns-in_err-put_lines g c =
    let seen = g.O.Sink.seen in
    let result = c.from_residual-in_err-put_lines.result in
    subst (λ text. Puts (seen c.args.out.now) (seen c.put_lines.new.out) text result) (sym (page_parts c.args.plan.now))
    (puts_both (seen c.args.out.now) (seen c.put.new.out) (seen c.put_lines.new.out) page_head (lines c.args.plan.now ++ page_tail) result c.in_ok-put.ensures
    (puts_stopped (seen c.put.new.out) (seen c.put_lines.new.out) (lines c.args.plan.now) page_tail c.put_lines.result result c.in_err-put_lines.field-0.0 c.in_err-put_lines.was c.from_residual-in_err-put_lines.ensures c.put_lines.ensures))

pub returns : goal.returns
returns g c =
    let seen = g.O.Sink.seen in
    subst (λ text. Puts (seen c.args.out.now) (seen c.put-2.new.out) text c.put-2.result) (sym (page_parts c.args.plan.now))
    (puts_both (seen c.args.out.now) (seen c.put.new.out) (seen c.put-2.new.out) page_head (lines c.args.plan.now ++ page_tail) c.put-2.result c.in_ok-put.ensures
    (puts_both (seen c.put.new.out) (seen c.put_lines.new.out) (seen c.put-2.new.out) (lines c.args.plan.now) page_tail c.put-2.result c.in_ok-put_lines.ensures c.put-2.ensures))
