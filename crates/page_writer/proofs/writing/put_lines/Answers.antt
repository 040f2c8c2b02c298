use Rattle.std.proofs.Common.{sym, subst, Ok, arith}
use Rattle.std.proofs.lemmas.Grind.{common_steps}
use Rattle.std.proofs.lemmas.List.{nil_from_length}
use Rattle.scope_analysis.proofs.Callers.{next_of}
use Rattle.page_writer.proofs.Pieces.{puts_both, puts_nothing, puts_stopped}
use Rattle.page_writer.specs.Page.{line, lines}
use Rattle.page_writer.specs.Putting.{Puts}
use Rattle.page_writer.proofs.writing.put_lines.Goals as goal

pub returns-in_err-put_line : goal.returns-in_err-put_line
returns-in_err-put_line g c =
    let seen = g.O.Sink.seen in
    let result = c.from_residual.result in
    let whole = next_of c.loop-rest.rest.now c.rebuild-item.result (omega arith) (grind (arith, common_steps)) in
    c.loop-rest.invariant (seen c.put_line.new.out) result
    (subst (λ r. Puts (seen c.loop-rest.out) (seen c.put_line.new.out) (lines r) result) (sym whole)
    (puts_stopped (seen c.loop-rest.out) (seen c.put_line.new.out) (line c.rebuild-item.result) _ c.put_line.result result c.in_err-put_line.field-0.0 c.in_err-put_line.was c.from_residual.ensures c.put_line.ensures))

pub loop-rest-preserved : goal.loop-rest-preserved
loop-rest-preserved g c new result h =
    let seen = g.O.Sink.seen in
    let whole = next_of c.loop-rest.rest.now c.rebuild-item.result (omega arith) (grind (arith, common_steps)) in
    c.loop-rest.invariant new result
    (subst (λ r. Puts (seen c.loop-rest.out) new (lines r) result) (sym whole)
    (puts_both (seen c.loop-rest.out) (seen c.put_line.new.out) new (line c.rebuild-item.result) _ result c.in_ok-put_line.ensures h))

pub returns : goal.returns
returns g c =
    let seen = g.O.Sink.seen c.loop-rest.out in
    c.loop-rest.invariant seen (Ok tt) (subst (λ r. Puts seen seen (lines r) (Ok tt)) (sym (nil_from_length c.loop-rest.rest.now (omega arith))) (puts_nothing seen))
