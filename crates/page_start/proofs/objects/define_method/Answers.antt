use Rattle.std.proofs.Common.{◌∙◌, sym, ap}
use Rattle.page_start.proofs.FunctionTables.{method_defined_at}
use Rattle.page_start.proofs.objects.define_method.Goals as goal

pub returns-in-Ok : goal.returns-in-Ok
returns-in-Ok c =
    (rw (c.in_ok-name.ensures, c.hidden_change-change.ensures, c.function_at.ensures) at (c.in-Ok.ensures.0))
    ∙ ap (λ a. a.after) (method_defined_at c.args.heap.now c.args.at c.args.name.now c.args.which c.requires)

pub unreachable-requires : goal.unreachable-requires
unreachable-requires c =
    cc (sym (ap (λ a. a.thrown) (method_defined_at c.args.heap.now c.args.at c.args.name.now c.args.which c.requires))
    ∙ (rw (c.in_ok-name.ensures, c.hidden_change-change.ensures, c.function_at.ensures) at ((rw c.in-Err-Cause.field-0-is at c.in-Err-Cause.ensures).1)))
