use Rattle.std.proofs.Common.{sym, ◌∙◌}
use Rattle.code_table.specs.declared.kind.Kind.TheVariants as kind
use Rattle.step_stmt.proofs.Shifting.{steps_by, steps_try, takes}
use Rattle.step_stmt.proofs.statements.go_statement.Goals as goal

pub returns-in-While : goal.returns-in-While
returns-in-While c =
    steps_by c.args.frame.spot kind.While c.args.frame.turn c.args.frame.kept c.args.end c.args.state.now c.args.state.now c.args.meter.now c.go_while.new.meter c.go_while.result (sym c.kind.ensures ∙ c.in-While.is) c.go_while.ensures

pub returns-in-Do : goal.returns-in-Do
returns-in-Do c =
    steps_by c.args.frame.spot kind.Do c.args.frame.turn c.args.frame.kept c.args.end c.args.state.now c.args.state.now c.args.meter.now c.go_do.new.meter c.go_do.result (sym c.kind.ensures ∙ c.in-Do.is) c.go_do.ensures

pub returns-in-For : goal.returns-in-For
returns-in-For c =
    steps_by c.args.frame.spot kind.For c.args.frame.turn c.args.frame.kept c.args.end c.args.state.now c.args.state.now c.args.meter.now c.go_for.new.meter c.go_for.result (sym c.kind.ensures ∙ c.in-For.is) c.go_for.ensures

pub go_try-requires : goal.go_try-requires
go_try-requires c = rw (c.in_ok-place-in-Try.ensures) (sym c.kind.ensures ∙ c.in-Try.is)

pub returns-in_ok-place-in-Try : goal.returns-in_ok-place-in-Try
returns-in_ok-place-in-Try c =
    steps_try c.args.frame.spot c.in_ok-place-in-Try.place c.in-Try.name c.args.frame.turn c.args.frame.kept c.args.end c.args.state.now c.go_try.new.state c.args.meter.now c.go_try.result c.in_ok-place-in-Try.ensures
    (sym c.kind.ensures ∙ c.in-Try.is) c.go_try.ensures

pub go_other-requires : goal.go_other-requires
go_other-requires c =
    takes _ (λ e. c.in_default.not-While (c.kind.ensures ∙ e)) (λ e. c.in_default.not-Do (c.kind.ensures ∙ e)) (λ e. c.in_default.not-For (c.kind.ensures ∙ e)) (λ x e. c.in_default.not-Try x (c.kind.ensures ∙ e))

pub returns-in_default : goal.returns-in_default
returns-in_default c = c.go_other.ensures c.args.frame.kept
