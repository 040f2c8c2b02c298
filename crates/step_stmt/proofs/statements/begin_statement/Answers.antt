use Rattle.std.proofs.Common.{refl, sym, ◌∙◌}
use Rattle.code_table.specs.declared.kind.Kind.TheVariants as kind
use Rattle.page_meaning.specs.declared.signal.Signal.TheVariants.{Break, Continue}
use Rattle.page_meaning.specs.Act.{nothing}
use Rattle.step_stmt.proofs.Beginning.{for_in_starts, for_starts, opens_ended, opens_paid, opens_part, opens_whole, starts_early, try_starts}
use Rattle.step_stmt.proofs.Shifting.{takes}
use Rattle.step_stmt.proofs.statements.begin_statement.Goals as goal

pub returns-in-Empty : goal.returns-in-Empty
returns-in-Empty c = rw (c.nothing.ensures) (opens_ended c.args.spot kind.Empty nothing c.args.state.now c.args.meter.now (sym c.kind.ensures ∙ c.in-Empty.is) refl)

pub returns-in-Continue : goal.returns-in-Continue
returns-in-Continue c = opens_ended c.args.spot kind.Continue Continue c.args.state.now c.args.meter.now (sym c.kind.ensures ∙ c.in-Continue.is) refl

pub returns-in-Break : goal.returns-in-Break
returns-in-Break c = opens_ended c.args.spot kind.Break Break c.args.state.now c.args.meter.now (sym c.kind.ensures ∙ c.in-Break.is) refl

pub returns-in-Var : goal.returns-in-Var
returns-in-Var c =
    opens_whole c.args.spot kind.Var c.args.state.now c.args.state.now c.args.meter.now c.args.meter.now c.names_from.result c.requires (sym c.kind.ensures ∙ c.in-Var.is) c.names_from.ensures

pub returns-in-Block : goal.returns-in-Block
returns-in-Block c =
    opens_whole c.args.spot kind.Block c.args.state.now c.args.state.now c.args.meter.now c.args.meter.now c.block_from.result c.requires (sym c.kind.ensures ∙ c.in-Block.is) c.block_from.ensures

pub returns-in-While : goal.returns-in-While
returns-in-While c =
    opens_whole c.args.spot kind.While c.args.state.now c.args.state.now c.args.meter.now c.while_again.new.meter c.while_again.result c.requires (sym c.kind.ensures ∙ c.in-While.is) c.while_again.ensures

pub returns-in-Do : goal.returns-in-Do
returns-in-Do c =
    opens_paid c.args.spot kind.Do c.args.state.now c.args.state.now c.args.meter.now c.do_begun.new.meter c.do_begun.result (sym c.kind.ensures ∙ c.in-Do.is) c.do_begun.ensures

pub returns-in-ForIn : goal.returns-in-ForIn
returns-in-ForIn c =
    opens_part c.args.spot 1 c.args.state.now c.args.meter.now c.run_statement.result c.requires (for_in_starts _ (sym c.kind.ensures ∙ c.in-ForIn.is)) c.run_statement.ensures

pub returns-in-For : goal.returns-in-For
returns-in-For c =
    opens_part c.args.spot 0 c.args.state.now c.args.meter.now c.run_statement-in-For.result c.requires (for_starts _ (sym c.kind.ensures ∙ c.in-For.is)) c.run_statement-in-For.ensures

pub returns-in-Try : goal.returns-in-Try
returns-in-Try c =
    opens_part c.args.spot 0 c.args.state.now c.args.meter.now c.run_statement-in-Try.result c.requires (try_starts c.in-Try.field-0 _ (sym c.kind.ensures ∙ c.in-Try.is)) c.run_statement-in-Try.ensures

pub begin_valued-requires : goal.begin_valued-requires
begin_valued-requires c = record {
  family = c.requires;
  values =
      takes _ (λ e. c.in_default.not-While (c.kind.ensures ∙ e)) (λ e. c.in_default.not-Do (c.kind.ensures ∙ e)) (λ e. c.in_default.not-For (c.kind.ensures ∙ e)) (λ x e. c.in_default.not-Try x (c.kind.ensures ∙ e));
  starts =
      starts_early _ c.requires (λ e. c.in_default.not-Empty (c.kind.ensures ∙ e)) (λ e. c.in_default.not-Continue (c.kind.ensures ∙ e)) (λ e. c.in_default.not-Break (c.kind.ensures ∙ e))
      (λ e. c.in_default.not-Var (c.kind.ensures ∙ e)) (λ e. c.in_default.not-Block (c.kind.ensures ∙ e)) (λ e. c.in_default.not-While (c.kind.ensures ∙ e)) (λ e. c.in_default.not-Do (c.kind.ensures ∙ e))
      (λ e. c.in_default.not-ForIn (c.kind.ensures ∙ e));
}
