use Rattle.std.proofs.Common.{sym, ap, ◌∙◌, refl}
use Rattle.code_table.specs.declared.kind.Kind.TheVariants as kind
use Rattle.step_parts.specs.Families.{family_of}
use Rattle.step_expr.proofs.InTurn.{no_sequence, opens_in_turn}
use Rattle.step_expr.proofs.sequences.begin_sequence.Goals as goal

pub begin_list-requires : goal.begin_list-requires
begin_list-requires c = sym c.kind.ensures ∙ c.in-List.is

pub parts_from-requires : goal.parts_from-requires
parts_from-requires c = sym c.kind.ensures ∙ c.in-Comma.is

pub returns-in-Literal : goal.returns-in-Literal
returns-in-Literal c = c.begin_literal.ensures _ (sym c.kind.ensures ∙ c.in-Literal.is)

pub returns-in-Comma : goal.returns-in-Comma
returns-in-Comma c =
    opens_in_turn c.args.spot kind.Comma c.args.state.now c.args.state.now c.args.meter.now c.args.meter.now c.parts_from.result (sym c.kind.ensures ∙ c.in-Comma.is) refl c.parts_from.ensures

pub unreachable-requires : goal.unreachable-requires
unreachable-requires c = no_sequence _ (ap family_of c.kind.ensures ∙ c.requires) c.in_default.not-List c.in_default.not-Literal c.in_default.not-Comma
