use Rattle.std.proofs.Common.{sym, ap, ◌∙◌}
use Rattle.code_table.specs.declared.kind.Kind.TheVariants as kind
use Rattle.step_parts.specs.Families.{family_of}
use Rattle.step_expr.proofs.InTurn.{no_sequence}
use Rattle.step_parts.proofs.Callers.{moves_as}
use Rattle.step_expr.proofs.sequences.go_sequence.Goals as goal

pub go_list-requires : goal.go_list-requires
go_list-requires c = sym c.kind.ensures ∙ c.in-List.is

pub go_comma-requires : goal.go_comma-requires
go_comma-requires c = sym c.kind.ensures ∙ c.in-Comma.is

pub returns-in-List : goal.returns-in-List
returns-in-List c =
    moves_as c.args.spot kind.List c.args.turn c.args.got c.args.value c.args.state.now c.go_list.new.state c.args.meter.now c.go_list.result (sym c.kind.ensures ∙ c.in-List.is) c.go_list.ensures

pub returns-in-Literal : goal.returns-in-Literal
returns-in-Literal c =
    moves_as c.args.spot (kind.Literal c.in-Literal.field-0) c.args.turn c.args.got c.args.value c.args.state.now c.go_literal.new.state c.args.meter.now c.go_literal.result (sym c.kind.ensures ∙ c.in-Literal.is)
    (c.go_literal.ensures c.in-Literal.field-0 (sym c.kind.ensures ∙ c.in-Literal.is))

pub returns-in-Comma : goal.returns-in-Comma
returns-in-Comma c =
    moves_as c.args.spot kind.Comma c.args.turn c.args.got c.args.value c.args.state.now c.args.state.now c.args.meter.now c.go_comma.result (sym c.kind.ensures ∙ c.in-Comma.is) c.go_comma.ensures

pub unreachable-requires : goal.unreachable-requires
unreachable-requires c = no_sequence _ (ap family_of c.kind.ensures ∙ c.requires) c.in_default.not-List c.in_default.not-Literal c.in_default.not-Comma
