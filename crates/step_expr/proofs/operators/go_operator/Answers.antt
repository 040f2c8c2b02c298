use Rattle.std.proofs.Common.{sym, ap, ◌∙◌, suc, length}
use Rattle.code_table.specs.declared.kind.Kind.TheVariants as kind
use Rattle.page_meaning.specs.Operators.{operate_one}
use Rattle.page_frames.specs.Weight.{weigh}
use Rattle.page_frames.specs.Where.{spot_node}
use Rattle.step_parts.specs.Families.{family_of}
use Rattle.step_parts.proofs.Callers.{moves_as}
use Rattle.step_expr.proofs.Moving.{no_operator}
use Rattle.step_expr.proofs.operators.go_operator.Goals as goal

pub go_binary-requires : goal.go_binary-requires
go_binary-requires c = sym c.kind.ensures ∙ c.in-Binary.is

pub returns-in-Unary : goal.returns-in-Unary
returns-in-Unary c =
    moves_as c.args.spot (kind.Unary c.in-Unary.op) c.args.turn c.args.got c.args.value c.args.state.now c.operate_one.new.self c.args.meter.now c.give.result (sym c.kind.ensures ∙ c.in-Unary.is)
    (c.give.ensures (λ calls. operate_one calls c.in-Unary.op c.args.value) c.args.state.now c.operate_one.new.self (weigh (spot_node c.args.spot) (suc (length c.args.got))) c.args.meter.now c.operate_one.ensures)

pub returns-in-Binary : goal.returns-in-Binary
returns-in-Binary c =
    moves_as c.args.spot (kind.Binary c.in-Binary.op) c.args.turn c.args.got c.args.value c.args.state.now c.go_binary.new.state c.args.meter.now c.go_binary.result (sym c.kind.ensures ∙ c.in-Binary.is)
    c.go_binary.ensures

pub returns-in-And : goal.returns-in-And
returns-in-And c =
    moves_as c.args.spot kind.And c.args.turn c.args.got c.args.value c.args.state.now c.args.state.now c.args.meter.now c.go_and.result (sym c.kind.ensures ∙ c.in-And.is) c.go_and.ensures

pub returns-in-Or : goal.returns-in-Or
returns-in-Or c =
    moves_as c.args.spot kind.Or c.args.turn c.args.got c.args.value c.args.state.now c.args.state.now c.args.meter.now c.go_or.result (sym c.kind.ensures ∙ c.in-Or.is) c.go_or.ensures

pub returns-in-Cond : goal.returns-in-Cond
returns-in-Cond c =
    moves_as c.args.spot kind.Cond c.args.turn c.args.got c.args.value c.args.state.now c.args.state.now c.args.meter.now c.go_conditional.result (sym c.kind.ensures ∙ c.in-Cond.is) c.go_conditional.ensures

pub unreachable-requires : goal.unreachable-requires
unreachable-requires c =
    no_operator _ (ap family_of c.kind.ensures ∙ c.requires) c.in_default.not-Unary c.in_default.not-Binary c.in_default.not-And c.in_default.not-Or c.in_default.not-Cond
