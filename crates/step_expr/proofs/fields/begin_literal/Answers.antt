use Rattle.std.proofs.Common.{ap, refl}
use Rattle.code_table.specs.declared.kind.Kind.TheVariants as kind
use Rattle.page_meaning.specs.Calls.{calls_at}
use Rattle.page_meaning.specs.Expressions.{new_plain}
use Rattle.page_frames.specs.RestLiterals.{fields_from}
use Rattle.page_frames.specs.Weight.{weigh}
use Rattle.page_frames.specs.Where.{here_of, spot_node}
use Rattle.step_expr.specs.Holding.{holder}
use Rattle.step_expr.proofs.InTurn.{made_first, opens_in_turn}
use Rattle.step_expr.proofs.fields.begin_literal.Goals as goal

pub fields_from-requires : goal.fields_from-requires
fields_from-requires c = ap holder c.in_ok-got.ensures

pub returns : goal.returns
returns c names e =
    opens_in_turn c.args.spot (kind.Literal names) c.args.state.now c.new_plain.new.self c.args.meter.now c.args.meter.now c.fields_from.result e refl
    (made_first c.args.meter.now new_plain (λ o. fields_from (calls_at c.args.meter.now.depth) (here_of c.args.spot) (spot_node c.args.spot) o 0) (weigh (spot_node c.args.spot) 0) c.in_ok-object.object
    c.args.state.now c.new_plain.new.self c.new_plain.new.self c.args.meter.now c.fields_from.result c.in_ok-object.ensures (c.fields_from.ensures names e))
