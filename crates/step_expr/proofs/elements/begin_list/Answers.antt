use Rattle.std.proofs.Common.{ap, refl}
use Rattle.code_table.specs.declared.kind.Kind.TheVariants as kind
use Rattle.page_meaning.specs.Calls.{calls_at}
use Rattle.page_meaning.specs.Expressions.{new_list}
use Rattle.page_frames.specs.RestLiterals.{elements_from}
use Rattle.page_frames.specs.Weight.{weigh}
use Rattle.page_frames.specs.Where.{here_of, spot_node}
use Rattle.step_expr.specs.Holding.{holder}
use Rattle.step_expr.proofs.InTurn.{made_first, opens_in_turn}
use Rattle.step_expr.proofs.elements.begin_list.Goals as goal

pub elements_from-requires : goal.elements_from-requires
elements_from-requires c = record { kind = c.requires; held = ap holder c.in_ok-got.ensures }

pub returns : goal.returns
returns c =
    opens_in_turn c.args.spot kind.List c.args.state.now c.elements_from.new.state c.args.meter.now c.args.meter.now c.elements_from.result c.requires refl
    (made_first c.args.meter.now new_list (λ a. elements_from (calls_at c.args.meter.now.depth) (here_of c.args.spot) (spot_node c.args.spot) a 0) (weigh (spot_node c.args.spot) 0) c.in_ok-list.list
    c.args.state.now c.new_list.new.self c.elements_from.new.state c.args.meter.now c.elements_from.result c.in_ok-list.ensures c.elements_from.ensures)
