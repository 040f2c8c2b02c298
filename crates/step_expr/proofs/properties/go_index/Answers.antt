use Rattle.std.proofs.Common.{ap, ◌∙◌, suc, length}
use Rattle.std.specs.Prelude.{slice_get}
use Rattle.code_table.specs.declared.kind.Kind.TheVariants as kind
use Rattle.page_meaning.specs.Properties.{get_index}
use Rattle.page_frames.specs.Weight.{weigh}
use Rattle.page_frames.specs.Where.{spot_node}
use Rattle.step_expr.proofs.Moving.{index_right, takes_right, with_left}
use Rattle.step_expr.proofs.properties.go_index.Goals as goal

pub returns-in-None : goal.returns-in-None
returns-in-None c =
    takes_right c.args.spot kind.Index c.args.got c.args.value c.args.state.now c.args.meter.now c.run_right.result c.requires (c.in-None.ensures.value ∙ ap (λ xs. slice_get xs 0) c.as_slice.ensures)
    (index_right c.args.value) c.run_right.ensures

pub returns-in-Some : goal.returns-in-Some
returns-in-Some c =
    with_left c.args.spot kind.Index c.args.got c.in-Some.base.now c.args.value c.args.state.now c.get_index.new.self c.args.meter.now c.give.result
    (c.in-Some.ensures.value ∙ ap (λ xs. slice_get xs 0) c.as_slice.ensures)
    (λ more. c.give.ensures (λ calls. get_index calls c.in-Some.base.now c.args.value) c.args.state.now c.get_index.new.self (weigh (spot_node c.args.spot) (suc (suc (length more)))) c.args.meter.now c.get_index.ensures)
