use Rattle.std.proofs.Common.{refl, sym, ◌∙◌}
use Rattle.code_table.specs.Kind.{kind_of}
use Rattle.code_table.specs.declared.kind.Kind.TheVariants as kind
use Rattle.page_meaning.specs.declared.signal.Signal.TheVariants.{Value as Val, Return, Thrown}
use Rattle.page_meaning.specs.Act.{nothing}
use Rattle.page_meaning.specs.Calls.{calls_at}
use Rattle.page_frames.specs.Where.{here_of, spot_node}
use Rattle.step_stmt.proofs.Shifting.{shift_ended, shift_listed, shifts_by, waits_not}
use Rattle.step_stmt.proofs.statements.go_value.Goals as goal

pub returns-in-Var : goal.returns-in-Var
returns-in-Var c kept =
    shifts_by c.args.spot kind.Var c.args.turn kept (Val c.args.value) c.args.state.now c.args.state.now c.args.meter.now c.args.meter.now c.names_after.result (sym c.kind.ensures ∙ c.in-Var.is) c.names_after.ensures

pub returns-in-Discard : goal.returns-in-Discard
returns-in-Discard c kept =
    rw (c.nothing.ensures) (shift_ended c.args.spot kind.Discard c.args.turn kept (Val c.args.value) nothing c.args.state.now c.args.meter.now (sym c.kind.ensures ∙ c.in-Discard.is) refl)

pub returns-in-Block : goal.returns-in-Block
returns-in-Block c kept =
    shifts_by c.args.spot kind.Block c.args.turn kept (Val c.args.value) c.args.state.now c.args.state.now c.args.meter.now c.args.meter.now c.block_after.result (sym c.kind.ensures ∙ c.in-Block.is) c.block_after.ensures

pub returns-in-If : goal.returns-in-If
returns-in-If c kept =
    shifts_by c.args.spot kind.If c.args.turn kept (Val c.args.value) c.args.state.now c.args.state.now c.args.meter.now c.args.meter.now c.if_tested.result (sym c.kind.ensures ∙ c.in-If.is) c.if_tested.ensures

pub returns-in-ForIn : goal.returns-in-ForIn
returns-in-ForIn c kept =
    shift_listed c.args.spot c.args.turn kept c.args.value c.args.state.now c.args.meter.now c.each_listed.new.meter c.each_listed.result (sym c.kind.ensures ∙ c.in-ForIn.is) c.each_listed.ensures

pub returns-in-Return : goal.returns-in-Return
returns-in-Return c kept =
    shift_ended c.args.spot kind.Return c.args.turn kept (Val c.args.value) (Return c.args.value) c.args.state.now c.args.meter.now (sym c.kind.ensures ∙ c.in-Return.is) refl

pub returns-in-Throw : goal.returns-in-Throw
returns-in-Throw c kept =
    shift_ended c.args.spot kind.Throw c.args.turn kept (Val c.args.value) (Thrown c.args.value) c.args.state.now c.args.meter.now (sym c.kind.ensures ∙ c.in-Throw.is) refl

pub returns-in-Switch : goal.returns-in-Switch
returns-in-Switch c kept =
    shifts_by c.args.spot kind.Switch c.args.turn kept (Val c.args.value) c.args.state.now c.args.state.now c.args.meter.now c.args.meter.now c.switch_valued.result (sym c.kind.ensures ∙ c.in-Switch.is) c.switch_valued.ensures

pub returns-in_default : goal.returns-in_default
returns-in_default c kept =
    shift_ended c.args.spot (kind_of (spot_node c.args.spot)) c.args.turn kept (Val c.args.value) (Val c.args.value) c.args.state.now c.args.meter.now refl
    (waits_not (calls_at c.args.meter.now.depth) (here_of c.args.spot) (spot_node c.args.spot) _ c.args.turn kept (Val c.args.value) c.requires (λ e. c.in_default.not-Var (c.kind.ensures ∙ e))
    (λ e. c.in_default.not-Discard (c.kind.ensures ∙ e)) (λ e. c.in_default.not-Block (c.kind.ensures ∙ e)) (λ e. c.in_default.not-If (c.kind.ensures ∙ e)) (λ e. c.in_default.not-ForIn (c.kind.ensures ∙ e))
    (λ e. c.in_default.not-Return (c.kind.ensures ∙ e)) (λ e. c.in_default.not-Throw (c.kind.ensures ∙ e)) (λ e. c.in_default.not-Switch (c.kind.ensures ∙ e)))
