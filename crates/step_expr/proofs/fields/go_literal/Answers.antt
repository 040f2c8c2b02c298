use Rattle.std.proofs.Common.{suc, ℕ, List, subst}
use Rattle.page_meaning.specs.Act.{also}
use Rattle.page_meaning.specs.Properties.{define_member}
use Rattle.page_frames.specs.RestLiterals.{fields_from, name_at}
use Rattle.page_frames.specs.Weight.{weigh}
use Rattle.page_frames.specs.Where.{here_of, spot_node}
use Rattle.page_state.specs.Does.{Raises}
use Rattle.page_state.proofs.Callers.{also_raises}
use Rattle.step_expr.proofs.Filling.{literal_filled}
use Rattle.step_expr.proofs.InTurn.{literal_goes}
use Rattle.step_expr.proofs.fields.go_literal.Goals as goal

pub returns-in-Ok : goal.returns-in-Ok
returns-in-Ok c names e =
    literal_filled c.args.spot names c.in_ok-name.name c.args.turn c.in_ok-next.next c.args.got c.in-Some.object c.args.value c.in-Ok.field-0 c.args.state.now c.define_member.new.self c.args.meter.now
    c.fields_from.result c.in-Some.ensures (c.in_ok-name.ensures names e) c.in_ok-next.ensures c.in-Ok.ensures (c.fields_from.ensures names e)

pub returns-in-Err : goal.returns-in-Err
returns-in-Err c names e =
    literal_goes c.args.spot names c.args.turn c.args.got c.in-Some.object c.args.value c.args.state.now c.define_member.new.self c.args.meter.now c.give.result c.in-Some.ensures
    (c.give.ensures
    (λ calls. also (define_member c.in-Some.object (name_at names c.args.turn) c.args.value) (λ _. fields_from calls (here_of c.args.spot) (spot_node c.args.spot) c.in-Some.object (suc c.args.turn)))
    c.args.state.now c.define_member.new.self (weigh (spot_node c.args.spot) (suc c.args.turn)) c.args.meter.now
    (also_raises (λ _. define_member c.in-Some.object (name_at names c.args.turn) c.args.value) (λ calls _. fields_from calls (here_of c.args.spot) (spot_node c.args.spot) c.in-Some.object (suc c.args.turn)) c.args.state.now
    c.define_member.new.self c.in-Err.fault
    (subst (λ (x : List ℕ). Raises (λ _. define_member c.in-Some.object x c.args.value) c.args.state.now c.define_member.new.self c.in-Err.fault) (c.in_ok-name.ensures names e) c.in-Err.ensures)))
