use Rattle.std.proofs.Common.{refl, sym, ◌∙◌}
use Rattle.code_table.specs.declared.kind.Kind.TheVariants.{Index, Member}
use Rattle.page_meaning.specs.Names.{assign_name}
use Rattle.page_frames.specs.Weight.{cost}
use Rattle.page_frames.specs.Where.{here_of, spot_node}
use Rattle.step_assign.proofs.Targeting.{base_waits, name_target, no_target}
use Rattle.step_assign.proofs.targets.begin_target.Goals as goal

pub returns-in-Name : goal.returns-in-Name
returns-in-Name c =
    name_target c.args.spot c.in-Name.name c.args.value c.args.state.now c.assign_name.new.self c.args.meter.now c.give.result (sym c.kind.ensures ∙ c.in-Name.is)
    (c.give.ensures (λ _. assign_name (here_of c.args.spot) c.in-Name.name c.args.value) c.args.state.now c.assign_name.new.self (cost (spot_node c.args.spot)) c.args.meter.now
    (c.assign_name.ensures (here_of c.args.spot) (sym c.env.ensures)))

pub returns-in-Member : goal.returns-in-Member
returns-in-Member c = base_waits c.args.spot (Member c.in-Member.field-0) c.args.value c.args.state.now c.args.meter.now c.run_target.result (sym c.kind.ensures ∙ c.in-Member.is) (λ z. cc) refl c.run_target.ensures

pub returns-in-Index : goal.returns-in-Index
returns-in-Index c = base_waits c.args.spot Index c.args.value c.args.state.now c.args.meter.now c.run_target-in-Index.result (sym c.kind.ensures ∙ c.in-Index.is) (λ z. cc) refl c.run_target-in-Index.ensures

pub returns-in_default : goal.returns-in_default
returns-in_default c =
    no_target c.args.spot c.kind.result.now c.args.value c.args.state.now c.args.meter.now (sym c.kind.ensures) c.in_default.not-Name c.in_default.not-Member c.in_default.not-Index
