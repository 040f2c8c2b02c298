use Rattle.std.proofs.Common.{sym, ◌∙◌}
use Rattle.page_state.proofs.Sights.{climb_begins, climb_on, shows_held, shows_hosted, shows_nothing}
use Rattle.page_state.proofs.state.State.sight.Goals as goal

pub loop-name-init : goal.loop-name-init
loop-name-init c = climb_begins c.args.self.now c.args.text.now c.args.name c.args.at

pub returns-then-has_host_name : goal.returns-then-has_host_name
returns-then-has_host_name c =
    shows_hosted c.args.self.now c.args.text.now c.args.name c.args.at c.loop-name.at c.sound.ensures.prototypes c.loop-name.invariant
    (sym c.has_host_name.ensures ∙ c.if-has_host_name.true)

pub returns-then-has_own : goal.returns-then-has_own
returns-then-has_own c =
    shows_held c.args.self.now c.args.text.now c.args.name c.args.at c.loop-name.at c.sound.ensures.prototypes c.loop-name.invariant
    (sym c.has_host_name.ensures ∙ c.if-has_host_name.false) (sym c.has_own.ensures ∙ c.if-has_own.true)

pub returns-in-None : goal.returns-in-None
returns-in-None c =
    shows_nothing c.args.self.now c.args.text.now c.args.name c.args.at c.loop-name.at c.sound.ensures.prototypes c.loop-name.invariant
    (sym c.has_host_name.ensures ∙ c.if-has_host_name.false) (sym c.has_own.ensures ∙ c.if-has_own.false) (sym c.in-None.ensures.proto)

pub loop-name-preserved : goal.loop-name-preserved
loop-name-preserved c =
    climb_on c.args.self.now c.args.text.now c.args.name c.args.at c.loop-name.at c.sound.ensures.prototypes c.loop-name.invariant c.in-Some.above
    (sym c.has_host_name.ensures ∙ c.if-has_host_name.false) (sym c.has_own.ensures ∙ c.if-has_own.false) (sym c.in-Some.ensures.proto)

pub loop-name-smaller : goal.loop-name-smaller
loop-name-smaller c = c.in-Some.ensures.older
