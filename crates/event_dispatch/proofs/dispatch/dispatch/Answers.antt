use Rattle.std.proofs.Common.{◌∙◌}
use Rattle.page_meaning.specs.Dispatch.{parts_at}
use Rattle.event_dispatch.proofs.Delivering.{dispatched}
use Rattle.event_dispatch.proofs.dispatch.dispatch.Goals as goal

pub returns : goal.returns
returns c =
    dispatched c.args.event c.args.node c.bubbles-bubbles.result (parts_at c.args.state.now c.args.event).bubbles c.of-later.result c.args.state.now c.begin_dispatch.new.self
    c.visit_places.new.state c.visit_places.result c.bubbles-bubbles.ensures c.in_ok-begin_dispatch.ensures (c.of-later.ensures.same ∙ c.in_ok-path.ensures) c.of-later.ensures.few
    c.visit_places.ensures
