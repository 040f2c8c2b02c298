use Rattle.std.proofs.Common.{sym}
use Rattle.page_state.proofs.HostSteps.{attribute_refused, attribute_unnamed}
use Rattle.page_state.proofs.state.State.set_attribute.Goals as goal

pub returns-then-folds_to_handler : goal.returns-then-folds_to_handler
returns-then-folds_to_handler c =
    attribute_refused c.args.node c.args.name.now c.args.value.now c.args.self.now c.raise.new.self c.raise.result (sym c.if-folds_to_handler.ensures) c.raise.ensures

pub returns-then-not-is_name : goal.returns-then-not-is_name
returns-then-not-is_name c =
    attribute_unnamed c.args.node c.args.name.now c.args.value.now c.args.self.now c.raise-then-not-is_name.new.self c.raise-then-not-is_name.result
    (sym c.if-folds_to_handler.ensures) (sym c.if-not-is_name.ensures) c.raise-then-not-is_name.ensures
