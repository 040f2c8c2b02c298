use Rattle.dom_tree.specs.Node.{is_document}
use Rattle.std.proofs.Common.{sym, ◌∙◌}
use Rattle.dom_host.proofs.Asked.{of_other, wrong_on}
use Rattle.dom_host.proofs.judged.found_document.Goals as goal

pub returns-in_err-found : goal.returns-in_err-found
returns-in_err-found c =
    wrong_on is_document c.args.value.now c.args.state.now c.found_node.new.state c.in_err-found.field-0.0 c.from_residual.result c.in_err-found.ensures.found c.from_residual.ensures

pub returns-else-is_document : goal.returns-else-is_document
returns-else-is_document c =
    of_other is_document c.args.value.now c.args.state.now c.found_node.new.state c.raise.new.self c.in_ok-found.found c.raise.result c.in_ok-found.ensures.found
    (rw (c.content.ensures, c.dom.ensures, c.host.ensures) at (sym c.is_document.ensures ∙ c.if-is_document.false)) c.raise.ensures
