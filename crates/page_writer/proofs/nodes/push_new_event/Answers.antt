use Rattle.std.proofs.lemmas.Result.{on_ok_weaker}
use Rattle.page_writer.proofs.Appending.{four_parts}
use Rattle.page_writer.proofs.nodes.push_new_event.Goals as goal

pub returns : goal.returns
returns c =
    on_ok_weaker c.push_punct-2.result
    (λ e. four_parts _ _ _ _ _ _ _ _ _ c.in_ok-push_document_member.ensures c.in_ok-push_punct.ensures c.in_ok-push_string.ensures e)
    c.push_punct-2.ensures
