use Rattle.std.proofs.lemmas.Result.{on_ok_weaker}
use Rattle.page_writer.proofs.Appending.{eight_parts}
use Rattle.page_writer.proofs.nodes.push_init.Goals as goal

pub returns : goal.returns
returns c =
    on_ok_weaker c.push_punct-4.result
    (λ e. eight_parts _ _ _ _ _ _ _ _ _ _ _ _ _ _ _ _ _ c.in_ok-push_member.ensures c.in_ok-push_punct.ensures c.in_ok-push_text.ensures
    c.in_ok-push_punct-2.ensures c.in_ok-push_boolean.ensures c.in_ok-push_punct-3.ensures c.in_ok-push_boolean-2.ensures e)
    c.push_punct-4.ensures
