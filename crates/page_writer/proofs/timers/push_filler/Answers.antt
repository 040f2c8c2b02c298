use Rattle.std.proofs.lemmas.Result.{on_ok_weaker}
use Rattle.page_writer.proofs.Appending.{six_parts}
use Rattle.page_writer.proofs.timers.push_filler.Goals as goal

pub returns : goal.returns
returns c =
    on_ok_weaker c.push_punct-3.result
    (λ e. six_parts _ _ _ _ _ _ _ _ _ _ _ _ _ c.in_ok-push_word.ensures c.in_ok-push_punct.ensures c.in_ok-push_word-2.ensures c.in_ok-push_punct-2.ensures
    c.in_ok-push_number.ensures e)
    c.push_punct-3.ensures
