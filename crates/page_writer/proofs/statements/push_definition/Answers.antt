use Rattle.std.proofs.lemmas.Result.{on_ok_weaker}
use Rattle.page_writer.proofs.Appending.{four_parts}
use Rattle.page_writer.proofs.statements.push_definition.Goals as goal

pub returns : goal.returns
returns c =
    on_ok_weaker c.push_punct-2.result (λ e. four_parts _ _ _ _ _ _ _ _ _ c.in_ok-push_object_function.ensures c.in_ok-push_punct.ensures c.in_ok-push_part.ensures e) c.push_punct-2.ensures
