use Rattle.page_writer.proofs.statements.push_rebuild.Goals as goal

pub returns-in-Dispatch : goal.returns-in-Dispatch
returns-in-Dispatch c = rw c.in-Dispatch.is c.push_call_with-in-Dispatch.ensures
