use Rattle.std.proofs.Common.{refl}
use Rattle.page_reader.proofs.Inserting.{appended_is, free_under_element, keeps_all, there_in}
use Rattle.page_reader.proofs.nodes.append_text.Goals as goal

pub append-requires-clause-parent : goal.append-requires-clause-parent
append-requires-clause-parent c = there_in _ _ _ _ c.in-Ok.ensures.ok c.requires

pub append-requires-clause-free : goal.append-requires-clause-free
append-requires-clause-free c = free_under_element _ _ _ _ _ c.count-count.ensures.sound c.in-Ok.ensures.ok c.in-Ok.ensures.id refl c.requires

pub returns-in-Ok-clause-ok : goal.returns-in-Ok-clause-ok
returns-in-Ok-clause-ok c = appended_is _ _ _ _ _ _ c.in-Ok.ensures.ok c.in-Ok.ensures.id c.append.ensures.ok

pub returns-in-Ok-clause-kept : goal.returns-in-Ok-clause-kept
returns-in-Ok-clause-kept c = keeps_all _ _ _ _ c.in-Ok.ensures.ok c.append.ensures.kept
