use Rattle.page_reader.proofs.Inserting.{first_set, first_stays, known_is}
use Rattle.std.proofs.Common.{refl}
use Rattle.page_reader.proofs.nodes.set_first.Goals as goal

pub returns-then-is_some-clause-ok : goal.returns-then-is_some-clause-ok
returns-then-is_some-clause-ok c = first_stays _ _ _ _ _ c.requires.youngest (known_is _ _ _ c.attribute.ensures c.if-is_some.ensures) refl

pub returns-in-Ok-clause-ok : goal.returns-in-Ok-clause-ok
returns-in-Ok-clause-ok c = first_set _ _ _ _ _ c.requires.youngest (known_is _ _ _ c.attribute.ensures c.if-is_some.ensures) c.in-Ok.ensures.ok
