use Rattle.built_in_paths.proofs.Tables.{text_of}
use Rattle.built_in_paths.proofs.table.text_at.Goals as goal

pub returns : goal.returns
returns c = text_of c.args.table.now c.args.k c.get.result c.copied.result c.copied.ensures c.get.ensures.lookup
