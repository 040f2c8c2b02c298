use Rattle.std.proofs.Common.{map}
use Rattle.std.specs.Prelude.{string_bytes}
use Rattle.command_line.proofs.PartCounts.{parts_asked}
use Rattle.command_line.proofs.program.obey.Goals as goal

pub perform-requires : goal.perform-requires
perform-requires g c = parts_asked (map string_bytes c.args.words.now) c.in-Some.command c.in-Some.ensures
