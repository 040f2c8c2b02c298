use Rattle.std.proofs.Common.{◌≡◌, ◌≤◌, drop}
use Rattle.command_line.specs.Command.{number_from}
use Rattle.command_line.proofs.session_words.number_of.Given as goal

abbrev pub invariant-loop-byte : goal.invariant-loop-byte
invariant-loop-byte l = (number_from l.number (drop l.byte-index l.word) ≡ number_from 0 l.word) × (l.number ≤ 1000000000)
