use Rattle.std.proofs.Common.{◌≡◌, ◌++◌, drop}
use Rattle.js_values.specs.Line.{lines_text}
use Rattle.read_files.proofs.replaying.text_of.Given as goal

abbrev pub invariant-loop-line : goal.invariant-loop-line
invariant-loop-line l = l.text.items ++ lines_text (drop l.line-index l.lines) ≡ lines_text l.lines
