use Rattle.std.specs.Vec.Iter.{into_iter_items}
use Rattle.page_check.specs.Accept.{texts_of}
use Rattle.page_check.proofs.Scripts.{ReadUntil}
use Rattle.page_check.proofs.acceptance.page_scripts.Given as goal

abbrev pub invariant-loop-script : goal.invariant-loop-script
invariant-loop-script l = ReadUntil l.fn.kind (texts_of l.fn.found.items) (texts_of (into_iter_items l.script-iterator)) l.scripts.items
