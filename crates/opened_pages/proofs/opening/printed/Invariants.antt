use Rattle.std.proofs.Common.{◌≡◌, map, take}
use Rattle.js_print.specs.Printing.{script_text}
use Rattle.opened_pages.proofs.opening.printed.Given as goal

abbrev pub invariant-loop-script : goal.invariant-loop-script
invariant-loop-script l = map (λ t. t.items) l.texts.items ≡ map script_text (take l.script-index l.scripts)
