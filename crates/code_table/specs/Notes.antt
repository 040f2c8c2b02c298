-- What is noted of a function's code.
use Rattle.std.specs.Prelude.{◌≡◌, Option, Some, None, length, ⊤}
use Rattle.js_core.specs.Tree as tree
use Rattle.js_print.specs.Printing.{code_text}
use Rattle.scope_analysis.specs.Needs.{needed_variables}
use Rattle.code_table.specs.declared.notes.Notes.{Notes}

pub record IsNoted (c : tree.Code) (n : Notes) : Type 0 where
  pub needed : n.needed.items ≡ needed_variables c
  pub printed : n.printed ≡ length (code_text c)

-- where nothing is noted, nothing is claimed
abbrev pub AreNoted : tree.Code → Option Notes → Type 0
AreNoted c None = ⊤
AreNoted c (Some n) = IsNoted c n
