-- Meaning: what a page has while it runs. It is made and changed by the makers below alone.
use Rattle.std.specs.Prelude.{ℕ, List, [], ◌∷◌, ◌++◌}
use Rattle.js_values.specs.declared.line.Line.{Line}
use Rattle.js_values.specs.declared.line.LineKind.{LineKind}
use Rattle.object_heap.specs.Heap.{Contents}
use Rattle.page_host.specs.Host.{Host}

-- all objects and environments by age, the lines that were put out, oldest first, and what the host keeps
pub record Store : Type 0 where
  pub heap : Contents
  pub lines : List Line
  pub host : Host

abbrev pub store_of : Contents → List Line → Host → Store
store_of heap lines host = record { heap = heap; lines = lines; host = host }

-- nothing was put out yet
abbrev pub silent : Contents → Host → Store
silent heap host = store_of heap [] host

abbrev pub with_heap : Store → Contents → Store
with_heap s heap = store_of heap s.lines s.host

abbrev pub with_lines : Store → List Line → Store
with_lines s lines = store_of s.heap lines s.host

abbrev pub with_host : Store → Host → Store
with_host s host = store_of s.heap s.lines host

-- a node and its object change both
abbrev pub with_both : Store → Contents → Host → Store
with_both s heap host = store_of heap s.lines host

-- one more line
abbrev pub with_line : LineKind → List ℕ → Store → Store
with_line kind words s = with_lines s (s.lines ++ record { kind = kind; text = words } ∷ [])

abbrev pub without_lines : Store → Store
without_lines s = with_lines s []
