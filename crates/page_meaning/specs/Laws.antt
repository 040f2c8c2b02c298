-- What holds of the meaning.
use Rattle.std.specs.Prelude.{◌≡◌, ℕ, ◌<◌, List, ◌++◌, length}
use Rattle.js_values.specs.declared.event.Event.{Event}
use Rattle.js_values.specs.declared.line.Line.{Line}
use Rattle.object_heap.specs.Chain.{object_at}
use Rattle.object_heap.specs.Heap.{IsSound}
use Rattle.object_heap.specs.Laws.{IsSameKind}
use Rattle.page_meaning.specs.Act.{LeadsTo}
use Rattle.page_meaning.specs.Calls.{calls_at}
use Rattle.page_meaning.specs.Pages.{Page, do_event, load_of}
use Rattle.page_meaning.specs.Store.{Store}
use Rattle.page_meaning.specs.Tasks.{Task, after_task, task_of}

-- whatever a task does, steps fall, lines stay, and the heap changes by its own calls alone
abbrev pub TasksKeep : Type 0
TasksKeep = (depth : ℕ) (task : Task) (s : Store) (n : ℕ) → LeadsTo s n ((task_of (calls_at depth) task).run s n)

-- no line is ever taken back
abbrev pub LinesGrow : Type 0
LinesGrow = (s : Store) (e : Event) → (more : List Line) × ((do_event e s).lines ≡ s.lines ++ more)

-- a sound heap stays sound
abbrev pub StaysSound : Type 0
StaysSound = (s : Store) (task : Task) → IsSound s.heap → IsSound (after_task task s).heap

-- an old object keeps its prototype, and its class but for an event's parts
abbrev pub KeepsKinds : Type 0
KeepsKinds =
    (s : Store) (task : Task) (k : ℕ) → k < length s.heap.objects
    → IsSameKind (object_at (after_task task s).heap.objects k).class (object_at s.heap.objects k).class
    × ((object_at (after_task task s).heap.objects k).proto ≡ (object_at s.heap.objects k).proto)

-- every page that is loaded is sound
abbrev pub LoadsSound : Type 0
LoadsSound = (page : Page) → IsSound (load_of page).heap
