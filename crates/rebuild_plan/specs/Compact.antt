-- A page as it is saved: its things by number, each by what makes it and what it has; its globals, its document, its timers, and what
-- changed of its built-in objects. Ids are places.
use Rattle.std.specs.Prelude.{ℕ, Bool, List, [], ◌∷◌, Option, Some, None, nat_eq, if◌then◌else◌}
use Rattle.dom_tree.specs.Node.{node_at}
use Rattle.js_values.specs.declared.ids.ObjId.{ObjId}
use Rattle.js_values.specs.declared.throw.ErrorKind.{ErrorKind}
use Rattle.js_values.specs.declared.throw.ErrorKind.TheVariants as kind
use Rattle.object_heap.specs.Chain.{object_at}
use Rattle.object_heap.specs.Object.{Object}
use Rattle.object_heap.specs.Property.{Props}
use Rattle.object_heap.specs.declared.object.Class.{Class}
use Rattle.object_heap.specs.declared.object.Class.TheVariants as class
use Rattle.page_meaning.specs.Places.{document, range_error_prototype_place, reference_error_prototype_place, type_error_prototype_place}
use Rattle.page_meaning.specs.Store.{Store}
use Rattle.heap_walker.specs.Things.{globals_of, needs_of}
use Rattle.timer_queue.specs.declared.timer.Live.{Live}
use Rattle.rebuild_plan.specs.Changes.{Changed, changes_of}
use Rattle.rebuild_plan.specs.Events.{SavedEvent, event_as}
use Rattle.rebuild_plan.specs.Nodes.{SavedNode, node_as, node_maker}
use Rattle.rebuild_plan.specs.Timers.{moved_timers}
pub use Rattle.rebuild_plan.specs.Moved.{first_thing, moved, moved_needs, moved_prop, moved_props, moved_proto, moved_value, moved_values, place_of, placed}
use Rattle.rebuild_plan.specs.declared.statement.Maker.{Maker}
use Rattle.rebuild_plan.specs.declared.statement.Maker.TheVariants as made

-- ---- what makes a thing

abbrev pub kind_at : ℕ → ErrorKind
kind_at k =
    if nat_eq k type_error_prototype_place then kind.Type
    else (if nat_eq k range_error_prototype_place then kind.Range
    else (if nat_eq k reference_error_prototype_place then kind.Reference else kind.Plain))

-- the kind of errors with this prototype (15.11)
abbrev pub kind_of : Option ObjId → ErrorKind
kind_of None = kind.Plain
kind_of (Some at) = kind_at at.0

-- of an object of this class, which has this prototype
abbrev pub maker_as : Store → List ℕ → Option ObjId → Class → Maker
maker_as s things proto class.List = made.List
maker_as s things proto class.Fault = made.Fault (kind_of proto)
maker_as s things proto (class.Page c env) = made.Func c (moved_needs things (needs_of s env c))
maker_as s things proto (class.Bound target this args) = made.Bind (moved things target) (moved_value things this) (moved_values things args)
maker_as s things proto (class.Node k) = node_maker things proto (node_at s.host.nodes k.0).content.kind
maker_as s things proto (class.Event parts) = made.Event
maker_as s things proto c = made.Plain (moved_proto things proto)

abbrev pub maker_of : Store → List ℕ → Object → Maker
maker_of s things o = maker_as s things o.proto o.class

abbrev pub maker_at : Store → List ℕ → ℕ → Maker
maker_at s things k = maker_of s things (object_at s.heap.objects k)

abbrev pub props_at : Store → List ℕ → ℕ → Props
props_at s things k = moved_props things (object_at s.heap.objects k).props

-- ---- the page

pub record Thing : Type 0 where
  pub maker : Maker
  pub node : SavedNode
  pub event : Option SavedEvent
  pub props : Props
  pub extensible : Bool

abbrev pub thing_of : Store → List ℕ → Object → Thing
thing_of s things o = record {
  maker = maker_of s things o;
  node = node_as s.host things o.class;
  event = event_as things o.class;
  props = moved_props things o.props;
  extensible = o.extensible;
}

abbrev pub thing_at : Store → List ℕ → ℕ → Thing
thing_at s things k = thing_of s things (object_at s.heap.objects k)

-- the objects at these places
abbrev pub things_at : Store → List ℕ → List ℕ → List Thing
things_at s things [] = []
things_at s things (k ∷ ks) = thing_of s things (object_at s.heap.objects k) ∷ things_at s things ks

-- the globals that scripts made; what the document has, which is there and is not made; the things; the timers; what scripts changed of the
-- built-in object at each place
pub record Compact : Type 0 where
  pub globals : Props
  pub document : Thing
  pub things : List Thing
  pub timers : List Live
  pub changes : ℕ → Option Changed

abbrev pub compact : Store → List ℕ → Compact
compact s things = record {
  globals = moved_props things (globals_of s);
  document = thing_at s things document.0;
  things = things_at s things things;
  timers = moved_timers things s.host.clock s.host.timers;
  changes = changes_of s things;
}
