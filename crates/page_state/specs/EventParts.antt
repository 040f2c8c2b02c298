-- Parts of events in a page.
use Rattle.std.specs.Prelude.{Bool, not, ◌&&◌, is_some}
use Rattle.js_values.specs.declared.ids.ObjId.{ObjId}
use Rattle.object_heap.specs.declared.object.EventParts.{EventParts}
use Rattle.object_heap.specs.Laws.{after_step, gives_parts}
use Rattle.page_meaning.specs.Events.{is_prevented, is_stopped}
use Rattle.page_meaning.specs.Store.{Store, with_heap}

-- the event gets these instead of its parts; nothing changes where it is none
abbrev pub with_parts : Store → ObjId → (EventParts → EventParts) → Store
with_parts s at f = with_heap s (after_step s.heap (gives_parts at.0 f))

-- it is under dispatch, and its propagation was not stopped
abbrev pub may_stop : EventParts → Bool
may_stop e = is_some e.current && not (is_stopped e.phase)

-- it is under dispatch and can be cancelled, and was not
abbrev pub may_prevent : EventParts → Bool
may_prevent e = is_some e.current && (e.cancelable && not (is_prevented e.phase))
