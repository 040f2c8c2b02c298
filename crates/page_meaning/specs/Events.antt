-- Meaning: what is done to the parts of an event (DOM Level 2 Events, section 1.4, interface Event).
use Rattle.std.specs.Prelude.{ℕ, ◌+◌, Bool, true, false, not, ◌&&◌, ◌||◌, [], Option, Some, None, nat_le, if◌then◌else◌}
use Rattle.js_core.specs.Text.{Text}
use Rattle.js_values.specs.declared.ids.ObjId.{ObjId}
use Rattle.object_heap.specs.declared.object.EventParts.{EventParts}
use Rattle.object_heap.specs.Object.{dispatched}
use Rattle.page_host.specs.Paths.{phase_number}
use Rattle.page_host.specs.declared.path.Phase.{Phase}

-- it is initialised with a type; its propagation is stopped, its default prevented; a dispatch at this node's object begins, arrives at a
-- node's object in a phase, ends
pub data EventStep : Type 0 where
  initialises : Text → Bool → Bool → EventStep
  stops : EventStep
  prevents : EventStep
  begins : ObjId → EventStep
  arrives : ObjId → Phase → EventStep
  rests : EventStep

-- the last one before a dispatch counts
abbrev pub initialised : Text → Bool → Bool → EventParts → EventParts
initialised kind bubbles cancelable e =
    if e.sent then e
    else record { kind = kind; bubbles = bubbles; cancelable = cancelable; begun = true; sent = false; target = e.target; current = e.current; phase = e.phase }

abbrev pub with_phase : EventParts → ℕ → EventParts
with_phase e p = record { kind = e.kind; bubbles = e.bubbles; cancelable = e.cancelable; begun = e.begun; sent = e.sent; target = e.target; current = e.current; phase = p }

-- 8 stands for a prevented default, and 4 for stopped propagation
abbrev pub is_prevented : ℕ → Bool
is_prevented p = nat_le 8 p

abbrev pub is_stopped : ℕ → Bool
is_stopped p = (nat_le 4 p && not (is_prevented p)) || nat_le 12 p

-- while the event is under dispatch
abbrev pub stopped_in : Option ObjId → EventParts → EventParts
stopped_in None e = e
stopped_in (Some at) e = if is_stopped e.phase then e else with_phase e (e.phase + 4)

abbrev pub stopped : EventParts → EventParts
stopped e = stopped_in e.current e

abbrev pub prevented_in : Option ObjId → EventParts → EventParts
prevented_in None e = e
prevented_in (Some at) e = if e.cancelable && not (is_prevented e.phase) then with_phase e (e.phase + 8) else e

abbrev pub prevented : EventParts → EventParts
prevented e = prevented_in e.current e

-- an event is dispatched once, after it was initialised
abbrev pub may_begin : EventParts → Bool
may_begin e = e.begun && not e.sent

abbrev pub begun_at : ObjId → EventParts → EventParts
begun_at at e = if may_begin e then dispatched true (Some at) e.current e.phase e else e

-- the event is at the place; a mark of a prevented default stays
abbrev pub arrived : ObjId → Phase → EventParts → EventParts
arrived at phase e = dispatched e.sent e.target (Some at) (if is_prevented e.phase then phase_number phase + 8 else phase_number phase) e

-- as after a dispatch
abbrev pub rested : EventParts → EventParts
rested e = dispatched e.sent e.target None 0 e

abbrev pub new_parts : EventParts
new_parts = record { kind = []; bubbles = false; cancelable = false; begun = false; sent = false; target = None; current = None; phase = 0 }

abbrev pub after_event : EventStep → EventParts → EventParts
after_event (initialises x bubbles cancelable) e = initialised x bubbles cancelable e
after_event stops e = stopped e
after_event prevents e = prevented e
after_event (begins at) e = begun_at at e
after_event (arrives at phase) e = arrived at phase e
after_event rests e = rested e
