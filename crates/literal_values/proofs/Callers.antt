-- What other crates cite of the proofs of this one.
use Rattle.std.proofs.Common.{ℕ, List}
use Rattle.std.specs.List.{All}
use Rattle.js_core.specs.Text.{Text}
use Rattle.object_heap.specs.Chain.{get}
use Rattle.object_heap.specs.Heap.{Contents}
use Rattle.object_heap.specs.Laws.{Step, after_steps}
use Rattle.object_heap.specs.Object.{Object}
use Rattle.object_heap.specs.Property.{Props, own_property}
use Rattle.literal_values.proofs.Define as define
use Rattle.literal_values.proofs.Heap as heap
use Rattle.literal_values.specs.Objects.{LiteralHeap, LiteralHeapSteps, LiteralObject, LiteralProps, MaybeProp}
use Rattle.literal_values.specs.Values.{MaybeBounded}
-- the theorems as they stand
pub use Rattle.literal_values.proofs.Conversions.{absolute_number, as_number_literal, error_literal, joined_literal, larger_number, number_in_number, number_of_literal, parsed_number, radix_text, smaller_number, text_in_units, text_of_units, text_or_long_literal}
pub use Rattle.literal_values.proofs.Declared.{functions_literal, variables_literal}
pub use Rattle.literal_values.proofs.Entries.{names_joined, props_filtered, value_at, values_dropped, values_joined}
pub use Rattle.literal_values.proofs.Heap.{keys_in}
pub use Rattle.literal_values.proofs.Nodes.{attribute_text, node_literal}
pub use Rattle.literal_values.proofs.Numbers.{add_number, bits_number, div_number, mul_number, not_number, pow_number, rem_number, sub_number}
pub use Rattle.literal_values.proofs.Pristine.{pristine_literal}
pub use Rattle.literal_values.proofs.Reading.{LiteralSeen, found_bounded, get_at_bounded, host_read, object_literal, property_literal, seen_literal}
pub use Rattle.literal_values.proofs.Steps.{settled_literal, step_literal}
pub use Rattle.literal_values.proofs.Thrown.{define_thrown, delete_thrown, length_put, list_stays, prevent_thrown, put_thrown}
pub use Rattle.literal_values.proofs.Units.{decimal_text, dropped_text, joined_units, lower_text, name_text, no_text, no_units, optional_text, range_text, taken_text, text_seen, trimmed_text, unit_text, unit_there, upper_text}

pub heap_steps_literal : (h : Contents) (gs : List Step) → LiteralHeapSteps gs → LiteralHeap h → LiteralHeap (after_steps h gs)
heap_steps_literal = heap.heap_steps_in

pub get_bounded : (objects : List Object) (k : ℕ) (x : Text) → All LiteralObject objects → MaybeBounded (get objects k x)
get_bounded = heap.get_in

pub own_bounded : (ps : Props) (x : Text) → LiteralProps ps → MaybeProp (own_property ps x)
own_bounded = define.own_in
