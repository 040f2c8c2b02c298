use Rattle.object_heap.proofs.Counting.{shrinks_as_counted}
use Rattle.object_heap.proofs.Decimals.{indices_are_decimal}
use Rattle.object_heap.proofs.Steps.{length_is_above}
use Rattle.object_heap.proofs.laws.law_arrays_are_kept.Goals as goal

pub returns : goal.returns
returns c = record { indices_are_decimal = indices_are_decimal; shrinks_as_counted = shrinks_as_counted; length_is_above = length_is_above }
