use Rattle.std.proofs.Common.{◌≡◌, true, take, min}
use Rattle.std.specs.List.{list_all}
use Rattle.object_heap.specs.Index.{index_end, is_digit, number_of}
use Rattle.object_heap.proofs.index.number.Given as goal

abbrev pub invariant-loop-unit : goal.invariant-loop-unit
invariant-loop-unit l = record {
  digits : list_all is_digit (take l.unit-index l.units) ≡ true;
  number : l.number ≡ min (number_of (take l.unit-index l.units)) index_end;
}
