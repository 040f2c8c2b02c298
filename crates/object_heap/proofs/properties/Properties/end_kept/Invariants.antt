use Rattle.std.proofs.Common.{◌≡◌, ◌≤◌}
use Rattle.object_heap.specs.Define.{end_kept}
use Rattle.object_heap.specs.Index.{index_end}
use Rattle.object_heap.proofs.properties.Properties.end_kept.Given as goal

abbrev pub invariant-loop-name : goal.invariant-loop-name
invariant-loop-name l = record {
  kept : end_kept l.kept l.name-iterator ≡ end_kept l.end l.self;
  small : l.kept ≤ index_end;
}
