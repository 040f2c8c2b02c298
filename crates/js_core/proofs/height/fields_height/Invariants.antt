use Rattle.std.proofs.Common.{◌≡◌, ◌≤◌, max, drop}
use Rattle.js_core.specs.Height as spec
use Rattle.js_core.specs.Tree.{fields_of}
use Rattle.js_core.proofs.height.fields_height.Given as goal

abbrev pub invariant-loop-e : goal.invariant-loop-e
invariant-loop-e l = record {
  exact : spec.fields_height (fields_of l.fs) ≡ max l.highest (spec.fields_height (fields_of (drop l.e-index l.fs)));
  small : l.highest ≤ 1000;
}
