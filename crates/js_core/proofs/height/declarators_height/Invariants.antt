use Rattle.std.proofs.Common.{◌≡◌, ◌≤◌, max, drop}
use Rattle.js_core.specs.Height as height
use Rattle.js_core.specs.Views.{declarators_of}
use Rattle.js_core.proofs.height.declarators_height.Given as goal

abbrev pub invariant-loop-d : goal.invariant-loop-d
invariant-loop-d l = record {
  whole : max l.highest (height.declarators_height (declarators_of (drop l.d-index l.ds))) ≡ height.declarators_height (declarators_of l.ds);
  small : l.highest ≤ 1001;
}
