use Rattle.std.proofs.Common.{◌≡◌, ◌≤◌, max, drop}
use Rattle.js_core.specs.Height as spec
use Rattle.js_core.specs.Tree.{holes_of}
use Rattle.js_core.proofs.height.holes_height.Given as goal

abbrev pub invariant-loop-e : goal.invariant-loop-e
invariant-loop-e l = record {
  exact : spec.holes_height (holes_of l.es) ≡ max l.highest (spec.holes_height (holes_of (drop l.e-index l.es)));
  small : l.highest ≤ 1000;
}
