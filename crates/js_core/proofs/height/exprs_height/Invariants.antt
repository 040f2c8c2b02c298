use Rattle.std.proofs.Common.{◌≡◌, ◌≤◌, max, drop}
use Rattle.js_core.specs.Height as spec
use Rattle.js_core.specs.Tree.{exprs_of}
use Rattle.js_core.proofs.height.exprs_height.Given as goal

abbrev pub invariant-loop-e : goal.invariant-loop-e
invariant-loop-e l = record {
  exact : spec.exprs_height (exprs_of l.es) ≡ max l.highest (spec.exprs_height (exprs_of (drop l.e-index l.es)));
  small : l.highest ≤ 1000;
}
