use Rattle.std.proofs.Common.{◌≡◌, ◌≤◌, max, drop}
use Rattle.js_core.specs.Height as spec
use Rattle.js_core.specs.Tree.{stmts_of}
use Rattle.js_core.proofs.height.stmts_height.Given as goal

abbrev pub invariant-loop-s : goal.invariant-loop-s
invariant-loop-s l = record {
  exact : spec.stmts_height (stmts_of l.ss) ≡ max l.highest (spec.stmts_height (stmts_of (drop l.s-index l.ss)));
  small : l.highest ≤ 1000;
}
