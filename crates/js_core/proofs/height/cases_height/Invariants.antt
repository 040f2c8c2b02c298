use Rattle.std.proofs.Common.{◌≡◌, ◌≤◌, max, drop}
use Rattle.js_core.specs.Height as height
use Rattle.js_core.specs.Views.{cases_of}
use Rattle.js_core.proofs.height.cases_height.Given as goal

abbrev pub invariant-loop-case : goal.invariant-loop-case
invariant-loop-case l = record {
  whole : max l.highest (height.cases_height (cases_of (drop l.case-index l.cases))) ≡ height.cases_height (cases_of l.cases);
  small : l.highest ≤ 1000;
}
