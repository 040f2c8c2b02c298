use Rattle.std.proofs.Common.{◌≡◌, ◌≤◌, ◌+◌, ◌++◌, All, length}
use Rattle.js_core.specs.Height.{stmts_height}
use Rattle.early_rules.specs.Limits.{plain_height_limit}
use Rattle.instrumenter.specs.Counting.{scripts_scopes}
use Rattle.instrumenter.specs.Opening.{open_from, open_scripts}
use Rattle.instrumenter.proofs.scripts.open_scopes.Given as goal

abbrev pub invariant-loop-rest : goal.invariant-loop-rest
invariant-loop-rest l = record {
  opened : l.opened.items ++ open_from l.next l.rest ≡ open_scripts l.scripts;
  low : All (λ body. stmts_height body ≤ plain_height_limit) l.rest;
  counted : l.next + scripts_scopes l.rest ≡ 1 + scripts_scopes l.scripts;
}

abbrev pub decreases-loop-rest : goal.decreases-loop-rest
decreases-loop-rest l = length l.rest
