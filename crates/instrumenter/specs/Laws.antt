-- What holds of opened scripts.
use Rattle.std.specs.Prelude.{◌≡◌, ℕ, ◌≤◌, false}
use Rattle.js_core.specs.Height.{stmts_height}
use Rattle.js_core.specs.Tree as tree
use Rattle.script_rules.specs.Form.{has_high_function}
use Rattle.early_rules.specs.Limits.{form_height_limit, plain_height_limit}
use Rattle.instrumenter.specs.Opening.{open_script}

-- an opened script of a plain page is as low as a form page asks, and so is each of its functions
abbrev pub OpenedScriptsAreLow : Type 0
OpenedScriptsAreLow =
    (n : ℕ) (body : tree.Stmts) → stmts_height body ≤ plain_height_limit
    → (stmts_height (open_script n body) ≤ form_height_limit) × (has_high_function (open_script n body) ≡ false)
