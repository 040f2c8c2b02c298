-- What form pages ask of a script, but that some tokens have it and that it is strict.
use Rattle.std.specs.Prelude.{◌≡◌, ◌≤◌, true, false, None}
use Rattle.js_core.specs.Height.{stmts_height}
use Rattle.js_core.specs.Tree as tree
use Rattle.early_rules.specs.EarlyRules.{early_rule}
use Rattle.script_rules.specs.Form.{has_high_function, in_form}
use Rattle.early_rules.specs.Limits.{form_height_limit}

-- the script is in form, breaks no early rule and is low
pub record IsFormScript (script : tree.Stmts) : Type 0 where
  pub formed : in_form script ≡ true
  pub orderly : early_rule script ≡ None
  pub low : stmts_height script ≤ form_height_limit

-- so it is, and its functions are low, too
pub record IsFormPageScript (script : tree.Stmts) : Type 0 where
  pub form : IsFormScript script
  pub functions : has_high_function script ≡ false
