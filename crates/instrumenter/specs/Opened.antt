-- Opened scripts of plain pages are scripts of form pages.
use Rattle.std.specs.Prelude.{◌≡◌, ◌≤◌, ℕ, false, None}
use Rattle.js_core.specs.Height.{stmts_height}
use Rattle.js_core.specs.Tree as tree
use Rattle.js_grammar.specs.Syntax.{IsSyntax}
use Rattle.early_rules.specs.EarlyRules.{early_rule}
use Rattle.script_rules.specs.Form.{has_reserved_name}
use Rattle.script_rules.specs.FormScripts.{IsFormPageScript}
use Rattle.early_rules.specs.Limits.{plain_height_limit}
use Rattle.instrumenter.specs.Opening.{open_script}

-- a script of a plain page: a tree that some tokens have, that breaks no early rule and is low, and in which no identifier
-- begins with `$$`
pub record IsPlainScript (script : tree.Stmts) : Type 0 where
  pub syntax : IsSyntax script
  pub orderly : early_rule script ≡ None
  pub low : stmts_height script ≤ plain_height_limit
  pub plain : has_reserved_name script ≡ false

-- a tree that some tokens have, and what a form page asks, whatever number the first of its objects has
abbrev pub OpenedScriptsAreForm : Type 0
OpenedScriptsAreForm =
    (n : ℕ) (script : tree.Stmts) → IsPlainScript script → IsSyntax (open_script n script) × IsFormPageScript (open_script n script)
