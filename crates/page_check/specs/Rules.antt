-- The rules that the scripts of a page keep.
use Rattle.std.specs.Prelude.{◌≡◌, Bool, true, false, not, ◌||◌, List, None, nat_lt}
use Rattle.std.specs.List.{All}
use Rattle.dom_tree.specs.Node.{Nodes}
use Rattle.js_core.specs.Height.{stmts_height}
use Rattle.js_core.specs.Tree as tree
use Rattle.js_grammar.specs.Syntax.{IsSyntax}
use Rattle.page_check.specs.declared.page.Kind.{Kind}
use Rattle.page_check.specs.declared.page.Kind.TheVariants.{Plain, Form}
use Rattle.early_rules.specs.EarlyRules.{early_rule}
use Rattle.script_rules.specs.Form.{in_form, has_reserved_name, has_high_function}
use Rattle.early_rules.specs.Limits.{form_height_limit, plain_height_limit}

-- what a page is, its nodes, and the trees of its scripts in document order
pub record Page : Type 0 where
  pub kind : Kind
  pub nodes : Nodes
  pub scripts : List tree.Stmts

-- the script is higher than one of such a page; in a form page, or a function of it that is no factory is higher than may be
abbrev pub is_too_deep : Kind → tree.Stmts → Bool
is_too_deep Plain script = nat_lt plain_height_limit (stmts_height script)
is_too_deep Form script = nat_lt form_height_limit (stmts_height script) || has_high_function script

-- no identifier of a plain page begins with `$$`, and the script of a form page is in form
abbrev pub keeps_form : Kind → tree.Stmts → Bool
keeps_form Plain script = not (has_reserved_name script)
keeps_form Form script = in_form script

-- the script is a tree that some tokens have, breaks no early rule, is low, and keeps the form of its page
pub record KeepsRules (kind : Kind) (script : tree.Stmts) : Type 0 where
  pub syntax : IsSyntax script
  pub orderly : early_rule script ≡ None
  pub low : is_too_deep kind script ≡ false
  pub formed : keeps_form kind script ≡ true

abbrev pub AllKeepRules : Kind → List tree.Stmts → Type 0
AllKeepRules kind scripts = All (KeepsRules kind) scripts
