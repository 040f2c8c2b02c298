-- A script is in form exactly where none of the three tests of form holds of it.
use Rattle.std.proofs.Common.{◌≡◌, true, false, not, ◌&&◌}
use Rattle.std.proofs.lemmas.Bool.{and_from, and_parts, not-true, not_from_false}
use Rattle.js_core.specs.Tree as tree
use Rattle.script_rules.specs.Form.{has_inner_declaration, has_open_reserved, in_form, scope_out_of_form}
use Rattle.scope_analysis.specs.Nodes.{stmts_any}

pub record FormParts (script : tree.Stmts) : Type 0 where
  pub closed : has_open_reserved script ≡ false
  pub top : has_inner_declaration script ≡ false
  pub scopes : stmts_any scope_out_of_form script ≡ false

pub form_parts : (script : tree.Stmts) → in_form script ≡ true → FormParts script
form_parts script e =
    let whole = and_parts (not (has_open_reserved script) && not (has_inner_declaration script)) (not (stmts_any scope_out_of_form script)) e in
    let parts = and_parts (not (has_open_reserved script)) (not (has_inner_declaration script)) whole.0 in
    record {
      closed = not-true (has_open_reserved script) parts.0;
      top = not-true (has_inner_declaration script) parts.1;
      scopes = not-true (stmts_any scope_out_of_form script) whole.1;
    }

pub from_parts : (script : tree.Stmts) → FormParts script → in_form script ≡ true
from_parts script p =
    and_from (not (has_open_reserved script) && not (has_inner_declaration script)) (not (stmts_any scope_out_of_form script))
    (and_from (not (has_open_reserved script)) (not (has_inner_declaration script)) (not_from_false (has_open_reserved script) p.closed)
    (not_from_false (has_inner_declaration script) p.top))
    (not_from_false (stmts_any scope_out_of_form script) p.scopes)
