-- Opened scripts are in form and break no early rule.
use Rattle.std.proofs.Common.{◌≡◌, ◌∙◌, ℕ, Bool, true, false, ◌||◌, List, [], ◌∷◌, Option, None}
use Rattle.std.proofs.lemmas.Bool.{and_from, not_from_false, or_from, or_parts}
use Rattle.js_core.specs.Tree as tree
use Rattle.js_grammar.specs.Syntax.{IsSyntax}
use Rattle.early_rules.proofs.Callers.{KeepsRules, none_is_broken, rules_are_kept}
use Rattle.early_rules.specs.declared.jump.Jump.TheVariants as jump
use Rattle.early_rules.specs.EarlyRules.{assigns_own_name, deletes_name, early_rule, has_bad_target, has_restricted_name, has_stray_jump, repeats_field, repeats_formal}
use Rattle.script_rules.specs.Form.{any_is_reserved, any_use_is_reserved, has_reserved_name, in_form, scope_out_of_form}
use Rattle.early_rules.specs.FormNodes.{has_reserved_identifier}
use Rattle.scope_analysis.specs.Identifiers.{is_reserved}
use Rattle.early_rules.specs.Jumps.{leaves}
use Rattle.scope_analysis.specs.Names.{declared_names}
use Rattle.scope_analysis.specs.Nodes.{Node, stmts_any}
use Rattle.scope_analysis.specs.Uses.{Use, stmts_uses}
use Rattle.instrumenter.specs.Opening.{open_script}
use Rattle.instrumenter.proofs.Each.{Fails, each_fails, none_passes}
use Rattle.instrumenter.proofs.NamedUses.{stmts_undeclared, stmts_unnamed}
use Rattle.instrumenter.proofs.NodePieces.{kept, opened_tests}
use Rattle.instrumenter.proofs.NodeTests.{both_fail, narrow, one_fails, passes}
use Rattle.instrumenter.proofs.OpenedTops.{tops_declare, tops_globals, tops_jumps, tops_names, tops_nodes, tops_uses}

-- at the top no name is a field
abbrev no_field : List ℕ → Option ℕ
no_field x = None

abbrev not_own : List ℕ → Bool
not_own x = false

rules_kept : (script : tree.Stmts) → KeepsRules script → has_reserved_name script ≡ false → stmts_any kept script ≡ false
rules_kept script keeps plain =
    let jumps = or_parts (leaves jump.Break script || leaves jump.Continue script) (stmts_any has_stray_jump script) keeps.jumps in
    let a = one_fails has_reserved_identifier script plain in
    let b = both_fail assigns_own_name (has_reserved_identifier ∷ []) script keeps.own a in
    let c = both_fail has_bad_target (assigns_own_name ∷ has_reserved_identifier ∷ []) script keeps.targets b in
    let d = both_fail has_stray_jump (has_bad_target ∷ assigns_own_name ∷ has_reserved_identifier ∷ []) script jumps.1 c in
    let e = both_fail has_restricted_name (has_stray_jump ∷ has_bad_target ∷ assigns_own_name ∷ has_reserved_identifier ∷ []) script keeps.restricted d in
    let f = both_fail deletes_name (has_restricted_name ∷ has_stray_jump ∷ has_bad_target ∷ assigns_own_name ∷ has_reserved_identifier ∷ []) script keeps.deleted e in
    let g = both_fail repeats_field (deletes_name ∷ has_restricted_name ∷ has_stray_jump ∷ has_bad_target ∷ assigns_own_name ∷ has_reserved_identifier ∷ []) script keeps.fields f in
    both_fail repeats_formal (repeats_field ∷ deletes_name ∷ has_restricted_name ∷ has_stray_jump ∷ has_bad_target ∷ assigns_own_name ∷ has_reserved_identifier ∷ []) script keeps.formals g

module _ (n : ℕ) (script : tree.Stmts) (is : IsSyntax script) (keeps : KeepsRules script) (plain : has_reserved_name script ≡ false) where
  nodes : stmts_any (passes opened_tests) (open_script n script) ≡ false
  nodes = tops_nodes no_field not_own n script is (rules_kept script keeps plain)

  jumps : leaves jump.Break script ≡ false × leaves jump.Continue script ≡ false
  jumps = or_parts (leaves jump.Break script) (leaves jump.Continue script) (or_parts (leaves jump.Break script || leaves jump.Continue script) (stmts_any has_stray_jump script) keeps.jumps).0

  pub opened_keeps : KeepsRules (open_script n script)
  opened_keeps = record {
    formals = narrow opened_tests repeats_formal (λ m e. (each_fails (λ (t : Node → Bool). t m) opened_tests e).0) (open_script n script) nodes;
    fields = narrow opened_tests repeats_field (λ m e. (each_fails (λ (t : Node → Bool). t m) opened_tests e).1.0) (open_script n script) nodes;
    deleted = narrow opened_tests deletes_name (λ m e. (each_fails (λ (t : Node → Bool). t m) opened_tests e).1.1.0) (open_script n script) nodes;
    restricted = narrow opened_tests has_restricted_name (λ m e. (each_fails (λ (t : Node → Bool). t m) opened_tests e).1.1.1.0) (open_script n script) nodes;
    returns = tops_jumps no_field not_own jump.Return n script ∙ keeps.returns;
    jumps = or_from _ _
        (or_from _ _ (tops_jumps no_field not_own jump.Break n script ∙ jumps.0) (tops_jumps no_field not_own jump.Continue n script ∙ jumps.1))
        (narrow opened_tests has_stray_jump (λ m e. (each_fails (λ (t : Node → Bool). t m) opened_tests e).1.1.1.1.0) (open_script n script) nodes);
    targets = narrow opened_tests has_bad_target (λ m e. (each_fails (λ (t : Node → Bool). t m) opened_tests e).1.1.1.1.1.0) (open_script n script) nodes;
    own = narrow opened_tests assigns_own_name (λ m e. (each_fails (λ (t : Node → Bool). t m) opened_tests e).1.1.1.1.1.1.0) (open_script n script) nodes;
    globals = tops_globals no_field not_own n script is (rules_kept script keeps plain) keeps.globals;
  }

  pub opened_in_form : in_form (open_script n script) ≡ true
  opened_in_form =
      let uses : any_use_is_reserved (stmts_uses (open_script n script)) ≡ false =
      none_passes (λ (u : Use). is_reserved u.name) (stmts_uses (open_script n script))
      (tops_uses no_field not_own (λ u. is_reserved u.name ≡ false) n script is (stmts_unnamed is_reserved script plain)) in
      let names : any_is_reserved (declared_names (open_script n script)) ≡ false =
      none_passes is_reserved (declared_names (open_script n script)) (tops_names no_field not_own (Fails is_reserved) n script (stmts_undeclared is_reserved script plain)) in
      let scopes : stmts_any scope_out_of_form (open_script n script) ≡ false =
      narrow opened_tests scope_out_of_form (λ m e. (each_fails (λ (t : Node → Bool). t m) opened_tests e).1.1.1.1.1.1.1.0) (open_script n script) nodes in
      and_from _ _
      (and_from _ _ (not_from_false _ (or_from _ _ uses names)) (not_from_false _ (tops_declare no_field not_own n script is (rules_kept script keeps plain))))
      (not_from_false _ scopes)

pub opened_is_orderly : (n : ℕ) (script : tree.Stmts) → IsSyntax script → early_rule script ≡ None → has_reserved_name script ≡ false → early_rule (open_script n script) ≡ None
opened_is_orderly n script is orderly plain = none_is_broken (open_script n script) (opened_keeps n script is (rules_are_kept script orderly) plain)

pub opened_is_formed : (n : ℕ) (script : tree.Stmts) → IsSyntax script → early_rule script ≡ None → has_reserved_name script ≡ false → in_form (open_script n script) ≡ true
opened_is_formed n script is orderly plain = opened_in_form n script is (rules_are_kept script orderly) plain
