-- The script of a generated page breaks no early rule, is low, and has no reserved name.
use Rattle.std.proofs.Common.{◌≡◌, ℕ, zero, suc, ◌≤◌, Bool, false, None, refl, arith}
use Rattle.std.specs.Prelude.{nat_lt}
use Rattle.std.proofs.lemmas.Bool.Decides.{nat_tests}
use Rattle.early_rules.specs.EarlyRules.{assigns_own_name, deletes_name, early_rule, early_rules, has_bad_target, has_restricted_name, has_stray_jump, redeclares_global, repeats_field, repeats_formal}
use Rattle.early_rules.specs.FormNodes.{has_reserved_identifier}
use Rattle.early_rules.specs.Jumps.{leaves}
use Rattle.early_rules.specs.Limits.{plain_height_limit}
use Rattle.early_rules.specs.declared.jump.Jump.TheVariants as jump
use Rattle.global_names.specs.Names.{global_names}
use Rattle.js_core.specs.Height.{stmts_height}
use Rattle.js_core.specs.Tree as tree
use Rattle.js_core.specs.Tree.{no_stmts, then_stmt}
use Rattle.scope_analysis.specs.Nodes.{stmts_any}
use Rattle.script_rules.specs.Form.{has_reserved_name}
use Rattle.generated_pages.proofs.Script.{after_calls, made_script, opened_by, part_call, start_of}

-- what holds of no statements, and of those after a call if of the others, holds of the calls
module _ (P : tree.Stmts → Type 0) (more : (i k : ℕ) (ss : tree.Stmts) → P ss → P (then_stmt (part_call i k) ss)) where
  over_calls : (n : ℕ) (ss : tree.Stmts) → P ss → P (after_calls n ss)
  over_calls zero ss p = p
  over_calls (suc n) ss p = over_calls n (then_stmt (part_call (suc n) (start_of (suc n))) ss) (more (suc n) (start_of (suc n)) ss p)

  over_script : ((ss : tree.Stmts) → P ss → P (opened_by ss)) → P no_stmts → (n : ℕ) → P (made_script n)
  over_script opened none n = opened (after_calls n no_stmts) (over_calls n no_stmts none)

-- ---- tests of statements that hold of none

abbrev Never : (tree.Stmts → Bool) → Type 0
Never test = (n : ℕ) → test (made_script n) ≡ false

never_repeats_formal : Never (stmts_any repeats_formal)
never_repeats_formal = over_script (λ ss. stmts_any repeats_formal ss ≡ false) (λ i k ss e. e) (λ ss e. e) refl

never_repeats_field : Never (stmts_any repeats_field)
never_repeats_field = over_script (λ ss. stmts_any repeats_field ss ≡ false) (λ i k ss e. e) (λ ss e. e) refl

never_deletes_name : Never (stmts_any deletes_name)
never_deletes_name = over_script (λ ss. stmts_any deletes_name ss ≡ false) (λ i k ss e. e) (λ ss e. e) refl

never_has_restricted_name : Never (stmts_any has_restricted_name)
never_has_restricted_name = over_script (λ ss. stmts_any has_restricted_name ss ≡ false) (λ i k ss e. e) (λ ss e. e) refl

never_returns : Never (leaves jump.Return)
never_returns = over_script (λ ss. leaves jump.Return ss ≡ false) (λ i k ss e. e) (λ ss e. e) refl

never_breaks : Never (leaves jump.Break)
never_breaks = over_script (λ ss. leaves jump.Break ss ≡ false) (λ i k ss e. e) (λ ss e. e) refl

never_continues : Never (leaves jump.Continue)
never_continues = over_script (λ ss. leaves jump.Continue ss ≡ false) (λ i k ss e. e) (λ ss e. e) refl

never_has_stray_jump : Never (stmts_any has_stray_jump)
never_has_stray_jump = over_script (λ ss. stmts_any has_stray_jump ss ≡ false) (λ i k ss e. e) (λ ss e. e) refl

never_has_bad_target : Never (stmts_any has_bad_target)
never_has_bad_target = over_script (λ ss. stmts_any has_bad_target ss ≡ false) (λ i k ss e. e) (λ ss e. e) refl

never_assigns_own_name : Never (stmts_any assigns_own_name)
never_assigns_own_name = over_script (λ ss. stmts_any assigns_own_name ss ≡ false) (λ i k ss e. e) (λ ss e. e) refl

never_redeclares_global : Never redeclares_global
unfolding global_names
never_redeclares_global = over_script (λ ss. redeclares_global ss ≡ false) (λ i k ss e. e) (λ ss e. e) refl

pub has_no_reserved_name : Never has_reserved_name
has_no_reserved_name = over_script (λ ss. stmts_any has_reserved_identifier ss ≡ false) (λ i k ss e. e) (λ ss e. e) refl

pub breaks_no_rule : (n : ℕ) → early_rule (made_script n) ≡ None
unfolding early_rules
breaks_no_rule n =
    rw (never_repeats_formal n, never_repeats_field n, never_deletes_name n, never_has_restricted_name n, never_returns n, never_breaks n, never_continues n, never_has_stray_jump n, never_has_bad_target n, never_assigns_own_name n, never_redeclares_global n)
    refl

-- ---- height

pub is_low : (n : ℕ) → stmts_height (made_script n) ≤ 200
is_low = over_script (λ ss. stmts_height ss ≤ 200) (λ i k ss low. omega (arith, low)) (λ ss low. omega (arith, low)) (omega arith)

pub is_not_too_high : (n : ℕ) → nat_lt plain_height_limit (stmts_height (made_script n)) ≡ false
is_not_too_high n = let low = is_low n in grind (arith, nat_tests)
