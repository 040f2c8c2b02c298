-- A script breaks no early rule exactly where it breaks none of the nine.
use Rattle.std.proofs.Common.{◌≡◌, refl, Bool, true, false, List, [], ◌∷◌, Some, None, cond}
use Rattle.std.specs.List.{find}
use Rattle.js_core.specs.Tree as tree
use Rattle.early_rules.specs.EarlyRules.{breaks, early_rule, early_rules}
use Rattle.early_rules.specs.declared.early_rule.EarlyRule.{EarlyRule}
use Rattle.early_rules.specs.declared.early_rule.EarlyRule.TheVariants as rule

pub record KeepsRules (script : tree.Stmts) : Type 0 where
  pub formals : breaks rule.RepeatedFormal script ≡ false
  pub fields : breaks rule.RepeatedField script ≡ false
  pub deleted : breaks rule.DeletedName script ≡ false
  pub restricted : breaks rule.RestrictedName script ≡ false
  pub returns : breaks rule.StrayReturn script ≡ false
  pub jumps : breaks rule.StrayJump script ≡ false
  pub targets : breaks rule.BadTarget script ≡ false
  pub own : breaks rule.AssignedOwnName script ≡ false
  pub globals : breaks rule.RedeclaredGlobal script ≡ false

-- ---- the rules behind each

abbrev after_own : List EarlyRule
after_own = rule.RedeclaredGlobal ∷ []

abbrev after_targets : List EarlyRule
after_targets = rule.AssignedOwnName ∷ after_own

abbrev after_jumps : List EarlyRule
after_jumps = rule.BadTarget ∷ after_targets

abbrev after_returns : List EarlyRule
after_returns = rule.StrayJump ∷ after_jumps

abbrev after_restricted : List EarlyRule
after_restricted = rule.StrayReturn ∷ after_returns

abbrev after_deleted : List EarlyRule
after_deleted = rule.RestrictedName ∷ after_restricted

abbrev after_fields : List EarlyRule
after_fields = rule.DeletedName ∷ after_deleted

abbrev after_formals : List EarlyRule
after_formals = rule.RepeatedField ∷ after_fields

-- ---- what is found

module _ (p : EarlyRule → Bool) where
  not_found : (r : EarlyRule) (rs : List EarlyRule) → find p (r ∷ rs) ≡ None → (p r ≡ false) × (find p rs ≡ None)
  not_found r rs = by (p r)
    where
      by : (b : Bool) → cond b (Some r) (find p rs) ≡ None → (b ≡ false) × (find p rs ≡ None)
      by true e = cc e
      by false e = (refl, e)

  none_found : (r : EarlyRule) (rs : List EarlyRule) → p r ≡ false → find p rs ≡ None → find p (r ∷ rs) ≡ None
  none_found r rs is e = rw is e

pub rules_are_kept : (script : tree.Stmts) → early_rule script ≡ None → KeepsRules script
unfolding early_rules
rules_are_kept script e =
    let p : EarlyRule → Bool = λ r. breaks r script in
    let a = not_found p rule.RepeatedFormal after_formals e in
    let b = not_found p rule.RepeatedField after_fields a.1 in
    let c = not_found p rule.DeletedName after_deleted b.1 in
    let d = not_found p rule.RestrictedName after_restricted c.1 in
    let f = not_found p rule.StrayReturn after_returns d.1 in
    let g = not_found p rule.StrayJump after_jumps f.1 in
    let h = not_found p rule.BadTarget after_targets g.1 in
    let i = not_found p rule.AssignedOwnName after_own h.1 in
    let j = not_found p rule.RedeclaredGlobal [] i.1 in
    record { formals = a.0; fields = b.0; deleted = c.0; restricted = d.0; returns = f.0; jumps = g.0; targets = h.0; own = i.0; globals = j.0 }

pub none_is_broken : (script : tree.Stmts) → KeepsRules script → early_rule script ≡ None
unfolding early_rules
none_is_broken script kept =
    let p : EarlyRule → Bool = λ r. breaks r script in
    none_found p rule.RepeatedFormal after_formals kept.formals
    (none_found p rule.RepeatedField after_fields kept.fields
    (none_found p rule.DeletedName after_deleted kept.deleted
    (none_found p rule.RestrictedName after_restricted kept.restricted
    (none_found p rule.StrayReturn after_returns kept.returns
    (none_found p rule.StrayJump after_jumps kept.jumps
    (none_found p rule.BadTarget after_targets kept.targets
    (none_found p rule.AssignedOwnName after_own kept.own
    (none_found p rule.RedeclaredGlobal [] kept.globals refl))))))))
