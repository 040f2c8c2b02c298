-- No text of a script is without an answer.
use Rattle.std.proofs.Common.{◌≡◌, ℕ, Bool, true, false, Option, Some, None, List, refl}
use Rattle.js_core.specs.Tree as tree
use Rattle.js_core.specs.declared.token.Token.{Token}
use Rattle.js_lexer.specs.Tokens.{Tokens}
use Rattle.early_rules.specs.EarlyRules.{early_rule}
use Rattle.early_rules.specs.declared.early_rule.EarlyRule.{EarlyRule}
use Rattle.page_check.specs.Accept.{is_too_deep, keeps_form, IsRead, IsStrictScript, IsOrderly, IsLow, IsPageScript, IsScriptRefusal}
use Rattle.page_check.specs.declared.page.Kind.{Kind}
use Rattle.page_check.specs.declared.page.Kind.TheVariants.{Plain, Form}
use Rattle.page_check.specs.declared.page.Refusal.{Refusal}
use Rattle.page_check.specs.declared.page.Refusal.TheVariants.{NotTokens, NotScript, NotStrict, Early, TooDeep, ReservedName, NotForm}

-- what a script that does not keep the form of its page is refused for
abbrev pub without_form : Kind → ℕ → Refusal
without_form Plain k = ReservedName k
without_form Form k = NotForm k

pub is_without_form : (kind : Kind) (k : ℕ) (text : List ℕ) (script : tree.Stmts) → IsLow kind text script → keeps_form kind script ≡ false
    → IsScriptRefusal kind k text (without_form kind k)
is_without_form Plain k text script low off = (refl, script, refl, low, off)
is_without_form Form k text script low off = (refl, script, refl, low, off)

-- a text that is neither a script nor refused; from the last stage to the first, none is passed
module _ (kind : Kind) (k : ℕ) (text : List ℕ) (no_script : (script : tree.Stmts) → ¬ IsPageScript kind text script)
    (no_cause : (r : Refusal) → ¬ IsScriptRefusal kind k text r) where
  not_low : (script : tree.Stmts) → ¬ IsLow kind text script
  not_low script low = by_case (keeps_form kind script) refl
    where
      by_case : (b : Bool) → keeps_form kind script ≡ b → ⊥
      by_case true e = no_script script (record { low = low; formed = e })
      by_case false e = no_cause (without_form kind k) (is_without_form kind k text script low e)

  not_orderly : (script : tree.Stmts) → ¬ IsOrderly text script
  not_orderly script orderly = by_case (is_too_deep kind script) refl
    where
      by_case : (b : Bool) → is_too_deep kind script ≡ b → ⊥
      by_case true e = no_cause (TooDeep k) (refl, script, orderly, e)
      by_case false e = not_low script (record { orderly = orderly; low = e })

  not_strict : (script : tree.Stmts) → ¬ IsStrictScript text script
  not_strict script strict = by_case (early_rule script) refl
    where
      by_case : (o : Option EarlyRule) → early_rule script ≡ o → ⊥
      by_case (Some rule) e = no_cause (Early k rule) (refl, script, strict, e)
      by_case None e = not_orderly script (record { strict = strict; orderly = e })

  not_read : (tokens : List Token) (script : tree.Stmts) → ¬ IsRead text tokens script
  not_read tokens script read =
      no_cause (NotStrict k) (refl, tokens, script, read, λ strict. not_strict script (record { tokens = tokens; read = read; strict = strict }))

  not_lexed : (tokens : List Token) → ¬ Tokens text tokens
  not_lexed tokens lexed =
      no_cause (NotScript k) (refl, tokens, lexed, λ script parsed. not_read tokens script (record { lexed = lexed; parsed = parsed }))

  pub some_script : ⊥
  some_script = no_cause (NotTokens k) (refl, λ tokens lexed. not_lexed tokens lexed)
