-- The text of a script is a page's script with one tree, or refused for one cause, and not both.
use Rattle.std.proofs.Common.{◌≡◌, ℕ, suc, ◌-◌, ◌<◌, Bool, true, false, Some, List, refl, sym, ap, ◌∙◌, arith, nat_lt}
use Rattle.std.proofs.lemmas.Bool.Decides.{nat_tests}
use Rattle.js_core.specs.Tree as tree
use Rattle.js_core.specs.declared.token.Token.{Token}
use Rattle.js_grammar.specs.Scripts.{Derives}
use Rattle.js_lexer.specs.Tokens.{Tokens}
use Rattle.early_rules.specs.EarlyRules.{early_rule}
use Rattle.early_rules.specs.declared.early_rule.EarlyRule.{EarlyRule}
use Rattle.page_check.specs.Accept.{IsPageScript, IsScriptRefusal}
use Rattle.page_check.specs.declared.page.Kind.{Kind}
use Rattle.page_check.specs.declared.page.Kind.TheVariants.{Plain, Form}
use Rattle.page_check.specs.declared.page.Refusal.{Refusal}
use Rattle.page_check.specs.declared.page.Refusal.TheVariants.{NotUtf8, NotPage, NotTokens, NotScript, NotStrict, Early, TooDeep, ReservedName, NotForm}
use Rattle.page_check.proofs.Stages.{Read, read_until_stage, stage, read_until, same_tree, not_further}

below : (n m : ℕ) → nat_lt n m ≡ true → n < m
below n m e = grind (arith, nat_tests)

level : (n m : ℕ) → nat_lt n m ≡ false → nat_lt m n ≡ false → n ≡ m
level n m e f = grind (arith, nat_tests)

early_enough : (r : Refusal) → stage r < 6
early_enough NotUtf8 = omega arith
early_enough NotPage = omega arith
early_enough (NotTokens n) = omega arith
early_enough (NotScript n) = omega arith
early_enough (NotStrict n) = omega arith
early_enough (Early n rule) = omega arith
early_enough (TooDeep n) = omega arith
early_enough (ReservedName n) = omega arith
early_enough (NotForm n) = omega arith

-- of two stages one is not before the other
apart : (kind : Kind) (text : List ℕ) (n m : ℕ) → n < m → ¬ Read kind text (suc n) → ¬ Read kind text m
apart kind text n m less off r = off (read_until_stage kind text (m - suc n) (suc n) m (omega arith) r)

module _ (one_list : (text : List ℕ) (l r : List Token) → Tokens text l → Tokens text r → l ≡ r) (one_tree : (tokens : List Token) (s t : tree.Stmts) → Derives tokens s → Derives tokens t → s ≡ t) where
  pub one_script : (kind : Kind) (text : List ℕ) (s t : tree.Stmts) → IsPageScript kind text s → IsPageScript kind text t → s ≡ t
  one_script kind text s t a b = same_tree one_list one_tree text s t a.low.orderly.strict b.low.orderly.strict

  same_stage : (kind : Kind) (k : ℕ) (text : List ℕ) (r s : Refusal) → IsScriptRefusal kind k text r → IsScriptRefusal kind k text s → stage r ≡ stage s
  same_stage kind k text r s h g = by_order (nat_lt (stage r) (stage s)) refl (nat_lt (stage s) (stage r)) refl
    where
      by_order : (p : Bool) → nat_lt (stage r) (stage s) ≡ p → (q : Bool) → nat_lt (stage s) (stage r) ≡ q → stage r ≡ stage s
      by_order true e q f = absurd (apart kind text (stage r) (stage s) (below (stage r) (stage s) e) (not_further one_list one_tree kind k text r h) (read_until kind k text s g))
      by_order false e true f = absurd (apart kind text (stage s) (stage r) (below (stage s) (stage r) f) (not_further one_list one_tree kind k text s g) (read_until kind k text r h))
      by_order false e false f = level (stage r) (stage s) e f

  same_rule : (kind : Kind) (k : ℕ) (text : List ℕ) (n m : ℕ) (rule other : EarlyRule) → IsScriptRefusal kind k text (Early n rule) → IsScriptRefusal kind k text (Early m other) → rule ≡ other
  same_rule kind k text n m rule other h g =
      let script : h.1 ≡ g.1 = same_tree one_list one_tree text h.1 g.1 h.2 g.2 in
      let found : Some rule ≡ Some other = sym h.3 ∙ ap early_rule script ∙ g.3 in
      cc

  one_kind : (kind : Kind) → kind ≡ Plain → ¬ (kind ≡ Form)
  one_kind kind h g = let off : Plain ≡ Form = sym h ∙ g in cc

  pub one_refusal : (kind : Kind) (k : ℕ) (text : List ℕ) (r s : Refusal) → IsScriptRefusal kind k text r → IsScriptRefusal kind k text s → r ≡ s
  one_refusal kind k text r s h g = of_one_stage r s h g (same_stage kind k text r s h g)
    where
      of_one_stage : (r s : Refusal) → IsScriptRefusal kind k text r → IsScriptRefusal kind k text s → stage r ≡ stage s → r ≡ s
      of_one_stage NotUtf8 s h g e = absurd h
      of_one_stage NotPage s h g e = absurd h
      of_one_stage r NotUtf8 h g e = absurd g
      of_one_stage r NotPage h g e = absurd g
      of_one_stage (NotTokens n) (NotTokens m) h g e = ap NotTokens (h.0 ∙ sym g.0)
      of_one_stage (NotScript n) (NotScript m) h g e = ap NotScript (h.0 ∙ sym g.0)
      of_one_stage (NotStrict n) (NotStrict m) h g e = ap NotStrict (h.0 ∙ sym g.0)
      of_one_stage (Early n rule) (Early m other) h g e = let same : rule ≡ other = same_rule kind k text n m rule other h g in let number : n ≡ m = h.0 ∙ sym g.0 in cc
      of_one_stage (TooDeep n) (TooDeep m) h g e = ap TooDeep (h.0 ∙ sym g.0)
      of_one_stage (ReservedName n) (ReservedName m) h g e = ap ReservedName (h.0 ∙ sym g.0)
      of_one_stage (NotForm n) (NotForm m) h g e = ap NotForm (h.0 ∙ sym g.0)
      of_one_stage (ReservedName n) (NotForm m) h g e = absurd (one_kind kind h.2 g.2)
      of_one_stage (NotForm n) (ReservedName m) h g e = absurd (one_kind kind g.2 h.2)
      of_one_stage r s h g e = absurd (omega (arith, e))

  pub not_refused_script : (kind : Kind) (k : ℕ) (text : List ℕ) (script : tree.Stmts) (r : Refusal) → IsPageScript kind text script → ¬ IsScriptRefusal kind k text r
  not_refused_script kind k text script r a h = apart kind text (stage r) 6 (early_enough r) (not_further one_list one_tree kind k text r h) (script, a)
