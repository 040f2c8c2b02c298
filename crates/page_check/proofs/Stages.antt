-- How far the text of a script is read, by stages: tokens, a tree, the strict directive, the early rules, the heights and
-- the form. That texts have one list of tokens, and tokens one script, is handed in as laws of other crates say it.
use Rattle.std.proofs.Common.{◌≡◌, ℕ, zero, suc, ◌+◌, Some, None, List, sym, ap, ◌∙◌, subst, true≢false, arith}
use Rattle.js_core.specs.Tree as tree
use Rattle.js_core.specs.declared.token.Token.{Token}
use Rattle.js_grammar.specs.Scripts.{Derives, ScriptOf, height_limit}
use Rattle.js_lexer.specs.Directives.{IsStrict}
use Rattle.js_lexer.specs.Tokens.{Tokens}
use Rattle.early_rules.specs.EarlyRules.{early_rule}
use Rattle.page_check.specs.Accept.{is_too_deep, keeps_form, IsRead, IsStrictScript, IsOrderly, IsLow, IsPageScript, IsScriptRefusal}
use Rattle.page_check.specs.declared.page.Kind.{Kind}
use Rattle.page_check.specs.declared.page.Refusal.{Refusal}
use Rattle.page_check.specs.declared.page.Refusal.TheVariants.{NotUtf8, NotPage, NotTokens, NotScript, NotStrict, Early, TooDeep, ReservedName, NotForm}

-- a script's text, after so many stages
abbrev pub Read : Kind → List ℕ → ℕ → Type 0
Read kind text zero = Unit {0}
Read kind text (suc zero) = (tokens : List Token) × Tokens text tokens
Read kind text (suc (suc zero)) = (tokens : List Token) × (script : tree.Stmts) × IsRead text tokens script
Read kind text (suc (suc (suc zero))) = (script : tree.Stmts) × IsStrictScript text script
Read kind text (suc (suc (suc (suc zero)))) = (script : tree.Stmts) × IsOrderly text script
Read kind text (suc (suc (suc (suc (suc zero))))) = (script : tree.Stmts) × IsLow kind text script
Read kind text (suc (suc (suc (suc (suc (suc n)))))) = (script : tree.Stmts) × IsPageScript kind text script

read_before : (kind : Kind) (text : List ℕ) (n : ℕ) → Read kind text (suc n) → Read kind text n
read_before kind text zero r = tt
read_before kind text (suc zero) r = (r.0, r.2.lexed)
read_before kind text (suc (suc zero)) r = (r.1.tokens, r.0, r.1.read)
read_before kind text (suc (suc (suc zero))) r = (r.0, r.1.strict)
read_before kind text (suc (suc (suc (suc zero)))) r = (r.0, r.1.orderly)
read_before kind text (suc (suc (suc (suc (suc zero))))) r = (r.0, r.1.low)
read_before kind text (suc (suc (suc (suc (suc (suc n)))))) r = r

-- what is read further is read so far
pub read_until_stage : (kind : Kind) (text : List ℕ) (d n m : ℕ) → m ≡ d + n → Read kind text m → Read kind text n
read_until_stage kind text zero n m e r = let same : m ≡ n = omega arith in subst (Read kind text) same r
read_until_stage kind text (suc d) n zero e r = absurd (omega arith)
read_until_stage kind text (suc d) n (suc m) e r = read_until_stage kind text d n m (omega arith) (read_before kind text m r)

-- the stage that a refusal of a script is about
abbrev pub stage : Refusal → ℕ
stage NotUtf8 = 0
stage NotPage = 0
stage (NotTokens n) = 0
stage (NotScript n) = 1
stage (NotStrict n) = 2
stage (Early n rule) = 3
stage (TooDeep n) = 4
stage (ReservedName n) = 5
stage (NotForm n) = 5

pub read_until : (kind : Kind) (k : ℕ) (text : List ℕ) (refusal : Refusal) → IsScriptRefusal kind k text refusal → Read kind text (stage refusal)
read_until kind k text NotUtf8 h = absurd h
read_until kind k text NotPage h = absurd h
read_until kind k text (NotTokens n) h = tt
read_until kind k text (NotScript n) h = (h.1, h.2)
read_until kind k text (NotStrict n) h = (h.1, h.2, h.3)
read_until kind k text (Early n rule) h = (h.1, h.2)
read_until kind k text (TooDeep n) h = (h.1, h.2)
read_until kind k text (ReservedName n) h = (h.1, h.3)
read_until kind k text (NotForm n) h = (h.1, h.3)

module _ (one_list : (text : List ℕ) (l r : List Token) → Tokens text l → Tokens text r → l ≡ r) (one_tree : (tokens : List Token) (s t : tree.Stmts) → Derives tokens s → Derives tokens t → s ≡ t) where
  pub same_tree : (text : List ℕ) (s t : tree.Stmts) → IsStrictScript text s → IsStrictScript text t → s ≡ t
  same_tree text s t a b =
      let tokens : a.tokens ≡ b.tokens = one_list text a.tokens b.tokens a.read.lexed b.read.lexed in
      one_tree b.tokens s t (subst (λ (l : List Token). Derives l s) tokens a.read.parsed.0) b.read.parsed.0

  pub not_further : (kind : Kind) (k : ℕ) (text : List ℕ) (refusal : Refusal) → IsScriptRefusal kind k text refusal → ¬ Read kind text (suc (stage refusal))
  not_further kind k text NotUtf8 h r = h
  not_further kind k text NotPage h r = h
  not_further kind k text (NotTokens n) h r = h.1 r.0 r.1
  not_further kind k text (NotScript n) h r =
      let tokens : r.0 ≡ h.1 = one_list text r.0 h.1 r.2.lexed h.2 in
      h.3 r.1 (subst (λ (l : List Token). ScriptOf height_limit l r.1) tokens r.2.parsed)
  not_further kind k text (NotStrict n) h r =
      let tokens : r.1.tokens ≡ h.1 = one_list text r.1.tokens h.1 r.1.read.lexed h.3.lexed in
      h.4 (subst IsStrict tokens r.1.strict)
  not_further kind k text (Early n rule) h r =
      let script : h.1 ≡ r.0 = same_tree text h.1 r.0 h.2 r.1.strict in
      let broken : Some rule ≡ None = sym h.3 ∙ ap early_rule script ∙ r.1.orderly in
      cc
  not_further kind k text (TooDeep n) h r =
      let script : h.1 ≡ r.0 = same_tree text h.1 r.0 h.2.strict r.1.orderly.strict in
      true≢false (sym h.3 ∙ ap (is_too_deep kind) script ∙ r.1.low)
  not_further kind k text (ReservedName n) h r =
      let script : h.1 ≡ r.0 = same_tree text h.1 r.0 h.3.orderly.strict r.1.low.orderly.strict in
      true≢false (sym r.1.formed ∙ ap (keeps_form kind) (sym script) ∙ h.4)
  not_further kind k text (NotForm n) h r =
      let script : h.1 ≡ r.0 = same_tree text h.1 r.0 h.3.orderly.strict r.1.low.orderly.strict in
      true≢false (sym r.1.formed ∙ ap (keeps_form kind) (sym script) ∙ h.4)
