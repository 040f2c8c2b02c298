-- A page is accepted in one way or refused for one cause, and not both.
use Rattle.std.proofs.Common.{◌≡◌, ◌∙◌, ℕ, List, refl, sym, subst}
use Rattle.dom_tree.specs.Node.{Nodes}
use Rattle.js_core.specs.Tree as tree
use Rattle.js_core.specs.declared.token.Token.{Token}
use Rattle.js_grammar.specs.Scripts.{Derives}
use Rattle.js_lexer.specs.Tokens.{Tokens}
use Rattle.page_check.specs.Accept.{ArePageScripts, IsAccepted, IsRefused, IsRefusedFrom, IsRefusedScript, kind_of, texts_of}
use Rattle.page_check.specs.Rules.{Page}
use Rattle.page_check.specs.declared.page.Kind.{Kind}
use Rattle.page_check.specs.declared.page.Refusal.{Refusal}
use Rattle.page_check.specs.declared.page.Refusal.TheVariants.{NotUtf8, NotPage}
use Rattle.page_reader.specs.declared.page.ScriptText.{ScriptText}
use Rattle.page_reader.specs.Bytes.{IsPageOf}
use Rattle.page_check.proofs.OneList.{one_scripts, one_refusal_from, not_refused_from}

abbrev OneReading : Type 0
OneReading = (bytes : List ℕ) (left right : Nodes) (first second : List ScriptText) → IsPageOf bytes left first → IsPageOf bytes right second → (left ≡ right) × (first ≡ second)

module _ (one_list : (text : List ℕ) (l r : List Token) → Tokens text l → Tokens text r → l ≡ r) (one_tree : (tokens : List Token) (s t : tree.Stmts) → Derives tokens s → Derives tokens t → s ≡ t)
    (one_reading : OneReading) where
  pub one_acceptance : (bytes : List ℕ) (page other : Page) → IsAccepted bytes page → IsAccepted bytes other → page ≡ other
  one_acceptance bytes page other a b =
      let kinds : page.kind ≡ other.kind = a.of_kind ∙ sym b.of_kind in
      let same = one_reading bytes page.nodes other.nodes a.texts b.texts a.is_page b.is_page in
      let read : ArePageScripts other.kind (texts_of b.texts) page.scripts =
      subst (λ (ts : List ScriptText). ArePageScripts other.kind (texts_of ts) page.scripts) same.1
      (subst (λ (k : Kind). ArePageScripts k (texts_of a.texts) page.scripts) kinds a.read) in
      let scripts : page.scripts ≡ other.scripts = one_scripts one_list one_tree other.kind (texts_of b.texts) page.scripts other.scripts read b.read in
      λ i. record { kind = kinds i; nodes = same.0 i; scripts = scripts i }

  one_script_cause : (bytes : List ℕ) (r s : Refusal) → IsRefusedScript bytes r → IsRefusedScript bytes s → r ≡ s
  one_script_cause bytes r s h g =
      let same = one_reading bytes h.nodes g.nodes h.texts g.texts h.is_page g.is_page in
      one_refusal_from one_list one_tree (kind_of bytes) 1 (texts_of g.texts) r s
      (subst (λ (ts : List ScriptText). IsRefusedFrom (kind_of bytes) 1 (texts_of ts) r) same.1 h.off) g.off

  pub one_cause : (bytes : List ℕ) (r s : Refusal) → IsRefused bytes r → IsRefused bytes s → r ≡ s
  one_cause bytes NotUtf8 NotUtf8 h g = refl
  one_cause bytes NotUtf8 NotPage h g = absurd (h g.0)
  one_cause bytes NotUtf8 s h g = absurd (h g.is_page.utf8)
  one_cause bytes NotPage NotUtf8 h g = absurd (g h.0)
  one_cause bytes NotPage NotPage h g = refl
  one_cause bytes NotPage s h g = absurd (h.1 g.nodes g.texts g.is_page)
  one_cause bytes r NotUtf8 h g = absurd (g h.is_page.utf8)
  one_cause bytes r NotPage h g = absurd (g.1 h.nodes h.texts h.is_page)
  one_cause bytes r s h g = one_script_cause bytes r s h g

  not_refused_at : (bytes : List ℕ) (page : Page) (r : Refusal) → IsAccepted bytes page → ¬ IsRefusedScript bytes r
  not_refused_at bytes page r a h =
      let same = one_reading bytes h.nodes page.nodes h.texts a.texts h.is_page a.is_page in
      let off : IsRefusedFrom page.kind 1 (texts_of a.texts) r =
      subst (λ (k : Kind). IsRefusedFrom k 1 (texts_of a.texts) r) (sym a.of_kind)
      (subst (λ (ts : List ScriptText). IsRefusedFrom (kind_of bytes) 1 (texts_of ts) r) same.1 h.off) in
      not_refused_from one_list one_tree page.kind 1 (texts_of a.texts) page.scripts r a.read off

  pub not_refused : (bytes : List ℕ) (page : Page) (r : Refusal) → IsAccepted bytes page → ¬ IsRefused bytes r
  not_refused bytes page NotUtf8 a h = h a.is_page.utf8
  not_refused bytes page NotPage a h = h.1 page.nodes a.texts a.is_page
  not_refused bytes page r a h = not_refused_at bytes page r a h
