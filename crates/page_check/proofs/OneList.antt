-- Texts of scripts are those of one list of trees, or one of them is refused for one cause, and not both.
use Rattle.std.proofs.Common.{◌≡◌, ℕ, suc, ◌+◌, List, [], ◌∷◌, ◌++◌, length, refl, sym, ◌∙◌, subst, arith}
use Rattle.js_core.specs.Tree as tree
use Rattle.js_core.specs.declared.token.Token.{Token}
use Rattle.js_grammar.specs.Scripts.{Derives}
use Rattle.js_lexer.specs.Tokens.{Tokens}
use Rattle.page_check.specs.Accept.{ArePageScripts, IsRefusedFrom, IsScriptRefusal}
use Rattle.page_check.specs.declared.page.Kind.{Kind}
use Rattle.page_check.specs.declared.page.Refusal.{Refusal}
use Rattle.page_check.proofs.OneScript.{one_script, one_refusal, not_refused_script}

same_head : (t u : List ℕ) (ts us : List (List ℕ)) → t ∷ ts ≡ u ∷ us → t ≡ u
same_head t u ts us e = cc

same_tail : (t u : List ℕ) (ts us : List (List ℕ)) → t ∷ ts ≡ u ∷ us → ts ≡ us
same_tail t u ts us e = cc

-- the number of a script behind one more
counted_on : (kind : Kind) (k : ℕ) (before : List (List ℕ)) (front text : List ℕ) (r : Refusal) → IsScriptRefusal kind (length (front ∷ before) + k) text r
    → IsScriptRefusal kind (length before + suc k) text r
counted_on kind k before front text r off =
    let same : length (front ∷ before) + k ≡ length before + suc k = omega arith in
    subst (λ (n : ℕ). IsScriptRefusal kind n text r) same off

module _ (one_list : (text : List ℕ) (l r : List Token) → Tokens text l → Tokens text r → l ≡ r) (one_tree : (tokens : List Token) (s t : tree.Stmts) → Derives tokens s → Derives tokens t → s ≡ t) where
  pub one_scripts : (kind : Kind) (texts : List (List ℕ)) (scripts more : List tree.Stmts) → ArePageScripts kind texts scripts → ArePageScripts kind texts more → scripts ≡ more
  one_scripts kind [] [] [] h g = refl
  one_scripts kind (t ∷ ts) (x ∷ xs) (y ∷ ys) h g =
      let first : x ≡ y = one_script one_list one_tree kind t x y h.0 g.0 in
      let others : xs ≡ ys = one_scripts kind ts xs ys h.1 g.1 in
      cc
  one_scripts kind [] [] (y ∷ ys) h g = absurd g
  one_scripts kind [] (x ∷ xs) more h g = absurd h
  one_scripts kind (t ∷ ts) [] more h g = absurd h
  one_scripts kind (t ∷ ts) (x ∷ xs) [] h g = absurd g

  -- a list of scripts that goes on beyond a text has that text, too
  not_there : (kind : Kind) (k : ℕ) (before behind : List (List ℕ)) (text : List ℕ) (scripts : List tree.Stmts) (r : Refusal)
      → ArePageScripts kind (before ++ (text ∷ behind)) scripts → ¬ IsScriptRefusal kind (length before + k) text r
  not_there kind k [] behind text (x ∷ xs) r h off = not_refused_script one_list one_tree kind (length {A = List ℕ} [] + k) text x r h.0 off
  not_there kind k (t ∷ ts) behind text (x ∷ xs) r h off = not_there kind (suc k) ts behind text xs r h.1 (counted_on kind k ts t text r off)
  not_there kind k [] behind text [] r h off = h
  not_there kind k (t ∷ ts) behind text [] r h off = h

  pub not_refused_from : (kind : Kind) (k : ℕ) (texts : List (List ℕ)) (scripts : List tree.Stmts) (r : Refusal) → ArePageScripts kind texts scripts → ¬ IsRefusedFrom kind k texts r
  not_refused_from kind k texts scripts r h off =
      not_there kind k off.before off.behind off.text scripts r (subst (λ (ts : List (List ℕ)). ArePageScripts kind ts scripts) off.split h) off.off

  -- two refusals of texts, each behind scripts
  one_place : (kind : Kind) (k : ℕ) (before after behind rest : List (List ℕ)) (text other : List ℕ) (scripts more : List tree.Stmts) (r s : Refusal)
      → before ++ (text ∷ behind) ≡ after ++ (other ∷ rest) → ArePageScripts kind before scripts → ArePageScripts kind after more
      → IsScriptRefusal kind (length before + k) text r → IsScriptRefusal kind (length after + k) other s → r ≡ s
  one_place kind k [] [] behind rest text other scripts more r s e h g off more_off =
      let same : text ≡ other = same_head text other behind rest e in
      one_refusal one_list one_tree kind (length {A = List ℕ} [] + k) other r s (subst (λ (t : List ℕ). IsScriptRefusal kind (length {A = List ℕ} [] + k) t r) same off) more_off
  one_place kind k [] (u ∷ us) behind rest text other scripts (y ∷ ys) r s e h g off more_off =
      let same : text ≡ u = same_head text u behind (us ++ (other ∷ rest)) e in
      absurd (not_refused_script one_list one_tree kind (length {A = List ℕ} [] + k) u y r g.0 (subst (λ (t : List ℕ). IsScriptRefusal kind (length {A = List ℕ} [] + k) t r) same off))
  one_place kind k (t ∷ ts) [] behind rest text other (x ∷ xs) more r s e h g off more_off =
      let same : other ≡ t = sym (same_head t other (ts ++ (text ∷ behind)) rest e) in
      absurd (not_refused_script one_list one_tree kind (length {A = List ℕ} [] + k) t x s h.0 (subst (λ (w : List ℕ). IsScriptRefusal kind (length {A = List ℕ} [] + k) w s) same more_off))
  one_place kind k (t ∷ ts) (u ∷ us) behind rest text other (x ∷ xs) (y ∷ ys) r s e h g off more_off =
      one_place kind (suc k) ts us behind rest text other xs ys r s (same_tail t u (ts ++ (text ∷ behind)) (us ++ (other ∷ rest)) e) h.1 g.1
      (counted_on kind k ts t text r off) (counted_on kind k us u other s more_off)
  one_place kind k [] (u ∷ us) behind rest text other scripts [] r s e h g off more_off = absurd g
  one_place kind k (t ∷ ts) after behind rest text other [] more r s e h g off more_off = absurd h
  one_place kind k (t ∷ ts) (u ∷ us) behind rest text other (x ∷ xs) [] r s e h g off more_off = absurd g

  pub one_refusal_from : (kind : Kind) (k : ℕ) (texts : List (List ℕ)) (r s : Refusal) → IsRefusedFrom kind k texts r → IsRefusedFrom kind k texts s → r ≡ s
  one_refusal_from kind k texts r s h g =
      one_place kind k h.before g.before h.behind g.behind h.text g.text h.scripts g.scripts r s (sym h.split ∙ g.split) h.read g.read h.off g.off
